-- What a lent message and lent columns show.
use Rattle.std.specs.Prelude.{◌≡◌, ◌≤◌, ℕ, List, [], length, pos, Option, Some, None, Result, Ok, Err}
use Rattle.tds_token.specs.declared.columns.Column.{Column}
use Rattle.tds_token.specs.declared.columns.ColumnsLeft.TheInside as left
use Rattle.tds_token.specs.declared.columns.ColumnsRef.TheInside as columns
use Rattle.tds_token.specs.declared.fault.TokenFault.{TokenFault}
use Rattle.tds_token.specs.declared.message.Fields.{Fields}
use Rattle.tds_token.specs.declared.message.Message.{Message}
use Rattle.tds_token.specs.declared.message.MessageRef.TheInside as message
use Rattle.tds_token.specs.Reading.{column_list_at, columns_of, list_or_none, message_in}

-- ---- A message

-- The message with these fields.
abbrev pub message_of : Fields → Message
message_of f = record {
  number = f.number;
  state = f.state;
  class = f.class;
  text = f.text;
  server = f.server;
  procedure = f.procedure;
  line = f.line;
}

-- The message that was read. Where there is none, one of nothing.
abbrev pub message_or_none : Result Message TokenFault → Message
message_or_none (Ok m) = m
message_or_none (Err e) = record { number = pos 0; state = 0; class = 0; text = []; server = []; procedure = []; line = pos 0 }

-- The message that fills the bytes.
abbrev pub lent_message : message.Inside → Message
lent_message a = message_or_none (message_in a.bytes.now)

-- There is one.
abbrev pub IsLentMessage : message.Inside → Type 0
IsLentMessage a = message_in a.bytes.now ≡ Ok (lent_message a)

-- ---- Columns

-- There are columns at the front, behind their count.
abbrev pub IsColumnList : List ℕ → Type 0
IsColumnList bytes = (columns : List Column) × (rest : List ℕ) × (column_list_at bytes ≡ Ok (columns, rest))

-- The columns of that list.
abbrev pub lent_columns : columns.Inside → List Column
lent_columns a = list_or_none (column_list_at a.bytes.now)

abbrev pub AreLentColumns : columns.Inside → Type 0
AreLentColumns a = IsColumnList a.bytes.now

-- So many columns at the front of the bytes.
abbrev pub columns_left : left.Inside → List Column
columns_left a = columns_of a.count a.bytes.now

-- They can all be read, and there are 1 to 16.
pub record AreColumnsLeft (a : left.Inside) : Type 0 where
  pub whole : length (columns_of a.count a.bytes.now) ≡ a.count
  pub least : 1 ≤ a.count
  pub most : a.count ≤ 16

-- The columns behind the first one, where there are any.
abbrev pub others_of : Option (List Column) → List Column
others_of None = []
others_of (Some columns) = columns
