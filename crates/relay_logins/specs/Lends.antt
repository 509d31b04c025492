-- What a table, and the groups, are once what is known by a key was lent for writing.
use Rattle.std.specs.Prelude.{ℕ, ◌%◌, Option, Some, None}
use Rattle.std.specs.Borrow.{Lends, LendsIf, Fml, RattleType, MutBor}
use Rattle.slab.specs.Slab.{with_value}
use Rattle.relay_logins.specs.Keys.{known}
use Rattle.relay_logins.specs.declared.table.Table.{Table}
use Rattle.relay_logins.specs.declared.groups.Group.{Group}
use Rattle.relay_logins.specs.declared.groups.Groups.{Groups}
use Rattle.relay_logins.specs.contracts.table.Table.{the_row as table_row}
use Rattle.relay_logins.specs.contracts.groups.Groups.{the_row as groups_row}

-- the table where this is known by the key, and all else as it was
abbrev pub with_known : {T : Type 0} → Table T → ℕ → T → Table T
with_known table key value = record table { slab = with_value table.slab (key % 16384) (record { key = key; value = value }) }

-- once the borrow ends, what was left is known by the key
abbrev pub lends_known : (T : RattleType) → MutBor (Table T.Denot) → ℕ → MutBor T.Denot → Fml
lends_known T s key r = Lends (table_row T) T s r (with_known s.now key)

-- the same where anything is known by the key; else the table stays as it is
abbrev pub lends_if_known : (T : RattleType) → MutBor (Table T.Denot) → ℕ → Option (MutBor T.Denot) → Fml
lends_if_known T s key r = LendsIf (table_row T) T s r (with_known s.now key) s.now

-- the groups where this is known of a group besides its login, by which it logs in still, and which others join as before
abbrev pub with_inner_of : {T : Type 0} → Groups T → ℕ → Option (Group T) → T → Groups T
with_inner_of groups key None inner = groups
with_inner_of groups key (Some group) inner = record groups { groups = with_known groups.groups key (record group { inner = inner }) }

abbrev pub with_inner : {T : Type 0} → Groups T → ℕ → T → Groups T
with_inner groups key = with_inner_of groups key (known groups.groups.slab key)

-- once the borrow ends, what was left is known of the group
abbrev pub lends_inner : (T : RattleType) → MutBor (Groups T.Denot) → ℕ → MutBor T.Denot → Fml
lends_inner T s key r = Lends (groups_row T) T s r (with_inner s.now key)

-- the same where there is such a group; else all groups stay as they are
abbrev pub lends_if_inner : (T : RattleType) → MutBor (Groups T.Denot) → ℕ → Option (MutBor T.Denot) → Fml
lends_if_inner T s key r = LendsIf (groups_row T) T s r (with_inner s.now key) s.now
