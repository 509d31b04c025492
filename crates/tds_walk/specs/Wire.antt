-- A walk over an answer's bytes as a plain value, and back.
use Rattle.std.specs.Prelude.{ℕ, ◌==◌, not, Bool, true, false, Option, Some, None, if◌then◌else◌}
use Rattle.tds_wire.specs.declared.due.Due.{Due}
use Rattle.tds_wire.specs.declared.due.Due.TheVariants as due
use Rattle.tds_wire.specs.declared.due.Inside.{Inside}
use Rattle.tds_wire.specs.declared.due.Inside.TheVariants as inside
use Rattle.tds_wire.specs.declared.due.Next.{Next}
use Rattle.tds_wire.specs.declared.due.Next.TheVariants as next
use Rattle.tds_wire.specs.declared.fault.Refusal.{Refusal}
use Rattle.tds_wire.specs.declared.fault.WireFault.{WireFault}
use Rattle.tds_wire.specs.declared.fault.WireFault.TheVariants as faults
use Rattle.tds_wire.specs.declared.lent.LentWalk.{LentWalk}
use Rattle.tds_wire.specs.Memory.{shape_of}
use Rattle.tds_walk.specs.declared.fields.FieldCode.{FieldCode}
use Rattle.tds_walk.specs.declared.due.TdsWireDue.{TdsWireDue}
use Rattle.tds_walk.specs.declared.walk.TdsWire.{TdsWire}
use Rattle.tds_walk.specs.declared.walk.TdsWireInside.{TdsWireInside}
use Rattle.tds_walk.specs.declared.walk.TdsWireRefusal.{TdsWireRefusal}
use Rattle.tds_walk.specs.WireFields.{field_from}

-- One part behind another: where the first is none, there is none.
infixl 10 ◌>>=◌
abbrev pub ◌>>=◌ : {A B : Type 0} → Option A → (A → Option B) → Option B
(Some x) >>= f = f x
None >>= f = None

abbrev pub truth : ℕ → Bool
truth n = not (n == 0)

unfoldable pub fault_from : ℕ → Option WireFault
fault_from n =
    if n == 1 then Some faults.UnknownToken
    else if n == 2 then Some faults.NoColumns
    else if n == 3 then Some faults.UnknownType
    else if n == 4 then Some faults.ManyColumns
    else None

-- what comes behind a run of bytes, with the number that comes then
unfoldable pub next_from : ℕ → FieldCode → Option Next
next_from n field =
    if n == 0 then Some next.Ended
    else if n == 1 then (field_from field >>= λ f. Some (next.Then f))
    else if n == 2 then Some next.Described
    else if n == 3 then Some next.Parted
    else if n == 4 then Some next.Ciphered
    else if n == 5 then Some next.Named
    else if n == 6 then Some next.Valued
    else if n == 7 then Some next.KeyValued
    else if n == 8 then Some (next.Labelled false)
    else if n == 9 then Some (next.Labelled true)
    else if n == 10 then Some next.Classified
    else None

abbrev pub code_of : TdsWireDue → FieldCode
code_of d = record { code = d.field; change = d.change }

unfoldable pub due_from : TdsWireDue → Option Due
due_from d =
    if d.due == 0 then Some due.Token
    else if d.due == 1 then (field_from (code_of d) >>= λ f. Some (due.Number f d.bytes d.value))
    else if d.due == 2 then (next_from d.next (code_of d) >>= λ n. Some (due.Run d.left n))
    else if d.due == 3 then (fault_from d.fault >>= λ f. Some (due.Broken f))
    else None

unfoldable pub inside_from : TdsWireInside → Option Inside
inside_from i =
    if i.inside == 0 then Some (inside.Columns i.column)
    else if i.inside == 1 then Some inside.Parameter
    else if i.inside == 2 then Some (inside.Row i.column)
    else if i.inside == 3 then Some (inside.NullRow i.column)
    else if i.inside == 4 then Some (inside.ColumnBase i.column)
    else if i.inside == 5 then Some (inside.ParameterBase (shape_of i.base))
    else None

-- none, or one
unfoldable pub refusal_from : TdsWireRefusal → Option (Option Refusal)
refusal_from r =
    if r.fault == 0 then Some None
    else (fault_from r.fault >>= λ f. Some (Some (record { fault = f; byte = r.byte; at = r.at })))

-- The walk that a value is. None where it is no walk's.
unfoldable pub walk_from : TdsWire → Option LentWalk
walk_from w = do
  due ← due_from w.due
  inside ← inside_from w.inside
  refused ← refusal_from w.refused
  Some (record {
    cursor = record {
      at = record { due = due; kind = w.kind; inside = inside; shape = shape_of w.shape; ciphered = truth w.ciphered; left = w.entries; parts = w.parts };
      most = w.most;
      features = record { encryption = truth w.encryption; ranks = truth w.ranks };
    };
    head = record { bytes = w.head; count = w.head_count };
    start = w.start;
    passed = w.passed;
    refused = refused;
  })
