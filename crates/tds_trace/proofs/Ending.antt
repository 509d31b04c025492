-- What a run leaves and tells.
use Rattle.std.proofs.Common.{◌≡◌, ap, arith, inl, inr, List, ℕ, [], Option, Some, None, refl, sym, subst, append-nil}
use Rattle.std.specs.Prelude.{◌⊎◌, Result, Ok, Err, IfErr, OnOk, length, ◌≤◌}
use Rattle.std.specs.Io.KnownBytes.{Appends, Keeps}
use Rattle.tds_play.specs.Runs.{AreLeft, FitsFile, file_limit}
use Rattle.tds_text.specs.Written.{WritesBeginning}
use Rattle.tds_trace.specs.Faults.{EndsBy, IsBeforeOutput, IsUnread, LeavesOutput}
use Rattle.tds_trace.specs.Runs.{IsTraceOf, Traces}
use Rattle.tds_trace.specs.declared.fault.TraceFault.{TraceFault}
use Rattle.tds_trace.specs.declared.fault.TraceFault.TheVariants as trace

-- a whole text is a beginning of it
pub whole_is_beginning : (a b : Option (List ℕ)) (text : List ℕ) → Appends a b text → WritesBeginning a b text
whole_is_beginning a b text h = ([], record { front = text; whole = sym (append-nil text); written = h })

-- some bytes were left
some_left : (left : Option (List ℕ)) → (bytes : List ℕ) × AreLeft left bytes
some_left None = ([], tt)
some_left (Some all) = (all, refl)

keeps_same : (a : Option (List ℕ)) → Keeps a a
keeps_same None = tt
keeps_same (Some x) = refl

abbrev is_output : TraceFault → ℕ
is_output trace.Output = 1
is_output e = 0

-- reading failed
pub file_unread : (left : Option (List ℕ)) → IsUnread trace.File left
file_unread left = let some = some_left left in ((some.0, some.1, tt), λ e. let bad : 0 ≡ 1 = ap is_output e in absurd (omega arith))

-- memory was refused
pub memory_unread : (left : Option (List ℕ)) → IsUnread trace.Memory left
memory_unread left = let some = some_left left in ((some.0, some.1, tt), λ e. let bad : 0 ≡ 1 = ap is_output e in absurd (omega arith))

-- nothing is printed before a fault that comes first
pub leaves_all : (fault : TraceFault) (bytes : List ℕ) (a : Option (List ℕ)) → IsBeforeOutput fault → LeavesOutput fault bytes a a
leaves_all trace.Output bytes a h = absurd (h refl)
leaves_all trace.Memory bytes a h = inl (keeps_same a)
leaves_all fault bytes a h = keeps_same a

-- printing that fails leaves a beginning of the trace
ends_by : (fault : TraceFault) (left old new : Option (List ℕ)) (bytes text : List ℕ) → AreLeft left bytes → IsTraceOf bytes text
    → WritesBeginning old new text → (fault ≡ trace.Output) ⊎ (fault ≡ trace.Memory) → EndsBy fault left old new
ends_by fault left old new bytes text all is begun (inl e) = rw e (bytes, all, tt, (text, is, begun))
ends_by fault left old new bytes text all is begun (inr e) = rw e (bytes, all, tt, inr (text, is, begun))

-- so it does, if it fails
pub ends_printing : {A : Type 0} (r : Result A TraceFault) (left old new : Option (List ℕ)) (bytes text : List ℕ) → AreLeft left bytes → IsTraceOf bytes text
    → IfErr r (λ fault. WritesBeginning old new text) → IfErr r (λ fault. (fault ≡ trace.Output) ⊎ (fault ≡ trace.Memory)) → IfErr r (λ fault. EndsBy fault left old new)
ends_printing (Ok x) left old new bytes text all is begun which = tt
ends_printing (Err fault) left old new bytes text all is begun which = ends_by fault left old new bytes text all is begun which

-- where it doesn't, the whole trace went out
pub traces_printing : {A B : Type 0} (r : Result A B) (left old new : Option (List ℕ)) (bytes text : List ℕ) → AreLeft left bytes → IsTraceOf bytes text
    → OnOk r (Appends old new text) → OnOk r (Traces left old new)
traces_printing (Ok x) left old new bytes text all is whole = (bytes, all, text, is, whole)
traces_printing (Err fault) left old new bytes text all is whole = tt

pub fits_file : (left : Option (List ℕ)) (bytes : List ℕ) → AreLeft left bytes → length bytes ≤ file_limit → FitsFile left
fits_file None bytes read few = tt
fits_file (Some all) bytes read few = subst (λ xs. length xs ≤ file_limit) read few
