-- What a run leaves and tells.
use Rattle.std.proofs.Common.{◌≡◌, ap, arith, inl, inr, List, ℕ, [], Option, Some, None, refl, sym, suc, ◌∙◌, subst, append-nil}
use Rattle.std.specs.Prelude.{◌⊎◌, Result, Ok, Err, IfErr, IfSome, OnOk, option_map, take, length, min, ◌≤◌, ◌++◌}
use Rattle.std.proofs.lemmas.List.{length-take, take_all}
use Rattle.std.specs.Io.KnownBytes.{Appends, Keeps}
use Rattle.std.specs.Io.Take.{take_limit, take_inner, take_remaining}
use Rattle.std.specs.declared.io.traits.Take.{Take}
use Rattle.tds_world.specs.declared.report.Report.{Report}
use Rattle.tds_text.specs.Lines.{text_of}
use Rattle.tds_text.specs.Written.{WritesBeginning}
use Rattle.tds_play.specs.Pipe.{Pipe}
use Rattle.tds_play.specs.Runs.{file_limit, AreLeft, FitsFile, IsReportOf, IsUnread, IsBeforeOutput, LeavesOutput, EndsBy, Reports}
use Rattle.tds_play.specs.declared.run.RunFault.{RunFault}
use Rattle.tds_play.specs.declared.run.RunFault.TheVariants as run

-- a whole text is a beginning of it
pub whole_is_beginning : (a b : Option (List ℕ)) (text : List ℕ) → Appends a b text → WritesBeginning a b text
whole_is_beginning a b text h = ([], record { front = text; whole = sym (append-nil text); written = h })

-- some bytes were left
pub some_left : (left : Option (List ℕ)) → (bytes : List ℕ) × AreLeft left bytes
some_left None = ([], tt)
some_left (Some all) = (all, refl)

-- what was read is all, where it is less than what was asked for
pub all_of_front : (left : Option (List ℕ)) (n : ℕ) (bytes : List ℕ) → IfSome (option_map (take (suc n)) left) (λ front. bytes ≡ [] ++ front)
    → length bytes ≤ n → AreLeft left bytes
all_of_front None n bytes read few = tt
all_of_front (Some all) n bytes read few =
    let counted : length bytes ≡ min (suc n) (length all) = ap length read ∙ length-take (suc n) all
    in let short : length all ≤ suc n = omega (arith)
    in read ∙ take_all (suc n) all short

-- so it is of a reader of which no more is taken
pub all_of_take : {R : Type 0} (remaining : R → Option (List ℕ)) (front : Take R) (left : Option (List ℕ)) (n : ℕ) (old bytes : List ℕ)
    → take_limit front ≡ suc n → remaining (take_inner front) ≡ left → old ≡ []
    → IfSome (take_remaining remaining front) (λ taken. bytes ≡ old ++ taken) → length bytes ≤ n → AreLeft left bytes
all_of_take remaining front left n old bytes limit inner none read few =
    let all : IfSome (option_map (take (take_limit front)) (remaining (take_inner front))) (λ taken. bytes ≡ [] ++ taken)
    = subst (λ before. IfSome (take_remaining remaining front) (λ taken. bytes ≡ before ++ taken)) none read
    in let some : IfSome (option_map (take (suc n)) (remaining (take_inner front))) (λ taken. bytes ≡ [] ++ taken)
    = subst (λ k. IfSome (option_map (take k) (remaining (take_inner front))) (λ taken. bytes ≡ [] ++ taken)) limit all
    in all_of_front left n bytes (subst (λ o. IfSome (option_map (take (suc n)) o) (λ taken. bytes ≡ [] ++ taken)) inner some) few

pub fits_file : (left : Option (List ℕ)) (bytes : List ℕ) → AreLeft left bytes → length bytes ≤ file_limit → FitsFile left
fits_file None bytes read few = tt
fits_file (Some all) bytes read few = subst (λ xs. length xs ≤ file_limit) read few

pub keeps_same : (a : Option (List ℕ)) → Keeps a a
keeps_same None = tt
keeps_same (Some x) = refl

abbrev is_output : RunFault → ℕ
is_output run.Output = 1
is_output e = 0

-- reading failed
pub file_unread : (left : Option (List ℕ)) → IsUnread run.File left
file_unread left = let some = some_left left in ((some.0, some.1, tt), λ e. let bad : 0 ≡ 1 = ap is_output e in absurd (omega arith))

-- memory was refused
pub memory_unread : (left : Option (List ℕ)) → IsUnread run.Memory left
memory_unread left = let some = some_left left in ((some.0, some.1, tt), λ e. let bad : 0 ≡ 1 = ap is_output e in absurd (omega arith))

-- nothing is printed before a fault that comes first
pub leaves_all : (pipes : ℕ → Option Pipe) (fault : RunFault) (bytes : List ℕ) (a : Option (List ℕ)) → IsBeforeOutput fault → LeavesOutput pipes fault bytes a a
leaves_all pipes run.Output bytes a h = absurd (h refl)
leaves_all pipes run.Memory bytes a h = inl (keeps_same a)
leaves_all pipes fault bytes a h = keeps_same a

-- printing that fails leaves a beginning of the report's text
ends_by : (pipes : ℕ → Option Pipe) (fault : RunFault) (left old new : Option (List ℕ)) (bytes : List ℕ) (report : Report) → AreLeft left bytes → IsReportOf pipes bytes report
    → WritesBeginning old new (text_of report) → (fault ≡ run.Output) ⊎ (fault ≡ run.Memory) → EndsBy pipes fault left old new
ends_by pipes fault left old new bytes report all is begun (inl e) = rw e (bytes, all, (is.0, is.1, is.2, is.3), (report, is, begun))
ends_by pipes fault left old new bytes report all is begun (inr e) = rw e (bytes, all, tt, inr (report, is, begun))

-- so it does, if it fails
pub ends_printing : {A : Type 0} (pipes : ℕ → Option Pipe) (r : Result A RunFault) (left old new : Option (List ℕ)) (bytes : List ℕ) (report : Report) → AreLeft left bytes → IsReportOf pipes bytes report
    → IfErr r (λ fault. WritesBeginning old new (text_of report)) → IfErr r (λ fault. (fault ≡ run.Output) ⊎ (fault ≡ run.Memory)) → IfErr r (λ fault. EndsBy pipes fault left old new)
ends_printing pipes (Ok x) left old new bytes report all is begun which = tt
ends_printing pipes (Err fault) left old new bytes report all is begun which = ends_by pipes fault left old new bytes report all is begun which

-- where it doesn't, the whole text went out
pub reports_printing : {A B : Type 0} (pipes : ℕ → Option Pipe) (r : Result A B) (left old new : Option (List ℕ)) (bytes : List ℕ) (report : Report) → AreLeft left bytes → IsReportOf pipes bytes report
    → OnOk r (Appends old new (text_of report)) → OnOk r (Reports pipes left old new)
reports_printing pipes (Ok x) left old new bytes report all is whole = (bytes, all, report, is, whole)
reports_printing pipes (Err fault) left old new bytes report all is whole = tt
