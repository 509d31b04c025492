-- The greatest size of a client's packets stays, whatever it takes.
use Rattle.std.proofs.Common.{◌≡◌, ◌∙◌, ℕ, Bool, true, false, refl, sym, ap, Option, Some, Result, Ok, Err, List, [], ◌∷◌, ◌++◌}
use Rattle.tds_client.specs.declared.fault.ClientFault.{ClientFault}
use Rattle.tds_client.specs.declared.heard.FinalDone.{FinalDone}
use Rattle.tds_client.specs.declared.heard.FinalDone.TheVariants.{Awaited, Answered, Acknowledged}
use Rattle.tds_client.specs.declared.heard.Heard.{Heard}
use Rattle.tds_client.specs.Hearing.{◌>>=◌}
use Rattle.tds_client.specs.Session.{ClientSession, Stage, Idle, Sending, Reading, Cancelling, Broken}
use Rattle.tds_client.specs.Taking.{ClientMove, read, skipped, skipped_to_end, taken, taken_in, taken_reading, taken_cancelling}
use Rattle.tds_packet.specs.Layout.{bits_of, has_bit}
use Rattle.tds_token.specs.Contents.{Contents}
use Rattle.tds_token.specs.declared.token.Token.{Token}
use Rattle.tds_world.specs.declared.report.RequestStatus.{RequestStatus}
use Rattle.tds_ends.specs.Feeding.{Coming, Listened, listened, on_taken, settled_by}

read_size : (s : ClientSession) (ends : Bool) (heard : Heard) (contents : Contents) → (read s ends heard contents).session.size ≡ s.size
read_size s true heard contents = refl
read_size s false heard contents = refl

to_end_size : (s : ClientSession) (heard : Heard) (done : FinalDone) → (skipped_to_end s heard done).session.size ≡ s.size
to_end_size s heard Awaited = refl
to_end_size s heard Answered = refl
to_end_size s heard Acknowledged = refl

skipped_size : (s : ClientSession) (ends : Bool) (heard : Heard) (contents : Contents) → (skipped s ends heard contents).session.size ≡ s.size
skipped_size s true heard contents = to_end_size s heard heard.done
skipped_size s false heard contents = refl

made : {A : Type 0} (r : Result A ClientFault) (f : A → ClientMove) (t : ClientMove) (size : ℕ) → (r >>= λ x. Ok (f x)) ≡ Ok t → ((x : A) → (f x).session.size ≡ size) → t.session.size ≡ size
made (Ok x) f t size is all =
    let same : f x ≡ t = cc in
    ap (λ k. k.session.size) (sym same) ∙ all x
made (Err e) f t size is all = absurd (cc)

reading_size : (s : ClientSession) (ends : Bool) (bytes : List ℕ) (t : ClientMove) → taken_reading s ends bytes ≡ Ok t → t.session.size ≡ s.size
unfolding taken_reading
reading_size s ends bytes t is = made _ _ t s.size is (λ heard. read_size s ends heard _)

cancelling_size : (s : ClientSession) (ends : Bool) (bytes : List ℕ) (t : ClientMove) → taken_cancelling s ends bytes ≡ Ok t → t.session.size ≡ s.size
unfolding taken_cancelling
cancelling_size s ends bytes t is = made _ _ t s.size is (λ heard. skipped_size s ends heard _)

taken_size : (stage : Stage) (s : ClientSession) (ends : Bool) (bytes : List ℕ) (t : ClientMove) → taken_in stage s ends bytes ≡ Ok t → t.session.size ≡ s.size
taken_size Idle s ends bytes t is = absurd (cc)
taken_size (Sending kind left packets) s ends bytes t is = absurd (cc)
taken_size Reading s ends bytes t is = reading_size s ends bytes t is
taken_size Cancelling s ends bytes t is = cancelling_size s ends bytes t is
taken_size (Broken fault) s ends bytes t is = absurd (cc)

on_took : {A P : Type 0} (r : Result ClientMove ClientFault) (next : ClientMove → Option A) (then : A) → on_taken r next ≡ Some then → ((t : ClientMove) → r ≡ Ok t → next t ≡ Some then → P) → P
on_took (Ok t) next then is f = f t refl is
on_took (Err e) next then is f = absurd (cc)

pub listened_size : (s : ClientSession) (settled : Option RequestStatus) (told : List Token) (packets : List Coming) (then : Listened) → listened s settled told packets ≡ Some then → then.session.size ≡ s.size
listened_size s settled told [] then is =
    let same : record { session = s; settled = settled; told = told } ≡ then = cc in
    ap (λ t. t.session.size) (sym same)
listened_size s settled told (p ∷ ps) then is =
    on_took (taken s (has_bit (bits_of p.header.status) 1) p.content) (λ t. listened t.session (settled_by t.answer settled) (told ++ t.tokens) ps) then is
    (λ t took later. listened_size t.session (settled_by t.answer settled) (told ++ t.tokens) ps then later ∙ taken_size s.stage s _ _ t took)
