-- How the message that comes stands: its final DONE is remembered from packet to packet, and through a cancel in between.
use Rattle.std.proofs.Common.{◌≡◌, ◌∙◌, ℕ, Bool, true, false, cond, if◌then◌else◌, List, [], ◌∷◌, ◌++◌, length, Option, Some, None, is_some, refl, sym, ap}
use Rattle.std.specs.Prelude.{Result, Ok, Err}
use Rattle.tds_token.specs.declared.env_change.EnvChange.{EnvChange}
use Rattle.tds_token.specs.declared.fault.TokenFault.{TokenFault}
use Rattle.tds_token.specs.declared.token.Token.{Token}
use Rattle.tds_token.specs.declared.token.Token.TheVariants as tokens
use Rattle.tds_token.specs.Contents.{Contents, contents_of}
use Rattle.tds_client.specs.declared.fault.ClientFault.{ClientFault}
use Rattle.tds_client.specs.declared.fault.ClientFault.TheVariants as faults
use Rattle.tds_client.specs.declared.heard.Heard.{Heard}
use Rattle.tds_client.specs.declared.heard.FinalDone.{FinalDone}
use Rattle.tds_client.specs.declared.heard.FinalDone.TheVariants.{Awaited, Answered, Acknowledged}
use Rattle.tds_client.specs.Hearing.{◌>>=◌, with_done, descriptor_changed, hear_change, hear_done, strict_sign, strict_before, hear, hear_all, hear_packet, at_end_of_data, at_end_of_message}
use Rattle.tds_packet.specs.Layout.{has_bit}
use Rattle.tds_client.specs.Signs.{sign_of}
use Rattle.tds_client.specs.Promises.{final_done, status_acknowledges}
use Rattle.tds_client.proofs.Lawful.{LawfulDone, IsLawful, AreLawful, within}

-- ---- What is heard

-- how a message stands by the status of its final DONE
abbrev pub done_of : Option ℕ → FinalDone
done_of None = Awaited
done_of (Some status) = if has_bit status 0x20 then Acknowledged else Answered

abbrev pub done_behind : FinalDone → List Token → FinalDone
done_behind Awaited ts = done_of (final_done ts)
done_behind Answered ts = Answered
done_behind Acknowledged ts = Acknowledged

none_behind : (done : FinalDone) → done_behind done [] ≡ done
none_behind Awaited = refl
none_behind Answered = refl
none_behind Acknowledged = refl

abbrev Answer : Type 0
Answer = Result Heard ClientFault

-- what stands behind one token
module _ (cancelling : Bool) (heard next : Heard) (ts : List Token) (others : (middle : Heard) → hear_all cancelling middle ts ≡ Ok next → next.done ≡ done_behind middle.done ts) where
  abbrev rest : Heard → Answer
  rest middle = hear_all cancelling middle ts

  hears_on : (middle : Heard) → middle.done ≡ Awaited → rest middle ≡ Ok next → next.done ≡ done_of (final_done ts)
  hears_on middle awaited e = others middle e ∙ ap (λ (d : FinalDone). done_behind d ts) awaited

  by_change : (change : EnvChange) (o : Option ℕ) → heard.done ≡ Awaited → (descriptor_changed heard change o >>= rest) ≡ Ok next → next.done ≡ done_of (final_done ts)
  by_change change None awaited e = absurd cc
  by_change change (Some d) awaited e = hears_on _ awaited e

  by_done : (status : ℕ) (a m c : Bool) → LawfulDone status → heard.done ≡ Awaited → has_bit status 0x20 ≡ a → has_bit status 1 ≡ m
      → (cond a (cond {A = Answer} c (Ok (with_done heard Acknowledged)) (Err faults.UnaskedAcknowledgement)) (cond {A = Answer} m (Ok heard) (Ok (with_done heard Answered))) >>= rest) ≡ Ok next
      → next.done ≡ done_of (cond m (final_done ts) (Some status))
  by_done status true m true lawful awaited a more e =
      let last : m ≡ false = sym more ∙ lawful a in
      others _ e ∙ sym (ap (λ (m : Bool). done_of (cond m (final_done ts) (Some status))) last ∙ ap (λ (a : Bool). cond a Acknowledged Answered) a)
  by_done status true m false lawful awaited a more e = absurd cc
  by_done status false true c lawful awaited a more e = hears_on heard awaited e
  by_done status false false c lawful awaited a more e = others _ e ∙ sym (ap (λ (a : Bool). cond a Acknowledged Answered) a)

  by_token : (t : Token) → IsLawful t → heard.done ≡ Awaited → (strict_sign cancelling heard (sign_of t) >>= rest) ≡ Ok next → next.done ≡ done_of (final_done (t ∷ ts))
  unfolding hear_change hear_done
  by_token (tokens.Info m) l awaited e = hears_on heard awaited e
  by_token (tokens.Error m) l awaited e = hears_on heard awaited e
  by_token (tokens.ReturnStatus v) l awaited e = hears_on heard awaited e
  by_token (tokens.Columns cs) l awaited e = hears_on heard awaited e
  by_token (tokens.Row vs) l awaited e = hears_on heard awaited e
  by_token (tokens.Env change) l awaited e = by_change change _ awaited e
  by_token (tokens.Done status cur_cmd rows) l awaited e = by_done status (has_bit status 0x20) (has_bit status 1) cancelling l awaited refl refl e

  by_stand : (t : Token) (done : FinalDone) → IsLawful t → heard.done ≡ done → (strict_before done cancelling heard (sign_of t) >>= rest) ≡ Ok next → next.done ≡ done_behind done (t ∷ ts)
  by_stand t Awaited l is e = by_token t l is e
  by_stand t Answered l is e = absurd cc
  by_stand t Acknowledged l is e = absurd cc

abbrev heard_so : Heard → Answer
heard_so heard = Ok heard

heard_is : (x y : Heard) → heard_so x ≡ heard_so y → x ≡ y
heard_is x y e = cc

all_heard : (cancelling : Bool) (heard next : Heard) (ts : List Token) → AreLawful ts → hear_all cancelling heard ts ≡ Ok next → next.done ≡ done_behind heard.done ts
unfolding hear
all_heard cancelling heard next [] l e = sym (ap (λ (h : Heard). h.done) (heard_is heard next e)) ∙ sym (none_behind heard.done)
all_heard cancelling heard next (t ∷ ts) l e = by_stand cancelling heard next ts (λ middle said. all_heard cancelling middle next ts l.1 said) t heard.done l.0 refl e

-- ---- Packets of one message

settled : (b : Bool) (ts : List Token) → (if b then Acknowledged else Answered) ≡ done_behind (if b then Acknowledged else Answered) ts
settled true ts = refl
settled false ts = refl

by_more : (status : ℕ) (m : Bool) (first others : List Token) → done_of (final_done (first ++ others)) ≡ done_behind (done_of (final_done first)) others
    → done_of (cond m (final_done (first ++ others)) (Some status)) ≡ done_behind (done_of (cond m (final_done first) (Some status))) others
by_more status true first others e = e
by_more status false first others e = settled (has_bit status 0x20) others

pub also : (first others : List Token) → done_of (final_done (first ++ others)) ≡ done_behind (done_of (final_done first)) others
also [] others = refl
also (tokens.Info m ∷ first) others = also first others
also (tokens.Error m ∷ first) others = also first others
also (tokens.ReturnStatus v ∷ first) others = also first others
also (tokens.Columns cs ∷ first) others = also first others
also (tokens.Row vs ∷ first) others = also first others
also (tokens.Env e ∷ first) others = also first others
also (tokens.Done status cur_cmd rows ∷ first) others = by_more status (has_bit status 1) first others (also first others)

abbrev pub is_final : FinalDone → Bool
is_final Awaited = false
is_final Answered = true
is_final Acknowledged = true

abbrev pub is_acknowledging : FinalDone → Bool
is_acknowledging Awaited = false
is_acknowledging Answered = false
is_acknowledging Acknowledged = true

final_if : (b : Bool) → is_final (if b then Acknowledged else Answered) ≡ true
final_if true = refl
final_if false = refl

pub final_so : (o : Option ℕ) → is_final (done_of o) ≡ is_some o
final_so None = refl
final_so (Some status) = final_if (has_bit status 0x20)

acknowledging_if : (b : Bool) → is_acknowledging (if b then Acknowledged else Answered) ≡ b
acknowledging_if true = refl
acknowledging_if false = refl

pub acknowledging_so : (o : Option ℕ) → is_acknowledging (done_of o) ≡ status_acknowledges o
acknowledging_so None = refl
acknowledging_so (Some status) = acknowledging_if (has_bit status 0x20)

-- what a packet that is heard does
pub record PacketHeard (heard next : Heard) (ends : Bool) (contents : Contents) : Type 0 where
  pub done : next.done ≡ done_behind heard.done contents.tokens
  pub final : ends ≡ true → is_final next.done ≡ true

at_end : (ends : Bool) (done : FinalDone) (x next : Heard) → at_end_of_message ends done x ≡ Ok next → (x ≡ next) × (ends ≡ true → is_final done ≡ true)
at_end false done x next e = (heard_is x next e, λ h. absurd (unequal h))
  where
    unequal : false ≡ true → ⊥
    unequal h = cc
at_end true Awaited x next e = absurd cc
at_end true Answered x next e = (heard_is x next e, λ h. refl)
at_end true Acknowledged x next e = (heard_is x next e, λ h. refl)

packet_by : (heard next : Heard) (ends : Bool) (contents : Contents) (r : Answer) (fault : Option TokenFault) → ((x : Heard) → r ≡ Ok x → x.done ≡ done_behind heard.done contents.tokens)
    → ((r >>= λ x. at_end_of_data fault x) >>= λ x. at_end_of_message ends x.done x) ≡ Ok next → PacketHeard heard next ends contents
packet_by heard next ends contents (Ok x) None done e =
    let end = at_end ends x.done x next e in
    let same : x.done ≡ next.done = ap (λ (h : Heard). h.done) end.0 in
    record { done = sym same ∙ done x refl; final = λ h. ap is_final (sym same) ∙ end.1 h }
packet_by heard next ends contents (Ok x) (Some fault) done e = absurd cc
packet_by heard next ends contents (Err fault) o done e = absurd cc

pub packet_heard : (cancelling : Bool) (heard next : Heard) (ends : Bool) (columns : Option ℕ) (bytes : List ℕ) → hear_packet cancelling heard ends (contents_of columns bytes) ≡ Ok next
    → PacketHeard heard next ends (contents_of columns bytes)
unfolding hear_packet
packet_heard cancelling heard next ends columns bytes e =
    packet_by heard next ends (contents_of columns bytes) (hear_all cancelling heard (contents_of columns bytes).tokens) (contents_of columns bytes).fault
    (λ x said. all_heard cancelling heard x (contents_of columns bytes).tokens (within (length bytes) columns bytes) said) e
