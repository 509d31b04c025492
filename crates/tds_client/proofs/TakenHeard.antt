-- Taking a packet is hearing its tokens' signs, and its end.
use Rattle.std.proofs.Common.{◌≡◌, ◌∙◌, ℕ, Bool, true, false, cond, List, [], ◌∷◌, Option, Some, None, refl, sym, ap}
use Rattle.std.specs.Prelude.{Result, Ok, Err}
use Rattle.tds_token.specs.declared.fault.TokenFault.{TokenFault}
use Rattle.tds_token.specs.declared.token.Token.{Token}
use Rattle.tds_token.specs.Contents.{Contents, contents_of}
use Rattle.tds_client.specs.declared.fault.ClientFault.{ClientFault}
use Rattle.tds_client.specs.declared.fault.ClientFault.TheVariants as faults
use Rattle.tds_client.specs.declared.heard.Heard.{Heard}
use Rattle.tds_client.specs.declared.heard.FinalDone.{FinalDone}
use Rattle.tds_client.specs.declared.heard.FinalDone.TheVariants.{Awaited, Answered, Acknowledged}
use Rattle.tds_client.specs.declared.sign.Rules.TheVariants.{Strict}
use Rattle.tds_client.specs.declared.sign.Sign.{Sign}
use Rattle.tds_client.specs.Hearing.{◌>>=◌, hear, hear_sign, hear_all, hear_packet, at_end_of_data, at_end_of_message, may_end}
use Rattle.tds_client.specs.Machine.{ItemMove, signed_in, signed, ended_in, with_heard, end_read, end_skipped, all_signed, end_of_packet, stops_at, taken_by_signs, without_tokens}
use Rattle.tds_client.specs.Session.{ClientSession, Stage, Reading, Cancelling}
use Rattle.tds_client.specs.Signs.{sign_of, signs_of}
use Rattle.tds_client.specs.Taking.{taken_in, taken, taken_reading, taken_cancelling, read, skipped, skipped_to_end}

-- The stage that a client hears in, with an attention out or not.
abbrev stage_by : Bool → Stage
stage_by true = Cancelling
stage_by false = Reading

signed_by : (s : ClientSession) (cancelling : Bool) (sign : Sign) → s.stage ≡ stage_by cancelling → signed Strict s sign ≡ (hear_sign Strict cancelling s.heard sign >>= λ heard. Ok (with_heard s heard))
signed_by s true sign e = ap (λ (x : Stage). signed_in Strict x s sign) e
signed_by s false sign e = ap (λ (x : Stage). signed_in Strict x s sign) e

abbrev So : Type 0
So = Result ClientSession ClientFault

on_first : (s : ClientSession) (cancelling : Bool) (ts : List Token) (r : Result Heard ClientFault)
    → ((heard : Heard) → all_signed Strict (with_heard s heard) (signs_of ts) ≡ (hear_all cancelling heard ts >>= λ next. Ok (with_heard s next)))
    → ((r >>= λ heard. Ok (with_heard s heard)) >>= λ next. all_signed Strict next (signs_of ts)) ≡ ((r >>= λ next. hear_all cancelling next ts) >>= λ next. Ok (with_heard s next))
on_first s cancelling ts (Ok heard) others = others heard
on_first s cancelling ts (Err fault) others = refl

-- all the signs of these tokens
all_by : (s : ClientSession) (cancelling : Bool) (heard : Heard) (ts : List Token) → s.stage ≡ stage_by cancelling
    → all_signed Strict (with_heard s heard) (signs_of ts) ≡ (hear_all cancelling heard ts >>= λ next. Ok (with_heard s next))
unfolding hear
all_by s cancelling heard [] e = refl
all_by s cancelling heard (t ∷ ts) e =
    ap (λ (r : So). r >>= λ next. all_signed Strict next (signs_of ts)) (signed_by (with_heard s heard) cancelling (sign_of t) e)
    ∙ on_first s cancelling ts (hear_sign Strict cancelling heard (sign_of t)) (λ next. all_by s cancelling next ts e)

-- ---- The end of a packet

abbrev Moved : Type 0
Moved = Result ItemMove ClientFault

abbrev moved : ItemMove → Moved
moved move = Ok move

module _ (s : ClientSession) (contents : Contents) where
  abbrev behind : Heard → ClientSession
  behind heard = record s { heard = heard; columns = contents.columns }

  read_end : (heard : Heard) (b : Bool)
      → cond {A = Moved} b (Ok (end_read (behind heard))) (Err faults.NoFinalDone)
      ≡ without_tokens (cond {A = Result Heard ClientFault} b (Ok heard) (Err faults.NoFinalDone) >>= λ next. Ok (read s true next contents))
  read_end heard true = refl
  read_end heard false = refl

  skip_end : (heard : Heard) (done : FinalDone) → moved (end_skipped (behind heard) done) ≡ without_tokens (Ok (skipped_to_end s heard done))
  skip_end heard Awaited = refl
  skip_end heard Answered = refl
  skip_end heard Acknowledged = refl

  skip_ends : (heard : Heard) (b : Bool)
      → cond {A = Moved} b (Ok (end_skipped (behind heard) heard.done)) (Err faults.NoFinalDone)
      ≡ without_tokens (cond {A = Result Heard ClientFault} b (Ok heard) (Err faults.NoFinalDone) >>= λ next. Ok (skipped s true next contents))
  skip_ends heard true = skip_end heard heard.done
  skip_ends heard false = refl

  same_end : (done : FinalDone) → may_end Strict true done ≡ may_end Strict false done
  same_end Awaited = refl
  same_end Answered = refl
  same_end Acknowledged = refl

  abbrev signs_first : Result Heard ClientFault → Option TokenFault → Bool → Moved
  signs_first r fault ends =
      ((r >>= λ next. Ok (with_heard s next)) >>= λ next. (at_end_of_data fault next.heard >>= λ heard. Ok (record next { columns = contents.columns })))
      >>= λ next. end_of_packet Strict ends next

  abbrev tokens_first : Result Heard ClientFault → Option TokenFault → Bool → Result Heard ClientFault
  tokens_first r fault ends = (r >>= λ next. at_end_of_data fault next) >>= λ next. at_end_of_message ends next.done next

  reads_so : (r : Result Heard ClientFault) (fault : Option TokenFault) (ends : Bool) → s.stage ≡ Reading
      → signs_first r fault ends ≡ without_tokens (tokens_first r fault ends >>= λ heard. Ok (read s ends heard contents))
  reads_so (Ok heard) None true e = ap (λ (x : Stage). ended_in Strict x (behind heard)) e ∙ read_end heard (may_end Strict false heard.done)
  reads_so (Ok heard) None false e = refl
  reads_so (Ok heard) (Some fault) ends e = refl
  reads_so (Err fault) o ends e = refl

  skips_so : (r : Result Heard ClientFault) (fault : Option TokenFault) (ends : Bool) → s.stage ≡ Cancelling
      → signs_first r fault ends ≡ without_tokens (tokens_first r fault ends >>= λ heard. Ok (skipped s ends heard contents))
  skips_so (Ok heard) None true e =
      ap (λ (x : Stage). ended_in Strict x (behind heard)) e
      ∙ (ap (λ (b : Bool). cond {A = Moved} b (Ok (end_skipped (behind heard) heard.done)) (Err faults.NoFinalDone)) (same_end heard.done)
      ∙ skip_ends heard (may_end Strict false heard.done))
  skips_so (Ok heard) None false e = refl
  skips_so (Ok heard) (Some fault) ends e = refl
  skips_so (Err fault) o ends e = refl

reading_is : (s : ClientSession) (ends : Bool) (bytes : List ℕ) → s.stage ≡ Reading → without_tokens (taken_reading s ends bytes) ≡ taken_by_signs s ends (contents_of s.columns bytes)
unfolding taken_reading hear_packet
reading_is s ends bytes e =
    let contents = contents_of s.columns bytes in
    sym (ap (λ (r : So). (r >>= λ next. stops_at contents next) >>= λ next. end_of_packet Strict ends next) (all_by s false s.heard contents.tokens e)
    ∙ reads_so s contents (hear_all false s.heard contents.tokens) contents.fault ends e)

cancelling_is : (s : ClientSession) (ends : Bool) (bytes : List ℕ) → s.stage ≡ Cancelling → without_tokens (taken_cancelling s ends bytes) ≡ taken_by_signs s ends (contents_of s.columns bytes)
unfolding taken_cancelling hear_packet
cancelling_is s ends bytes e =
    let contents = contents_of s.columns bytes in
    sym (ap (λ (r : So). (r >>= λ next. stops_at contents next) >>= λ next. end_of_packet Strict ends next) (all_by s true s.heard contents.tokens e)
    ∙ skips_so s contents (hear_all true s.heard contents.tokens) contents.fault ends e)

pub read_is_heard : (s : ClientSession) (ends : Bool) (bytes : List ℕ) → s.stage ≡ Reading → without_tokens (taken s ends bytes) ≡ taken_by_signs s ends (contents_of s.columns bytes)
read_is_heard s ends bytes e = ap (λ (x : Stage). without_tokens (taken_in x s ends bytes)) e ∙ reading_is s ends bytes e

pub skipped_is_heard : (s : ClientSession) (ends : Bool) (bytes : List ℕ) → s.stage ≡ Cancelling → without_tokens (taken s ends bytes) ≡ taken_by_signs s ends (contents_of s.columns bytes)
skipped_is_heard s ends bytes e = ap (λ (x : Stage). without_tokens (taken_in x s ends bytes)) e ∙ cancelling_is s ends bytes e
