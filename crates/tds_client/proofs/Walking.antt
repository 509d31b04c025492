-- The two walks over a packet's data, a token at a time.
use Rattle.std.proofs.Common.{◌≡◌, ℕ, ℤ, Bool, true, false, List, [], ◌∷◌, ◌++◌, length, take, Option, Result, Ok, Err, refl, sym, ap, subst, ◌∙◌, rules, append_assoc}
use Rattle.std.proofs.Math.Seq.{take-append_seam}
use Rattle.tds_token.specs.declared.fault.TokenFault.{TokenFault}
use Rattle.tds_token.specs.declared.token.Token.{Token}
use Rattle.tds_token.specs.declared.token.Token.TheVariants as tokens
use Rattle.tds_token.specs.Layout.{is_env, is_row}
use Rattle.tds_token.specs.Runs.{row_tokens, with_tokens}
use Rattle.tds_token.specs.Told.{told}
use Rattle.tds_token.specs.Contents.{Contents, no_more, with_token, at_fault}
use Rattle.tds_client.specs.declared.fault.ClientFault.{ClientFault}
use Rattle.tds_client.specs.declared.fault.ClientFault.TheVariants as faults
use Rattle.tds_client.specs.declared.heard.FinalDone.{FinalDone}
use Rattle.tds_client.specs.declared.heard.FinalDone.TheVariants.{Awaited, Answered, Acknowledged}
use Rattle.tds_client.specs.declared.heard.Heard.{Heard}
use Rattle.tds_client.specs.declared.sign.Sign.TheVariants as signs
use Rattle.tds_client.specs.Hearing.{◌>>=◌, hear, hear_all, at_end_of_data, hear_contents, strict_before}

-- ---- The first walk

-- What is heard so far, and then what is left, is what is heard in all.
pub record Hears (cancelling : Bool) (heard : Heard) (left : Contents) (first : Heard) (whole : Contents) : Type 0 where
  pub heard_is : hear_contents cancelling heard left ≡ hear_contents cancelling first whole
  pub columns_is : left.columns ≡ whole.columns

module _ (cancelling : Bool) (heard first : Heard) (left whole : Contents) (h : Hears cancelling heard left first whole) where
  -- a token in front of what is left
  in_turn : (t : Token) (rest : Contents) (r : Result Heard ClientFault) → left ≡ with_token t rest → hear cancelling heard t ≡ r
      → hear_contents cancelling first whole ≡ ((r >>= λ next. hear_all cancelling next rest.tokens) >>= λ next. at_end_of_data rest.fault next)
  in_turn t rest r e said =
      sym h.heard_is ∙ (ap (hear_contents cancelling heard) e
      ∙ ap (λ (r : Result Heard ClientFault). (r >>= λ next. hear_all cancelling next rest.tokens) >>= λ next. at_end_of_data rest.fault next) said)

  pub hears_on : (t : Token) (rest : Contents) (next : Heard) → left ≡ with_token t rest → hear cancelling heard t ≡ Ok next → Hears cancelling next rest first whole
  hears_on t rest next e said =
      record { heard_is = sym (in_turn t rest (Ok next) e said); columns_is = sym (ap (λ (x : Contents). x.columns) e) ∙ h.columns_is }

  pub hears_fault : (t : Token) (rest : Contents) (fault : ClientFault) → left ≡ with_token t rest → hear cancelling heard t ≡ Err fault
      → hear_contents cancelling first whole ≡ Err fault
  hears_fault t rest fault e said = in_turn t rest (Err fault) e said

  pub hears_wrong : (fault : TokenFault) (columns : Option ℕ) → left ≡ at_fault fault columns → hear_contents cancelling first whole ≡ Err (faults.Token fault)
  hears_wrong fault columns e = sym h.heard_is ∙ ap (hear_contents cancelling heard) e

  pub hears_end : (columns : Option ℕ) → left ≡ no_more columns → (hear_contents cancelling first whole ≡ Ok heard) × (columns ≡ whole.columns)
  hears_end columns e = (sym h.heard_is ∙ ap (hear_contents cancelling heard) e, sym (ap (λ (x : Contents). x.columns) e) ∙ h.columns_is)

-- ---- Rows in a run

abbrev heard_in : Heard → Result Heard ClientFault → Heard
heard_in heard (Ok next) = next
heard_in heard (Err fault) = heard

nothing_heard : (cancelling : Bool) (heard next : Heard) (done : FinalDone) → heard.done ≡ done → strict_before done cancelling heard signs.Nothing ≡ Ok next
    → (next ≡ heard) × (heard.done ≡ Awaited)
nothing_heard cancelling heard next Awaited is said = (sym (ap (heard_in heard) said), is)
nothing_heard cancelling heard next Answered is said = absurd cc
nothing_heard cancelling heard next Acknowledged is said = absurd cc

-- A row that is heard leaves what was heard as it is, and stands before the final DONE.
pub row_leaves : (cancelling : Bool) (heard next : Heard) (t : Token) → is_row t ≡ true → hear cancelling heard t ≡ Ok next → (next ≡ heard) × (heard.done ≡ Awaited)
unfolding hear
row_leaves cancelling heard next (tokens.Info m) is said = absurd cc
row_leaves cancelling heard next (tokens.Error m) is said = absurd cc
row_leaves cancelling heard next (tokens.ReturnStatus v) is said = absurd cc
row_leaves cancelling heard next (tokens.Columns cs) is said = absurd cc
row_leaves cancelling heard next (tokens.Row vs) is said = nothing_heard cancelling heard next heard.done refl said
row_leaves cancelling heard next (tokens.Env c) is said = absurd cc
row_leaves cancelling heard next (tokens.Done status cur_cmd rows) is said = absurd cc

row_is_heard : (cancelling : Bool) (heard : Heard) (vs : List ℤ) → heard.done ≡ Awaited → hear cancelling heard (tokens.Row vs) ≡ Ok heard
unfolding hear
row_is_heard cancelling heard vs e = ap (λ (d : FinalDone). strict_before d cancelling heard signs.Nothing) e

-- So rows one behind the other are heard as nothing.
pub hears_rows : (cancelling : Bool) (heard first : Heard) (left rest whole : Contents) (rows : List (List ℤ)) → Hears cancelling heard left first whole
    → heard.done ≡ Awaited → left ≡ with_tokens (row_tokens rows) rest → Hears cancelling heard rest first whole
hears_rows cancelling heard first left rest whole [] h awaited e = subst (λ (left : Contents). Hears cancelling heard left first whole) e h
hears_rows cancelling heard first left rest whole (vs ∷ others) h awaited e =
    let behind = with_tokens (row_tokens others) rest in
    hears_rows cancelling heard first behind rest whole others
    (hears_on cancelling heard first left whole h (tokens.Row vs) behind heard e (row_is_heard cancelling heard vs awaited)) awaited refl

-- ---- The second walk

-- What is told so far, and then what is left, is what is told in all.
pub record Tells (out : List Token) (left : Contents) (before : List Token) (whole : Contents) : Type 0 where
  pub told_is : out ++ told left.tokens ≡ before ++ told whole.tokens
  pub more : List Token
  pub kept : out ≡ before ++ more

told_env : (t : Token) (others : List Token) → is_env t ≡ true → told (t ∷ others) ≡ told others
told_env (tokens.Info m) others e = absurd cc
told_env (tokens.Error m) others e = absurd cc
told_env (tokens.ReturnStatus v) others e = absurd cc
told_env (tokens.Columns cs) others e = absurd cc
told_env (tokens.Row vs) others e = absurd cc
told_env (tokens.Env c) others e = refl
told_env (tokens.Done status cur_cmd rows) others e = absurd cc

told_other : (t : Token) (others : List Token) → is_env t ≡ false → told (t ∷ others) ≡ t ∷ told others
told_other (tokens.Info m) others e = refl
told_other (tokens.Error m) others e = refl
told_other (tokens.ReturnStatus v) others e = refl
told_other (tokens.Columns cs) others e = refl
told_other (tokens.Row vs) others e = refl
told_other (tokens.Env c) others e = absurd cc
told_other (tokens.Done status cur_cmd rows) others e = refl

append_nil : (xs : List Token) → xs ++ [] ≡ xs
append_nil xs = search rules

module _ (out before : List Token) (left whole : Contents) (h : Tells out left before whole) where
  pub tells_kept : take (length before) out ≡ before
  tells_kept = ap (take (length before)) h.kept ∙ take-append_seam before h.more

  pub tells_env : (t : Token) (rest : Contents) → left ≡ with_token t rest → is_env t ≡ true → Tells out rest before whole
  tells_env t rest e env = record {
    told_is = ap (λ (ts : List Token). out ++ ts) (sym (told_env t rest.tokens env)) ∙ (sym (ap (λ (x : Contents). out ++ told x.tokens) e) ∙ h.told_is);
    more = h.more;
    kept = h.kept;
  }

  pub tells_token : (t : Token) (rest : Contents) (after : List Token) → left ≡ with_token t rest → is_env t ≡ false → after ≡ out ++ t ∷ [] → Tells after rest before whole
  tells_token t rest after e env pushed =
      let others = told rest.tokens in
      record {
        told_is = ap (λ (ts : List Token). ts ++ others) pushed
            ∙ (append_assoc out (t ∷ []) others
            ∙ (ap (λ (ts : List Token). out ++ ts) (sym (told_other t rest.tokens env)) ∙ (sym (ap (λ (x : Contents). out ++ told x.tokens) e) ∙ h.told_is)));
        more = h.more ++ t ∷ [];
        kept = pushed ∙ (ap (λ (ts : List Token). ts ++ t ∷ []) h.kept ∙ append_assoc before h.more (t ∷ []));
      }

  -- where no token is left, all is told
  pub tells_end : told left.tokens ≡ [] → out ≡ before ++ told whole.tokens
  tells_end e = sym (append_nil out) ∙ (sym (ap (λ (ts : List Token). out ++ ts) e) ∙ h.told_is)
