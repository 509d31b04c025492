-- An entry that arrives at the client, at the client and in the model.
use Rattle.std.proofs.Common.{◌≡◌, ◌≢◌, ◌∙◌, ℕ, Bool, true, false, cond, eqb, refl, sym, ap, subst, Option, Some, None, option_map, unwrap_or, inl, inr, List, [], ◌∷◌, ◌++◌, append-nil, flat_map, arith}
use Rattle.std.proofs.lemmas.Bool.Decides.{nat_tests}
use Rattle.std.specs.Prelude.{◌⊎◌, Ok}
use Rattle.tds_client.specs.declared.heard.Heard.{Heard}
use Rattle.tds_client.specs.declared.heard.FinalDone.{FinalDone}
use Rattle.tds_client.specs.declared.heard.FinalDone.TheVariants.{Awaited, Acknowledged}
use Rattle.tds_client.specs.Hearing.{◌>>=◌, hear_all, hear_packet, with_done}
use Rattle.tds_client.specs.Session as client
use Rattle.tds_client.specs.Session.{ClientSession}
use Rattle.tds_client.specs.Taking.{read, skipped, taken_in, taken_reading, taken_cancelling, taken}
use Rattle.tds_packet.specs.declared.status.Reset.{Reset}
use Rattle.tds_packet.specs.declared.status.Reset.TheVariants.{Full, KeepTransaction}
use Rattle.tds_packet.specs.Layout.{bits_of, has_bit}
use Rattle.tds_session.specs.Answer as answer
use Rattle.tds_session.specs.Attention.{acknowledging}
use Rattle.tds_token.specs.declared.env_change.EnvChange.{EnvChange}
use Rattle.tds_token.specs.declared.env_change.EnvChange.TheVariants.{ResetDone}
use Rattle.tds_token.specs.declared.token.Token.{Token}
use Rattle.tds_token.specs.declared.token.Token.TheVariants as tokens
use Rattle.tds_token.specs.Contents.{Contents, contents_of}
use Rattle.tds_token.specs.Layout.{IsTokens, spelling}
use Rattle.tds_token.specs.Texts.{AreColumns}
use Rattle.tds_token.specs.Told.{told, changes_of, applied}
use Rattle.tds_world.specs.declared.report.RequestStatus.TheVariants as shown
use Rattle.tds_world.specs.Arrivals.{client_acts, heard_after, heard_behind, mark_after}
use Rattle.tds_packet.specs.Resets.{reset_effect}
use Rattle.tds_world.specs.Connection.{Connection}
use Rattle.tds_world.specs.Entries.{Down, Step, Acknowledgement, down_packet}
use Rattle.tds_world.specs.Heard.{Meets, IsHeardOn}
use Rattle.tds_world.specs.Phase.{Phase, Settled, Reading, Cancelling, phase_by, phase_of, status_by, request_status}
use Rattle.tds_world.specs.Record as world
use Rattle.tds_world.specs.Record.{Record, Out, NotBegun, Begun, Whole, gives, acknowledges, when, if_numbered}
use Rattle.tds_world.specs.Sessions.{HasSpelling, FitsAcknowledgement}
use Rattle.tds_ends.specs.Hearing.{IsSaid, IsSaidBy, IsAwaited, RefinesHear}
use Rattle.tds_ends.specs.Stands.{MatchesClient, BeginsBy, BeginsIn, stage_by, stage_in}
use Rattle.tds_ends.proofs.Heard.{at, behind, descriptor_behind, tokens_heard, reset_heard, packet_heard, acknowledgement_heard}
use Rattle.tds_world.specs.PhaseTells.{PhaseTells}
use Rattle.tds_ends.proofs.Phases.{PhasesTell, told_at}

-- What is promised of reading: tokens that are spelled where no columns are known are spelled under
-- any, they are read again then, all of them, and columns are known behind them. And of the model.
pub record AreRead : Type 0 where
  pub tells : PhasesTell
  pub contents : (columns : Option ℕ) (ts : List Token) (bytes : List ℕ) (after : Option ℕ) → IsTokens columns ts bytes after → contents_of columns bytes ≡ record { tokens = ts; fault = None; columns = after }
  pub known : (columns : Option ℕ) (ts : List Token) (bytes : List ℕ) (after : Option ℕ) → AreColumns columns → IsTokens columns ts bytes after → AreColumns after
  pub anywhere : (columns : Option ℕ) (ts : List Token) (bytes : List ℕ) (after : Option ℕ) → IsTokens None ts bytes after → (behind : Option ℕ) × IsTokens columns ts bytes behind

-- ---- What the client hears

-- What a step leaves of the descriptor and the mark, and what its tokens are heard as.
record IsHeard (cancelling : Bool) (c : Connection) (s : answer.Step) : Type 0 where
  descriptor : ℕ
  applies : heard_after c.heard s ≡ Some descriptor
  hears : (contents : Contents) → contents.tokens ≡ s.tokens → contents.fault ≡ None → hear_packet cancelling (at c.heard c.mark) s.last contents ≡ Ok (behind descriptor (mark_after s.reset c.mark) s.last)

reset_applied : (r : Reset) (x : ℕ) → applied (reset_effect (Some r)) x (ResetDone ∷ []) ≡ Some (descriptor_behind r x)
reset_applied Full x = refl
reset_applied KeepTransaction x = refl

by_reset : (cancelling : Bool) (r : Option Reset) (c : Connection) (s : answer.Step) → s.reset ≡ r → (d : ℕ) → heard_after c.heard s ≡ Some d → Meets c.mark r → IsSaidBy r s → IsHeard cancelling c s
by_reset cancelling None c s is d e m a = record {
  descriptor = d;
  applies = e;
  hears = λ contents same none.
      packet_heard cancelling s.last (at c.heard c.mark) d (mark_after s.reset c.mark) contents none
      (ap (λ (ts : List Token). hear_all cancelling (at c.heard c.mark) ts) same
      ∙ (tokens_heard cancelling s.last c.heard d a.0 a.1 c.mark s.tokens
      (ap (λ (o : Option Reset). applied (reset_effect o) c.heard (changes_of s.tokens)) (sym is) ∙ e) a.2
      ∙ ap (λ (o : Option Reset). Ok (behind d (mark_after o c.mark) s.last)) (sym is)));
}
by_reset cancelling (Some r) c s is d e m a = record {
  descriptor = descriptor_behind r c.heard;
  applies = ap (λ (o : Option Reset). applied (reset_effect o) c.heard (changes_of s.tokens)) is ∙ (ap (λ (ts : List Token). applied (reset_effect (Some r)) c.heard (changes_of ts)) a.0 ∙ reset_applied r c.heard);
  hears = λ contents same none.
      packet_heard cancelling s.last (at c.heard c.mark) (descriptor_behind r c.heard) (mark_after s.reset c.mark) contents none
      (ap (λ (ts : List Token). hear_all cancelling (at c.heard c.mark) ts) (same ∙ a.0)
      ∙ (ap (λ (m : Option Reset). hear_all cancelling (at c.heard m) (tokens.Env ResetDone ∷ [])) m
      ∙ (reset_heard cancelling c.heard r
      ∙ (ap (λ (b : Bool). Ok (behind (descriptor_behind r c.heard) None b)) (sym a.1)
      ∙ ap (λ (o : Option Reset). Ok (behind (descriptor_behind r c.heard) (mark_after o c.mark) s.last)) (sym is)))));
}

-- The client's own words are these.
same_heard : (h : Heard) (x : ℕ) (mark : Option Reset) → h.descriptor ≡ x → h.mark ≡ mark → h.done ≡ Awaited → h ≡ at x mark
same_heard h x mark ex em ed =
    ap (λ (y : ℕ). record { descriptor = y; mark = h.mark; done = h.done }) ex
    ∙ (ap (λ (y : Option Reset). record { descriptor = x; mark = y; done = h.done }) em
    ∙ ap (λ (y : FinalDone). record { descriptor = x; mark = mark; done = y }) ed)

end_bit : (last : Bool) → has_bit (cond last 1 0) 1 ≡ last
end_bit true = refl
end_bit false = refl

-- What it takes from the data of a step.
record IsRead (cancelling : Bool) (s : ClientSession) (c : Connection) (step : answer.Step) : Type 0 where
  heard : IsHeard cancelling c step
  known : AreColumns (contents_of s.columns (flat_map spelling step.tokens)).columns
  tokens : (contents_of s.columns (flat_map spelling step.tokens)).tokens ≡ step.tokens
  hears : hear_packet cancelling s.heard step.last (contents_of s.columns (flat_map spelling step.tokens)) ≡ Ok (behind heard.descriptor (mark_after step.reset c.mark) step.last)

step_read : AreRead → (cancelling : Bool) (s : ClientSession) (c : Connection) (step : answer.Step) → MatchesClient s c → HasSpelling step → IsHeard cancelling c step → IsRead cancelling s c step
step_read again cancelling s c step m spelled heard =
    let bytes : List ℕ = flat_map spelling step.tokens in
    let here = again.anywhere s.columns step.tokens bytes spelled.0 spelled.1 in
    let all = again.contents s.columns step.tokens bytes here.0 here.1 in record {
      heard = heard;
      known = subst AreColumns (sym (ap (λ (x : Contents). x.columns) all)) (again.known s.columns step.tokens bytes here.0 m.columns here.1);
      tokens = ap (λ (x : Contents). x.tokens) all;
      hears =
          ap (λ (x : Heard). hear_packet cancelling x step.last (contents_of s.columns (flat_map spelling step.tokens))) (same_heard s.heard c.heard c.mark m.descriptor m.mark m.done)
          ∙ heard.hears (contents_of s.columns (flat_map spelling step.tokens)) (ap (λ (x : Contents). x.tokens) all) (ap (λ (x : Contents). x.fault) all);
    }

-- ---- What becomes of the request

same_number : (r n : ℕ) → r ≡ n → eqb n r ≡ true
same_number r n e = grind (arith, nat_tests)

changed : (r : ℕ) (change : Record → Record) (current : Option Record) (q : Record) → current ≡ Some q → r ≡ q.number → option_map (if_numbered r change) current ≡ Some (change q)
changed r change current q is same =
    ap (λ (o : Option Record). option_map (if_numbered r change) o) is
    ∙ ap (λ (b : Bool). Some (when b change q)) (same_number r q.number same)

-- A step in reading, and one in cancelling.
record ReadStep (fate : world.Fate) (out : Out) (last : Bool) : Type 0 where
  phase : phase_by (world.stepped last fate) out ≡ cond last Settled Reading
  uncancelled : world.is_cancelled fate ≡ false
  status : status_by (world.stepped last fate) false (phase_by (world.stepped last fate) out) ≡ cond last shown.Finished (status_by fate false (phase_by fate out))

read_step : (fate : world.Fate) (out : Out) (last : Bool) → PhaseTells Reading fate out → ReadStep fate out last
read_step fate out last t = rw (t.0, t.2) (read_by t.1 last)
  where
    read_by : (n : ℕ) (last : Bool) → ReadStep world.Open (Whole n) last
    read_by n true = record { phase = refl; uncancelled = refl; status = refl }
    read_by n false = record { phase = refl; uncancelled = refl; status = refl }

record SkippedStep (fate : world.Fate) (out : Out) (last : Bool) : Type 0 where
  phase : phase_by (world.stepped last fate) out ≡ Cancelling
  stopped : world.is_cancelled fate ≡ true
  status : status_by (world.stepped last fate) false (phase_by (world.stepped last fate) out) ≡ status_by fate false (phase_by fate out)
  acknowledged : phase_by world.Acknowledged out ≡ Settled
  ends : status_by world.Acknowledged false (phase_by world.Acknowledged out) ≡ shown.Acknowledged

skipped_step : (fate : world.Fate) (out : Out) (last : Bool) → PhaseTells Cancelling fate out → SkippedStep fate out last
skipped_step fate out last t = rw t.0 (skipped_by out last t.1)
  where
    skipped_by : (out : Out) (last : Bool) → out ≢ NotBegun → SkippedStep world.Cancelled out last
    skipped_by NotBegun last some = absurd (some refl)
    skipped_by (Begun n) last some = record { phase = refl; stopped = refl; status = refl; acknowledged = refl; ends = refl }
    skipped_by (Whole n) last some = record { phase = refl; stopped = refl; status = refl; acknowledged = refl; ends = refl }

-- ---- A step, at the client and in the model

-- A client that holds what the step leaves.
client_is : (after : ClientSession) (c : Connection) (q : Record) (r place : ℕ) (step : answer.Step) (d : ℕ) (p : Phase) → c.current ≡ Some q → r ≡ q.number → heard_after c.heard step ≡ Some d → phase_of (gives step q) ≡ p → BeginsBy p (gives step q) (mark_after step.reset c.mark) → after.stage ≡ stage_by p (gives step q) → after.heard ≡ at d (mark_after step.reset c.mark) → AreColumns after.columns → MatchesClient after (client_acts c (Step r place step))
client_is after c q r place step d p is same applies phase begins stage heard known =
    let now : option_map (if_numbered r (gives step)) c.current ≡ Some (gives step q) = changed r (gives step) c.current q is same in record {
      stage = stage ∙ sym (ap stage_in now ∙ ap (λ (x : Phase). stage_by x (gives step q)) phase);
      descriptor = ap (λ (h : Heard). h.descriptor) heard ∙ sym (ap (λ (o : Option ℕ). unwrap_or o c.heard) applies);
      mark = ap (λ (h : Heard). h.mark) heard;
      done = ap (λ (h : Heard). h.done) heard;
      columns = known;
      begins =
          subst (λ (o : Option Record). BeginsIn o (mark_after step.reset c.mark)) (sym now)
          (subst (λ (x : Phase). BeginsBy x (gives step q) (mark_after step.reset c.mark)) (sym phase) begins);
    }

reads_alike : (last : Bool) (s : ClientSession) (c : Connection) (q : Record) (r place : ℕ) (step : answer.Step) → step.last ≡ last → MatchesClient s c → c.current ≡ Some q → r ≡ q.number → s.stage ≡ client.Reading → PhaseTells Reading q.fate q.out → (k : IsRead false s c step) → RefinesHear c q (Step r place step) (Ok (read s last (behind k.heard.descriptor (mark_after step.reset c.mark) last) (contents_of s.columns (flat_map spelling step.tokens))))
reads_alike true s c q r place step ends m is same stage phase k =
    let one : ReadStep q.fate q.out step.last = read_step q.fate q.out step.last phase in record {
      took = read s true (behind k.heard.descriptor (mark_after step.reset c.mark) true) (contents_of s.columns (flat_map spelling step.tokens));
      lawful = refl;
      matches =
          client_is _ c q r place step k.heard.descriptor Settled is same k.heard.applies
          (one.phase ∙ ap (λ (b : Bool). cond b Settled Reading) ends) tt refl refl tt;
      told = (
        gives step q,
        changed r (gives step) c.current q is same,
        record {
          given =
              ap (λ (b : Bool). cond b q.given (q.given ++ told step.tokens)) one.uncancelled
              ∙ ap (λ (ts : List Token). q.given ++ told ts) (sym k.tokens);
          status = one.status ∙ ap (λ (b : Bool). cond b shown.Finished (request_status false q)) ends;
        },
      );
    }
reads_alike false s c q r place step ends m is same stage phase k =
    let one : ReadStep q.fate q.out step.last = read_step q.fate q.out step.last phase in record {
      took = read s false (behind k.heard.descriptor (mark_after step.reset c.mark) false) (contents_of s.columns (flat_map spelling step.tokens));
      lawful = refl;
      matches =
          client_is _ c q r place step k.heard.descriptor Reading is same k.heard.applies
          (one.phase ∙ ap (λ (b : Bool). cond b Settled Reading) ends) tt stage refl k.known;
      told = (
        gives step q,
        changed r (gives step) c.current q is same,
        record {
          given =
              ap (λ (b : Bool). cond b q.given (q.given ++ told step.tokens)) one.uncancelled
              ∙ ap (λ (ts : List Token). q.given ++ told ts) (sym k.tokens);
          status = one.status ∙ ap (λ (b : Bool). cond b shown.Finished (request_status false q)) ends;
        },
      );
    }

skips_alike : (last : Bool) (s : ClientSession) (c : Connection) (q : Record) (r place : ℕ) (step : answer.Step) → step.last ≡ last → MatchesClient s c → c.current ≡ Some q → r ≡ q.number → s.stage ≡ client.Cancelling → PhaseTells Cancelling q.fate q.out → (k : IsRead true s c step) → RefinesHear c q (Step r place step) (Ok (skipped s last (behind k.heard.descriptor (mark_after step.reset c.mark) last) (contents_of s.columns (flat_map spelling step.tokens))))
skips_alike true s c q r place step ends m is same stage phase k =
    let one : SkippedStep q.fate q.out step.last = skipped_step q.fate q.out step.last phase in record {
      took = skipped s true (behind k.heard.descriptor (mark_after step.reset c.mark) true) (contents_of s.columns (flat_map spelling step.tokens));
      lawful = refl;
      matches = client_is _ c q r place step k.heard.descriptor Cancelling is same k.heard.applies one.phase tt refl refl tt;
      told = (
        gives step q,
        changed r (gives step) c.current q is same,
        record {
          given = ap (λ (b : Bool). cond b q.given (q.given ++ told step.tokens)) one.stopped ∙ sym (append-nil q.given);
          status = one.status;
        },
      );
    }
skips_alike false s c q r place step ends m is same stage phase k =
    let one : SkippedStep q.fate q.out step.last = skipped_step q.fate q.out step.last phase in record {
      took = skipped s false (behind k.heard.descriptor (mark_after step.reset c.mark) false) (contents_of s.columns (flat_map spelling step.tokens));
      lawful = refl;
      matches = client_is _ c q r place step k.heard.descriptor Cancelling is same k.heard.applies one.phase tt stage refl k.known;
      told = (
        gives step q,
        changed r (gives step) c.current q is same,
        record {
          given = ap (λ (b : Bool). cond b q.given (q.given ++ told step.tokens)) one.stopped ∙ sym (append-nil q.given);
          status = one.status;
        },
      );
    }

-- The packet of a step, in reading and in cancelling.
reading_is : (s : ClientSession) (c : Connection) (step : answer.Step) (k : IsRead false s c step) → taken_reading s step.last (flat_map spelling step.tokens) ≡ Ok (read s step.last (behind k.heard.descriptor (mark_after step.reset c.mark) step.last) (contents_of s.columns (flat_map spelling step.tokens)))
unfolding taken_reading
reading_is s c step k = ap (λ x. x >>= λ heard. Ok (read s step.last heard (contents_of s.columns (flat_map spelling step.tokens)))) k.hears

skipping_is : (s : ClientSession) (c : Connection) (step : answer.Step) (k : IsRead true s c step) → taken_cancelling s step.last (flat_map spelling step.tokens) ≡ Ok (skipped s step.last (behind k.heard.descriptor (mark_after step.reset c.mark) step.last) (contents_of s.columns (flat_map spelling step.tokens)))
unfolding taken_cancelling
skipping_is s c step k = ap (λ x. x >>= λ heard. Ok (skipped s step.last heard (contents_of s.columns (flat_map spelling step.tokens)))) k.hears

stage_is : (s : ClientSession) (c : Connection) (q : Record) (p : Phase) → MatchesClient s c → c.current ≡ Some q → phase_of q ≡ p → s.stage ≡ stage_by p q
stage_is s c q p m is phase = m.stage ∙ (ap stage_in is ∙ ap (λ (x : Phase). stage_by x q) phase)

-- At this stage, with the end's bit as the packet has it.
at_stage : (s : ClientSession) (c : Connection) (q : Record) (e : Down) (stage : client.Stage) (last : Bool) → s.stage ≡ stage → has_bit (bits_of (down_packet e).header.status) 1 ≡ last → RefinesHear c q e (taken_in stage s last (down_packet e).body) → RefinesHear c q e (taken s (has_bit (bits_of (down_packet e).header.status) 1) (down_packet e).body)
at_stage s c q e stage last is bit h =
    subst (λ (x : client.Stage). RefinesHear c q e (taken_in x s (has_bit (bits_of (down_packet e).header.status) 1) (down_packet e).body)) (sym is)
    (subst (λ (b : Bool). RefinesHear c q e (taken_in stage s b (down_packet e).body)) (sym bit) h)

step_alike : AreRead → (s : ClientSession) (c : Connection) (q : Record) (r place : ℕ) (step : answer.Step) → MatchesClient s c → c.current ≡ Some q → r ≡ q.number → (phase_of q ≡ Reading) ⊎ (phase_of q ≡ Cancelling) → HasSpelling step → IsHeardOn c (Step r place step) → IsSaid step → RefinesHear c q (Step r place step) (taken s (has_bit (bits_of (down_packet (Step r place step)).header.status) 1) (down_packet (Step r place step)).body)
step_alike again s c q r place step m is same phase spelled heard said = elim phase [
  | inl e ↦
      let k : IsRead false s c step = step_read again false s c step m spelled (by_reset false step.reset c step refl heard.0.0 heard.0.1 heard.1 said) in
      at_stage s c q (Step r place step) client.Reading step.last (stage_is s c q Reading m is e) (end_bit step.last)
      (subst (λ x. RefinesHear c q (Step r place step) x) (sym (reading_is s c step k))
      (reads_alike step.last s c q r place step refl m is same (stage_is s c q Reading m is e) (told_at again.tells Reading q e) k))
  | inr e ↦
      let k : IsRead true s c step = step_read again true s c step m spelled (by_reset true step.reset c step refl heard.0.0 heard.0.1 heard.1 said) in
      at_stage s c q (Step r place step) client.Cancelling step.last (stage_is s c q Cancelling m is e) (end_bit step.last)
      (subst (λ x. RefinesHear c q (Step r place step) x) (sym (skipping_is s c step k))
      (skips_alike step.last s c q r place step refl m is same (stage_is s c q Cancelling m is e) (told_at again.tells Cancelling q e) k))
]

-- ---- An acknowledgement

-- Its tokens are read whatever columns are known, and heard.
record IsAcknowledged (s : ClientSession) (c : Connection) (changes : List EnvChange) : Type 0 where
  descriptor : ℕ
  applies : heard_behind c.heard changes ≡ Some descriptor
  contents : Contents
  taken : taken_cancelling s true (flat_map spelling (acknowledging changes)) ≡ Ok (skipped s true (with_done (at descriptor c.mark) Acknowledged) contents)

acknowledged_is : AreRead → (s : ClientSession) (c : Connection) (changes : List EnvChange) → MatchesClient s c → FitsAcknowledgement changes → (d : ℕ) → heard_behind c.heard changes ≡ Some d → IsAcknowledged s c changes
unfolding taken_cancelling
acknowledged_is again s c changes m fits d applies =
    let bytes : List ℕ = flat_map spelling (acknowledging changes) in
    let here = again.anywhere s.columns (acknowledging changes) bytes fits.spelled.0 fits.spelled.1 in
    let all : contents_of s.columns bytes ≡ record { tokens = acknowledging changes; fault = None; columns = here.0 } = again.contents s.columns (acknowledging changes) bytes here.0 here.1 in
    let contents : Contents = record { tokens = acknowledging changes; fault = None; columns = here.0 } in
    record {
      descriptor = d;
      applies = applies;
      contents = contents;
      taken =
          ap (λ (x : Contents). hear_packet true s.heard true x >>= λ heard. Ok (skipped s true heard x)) all
          ∙ (ap (λ (x : Heard). hear_packet true x true contents >>= λ heard. Ok (skipped s true heard contents)) (same_heard s.heard c.heard c.mark m.descriptor m.mark m.done)
          ∙ ap (λ x. x >>= λ heard. Ok (skipped s true heard contents)) (acknowledgement_heard c.heard d c.mark changes here.0 applies));
    }

acknowledgement_alike : AreRead → (s : ClientSession) (c : Connection) (q : Record) (r place : ℕ) (changes : List EnvChange) → MatchesClient s c → c.current ≡ Some q → r ≡ q.number → phase_of q ≡ Cancelling → IsAcknowledged s c changes → RefinesHear c q (Acknowledgement r place changes) (taken s (has_bit (bits_of (down_packet (Acknowledgement r place changes)).header.status) 1) (down_packet (Acknowledgement r place changes)).body)
acknowledgement_alike again s c q r place changes m is same phase k =
    let one : SkippedStep q.fate q.out true = skipped_step q.fate q.out true (told_at again.tells Cancelling q phase) in
    let now : option_map (if_numbered r acknowledges) c.current ≡ Some (acknowledges q) = changed r acknowledges c.current q is same in
    at_stage s c q (Acknowledgement r place changes) client.Cancelling true (stage_is s c q Cancelling m is phase) refl
    (subst (λ x. RefinesHear c q (Acknowledgement r place changes) x) (sym k.taken) (record {
      took = skipped s true (with_done (at k.descriptor c.mark) Acknowledged) k.contents;
      lawful = refl;
      matches = record {
        stage = sym (ap stage_in now ∙ ap (λ (x : Phase). stage_by x (acknowledges q)) one.acknowledged);
        descriptor = sym (ap (λ (o : Option ℕ). unwrap_or o c.heard) k.applies);
        mark = refl;
        done = refl;
        columns = tt;
        begins = subst (λ (o : Option Record). BeginsIn o c.mark) (sym now) (subst (λ (x : Phase). BeginsBy x (acknowledges q) c.mark) (sym one.acknowledged) tt);
      };
      told = (acknowledges q, now, record { given = sym (append-nil q.given); status = one.ends });
    }))

pub hear_alike : AreRead → (s : ClientSession) (c : Connection) (q : Record) (e : Down) → MatchesClient s c → c.current ≡ Some q → IsAwaited c q e → RefinesHear c q e (taken s (has_bit (bits_of (down_packet e).header.status) 1) (down_packet e).body)
hear_alike again s c q (Step r place step) m is a = step_alike again s c q r place step m is a.0 a.1 a.2 a.3 a.4
hear_alike again s c q (Acknowledgement r place changes) m is a = acknowledgement_alike again s c q r place changes m is a.0 a.1 (acknowledged_is again s c changes m a.2 a.3.0 a.3.1)
