use Rattle.std.proofs.Common.{Err, ◌≡◌, ◌∙◌, ◌+◌, ◌-◌, ◌≤◌, ◌++◌, ◌∷◌, [], ℕ, List, Option, false, sym, ap, arith, subst, length, take, drop}
use Rattle.tds_play.specs.Failures.{Carry, HasFailed, failures}
use Rattle.tds_play.proofs.Failing.{carried_no_more, fails_no_more, stuck_fails}
use Rattle.tds_play.specs.Pipe.{IsFaithful, Pipe, Brings, Changes, carried_on, since, stuck_on, traffic}
use Rattle.tds_play.specs.declared.carrier.CarrierError.TheVariants.{Memory}
use Rattle.tds_play.specs.Ties.{counted, with_counted}
use Rattle.tds_play.proofs.Carrying.{count_is, count_twice, number_same, cut_same, tied_after, brought_more, long_tail, no_error, stuck_tied}
use Rattle.std.proofs.Common.{refl}
use Rattle.std.proofs.lemmas.List.{take-append-drop}
use Rattle.tds_play.specs.Reads.{BringsAny}
use Rattle.tds_play.proofs.any_bytes.Stays.{brings_more, brings_nothing, brings_still, brought_at_first, counted_at_first, open_came, stuck_came}
use Rattle.tds_play.proofs.any_bytes.Faithful.{carried_faithful, next_came, stuck_faithful}
use Rattle.tds_play.proofs.Unasked.{carries_on, carries_then, sends_stuck, sends_then}
use Rattle.tds_play.proofs.link.Link.carry.Goals as goal

pub pieces-preserved : goal.pieces-preserved
pieces-preserved g c =
    let i = c.pieces.invariant in
    let d = c.args.direction in
    let conn : ℕ = c.args.self.now.number in
    let old : ℕ → Option Pipe = g.C.EventCarrier.pipes c.pieces.carrier in
    let new : ℕ → Option Pipe = g.C.EventCarrier.pipes c.carry.new.self in
    let piece : ℕ = c.in-Ok.piece in
    let before : List ℕ = c.pieces.out.items in
    let after : List ℕ = c.carry.new.out.items in
    let done = c.came.ensures in
    let brings = c.in-Ok.ensures in
    let ok : Changes old new conn (carried_on (old conn) d (drop (length before) after)) = subst (λ (k : ℕ). Changes old new k (carried_on (old k) d (drop (length before) after))) i.number brings.ok in
    let back : IsFaithful (new conn) → IsFaithful (old conn) = (λ f. carried_faithful (old conn) d (drop (length before) after) (subst IsFaithful ok.here f)) in
    let next : IsFaithful (new conn) → drop (length before) after ≡ take (length (drop (length before) after)) (drop (length (traffic (old conn) d).came) (traffic (old conn) d).handed) = (λ f. next_came c.pieces.self.to_server c.pieces.self.to_client (old conn) d (drop (length before) after) (i.tied.holds i.live) (subst IsFaithful ok.here f)) in
    let bytes : IsFaithful (new conn) → after ≡ before ++ take piece (drop (length (traffic (old conn) d).came) (traffic (old conn) d).handed) = (λ f.
    sym (take-append-drop (length before) after) ∙ ap (λ (xs : List ℕ). xs ++ drop (length before) after) brings.kept ∙ ap (λ (xs : List ℕ). before ++ xs) (next f)
    ∙ ap (λ (n : ℕ). before ++ take n (drop (length (traffic (old conn) d).came) (traffic (old conn) d).handed)) (long_tail before after piece brings.count)) in
    let still = brings.began (λ e. no_error piece Memory c.carry.result c.in-Ok.is (c.in-Ok.is ∙ e)) in
    let most : piece ≤ c.pieces.left = brings.most in
    let under : piece ≤ counted c.pieces.self d = omega (arith, most, i.underway) in
    let left : c.args.count - (c.pieces.left - piece) ≡ (c.args.count - c.pieces.left) + piece = omega (arith, most, i.within) in
    let now : counted c.pieces.self d ≡ counted c.args.self.now d - (c.args.count - c.pieces.left) = ap (λ l. counted l d) i.counted ∙ count_is c.args.self.now d _ in
    let less : counted c.pieces.self d - piece ≡ counted c.args.self.now d - (c.args.count - (c.pieces.left - piece)) = omega (arith, now, left, most, i.within, i.underway) in
    record {
      number = ap (λ l. l.number) done ∙ number_same c.pieces.self d _ ∙ i.number;
      live = ap (λ l. l.is_cut) done ∙ cut_same c.pieces.self d _ ∙ i.live;
      tied = rw done (tied_after c.pieces.self d piece _ _ _ i.tied i.live under (long_tail before after piece brings.count) ok.here);
      others = λ other differs. ok.others other differs ∙ i.others other differs;
      within = omega (arith, most, i.within);
      underway = rw (done, count_is c.pieces.self d (counted c.pieces.self d - piece)) (omega (arith, most, i.underway));
      counted =
          done ∙ ap (λ (n : ℕ). with_counted c.pieces.self d n) less
          ∙ ap (λ l. with_counted l d (counted c.args.self.now d - (c.args.count - (c.pieces.left - piece)))) i.counted
          ∙ count_twice c.args.self.now d _ _;
      begun = still ∙ i.begun;
      early = carries_then (g.C.EventCarrier.began c.pieces.carrier) (g.C.EventCarrier.began c.carry.new.self) conn conn new (carried_on (old conn) d (drop (length before) after)) refl still ok.here
          (carries_on (since (g.C.EventCarrier.began c.pieces.carrier) conn) (old conn) d (drop (length before) after) i.early);
      faithful = λ f. i.faithful (back f);
      brought = λ f. subst (λ (n : ℕ). Brings (g.C.EventCarrier.pipes c.args.carrier.now conn) d n c.args.out.now.items after (new conn) false) (sym left)
          (brought_more c.args.self.now _ (old conn) (new conn) d (c.args.count - c.pieces.left) piece c.args.out.now.items before after (c.requires.tied.holds c.requires.live) (omega (arith, c.requires.underway)) (i.brought (back f)) (bytes f) ok.here);
      any = subst (λ (n : ℕ). BringsAny d n c.args.out.now.items after (g.C.EventCarrier.pipes c.args.carrier.now conn) (new conn)) (sym left)
          (brings_more d (c.args.count - c.pieces.left) piece c.args.out.now.items before after (drop (length before) after) (g.C.EventCarrier.pipes c.args.carrier.now conn) (old conn) (new conn) i.any
          (sym (take-append-drop (length before) after) ∙ ap (λ (xs : List ℕ). xs ++ drop (length before) after) brings.kept) (long_tail before after piece brings.count)
          (λ e. ap (λ p. (traffic p e).came) ok.here ∙ open_came (old conn) d (drop (length before) after) e (i.tied.holds i.live).is_open));
      failed = λ call. ap (λ p. failures p call) ok.here ∙ carried_no_more (old conn) d (drop (length before) after) call ∙ i.failed call;
    }

pub returns-clause-failed : goal.returns-clause-failed
returns-clause-failed g c = λ fine.
    let conn : ℕ = c.args.self.now.number in
    fails_no_more (Carry c.args.direction ∷ []) false (g.C.EventCarrier.pipes c.args.carrier.now conn) (g.C.EventCarrier.pipes c.pieces.carrier conn) c.pieces.invariant.failed fine

pub returns-in-Err-Lost-clause-failed : goal.returns-in-Err-Lost-clause-failed
returns-in-Err-Lost-clause-failed g c = λ fine.
    let i = c.pieces.invariant in
    let d = c.args.direction in
    let conn : ℕ = c.args.self.now.number in
    let old : ℕ → Option Pipe = g.C.EventCarrier.pipes c.pieces.carrier in
    let new : ℕ → Option Pipe = g.C.EventCarrier.pipes c.carry.new.self in
    let lost : Changes old new conn (stuck_on (old conn) d) = subst (λ (k : ℕ). Changes old new k (stuck_on (old k) d)) i.number (c.carry.ensures.lost (c.in-Err-Lost.is ∙ ap Err c.in-Err-Lost.field-0-is)) in
    subst (HasFailed (Carry d ∷ [])) (sym lost.here) (stuck_fails (old conn) d (i.tied.holds i.live).is_open (λ call. i.failed call ∙ fine call))

pub pieces-init : goal.pieces-init
pieces-init g c = record {
  number = refl;
  live = c.requires.live;
  tied = c.requires.tied;
  others = λ other differs. refl;
  within = omega arith;
  underway = c.requires.underway;
  counted = counted_at_first c.args.self.now c.args.direction c.args.count;
  begun = refl;
  early = c.requires.early;
  faithful = λ f. f;
  brought = λ f. brought_at_first (g.C.EventCarrier.pipes c.args.carrier.now c.args.self.now.number) c.args.direction c.args.count c.args.out.now.items;
  any =
      let none : 0 ≡ c.args.count - c.args.count = omega arith in
      let pipe : Option Pipe = g.C.EventCarrier.pipes c.args.carrier.now c.args.self.now.number in
      subst (λ (n : ℕ). BringsAny c.args.direction n c.args.out.now.items c.args.out.now.items pipe pipe) none (brings_nothing c.args.direction c.args.out.now.items pipe pipe (λ d. refl));
  failed = λ call. refl;
}

pub returns-clause-any : goal.returns-clause-any
returns-clause-any g c =
    let conn : ℕ = c.args.self.now.number in
    let all : c.args.count - c.pieces.left ≡ c.args.count = omega (arith, c.pieces-test.false) in
    subst (λ (n : ℕ). BringsAny c.args.direction n c.args.out.now.items c.pieces.out.items (g.C.EventCarrier.pipes c.args.carrier.now conn) (g.C.EventCarrier.pipes c.pieces.carrier conn)) all c.pieces.invariant.any

pub returns-in-Err-Lost-clause-any : goal.returns-in-Err-Lost-clause-any
returns-in-Err-Lost-clause-any g c =
    let i = c.pieces.invariant in
    let d = c.args.direction in
    let conn : ℕ = c.args.self.now.number in
    let old : ℕ → Option Pipe = g.C.EventCarrier.pipes c.pieces.carrier in
    let new : ℕ → Option Pipe = g.C.EventCarrier.pipes c.carry.new.self in
    let failed = c.in-Err-Lost.is ∙ ap Err c.in-Err-Lost.field-0-is in
    let lost : Changes old new conn (stuck_on (old conn) d) = subst (λ (k : ℕ). Changes old new k (stuck_on (old k) d)) i.number (c.carry.ensures.lost failed) in
    brings_still d (c.args.count - c.pieces.left) c.args.out.now.items c.pieces.out.items c.carry.new.out.items (g.C.EventCarrier.pipes c.args.carrier.now conn) (old conn) (new conn) i.any (c.carry.ensures.nothing failed)
    (λ e. ap (λ p. (traffic p e).came) lost.here ∙ stuck_came (old conn) d e)

pub returns-in-Err-Lost-clause-ties : goal.returns-in-Err-Lost-clause-ties
returns-in-Err-Lost-clause-ties g c =
    let i = c.pieces.invariant in
    let d = c.args.direction in
    let conn : ℕ = c.args.self.now.number in
    let old : ℕ → Option Pipe = g.C.EventCarrier.pipes c.pieces.carrier in
    let new : ℕ → Option Pipe = g.C.EventCarrier.pipes c.carry.new.self in
    let failed = c.in-Err-Lost.is ∙ ap Err c.in-Err-Lost.field-0-is in
    let lost : Changes old new conn (stuck_on (old conn) d) = subst (λ (k : ℕ). Changes old new k (stuck_on (old k) d)) i.number (c.carry.ensures.lost failed) in
    record {
      tied = stuck_tied c.pieces.self (old conn) (new conn) d lost.here i.tied;
      others = λ other differs. lost.others other differs ∙ i.others other differs;
      begun = c.carry.ensures.began (λ e. let bad = sym failed ∙ e in absurd (cc)) ∙ i.begun;
      faithful = λ f. i.faithful (stuck_faithful (old conn) d (subst IsFaithful lost.here f));
    }

pub returns-in-Err-Lost-clause-brought : goal.returns-in-Err-Lost-clause-brought
returns-in-Err-Lost-clause-brought g c = λ f.
    let i = c.pieces.invariant in
    let d = c.args.direction in
    let conn : ℕ = c.args.self.now.number in
    let old : ℕ → Option Pipe = g.C.EventCarrier.pipes c.pieces.carrier in
    let new : ℕ → Option Pipe = g.C.EventCarrier.pipes c.carry.new.self in
    let failed = c.in-Err-Lost.is ∙ ap Err c.in-Err-Lost.field-0-is in
    let lost : Changes old new conn (stuck_on (old conn) d) = subst (λ (k : ℕ). Changes old new k (stuck_on (old k) d)) i.number (c.carry.ensures.lost failed) in
    let so_far = i.brought (stuck_faithful (old conn) d (subst IsFaithful lost.here f)) in
    record {
      bytes = c.carry.ensures.nothing failed ∙ so_far.bytes;
      pipe = lost.here ∙ ap (λ (p : Option Pipe). stuck_on p d) so_far.pipe;
    }

-- ---- What the carrier needs, and what may go out

pub carry-requires-clause-early : goal.carry-requires-clause-early
carry-requires-clause-early g c =
    let i = c.pieces.invariant in
    let conn : ℕ = c.args.self.now.number in
    let told = g.C.EventCarrier.began c.pieces.carrier in
    let pipes : ℕ → Option Pipe = g.C.EventCarrier.pipes c.pieces.carrier in
    carries_then told told conn c.pieces.self.number pipes (pipes conn) i.number refl refl i.early

pub returns-clause-sends : goal.returns-clause-sends
returns-clause-sends g c = c.pieces.invariant.early.sends

pub returns-in-Err-Lost-clause-sends : goal.returns-in-Err-Lost-clause-sends
returns-in-Err-Lost-clause-sends g c =
    let i = c.pieces.invariant in
    let d = c.args.direction in
    let conn : ℕ = c.args.self.now.number in
    let old : ℕ → Option Pipe = g.C.EventCarrier.pipes c.pieces.carrier in
    let new : ℕ → Option Pipe = g.C.EventCarrier.pipes c.carry.new.self in
    let failed = c.in-Err-Lost.is ∙ ap Err c.in-Err-Lost.field-0-is in
    let lost : Changes old new conn (stuck_on (old conn) d) = subst (λ (k : ℕ). Changes old new k (stuck_on (old k) d)) i.number (c.carry.ensures.lost failed) in
    sends_then (g.C.EventCarrier.began c.pieces.carrier) (g.C.EventCarrier.began c.carry.new.self) conn conn new (stuck_on (old conn) d) refl (c.carry.ensures.began (λ e. let bad = sym failed ∙ e in absurd (cc))) lost.here
    (sends_stuck (since (g.C.EventCarrier.began c.pieces.carrier) conn) (old conn) d i.early)
