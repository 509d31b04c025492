use Rattle.std.specs.Prelude.{is_none}
use Rattle.std.proofs.Common.{false, [], ◌∷◌, ◌≡◌, ◌∙◌, ◌++◌, ℕ, List, Bool, Option, sym, ap, subst}
use Rattle.tds_client.specs.Sending as client
use Rattle.tds_client.specs.Session.{ClientSession, unless_idle}
use Rattle.tds_world.specs.Caller.{cancels}
use Rattle.tds_world.specs.Connection.{Connection}
use Rattle.tds_world.specs.Pool.{comes_back, place_back}
use Rattle.tds_play.specs.Plays.{RepresentsConnection, after}
use Rattle.tds_play.specs.Seats.{seated}
use Rattle.tds_play.specs.Pipe.{Pipe}
use Rattle.tds_play.proofs.Cancelled.{back_played}
use Rattle.tds_play.proofs.Doing.{ok_so}
use Rattle.tds_play.proofs.Outward.{given}
use Rattle.tds_play.specs.Failures.{Send}
use Rattle.tds_packet.specs.declared.kind.Direction.TheVariants.{ToServer}
use Rattle.tds_play.proofs.Failing.{sent_so}
use Rattle.tds_play.proofs.Tying.{if_told, ties_numbered}
use Rattle.tds_play.proofs.any_bytes.Stays.{stays_numbered, stays_twice}
use Rattle.tds_play.proofs.Unasked.{sends_at}
use Rattle.tds_play.proofs.link.Link.give_up.Goals as goal

pub returns-clause-refines : goal.returns-clause-refines
returns-clause-refines g c = λ size engine p d played few.
    let conn : ℕ = c.args.self.now.number in
    let old : ℕ → Option Pipe = g.C.EventCarrier.pipes c.args.carrier.now in
    let put = c.in_ok-cancel_request.ensures in
    let out = c.in_ok-lost.ensures in
    let idle : Bool = is_none (unless_idle c.cancel_request.new.client.stage) in
    let a = c.cancels_alike.ensures c.args.client.now d (played.lives c.requires.live).stands.client in
    let does = ok_so (client.cancelled c.args.client.now) a.0 _ a.1 put.cancelled in
    let bytes = c.as_slice.ensures.value ∙ does.3 ∙ ap (λ (xs : List ℕ). xs ++ a.0.bytes) c.new-out.ensures.items in
    let waits : idle ≡ is_none (unless_idle a.0.session.stage) = ap (λ s. is_none (unless_idle s.stage)) does.1 in
    let handed = given ToServer conn c.cancel_request.new.self c.hand_over.new.self old (g.C.EventCarrier.pipes c.hand_over.new.carrier) c.as_slice.result.now c.in_ok-lost.lost
    put.number (c.requires.tied.holds c.requires.live).is_open
    (λ e. let h = out.nothing e in (h.1, ap g.C.EventCarrier.pipes h.2)) out.handed out.counted in
    let then = back_played (record { appends = c.sends_append.ensures.to_server; tells = c.phases_tell.ensures; stays = c.the_other_stays.ensures.cancels; unseen = c.pool_is_unseen.ensures }) c.idle_alike.ensures conn size engine c.args.self.now c.cancel_request.new.self c.hand_over.new.self (seated p c.args.client.now) idle (old conn) (g.C.EventCarrier.pipes c.hand_over.new.carrier conn) d c.as_slice.result.now
    played c.requires.live a does.2 bytes waits few handed in
    let back : Connection = after (comes_back (cancels d)) d in
    record {
      idle = waits ∙ c.idle_alike.ensures a.0.session (cancels d) a.3;
      outcome = then.0;
      played = subst (λ (s : ClientSession). RepresentsConnection conn size engine c.hand_over.new.self (seated (place_back idle) s) (g.C.EventCarrier.pipes c.hand_over.new.carrier conn) back) (sym does.1) then.1;
    }

pub returns-clause-failed : goal.returns-clause-failed
returns-clause-failed g c =
    sent_so c.args.self.now.number c.cancel_request.new.self.number (Send ToServer ∷ []) c.in_ok-lost.lost
    (g.C.EventCarrier.pipes c.args.carrier.now) (g.C.EventCarrier.pipes c.hand_over.new.carrier)
    c.in_ok-cancel_request.ensures.number (c.in_ok-lost.ensures.failed [] false)

pub returns-clause-still : goal.returns-clause-still
returns-clause-still g c =
    let conn : ℕ = c.args.self.now.number in
    let pipe : Option Pipe = g.C.EventCarrier.pipes c.args.carrier.now conn in
    let put = c.in_ok-cancel_request.ensures in
    let handed = stays_numbered c.cancel_request.new.self.number conn c.cancel_request.new.self c.hand_over.new.self (g.C.EventCarrier.pipes c.args.carrier.now) (g.C.EventCarrier.pipes c.hand_over.new.carrier) put.number c.in_ok-lost.ensures.still in
    stays_twice c.args.self.now c.cancel_request.new.self c.hand_over.new.self pipe pipe (g.C.EventCarrier.pipes c.hand_over.new.carrier conn) (put.still pipe) handed

pub returns-clause-number : goal.returns-clause-number
returns-clause-number g c = c.in_ok-lost.ensures.number ∙ c.in_ok-cancel_request.ensures.number

pub returns-clause-columns : goal.returns-clause-columns
returns-clause-columns g c = c.in_ok-cancel_request.ensures.columns

pub returns-clause-ties : goal.returns-clause-ties
returns-clause-ties g c =
    ties_numbered c.args.self.now.number c.cancel_request.new.self.number c.hand_over.new.self
    (g.C.EventCarrier.pipes c.args.carrier.now) (g.C.EventCarrier.pipes c.hand_over.new.carrier) (g.C.EventCarrier.began c.args.carrier.now) (g.C.EventCarrier.began c.hand_over.new.carrier)
    c.in_ok-cancel_request.ensures.number c.in_ok-lost.ensures.ties

pub returns-clause-session : goal.returns-clause-session
returns-clause-session g c = if_told (client.cancelled c.args.client.now) _ _ (λ e h. h.1) c.in_ok-cancel_request.ensures.cancelled

pub hand_over-requires-clause-once : goal.hand_over-requires-clause-once
hand_over-requires-clause-once g c =
    sends_at (g.C.EventCarrier.began c.args.carrier.now) (g.C.EventCarrier.pipes c.args.carrier.now) c.args.self.now.number c.cancel_request.new.self.number c.in_ok-cancel_request.ensures.number c.requires.unasked
