-- A play that opens a connection stands for the world that does.
use Rattle.std.proofs.Common.{◌≡◌, ◌∙◌, ℕ, Bool, List, [], ◌∷◌, ◌++◌, length, Option, Some, None, sym, ap, subst, arith}
use Rattle.tds_session.specs.Answer.{Answers}
use Rattle.tds_world.specs.declared.event.Event.TheVariants as event
use Rattle.tds_world.specs.declared.event.Setup.{Setup}
use Rattle.tds_world.specs.declared.outcome.Opened.TheVariants as opened
use Rattle.tds_world.specs.declared.outcome.Outcome.{Outcome}
use Rattle.tds_world.specs.declared.outcome.Outcome.TheVariants as outcome
use Rattle.tds_world.specs.declared.report.Place.TheVariants.{Leased}
use Rattle.tds_world.specs.Connection.{Connection, new_connection}
use Rattle.tds_world.specs.Events.{settles}
use Rattle.tds_world.specs.Losses.{loss_by, world_then}
use Rattle.tds_world.specs.Pool.{opens, to_lend}
use Rattle.tds_world.specs.World.{World, Opens, next_number, put}
use Rattle.tds_play.specs.Seats.{Seated}
use Rattle.tds_play.specs.declared.player.Player.{Player}
use Rattle.tds_play.specs.Pipe.{Pipe, AreSame}
use Rattle.tds_play.specs.Player.{RefinesEvent, RepresentsWorld, all_of}
use Rattle.tds_play.specs.Pooled.{numbers_kept, numbers_leased}
use Rattle.tds_play.specs.Steps.{HoldsBy, SameSetup}
use Rattle.tds_play.specs.Plays.{RepresentConnections, RepresentsConnection, cut_where, holdings_of}
use Rattle.tds_play.proofs.AllPlayed.{push_played}
use Rattle.tds_play.proofs.Held.{given_held}
use Rattle.tds_play.proofs.LossWorld.{IsMoved, opened_moved, opened_outcome}

-- A new connection, under a new lease; it is cut where the carrier failed.
pub opens_alike : {E S : Type 0} (setup : Setup) (engine : E) (answers : Answers) (w : World) (player new : Player E S) (pipes pipes' : ℕ → Option Pipe) (x : Seated E S) (lease conn : ℕ) (lost : Bool)
    → RepresentsWorld setup engine player pipes w → to_lend setup w ≡ Opens (next_number w.connections)
    → lease ≡ next_number w.leases → conn ≡ next_number w.connections
    → RepresentsConnection conn player.size player.engine x.link x.seat (pipes' conn) (cut_where lost (new_connection player.on_attention (Leased lease)))
    → AreSame pipes pipes' conn → all_of new ≡ all_of player ++ x ∷ []
    → SameSetup player new → HoldsBy new (numbers_leased player.leases ++ Some conn ∷ []) (numbers_kept player.tickets) player.asked_on.items
    → RefinesEvent setup engine answers (record { outcome = outcome.Leased lease conn opened.New; lost = lost }) new pipes' event.Lease w
opens_alike {E} {S} setup engine answers w player new pipes pipes' x lease conn lost is lends at_lease at_conn played same links kept holds =
    let cs : List Connection = w.connections in
    let n : ℕ = next_number cs in
    let fresh : Connection = cut_where lost (new_connection setup.on_attention (Leased (next_number w.leases))) in
    let said : Outcome = outcome.Leased lease conn opened.New in
    let sized : RepresentsConnection conn setup.packet_size engine x.link x.seat (pipes' conn) (cut_where lost (new_connection setup.on_attention (Leased lease))) =
    subst (λ o. RepresentsConnection conn setup.packet_size engine x.link x.seat (pipes' conn) (cut_where lost (new_connection o (Leased lease)))) is.told
    (subst (λ (k : ℕ). RepresentsConnection conn k engine x.link x.seat (pipes' conn) (cut_where lost (new_connection player.on_attention (Leased lease)))) is.size
    (subst (λ (e : E). RepresentsConnection conn player.size e x.link x.seat (pipes' conn) (cut_where lost (new_connection player.on_attention (Leased lease)))) is.engine_is played)) in
    let as_new : RepresentsConnection conn setup.packet_size engine x.link x.seat (pipes' conn) fresh =
    subst (λ (l : ℕ). RepresentsConnection conn setup.packet_size engine x.link x.seat (pipes' conn) (cut_where lost (new_connection setup.on_attention (Leased l)))) at_lease sized in
    let moved : IsMoved (world_then setup answers w (record { event = event.Lease; loss = loss_by lost said })) (settles event.Lease n w (opens setup.on_attention (next_number w.leases) n)).1 (put (length cs) fresh cs) =
    opened_moved setup answers w lost said lends in
    record {
      outcome =
          ap (λ (l : ℕ). outcome.Leased l conn opened.New) at_lease
          ∙ ap (λ (k : ℕ). outcome.Leased (next_number w.leases) k opened.New) at_conn
          ∙ sym (opened_outcome setup answers w lost said lends);
      then = record {
        connections =
            subst (RepresentConnections 1 setup.packet_size engine (all_of new) pipes') (sym moved.connections)
            (subst (λ (ls : List (Seated E S)). RepresentConnections 1 setup.packet_size engine ls pipes' (put (length cs) fresh cs)) (sym links)
            (push_played 1 conn setup.packet_size engine (all_of player) pipes pipes' cs x fresh is.connections (omega (arith, at_conn)) same as_new));
        leases =
            holds.leases_are
            ∙ ap (λ (hs : List (Option ℕ)). hs ++ Some conn ∷ []) is.leases
            ∙ ap (λ (k : ℕ). holdings_of w.leases ++ Some k ∷ []) at_conn
            ∙ given_held w.leases n 0 None
            ∙ ap holdings_of (sym moved.leases);
        tickets = holds.tickets_are ∙ is.tickets ∙ ap holdings_of (sym moved.tickets);
        asked = holds.asked_are ∙ is.asked ∙ sym moved.asked;
        engine_is = kept.engine_is ∙ is.engine_is;
        max = kept.max_is ∙ is.max;
        size = kept.size_is ∙ is.size;
        told = kept.told_is ∙ is.told;
      };
    }
