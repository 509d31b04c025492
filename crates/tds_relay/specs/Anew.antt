-- When a request may be asked: a reset that it asks for is done by the server with it (MS-TDS 2.2.3.1.2), or nothing was asked before it.
use Rattle.std.specs.Prelude.{◌≡◌, ◌⊎◌, true, Option, Some, None, is_some}
use Rattle.tds_packet.specs.declared.status.Reset.{Reset}
use Rattle.tds_packet.specs.declared.status.Reset.TheVariants.{Full, KeepTransaction}
use Rattle.tds_front.specs.declared.stage.Stage.{Stage}
use Rattle.tds_front.specs.declared.stage.Stage.TheVariants.{Quiet}
use Rattle.tds_service.specs.Anew.{begins_anew}
use Rattle.tds_service.specs.Service.{Seat, seat_numbered}
use Rattle.tds_relay.specs.declared.pool.Hold.{Hold}
use Rattle.tds_relay.specs.Pool as pool
use Rattle.tds_relay.specs.Pool.{Action, Pool}

-- The next request on a connection begins a session; or, where it is to keep its transaction, resets at least all else.
abbrev pub ResetsNext : Reset → Option Seat → Type 0
ResetsNext reset None = ⊥
ResetsNext Full (Some c) = begins_anew c.line ≡ true
ResetsNext KeepTransaction (Some c) = (begins_anew c.line ≡ true) ⊎ (is_some c.line.heard.mark ≡ true)

-- on the connection that an application holds, where its request asks for one
abbrev pub ResetsFor : Option Reset → Option Hold → Pool → Type 0
ResetsFor None held d = Unit {0}
ResetsFor (Some reset) None d = Unit {0}
ResetsFor (Some reset) (Some hold) d = ResetsNext reset (seat_numbered hold.number d.service.seats)

-- where a request is asked
abbrev pub WhereAsked : Action → Type 0 → Type 0
WhereAsked pool.Asks P = P
WhereAsked (pool.Puts count) P = Unit {0}
WhereAsked (pool.Ends count) P = Unit {0}
WhereAsked pool.Stops P = Unit {0}

-- An application asks nothing: its request has its answer, or was taken back, or none has begun.
abbrev pub AsksNothing : Stage → Type 0
AsksNothing stage = stage ≡ Quiet
