-- What a call did that hears a packet's data, put together.
use Rattle.std.proofs.Common.{◌≡◌, [], Option, None, Some, refl}
use Rattle.tds_client.specs.Session.{ClientSession}
use Rattle.tds_wire.specs.Reading.{Parser}
use Rattle.tds_c.specs.declared.wire.hearing.Came.{Came}
use Rattle.tds_c.specs.Hearing.{HearsAll, HearsBy, HearsFrom, Hearing, NothingDone, Ready}
use Rattle.tds_walk.specs.WireCalls.{reading_from}
use Rattle.tds_c.specs.Plain.{client_of}
use Rattle.tds_c.proofs.Ready.{at_ready, is_at_ready}

by_reading : (o : Option Parser) (s : ClientSession) (h : Hearing) (is : Came) → (o ≡ None → NothingDone h is)
    → ((r : Parser) → o ≡ Some r → HearsFrom (record { session = s; reading = r; rest = h.bytes }) h is) → HearsBy (Some s) o h is
by_reading None s h is none some = none refl
by_reading (Some r) s h is none some = some r refl

-- with whatever walk
pub hears_any : (h : Hearing) (is : Came) (s : ClientSession) → client_of h.before.client [] ≡ Some s → (reading_from h.before.walk h.before.memory ≡ None → NothingDone h is)
    → ((r : Parser) → reading_from h.before.walk h.before.memory ≡ Some r → HearsFrom (record { session = s; reading = r; rest = h.bytes }) h is) → HearsAll h is
hears_any h is s held none some = rw held (by_reading (reading_from h.before.walk h.before.memory) s h is none some)

-- between two tokens
pub hears_ready : (h : Hearing) (is : Came) (s : ClientSession) (ready : Ready h.before.walk) → client_of h.before.client [] ≡ Some s
    → HearsFrom (record { session = s; reading = at_ready h.before.walk h.before.memory ready; rest = h.bytes }) h is → HearsAll h is
hears_ready h is s ready held does = rw (held, is_at_ready h.before.walk h.before.memory ready) does
