use Rattle.std.proofs.Common.{◌≡◌, ◌-◌, ◌≤◌, length, drop, Some}
use Rattle.tds_client.specs.Machine.{with_heard}
use Rattle.tds_client.specs.Session.{ClientSession, Reading as IsReading}
use Rattle.tds_wire.specs.Reading.{Parser}
use Rattle.tds_c.specs.Hearing.{HasHeard, Ready}
use Rattle.tds_walk.specs.WireCalls.{reading_from}
use Rattle.tds_c.proofs.wire.hearing.whole.hear_whole.Given as goal

abbrev pub invariant-tokens : goal.invariant-tokens
invariant-tokens l = record {
  ready : Ready l.walk;
  run : (s : ClientSession) (first : Parser) → s.stage ≡ IsReading → s.heard ≡ l.fn.heard → reading_from l.fn.walk l.memory ≡ Some first
      → (reading : Parser) × (reading_from l.walk l.memory ≡ Some reading)
      × HasHeard (record { session = s; reading = first; rest = l.bytes }) (record { session = with_heard s l.heard; reading = reading; rest = drop l.done l.bytes }) (record { before = l.fn.tokens; after = l.tokens; count = l.read });
  same : length l.tokens ≡ length l.fn.tokens;
  room : l.read ≤ length l.fn.tokens;
  within : l.done ≤ length l.bytes;
}

abbrev pub decreases-tokens : goal.decreases-tokens
decreases-tokens l = length l.bytes - l.done
