use Rattle.std.proofs.Common.{◌≡◌, ◌≤◌, ◌-◌, length, take}
use Rattle.std.specs.Prelude.{Ok}
use Rattle.tds_client.specs.Machine.{Listens}
use Rattle.tds_client.specs.Session.{ClientSession}
use Rattle.tds_wire.specs.Reading.{IsReady}
use Rattle.tds_listen.specs.Hearing.{heard_data}
use Rattle.tds_listen.proofs.hearing.walk_rows.Given as goal

-- so far the first bytes have been passed, and no client that listens was moved by them
abbrev pub invariant-rows : goal.invariant-rows
invariant-rows l = record {
  done : l.done ≤ length l.piece;
  ready : IsReady l.parser;
  same : l.done ≡ 0 → l.parser ≡ l.fn.parser;
  heard : (s : ClientSession) → Listens s.stage → heard_data s l.fn.parser (take l.done l.piece) ≡ Ok (record { session = s; reading = l.parser });
  most : l.parser.walk.most ≡ l.fn.parser.walk.most;
  features : l.parser.walk.features ≡ l.fn.parser.walk.features;
}

abbrev pub decreases-rows : goal.decreases-rows
decreases-rows l = length l.piece - l.done
