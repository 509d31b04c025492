use Rattle.std.proofs.Common.{◌≤◌, length, take, vec_capacity}
use Rattle.tds_relay.specs.Linking.{ArePlaced}
use Rattle.tds_relay.proofs.links.place_anew.Given as goal

abbrev pub invariant-placing : goal.invariant-placing
invariant-placing l = record {
  room : length l.list ≤ vec_capacity l.places;
  placed : ArePlaced (take l.place l.list) l.places.items;
}
