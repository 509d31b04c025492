-- What comes on a connection over calls that follow each other.
use Rattle.std.proofs.Common.{◌≡◌, ◌∙◌, ℕ, List, [], ◌∷◌, ◌++◌, Option, Some, sym, ap, subst, append_assoc, append-nil}
use Rattle.std.specs.List.{AllByRecursion}
use Rattle.tds_packet.specs.Reading.{Reading, joined, with_taken}
use Rattle.tds_packet.specs.Stream.{IsLess, IsOnePacket}
use Rattle.tds_service.specs.declared.service.Service.{Service}
use Rattle.tds_wire.specs.Reading as parsers
use Rattle.tds_relay.specs.Machine.{Machine}
use Rattle.tds_relay.specs.Reads.{Another, AreReadIn, CallOn, Came, BytesCome, Follow, FollowAt, ReaderTakes, bytes_in, packets_in, packets_in_steps, stands_in}
use Rattle.tds_relay.specs.TokenParsers.{StandsAt, There, stands_behind}
use Rattle.tds_relay.proofs.bytes.Taking.{joined_both, more_are, reads_nothing}

all_both : (P : List ℕ → Type 0) (xs ys : List (List ℕ)) → AllByRecursion P xs → AllByRecursion P ys → AllByRecursion P (xs ++ ys)
all_both P [] ys h k = k
all_both P (x ∷ xs) ys h k = (h.0, all_both P xs ys h.1 k)

-- bytes behind bytes
reads_both : (r mid now : Reading) (xs ys : List ℕ) (ps qs : List (List ℕ)) → ReaderTakes r xs ps (Some mid) → ReaderTakes mid ys qs (Some now) → ReaderTakes r (xs ++ ys) (ps ++ qs) (Some now)
reads_both r mid now xs ys ps qs s t =
    let u : ReaderTakes (with_taken r s.rest) ys qs (Some now) = subst (λ (x : Reading). ReaderTakes x ys qs (Some now)) s.holds.0 t in
    record {
      rest = u.rest;
      each = all_both (IsOnePacket r) ps qs s.each u.each;
      are =
          more_are r.taken xs ys (joined ps) s.rest s.are
          ∙ ap (λ (zs : List ℕ). joined ps ++ zs) u.are
          ∙ sym (append_assoc (joined ps) (joined qs) u.rest)
          ∙ ap (λ (zs : List ℕ). zs ++ u.rest) (sym (joined_both ps qs));
      holds = u.holds;
    }

-- all of them were heard, for the connection is open behind them
came_reads : (number : ℕ) (had now : Reading) (bytes : List ℕ) (old new : Machine) (from to : Service) (c : BytesCome number (Some had) old from bytes (Some now) new to) → IsLess had had.taken
    → ReaderTakes had bytes (packets_in_steps c.streams.streams.steps) (Some now)
came_reads number had now bytes old new from to c few =
    let s = c.streams.streams in
    let all : s.heard ≡ bytes = sym (s.bytes_are ∙ ap (λ (xs : List ℕ). s.heard ++ xs) c.streams.all ∙ append-nil s.heard) in
    subst (λ (o : Option Reading). ReaderTakes had bytes (packets_in_steps s.steps) o) c.has
    (subst (λ (xs : List ℕ). ReaderTakes had xs (packets_in_steps s.steps) c.left) all (s.reads few))

pub follow_reads : {number : ℕ} (calls : List (CallOn number)) (had now : Reading) → IsLess had had.taken → Follow had calls now → ReaderTakes had (bytes_in calls) (packets_in calls) (Some now)
follow_reads [] had now few f = subst (λ (x : Reading). ReaderTakes had [] [] (Some x)) f (reads_nothing had few)
follow_reads {number} (Came r mid bytes old new from to c ∷ calls) had now few f =
    let first : ReaderTakes r bytes (packets_in_steps c.streams.streams.steps) (Some mid) =
    came_reads number r mid bytes old new from to c (subst (λ (x : Reading). IsLess x x.taken) f.0 few) in
    let less : IsLess mid mid.taken = subst (λ (x : Reading). IsLess x x.taken) (sym first.holds.0) first.holds.1 in
    subst (λ (x : Reading). ReaderTakes x (bytes ++ bytes_in calls) (packets_in_steps c.streams.streams.steps ++ packets_in calls) (Some now)) (sym f.0)
    (reads_both r mid now bytes (bytes_in calls) (packets_in_steps c.streams.streams.steps) (packets_in calls) first (follow_reads calls mid now less f.1))
follow_reads (Another r mid from to stays stand ∷ calls) had now few f =
    let same : had ≡ mid = f.0 ∙ (let e : Some r ≡ Some mid = stays in cc) in
    subst (λ (x : Reading). ReaderTakes x (bytes_in calls) (packets_in calls) (Some now)) (sym same)
    (follow_reads calls mid now (subst (λ (x : Reading). IsLess x x.taken) same few) f.1)

-- where its parser stands
pub follow_stands : {number : ℕ} (calls : List (CallOn number)) (from to : Service) (r : parsers.Parser) → FollowAt from calls to → StandsAt number r from
    → AreReadIn r calls × StandsAt number (stands_in r calls) to
follow_stands {number} [] from to r f st = (tt, subst (λ (s : Service). StandsAt number r s) f st)
follow_stands {number} (Came had now bytes old new before behind c ∷ calls) from to r f st =
    let walks = c.streams.streams.walks in
    let there = subst (λ (s : Service). StandsAt number r s) f.0 st in
    let next = stands_behind number r old c.streams.streams.steps in
    let more = follow_stands calls behind to next f.1 (c.stand number (There next) (walks.stand number r there)) in
    ((walks.each number r there, more.0), more.1)
follow_stands {number} (Another had now before behind stays stand ∷ calls) from to r f st =
    follow_stands calls behind to r f.1 (stand number (There r) (subst (λ (s : Service). StandsAt number r s) f.0 st))
