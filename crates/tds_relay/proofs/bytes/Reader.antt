-- What a reader has of a packet, and so how this is read.
use Rattle.std.proofs.Common.{◌≡◌, ℕ, Bool, List, subst, inl, inr}
use Rattle.std.specs.Prelude.{Some}
use Rattle.tds_packet.specs.declared.header.Header.{Header}
use Rattle.tds_packet.specs.Layout.{IsPacket}
use Rattle.tds_packet.specs.Reading as readers
use Rattle.tds_relay.specs.declared.pool.coming.Heard.{Heard}
use Rattle.tds_service.specs.declared.service.Service as services
use Rattle.tds_relay.specs.Cutting.{is_last_packet}
use Rattle.tds_relay.specs.TokenParsers.{AllRead, HasRead, ReadsBy, ReadsOn}

pub has_read : (number : ℕ) (r : readers.Reading) (header : Header) (content : List ℕ) (ends : Bool) (old new : services.Service) → IsPacket r.direction r.size r.taken header content → ends ≡ is_last_packet header
    → AllRead number ends content old new → HasRead number r old new
has_read number r header content ends old new packet last all =
    inr (header, content, packet, subst (λ (b : Bool). AllRead number b content old new) last all)

abbrev OnePacket : Type 0
OnePacket = (r : readers.Reading) (one other : Header) (first second : List ℕ) → IsPacket r.direction r.size r.taken one first → IsPacket r.direction r.size r.taken other second → (one ≡ other) × (first ≡ second)

pub reads_one : OnePacket → (number : ℕ) (r : readers.Reading) (old new : services.Service) → HasRead number r old new → ReadsOn number r old new
reads_one unique number r old new (inl h) = record { none = λ not. h.1; one = λ header content packet. absurd (h.0 (header, content, packet)) }
reads_one unique number r old new (inr (header, content, packet, all)) = record {
  none = λ not. absurd (not (header, content, packet));
  one = λ other next its.
      let same = unique r header other content next packet its in
      subst (λ (c : List ℕ). AllRead number (is_last_packet other) c old new) same.1 (subst (λ (x : Header). AllRead number (is_last_packet x) content old new) same.0 all);
}

pub reads_by : OnePacket → (number : ℕ) (r s : readers.Reading) (heard : Heard) (old new : services.Service) → r ≡ s → HasRead number r old new → ReadsBy number s (Some heard) old new
reads_by unique number r s heard old new is h = reads_one unique number s old new (subst (λ (x : readers.Reading). HasRead number x old new) is h)
