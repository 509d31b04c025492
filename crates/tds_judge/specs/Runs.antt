-- Runs of bytes, as one step.
use Rattle.std.specs.Prelude.{◌≡◌, ℕ, ◌+◌, ◌-◌, ◌≤◌, ◌<◌, nat_lt, List, length, drop, min, max, if◌then◌else◌}
use Rattle.tds_wire.specs.declared.fault.Refusal.{Refusal}
use Rattle.tds_wire.specs.Reading.{Parser, Sees, Inside, Refuses, next_token}
use Rattle.tds_judge.specs.declared.finding.Direction.{Direction}
use Rattle.tds_judge.specs.declared.finding.Direction.TheVariants.{ToClient}
use Rattle.tds_judge.specs.declared.finding.Spot.{Spot}
use Rattle.tds_judge.specs.declared.frame.Due.TheVariants as due
use Rattle.tds_judge.specs.declared.judge.Judge.{Judge}
use Rattle.tds_judge.specs.declared.parser.Went.{Went}
use Rattle.tds_judge.specs.declared.parser.Went.TheVariants as went
use Rattle.tds_judge.specs.Framing.{frame_by, with_frame}

-- how many bytes lead up to a refusal and over it, from a place on
abbrev pub refused_after : ℕ → Refusal → ℕ
refused_after before refusal = max 1 (min 18446744073709551615 (refusal.at + 1) - before)

pub record IsRefused (n : ℕ) (r : Parser) (piece : List ℕ) : Type 0 where
  pub refusal : Refusal
  pub refuses : next_token r piece ≡ Refuses refusal
  pub after : n ≡ min (refused_after (r.start + r.passed) refusal) (length piece)

-- what a run of bytes comes to, between these two
abbrev pub IsWent : Went → Parser → Parser → List ℕ → Type 0
IsWent went.Inside r s piece = next_token r piece ≡ Inside s
IsWent (went.Ends n token) r s piece =
    (next_token r piece ≡ Sees token s (drop n piece)) × (0 < n) × (n ≤ length piece)
IsWent (went.Fails n refusal) r s piece = (h : IsRefused n r piece) × (h.refusal ≡ refusal)

-- so many bytes of data have gone by, fewer than are left
abbrev pub passed : Direction → ℕ → ℕ → Judge → Judge
passed direction left n j = with_frame direction (record (frame_by direction j) {
  due = due.Data (left - n);
  offset = min 18446744073709551615 ((frame_by direction j).offset + n);
}) j

-- where the last of so many bytes to the client stands
abbrev pub place : ℕ → ℕ → ℕ
place offset n = if nat_lt 1 n then min 18446744073709551615 (offset + (n - 1)) else offset

abbrev pub spot_at : ℕ → ℕ → Spot
spot_at offset time = record { direction = ToClient; offset = offset; time = time }

-- so many bytes to the client have come, and the last one ends the judging
abbrev pub failed : ℕ → ℕ → Judge → Judge
failed left n j = record j {
  server = record j.server {
    due = due.Data (left - (n - 1));
    offset = min 18446744073709551615 (j.server.offset + n);
  };
}
