-- Rows that are whole in a run of a packet's bytes (MS-TDS 2.2.7.19).
use Rattle.std.specs.Prelude.{◌≡◌, ℕ, Some, false}
use Rattle.tds_judge.specs.declared.frame.Due.TheVariants as due
use Rattle.tds_judge.specs.declared.frame.Inside.TheVariants as insides
use Rattle.tds_judge.specs.declared.judge.Judge.{Judge}
use Rattle.tds_wire.specs.Reading.{IsReady, Parser}

-- so many bytes of a packet to the client are left, the parser is between two tokens, and what says
-- nothing changes nothing
pub record IsAtRow (left : ℕ) (j : Judge) : Type 0 where
  pub due : j.server.due ≡ due.Data left
  pub inside : j.server.inside ≡ insides.Walked
  pub parser : (r : Parser) × (j.parser ≡ Some r) × IsReady r
  pub unended : j.talk.is_final ≡ false
