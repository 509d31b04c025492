-- Why a lease isn't kept: the pool refuses it where a play does, and says why in words of its own.
use Rattle.std.proofs.Common.{◌≡◌, ℕ, Bool, true, false, ◌||◌, Option, Some, None, refl, cond}
use Rattle.std.proofs.Math.Dec.{eqb}
use Rattle.std.specs.Prelude.{is_none, option_map}
use Rattle.tds_client.specs.Session.{ClientSession, Stage, Idle, unless_idle}
use Rattle.tds_packet.specs.declared.status.Reset.{Reset}
use Rattle.tds_packet.specs.declared.status.Reset.TheVariants.{Full, KeepTransaction}
use Rattle.tds_pool.specs.Calls.{has_no_transaction, unless_open}
use Rattle.tds_pool.specs.declared.answers.PoolRefusal.TheVariants.{NoTransaction}
use Rattle.tds_world.specs.Pool.{is_full}
use Rattle.tds_play.specs.Pooled.{keeps_not}
use Rattle.tds_play.specs.Seats.{unless_kept, unless_kept_by}

plain_mark : (b : Bool) → option_map keeps_not (cond b (Some NoTransaction) None) ≡ unless_kept_by true (b || false)
plain_mark true = refl
plain_mark false = refl

full_mark : (b : Bool) → option_map keeps_not (Some NoTransaction) ≡ unless_kept_by true (b || true)
full_mark true = refl
full_mark false = refl

by_mark : (descriptor : ℕ) (mark : Option Reset) → option_map keeps_not (cond (has_no_transaction descriptor mark) (Some NoTransaction) None) ≡ unless_kept_by true (eqb descriptor 0 || is_full mark)
by_mark descriptor None = plain_mark (eqb descriptor 0)
by_mark descriptor (Some Full) = full_mark (eqb descriptor 0)
by_mark descriptor (Some KeepTransaction) = plain_mark (eqb descriptor 0)

by_stage : (s : ClientSession) (stage : Stage) → option_map keeps_not (unless_open s stage) ≡ unless_kept_by (is_none (unless_idle stage)) (eqb s.heard.descriptor 0 || is_full s.heard.mark)
by_stage s Idle = by_mark s.heard.descriptor s.heard.mark
by_stage s stage = refl

pub unkept_alike : (s : ClientSession) → option_map keeps_not (unless_open s s.stage) ≡ unless_kept s
unkept_alike s = by_stage s s.stage
