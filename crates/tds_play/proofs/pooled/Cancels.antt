-- A client that was cancelled has nothing more to cancel.
use Rattle.std.proofs.Common.{◌≡◌, ◌∙◌, ℕ, Bool, true, false, [], ◌++◌, refl, ap, cond}
use Rattle.std.proofs.Math.Dec.{eqb}
use Rattle.tds_client.specs.declared.state.Cancelled.{Cancelled}
use Rattle.tds_client.specs.declared.state.Cancelled.TheVariants as answers
use Rattle.tds_client.specs.Packets.{stop_bytes, ignore}
use Rattle.tds_client.specs.Sending.{Effect, cancelled, cancelled_in, cancelled_sending}
use Rattle.tds_client.specs.Session.{ClientSession, Stage, Idle, Sending, Reading, Cancelling, Broken, with_stage}
use Rattle.tds_packet.specs.declared.kind.Kind.{Kind}
use Rattle.tds_pool.specs.Calls.{bytes_behind, session_behind}

-- A cancel leaves it as it is, and nothing goes out.
pub record HasNoMore (s : ClientSession) : Type 0 where
  pub stays : session_behind (cancelled s) s ≡ s
  pub silent : bytes_behind (cancelled s) ≡ []

no_more_in : (s : ClientSession) (stage : Stage) → s.stage ≡ stage → session_behind (cancelled_in s stage) s ≡ s → bytes_behind (cancelled_in s stage) ≡ [] → HasNoMore s
no_more_in s stage is stays silent = record {
  stays = ap (λ (t : Stage). session_behind (cancelled_in s t) s) is ∙ stays;
  silent = ap (λ (t : Stage). bytes_behind (cancelled_in s t)) is ∙ silent;
}

sending_no_more : (s : ClientSession) (kind : Kind) (packets : ℕ) → HasNoMore (cancelled_sending s kind packets).session
unfolding cancelled_sending
sending_no_more s kind packets = by_count (eqb packets 0)
  where
    by_count : (b : Bool) → HasNoMore (cond {A = Effect Cancelled} b (record { answer = answers.Unsent; session = with_stage s Idle; bytes = [] }) (record { answer = answers.Asked; session = with_stage s Cancelling; bytes = ignore kind packets ++ stop_bytes })).session
    by_count true = no_more_in (with_stage s Idle) Idle refl refl refl
    by_count false = no_more_in (with_stage s Cancelling) Cancelling refl refl refl

no_more_by : (s : ClientSession) (stage : Stage) → s.stage ≡ stage → HasNoMore (session_behind (cancelled_in s stage) s)
no_more_by s Idle is = no_more_in s Idle is refl refl
no_more_by s (Sending kind left packets) is = sending_no_more s kind packets
no_more_by s Reading is = no_more_in (with_stage s Cancelling) Cancelling refl refl refl
no_more_by s Cancelling is = no_more_in s Cancelling is refl refl
no_more_by s (Broken fault) is = no_more_in s (Broken fault) is refl refl

pub no_more : (s : ClientSession) → HasNoMore (session_behind (cancelled s) s)
no_more s = no_more_by s s.stage refl
