use Rattle.std.proofs.Common.{sym}
use Rattle.relay_logins.specs.Session.{session_in}
use Rattle.relay_logins.proofs.login7.SharedLogin.for_group.Goals as goal

-- src/keys.rt:57:13
pub returns-then-are_all : goal.returns-then-are_all
returns-then-are_all c = sym (c.are_all.ensures c.if-are_all.true (session_in c.args.self.message.items))
