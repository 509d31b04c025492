use Rattle.std.proofs.Common.{◌≡◌, string_bytes}
use Rattle.tds_show.specs.Answers.{shown_after, shown, shown_from}
use Rattle.tds_show.specs.Messages.{IsPlain}
use Rattle.tds_show.proofs.tokens.answers.put_packets.Given as goal

-- what is left has the lines that are to come
abbrev pub invariant-packets : goal.invariant-packets
invariant-packets l = record {
  does : shown_after (string_bytes l.fn.text) (shown l.fn.bytes) ≡ shown_after (string_bytes l.text) (shown_from l.most l.message.items l.rest);
  plain : IsPlain l.parser;
}

abbrev pub decreases-packets : goal.decreases-packets
decreases-packets l = l.most
