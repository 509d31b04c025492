use Rattle.std.proofs.Common.{◌≡◌, ◌+◌, length, string_bytes}
use Rattle.tds_wire.specs.Reading.{IsReady}
use Rattle.tds_show.specs.Messages.{IsPlain, after, lines_from, lines_of}
use Rattle.tds_show.proofs.tokens.message.put_tokens.Given as goal

-- what is left has the lines that are to come
abbrev pub invariant-tokens : goal.invariant-tokens
invariant-tokens l = record {
  does : after (string_bytes l.fn.text) (lines_of l.fn.data) ≡ after (string_bytes l.text) (lines_from l.most l.parser.walk.columns l.parser.start l.rest);
  ready : IsReady l.parser;
  plain : IsPlain l.parser;
  within : l.parser.start + length l.rest ≡ length l.fn.data;
}

abbrev pub decreases-tokens : goal.decreases-tokens
decreases-tokens l = l.most
