use Rattle.std.proofs.Common.{inl, inr}
use Rattle.std.proofs.lemmas.Result.{IfOk-at_ok}
use Rattle.tds_text.proofs.HexWords.{decoded_is_spelled, decoded_is_hex, refused_is_none, refused_spells_none}
use Rattle.tds_text.proofs.hexadecimal.word_bytes.Goals as goal

pub returns-in-Ok-clause-bytes : goal.returns-in-Ok-clause-bytes
returns-in-Ok-clause-bytes c = decoded_is_spelled c.args.word.now _ (IfOk-at_ok _ c.in-Ok.is c.decode.ensures.ok)

pub returns-in-Ok-clause-digits : goal.returns-in-Ok-clause-digits
returns-in-Ok-clause-digits c = decoded_is_hex c.args.word.now _ (IfOk-at_ok _ c.in-Ok.is c.decode.ensures.ok)

pub returns-in-Err-clause-wrong : goal.returns-in-Err-clause-wrong
returns-in-Err-clause-wrong c = λ wrong is.
    elim c.in-Err.ensures.err [
      | inl memory ↦ absurd (c.fault_of.ensures (cc wrong) memory)
      | inr refused ↦ absurd (refused_is_none c.args.word.now c.in-Err.error refused is)
    ]

pub returns-in-Err-clause-none : goal.returns-in-Err-clause-none
returns-in-Err-clause-none c = λ wrong.
    elim c.in-Err.ensures.err [
      | inl memory ↦ absurd (c.fault_of.ensures (cc wrong) memory)
      | inr refused ↦ refused_spells_none c.args.word.now c.in-Err.error refused
    ]
