use Rattle.std.proofs.Common.{◌≡◌, sym, eqb-true, length, get_or, arith}
use Rattle.compose_cert.proofs.Numerals.{spelled_by_value, empty_spells_none, zero_spells_none, positive}
use Rattle.compose_cert.proofs.numeral.number_in.Goals as goal
use Rattle.compose_cert.proofs.numeral.number_in.Goals.{else-word-gt1-via-then-word-gt1+else-word-eq48, else-word-gt1-via-else-word-gt1}

pub returns-then-is_empty : goal.returns-then-is_empty
returns-then-is_empty c = empty_spells_none c.args.notation c.args.most c.args.word.now c.requires (omega arith) (eqb-true _ 0 (sym c.if-is_empty.ensures))

pub returns-then-word-eq48 : goal.returns-then-word-eq48
returns-then-word-eq48 c = zero_spells_none c.args.notation c.args.most c.args.word.now c.requires (omega arith) (omega arith) (omega arith)

pub returns : goal.returns
returns c =
    let word = c.args.word.now in
    let some = positive (length word) (sym c.if-is_empty.ensures) in
    let no_zero : get_or word 0 0 ≡ 48 → length word ≡ 1 =
    λ z. elim c.else-word-gt1.branch [ else-word-gt1-via-then-word-gt1+else-word-eq48 w ↦ absurd (omega arith) | else-word-gt1-via-else-word-gt1 w ↦ omega arith ] in
    rw c.value_of.ensures (spelled_by_value c.args.notation c.args.most word c.requires (omega arith) some no_zero)
