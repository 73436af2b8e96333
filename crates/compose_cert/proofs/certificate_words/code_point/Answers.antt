use Rattle.std.proofs.Common.{◌≡◌, length, get_or, arith}
use Rattle.compose_cert.proofs.Padded.{padded_by_value, zero_pads_none}
use Rattle.compose_cert.proofs.certificate_words.code_point.Goals as goal
use Rattle.compose_cert.proofs.certificate_words.code_point.Goals.{else-digits-gt4-via-then-digits-gt4+else-digits-eq48, else-digits-gt4-via-else-digits-gt4}

pub returns-then-digits-eq48 : goal.returns-then-digits-eq48
returns-then-digits-eq48 c = zero_pads_none c.args.digits.now (omega arith) (omega arith)

pub returns : goal.returns
returns c =
    let word = c.args.digits.now in
    let no_zero : get_or word 0 0 ≡ 48 → length word ≡ 4 =
    λ z. elim c.else-digits-gt4.branch [ else-digits-gt4-via-then-digits-gt4+else-digits-eq48 w ↦ absurd (omega arith) | else-digits-gt4-via-else-digits-gt4 w ↦ omega arith ] in
    rw c.value_of.ensures (padded_by_value word (omega arith) no_zero)
