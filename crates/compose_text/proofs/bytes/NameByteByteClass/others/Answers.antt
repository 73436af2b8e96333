use Rattle.std.proofs.Common.{ℕ, leb, cond, bit_and, refl, arith}
use Rattle.compose_text.proofs.Lanes.{joined, with_constant, constant, masked}
use Rattle.compose_text.proofs.bytes.NameByteByteClass.others.Goals as goal

abbrev at_most : ℕ → ℕ → ℕ
at_most a b = cond (leb a b) 255 0

pub returns : goal.returns
returns c =
    let v = c.args.bytes in
    let long = c.fits-bytes.0 in
    let from_a = joined _ _ _ v (with_constant _ v 16 _ long) (constant v 16 _ long) in
    let from_0 = with_constant _ v 16 _ long in
    let letters = joined at_most _ _ v (constant v 16 _ long) from_a in
    let digits = joined at_most _ _ v (constant v 16 _ long) from_0 in
    masked _ _ v _ (omega arith) c.fits-bytes.1 (joined bit_and _ _ v (joined bit_and _ _ v letters digits) (with_constant _ v 16 _ long)) refl
