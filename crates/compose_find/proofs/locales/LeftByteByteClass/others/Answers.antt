use Rattle.std.proofs.Common.{refl, arith}
use Rattle.compose_text.proofs.Lanes.{joined, with_constant, masked}
use Rattle.compose_find.proofs.locales.LeftByteByteClass.others.Goals as goal

pub returns : goal.returns
returns c =
    let v = c.args.bytes in
    let long = c.fits-bytes.0 in
    masked _ _ v _ (omega arith) c.fits-bytes.1
    (joined _ _ _ v (joined _ _ _ v (joined _ _ _ v (with_constant _ v 16 _ long) (with_constant _ v 16 _ long)) (with_constant _ v 16 _ long)) (with_constant _ v 16 _ long)) refl
