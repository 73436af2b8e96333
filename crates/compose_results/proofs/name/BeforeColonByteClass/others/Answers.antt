use Rattle.std.proofs.Common.{refl, arith}
use Rattle.compose_text.proofs.Lanes.{with_constant, masked}
use Rattle.compose_results.proofs.name.BeforeColonByteClass.others.Goals as goal

pub returns : goal.returns
returns c =
    let v = c.args.bytes in
    masked _ _ v _ (omega arith) c.fits-bytes.1 (with_constant _ v 16 _ c.fits-bytes.0) refl
