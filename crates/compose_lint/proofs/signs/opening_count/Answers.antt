use Rattle.compose_lint.proofs.AtOnce.{openings_masked}
use Rattle.compose_lint.proofs.signs.opening_count.Goals as goal

pub returns : goal.returns
returns c = openings_masked c.args.bytes c.fits-bytes.0
