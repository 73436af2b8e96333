use Rattle.std.proofs.Common.{◌∙◌}
use Rattle.compose_fresh.proofs.Positions.{among}
use Rattle.compose_fresh.proofs.fresh.is_among.Goals as goal

pub returns : goal.returns
returns c = c.is_ok.ensures.value ∙ among c.args.keysyms.now c.args.keysym c.binary_search.result c.requires c.binary_search.ensures.position
