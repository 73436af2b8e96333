use Rattle.std.proofs.Common.{refl}
use Rattle.compose_c.proofs.ArraySizes.{lengths}
use Rattle.compose_c.proofs.compile.sizes_of.Goals as goal

pub returns-clause-table : goal.returns-clause-table
returns-clause-table c table packed hints =
    let arrays = c.args.arrays.now in lengths table _ arrays.nodes.now arrays.edges.now arrays.texts.now arrays.long_texts.now packed refl refl refl refl hints
