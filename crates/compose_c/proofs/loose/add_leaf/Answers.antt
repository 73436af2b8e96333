use Rattle.compose_c.proofs.NextDefinition.{next_added}
use Rattle.compose_c.proofs.loose.add_leaf.Goals as goal

pub returns : goal.returns
returns c =
    next_added c.args.arrays.now c.args.draft.now.table c.add.new.self.table c.args.sequence.now c.in-Some.text.now c.len.result c.add.result c.len.ensures c.in-Some.ensures
    c.add.ensures.added c.add.ensures.refused
