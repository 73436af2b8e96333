use Rattle.std.proofs.Common.{◌+◌, drop, arith, length-drop}
use Rattle.compose_tree.proofs.Adding.{next_is_node}
use Rattle.compose_tree.proofs.rows.target_at.Goals as goal

pub returns-else-index-sequence : goal.returns-else-index-sequence
returns-else-index-sequence c =
    next_is_node c.args.node c.args.leaf (drop (c.args.index + 1) c.args.sequence.now) (omega (arith, length-drop (c.args.index + 1) c.args.sequence.now))
