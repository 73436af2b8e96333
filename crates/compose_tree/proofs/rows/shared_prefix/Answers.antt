use Rattle.std.proofs.Common.{◌+◌, ◌≤◌, length, drop, arith, ap, ◌∙◌, sym, add-zero}
use Rattle.std.proofs.Math.ListN.{drop_of_length-le}
use Rattle.compose_tree.specs.Rows.{shared}
use Rattle.compose_tree.proofs.Adding.{shared_nothing}
use Rattle.compose_tree.proofs.rows.shared_prefix.Goals as goal

pub returns-else-count-other : goal.returns-else-count-other
returns-else-count-other c =
    let n = c.loop-count.count in
    let past : length c.args.other.now ≤ n = omega arith in
    sym
    (c.loop-count.invariant.so_far ∙ ap (λ t. n + shared (drop n c.args.one.now) t) (drop_of_length-le c.args.other.now past) ∙ ap (λ m. n + m) (shared_nothing (drop n c.args.one.now))
    ∙ add-zero n)
