use Rattle.std.proofs.Common.{◌≡◌, ◌∙◌, ap, rules}
use Rattle.std.specs.Prelude.{None}
use Rattle.std.specs.Option.{option_map}
use Rattle.compose_diff_rows.specs.Rows.{written, named_sequence}
use Rattle.compose_diff_rows.proofs.Typings.{no_first, first_is, first_below}
use Rattle.compose_diff_rows.proofs.typing.first_typing.Goals as goal

pub sequence_at-requires : goal.sequence_at-requires
sequence_at-requires g c = first_below (g.T.ComposeTable.definitions c.args.new.now.table.now) c.leaves_with-leaves.result.now c.in_ok-leaf.leaf.now c.leaves_with-leaves.ensures.in_table (search rules)

pub returns-in_err-leaf : goal.returns-in_err-leaf
returns-in_err-leaf g c =
    let none : c.from_residual.result ≡ None = search rules in
    ap (option_map named_sequence) none
    ∙ no_first (written g.T.ComposeTable.definitions c.args.new.now) c.args.text.now c.leaves_with-leaves.result.now c.leaves_with-leaves.ensures.sequences (search rules)

pub returns : goal.returns
returns g c =
    c.sequence_at.ensures
    ∙ first_is (written g.T.ComposeTable.definitions c.args.new.now) c.args.text.now c.leaves_with-leaves.result.now c.leaves_with-leaves.ensures.sequences c.in_ok-leaf.leaf.now (search rules)
