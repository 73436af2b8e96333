use Rattle.std.proofs.Common.{◌∙◌}
use Rattle.compose_tree.proofs.FirstSource.{root_named}
use Rattle.compose_merging.proofs.Back.{rows_are}
use Rattle.compose_merging.proofs.merging.read_rows.Goals as goal

pub returns : goal.returns
returns c = λ table is.
    (let names = c.args.names.now in let sources = c.args.input.sources.now in let root = c.in-Some.root.now in let rule = c.args.input.rule in
    rows_are names sources root rule c.read_settled.result c.read_settled.ensures table (root_named names sources root rule c.in-Some.ensures ∙ is))
