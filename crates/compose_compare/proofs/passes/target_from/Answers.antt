use Rattle.std.proofs.Common.{sym, ◌∙◌, ap}
use Rattle.compose_tree.specs.Targets.{target_of}
use Rattle.compose_compare.proofs.Placed.{found_path, no_target}
use Rattle.compose_compare.proofs.passes.target_from.Goals as goal

pub returns-in-Some : goal.returns-in-Some
returns-in-Some g c = λ p e.
    c.step.ensures
    ∙ ap (λ q. target_of (g.T.ComposeTable.definitions c.args.table.now) q c.args.keysym) (found_path (g.T.ComposeTable.definitions c.args.table.now) p c.in-Some.node (sym c.in-Some.is ∙ e))

pub returns-in-None : goal.returns-in-None
returns-in-None g c = λ p e. no_target (g.T.ComposeTable.definitions c.args.table.now) p c.args.keysym (sym c.in-None.is ∙ e)
