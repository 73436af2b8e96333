use Rattle.std.proofs.Common.{not, ◌&&◌, sym, ◌∙◌, ap}
use Rattle.std.specs.Prelude.{is_some}
use Rattle.compose_model.specs.Table.{has_key}
use Rattle.compose_walk.proofs.Starts.{root_below}
use Rattle.compose_compare.proofs.Placed.{root_edge}
use Rattle.compose_compare.proofs.passes.is_unknown.Goals as goal

pub step-requires : goal.step-requires
step-requires g c = root_below (g.T.ComposeTable.definitions c.args.old.now)

pub returns-then-is_some : goal.returns-then-is_some
returns-then-is_some g c =
    let old = g.T.ComposeTable.definitions c.args.old.now in
    sym (ap (λ b. not b && not (has_key c.args.fresh.now c.args.keysym)) (sym (root_edge old c.args.keysym) ∙ ap is_some (sym c.step.ensures) ∙ sym c.is_some.ensures ∙ c.if-is_some.true))

pub returns : goal.returns
returns g c =
    let old = g.T.ComposeTable.definitions c.args.old.now in
    ap not c.is_among.ensures
    ∙ sym (ap (λ b. not b && not (has_key c.args.fresh.now c.args.keysym)) (sym (root_edge old c.args.keysym) ∙ ap is_some (sym c.step.ensures) ∙ sym c.is_some.ensures ∙ c.if-is_some.false))
