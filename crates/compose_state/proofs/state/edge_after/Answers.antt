use Rattle.std.proofs.Common.{◌≡◌, ℕ, List, Some, sym, ◌∙◌, ap, option_map}
use Rattle.std.specs.Prelude.{slice_get}
use Rattle.compose_tree.specs.Targets.{target_of}
use Rattle.compose_state.proofs.state.edge_after.Goals as goal

one_keysym : (keysyms : List ℕ) (i j k : ℕ) → slice_get keysyms i ≡ Some j → slice_get keysyms i ≡ Some k → j ≡ k
one_keysym keysyms i j k e f = let same : Some j ≡ Some k = sym e ∙ f in cc

pub returns-in_err-edge_index : goal.returns-in_err-edge_index
returns-in_err-edge_index g c = ap (option_map (λ found. found.1)) c.from_residual.ensures ∙ sym c.in_err-edge_index.ensures

pub returns : goal.returns
returns g c =
    let same = one_keysym _ c.in_ok-edge_index.edge_index c.edge-target.result.0 c.args.keysym c.edge-target.ensures.keysym c.in_ok-edge_index.ensures.1 in
    sym c.edge-target.ensures.target ∙ ap (target_of (g.T.ComposeTable.definitions c.args.table.now) _) same
