use Rattle.std.proofs.Common.{[], sym, subst, Option, List, ℕ}
use Rattle.std.specs.Prelude.{unwrap_or}
use Rattle.compose_tree.specs.Targets.{leaf_text}
use Rattle.compose_results.specs.Results.{IsResult}
use Rattle.compose_results.proofs.results.leaf_result.Goals as goal

pub returns : goal.returns
returns g c sources e stand =
    let names = c.args.names.now in let result = c.result_of.result in
    subst (λ (n : Option ℕ). IsResult names n (unwrap_or (leaf_text (g.T.ComposeTable.definitions c.args.table.now) c.args.leaf.0) []) result) (c.named_by-named.ensures sources e stand)
    (subst (λ (t : Option (List ℕ)). IsResult names c.named_by-named.result (unwrap_or t []) result) (sym c.text-text.ensures.value) c.result_of.ensures)
