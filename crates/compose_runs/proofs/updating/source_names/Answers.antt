use Rattle.std.proofs.Common.{◌∙◌, ℕ, List, [], ◌∷◌, ◌++◌, Bor, map, ap, sym}
use Rattle.std.proofs.lemmas.List.{map-append}
use Rattle.compose_runs.proofs.SourceNames.{next_name}
use Rattle.compose_runs.proofs.updating.source_names.Goals as goal

pub loop-index-preserved : goal.loop-index-preserved
loop-index-preserved c =
    let now : Bor (List ℕ) → List ℕ = λ name. name.now in let name = c.source_name.result in
    ap (map now) c.in_ok-push.ensures.items
    ∙ (map-append now c.loop-index.names.items (name ∷ [])
    ∙ (ap (λ (names : List (List ℕ)). names ++ name.now ∷ []) c.loop-index.invariant ∙ sym (next_name c.args.sources.now c.loop-index.index name.now c.source_name.ensures)))
