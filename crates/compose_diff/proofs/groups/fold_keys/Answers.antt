use Rattle.std.proofs.Common.{List, ℕ, Bor, sym, ◌∙◌, ap, map, take, min}
use Rattle.std.proofs.lemmas.List.{take-map}
use Rattle.compose_diff.proofs.groups.fold_keys.Goals as goal

pub returns : goal.returns
returns c =
    sym (take-map (λ (key : Bor (List ℕ)). key.now) c.min-count.result c.args.row.now.keys.now)
    ∙ ap (λ n. take n (map (λ (key : Bor (List ℕ)). key.now) c.args.row.now.keys.now)) (c.min-count.ensures ∙ ap (λ n. min n 2) c.saturating_sub.ensures)
