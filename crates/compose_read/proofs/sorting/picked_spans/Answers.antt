use Rattle.std.proofs.Common.{◌∙◌, ◌++◌, ◌%◌, ◌<◌, ℕ, List, [], ◌∷◌, length, get_or, map, take, sym, ap, ap₂, arith, take_all}
use Rattle.std.proofs.lemmas.List.{get_or_default, map-append, take_more}
use Rattle.compose_read.specs.declared.rows.RowSpan.{RowSpan}
use Rattle.compose_read.proofs.sorting.picked_spans.Goals as goal

pub loop-sort_key-preserved : goal.loop-sort_key-preserved
loop-sort_key-preserved c = λ d.
    let ns = c.args.sort_keys.now in let index = c.loop-sort_key.sort_key-index in let span : ℕ → RowSpan = λ n. get_or c.args.spans.now (n % 131072) d in
    let within : index < length ns = omega arith in
    c.in_ok-push.ensures.items
    ∙ ap₂ (λ (ps : List RowSpan) p. ps ++ p ∷ []) (c.loop-sort_key.invariant d) (get_or_default c.args.spans.now (get_or ns index 0 % 131072) _ d (c.requires index 0 within))
    ∙ sym (map-append span (take index ns) (get_or ns index 0 ∷ []))
    ∙ ap (map span) (sym (take_more ns index 0 within))

pub returns : goal.returns
returns c = λ d.
    let ns = c.args.sort_keys.now in
    c.loop-sort_key.invariant d ∙ ap (map (λ n. get_or c.args.spans.now (n % 131072) d)) (take_all c.loop-sort_key.sort_key-index ns (omega arith))
