use Rattle.std.proofs.Common.{◌∙◌, ◌++◌, ◌∷◌, [], ◌&&◌, cond, map, sym, ap}
use Rattle.compose_lint.specs.Lost.{is_lost}
use Rattle.compose_lint.proofs.OneLine.{no_lines, next_lost}
use Rattle.compose_lint.proofs.lost.push_lost.Goals as goal

pub loop-line-preserved : goal.loop-line-preserved
loop-line-preserved c =
    let marked = c.loop-line.marked in let unended = c.is_unended-unended.result in let before = c.loop-line.before.now in
    let line = c.in-Some.line.now in let found = map (λ x. x.now) c.loop-line.lost.items in
    next_lost marked unended before line c.loop-line.rest.now c.in-Some.after.now found (map (λ x. x.now) c.push_if_lost.new.lost.items) _ c.in-Some.ensures.lines
    (c.in_ok-push_if_lost.ensures
    ∙ ap (λ cut. found ++ cond (is_lost marked cut before line) (line ∷ []) []) (c.is_cut-cut.ensures ∙ ap (λ none. unended && none) (sym (no_lines c.in-Some.after.now))))
    c.loop-line.invariant
