use Rattle.std.proofs.Common.{◌∙◌, ◌++◌, ap, sym, drop, List}
use Rattle.std.proofs.lemmas.List.{append-nil}
use Rattle.compose_listed_as.specs.Judged.{Judged}
use Rattle.compose_listed_as.proofs.Judging.{no_fate}
use Rattle.compose_listed_as.proofs.judged.with_fates.Goals as goal

pub returns-in_default : goal.returns-in_default
returns-in_default c =
    let sofar = c.loop-at.all.items in
    sym (append-nil sofar) ∙ ap (λ (js : List Judged). sofar ++ js) (sym (no_fate (drop c.loop-at.at c.args.told.now) c.args.fates.now c.loop-at.at c.in_default.ensures.lookup.3)) ∙ c.loop-at.invariant
