use Rattle.std.proofs.Common.{◌≡◌, ◌∙◌, ◌++◌, ◌∷◌, [], List, take, sym, ap, arith}
use Rattle.compose_readers.specs.Fates.{Entry, fate_of, fates_from}
use Rattle.compose_readers.specs.declared.settling.Fate.{Fate}
use Rattle.compose_readers.proofs.Counted.{fates_more}
use Rattle.compose_readers.proofs.settling.fates_of.Goals as goal

pub loop-at-preserved : goal.loop-at-preserved
loop-at-preserved c =
    let es = c.args.entries.now in let at = c.loop-at.at in let t = c.loop-at-test.true in let e = c.index-entries-at.result in
    c.in_ok-push.ensures.items
    ∙ ap (λ fs. fs ++ c.fate.result ∷ []) c.loop-at.invariant
    ∙ ap (λ (r : Fate). fates_from es 0 (take at es) ++ r ∷ []) (c.fate.ensures es c.in_ok-counting.ensures ∙ ap (λ (x : Entry). fate_of es at x) c.index-entries-at.is)
    ∙ sym (fates_more es es at e (omega (arith, t)))
