use Rattle.std.proofs.Common.{◌∙◌, ◌++◌, ℕ, List, ap₂, subst}
use Rattle.compose_report.specs.Outcomes.{IsNoted}
use Rattle.compose_merging.proofs.running.merge_noted.Goals as goal

pub returns : goal.returns
returns g c = record {
  printed = c.in_ok-outcome.outcome;
  is = c.in_ok-outcome.ensures;
  noted = subst (λ (notes : List ℕ). IsNoted notes c.in_ok-outcome.outcome c.with_notes.result)
      (c.in_ok-notes.ensures ∙ ap₂ (λ (a b : List ℕ). a ++ b) c.deref.ensures c.deref-2.ensures) c.with_notes.ensures;
}
