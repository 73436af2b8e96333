use Rattle.std.proofs.Common.{rules, ◌≡◌, ◌∙◌, ◌<◌, ℕ, List, length, refl, sym, ap, subst}
use Rattle.std.specs.Prelude.{Result, IfErr}
use Rattle.compose_model.specs.Nodes.{nodes}
use Rattle.compose_model.specs.Table.{Definition}
use Rattle.compose_tree.specs.Targets.{max_nodes}
use Rattle.compose_merge.proofs.Same.{settled_nodes}
use Rattle.compose_merging.specs.Printed.{FailsBack}
use Rattle.compose_merging.specs.declared.asking.MergingFault.{MergingFault}
use Rattle.compose_merging.proofs.Steps.{handed_fault}
use Rattle.compose_merging.proofs.printed.check_back.Goals.{in-Ok, in-Err-TooManyNodes, in-Err-NoMemory}
use Rattle.compose_merging.proofs.printed.check_back.Goals as goal

pub returns-in_err-read-clause-fault : goal.returns-in_err-read-clause-fault
returns-in_err-read-clause-fault g c = λ definitions settles.
    handed_fault (FailsBack c.args.names.now definitions c.args.text.now) c.from_residual.result c.in_err-read.field-0.0 c.from_residual.ensures.1 (c.in_err-read.ensures.fault definitions)

pub returns-clause-fault : goal.returns-clause-fault
returns-clause-fault g c = λ definitions settles.
    (let rows = c.args.rows.now in let fails = FailsBack c.args.names.now definitions c.args.text.now in
    let same : c.in_ok-read.read ≡ rows = c.if-not-are_same.ensures.same refl in
    elim c.match-build.branch [
      | in-Ok w ↦ subst (λ (r : Result (Unit {0}) MergingFault). IfErr r fails) (sym w.result-is) tt
      | in-Err-TooManyNodes w ↦ subst (λ (r : Result (Unit {0}) MergingFault). IfErr r fails) (sym w.result-is)
          (subst (λ (n : ℕ). max_nodes < n) (ap (λ (t : List Definition). length (nodes t)) same ∙ ap length (settled_nodes definitions rows settles)) (w.in-Err-TooManyNodes.ensures.many (search rules)))
      | in-Err-NoMemory w ↦ subst (λ (r : Result (Unit {0}) MergingFault). IfErr r fails) (sym w.result-is) refl
    ])
