use Rattle.std.proofs.Common.{rules, ◌≡◌, ◌∙◌, sym, true, false}
use Rattle.compose_model.specs.declared.Rule.TheVariants.{Longest}
use Rattle.compose_tree.specs.TableReturns.{first_table}
use Rattle.compose_service_runs.proofs.Decided.{no_table}
use Rattle.compose_service_runs.proofs.taking.is_refused.Goals.{in-Err-Read, in-Err-Settle, in-Err-Build, in-Ok, in-Err-NoMemory}
use Rattle.compose_service_runs.proofs.taking.is_refused.Goals as goal

pub returns : goal.returns
returns g c =
    let view = g.T.ComposeTable.definitions in let expected = first_table c.args.names.now c.args.sources.now Longest in
    elim c.match-read_first_table.branch [
      | in-Ok w ↦ λ other. (let clash : true ≡ false = sym other ∙ w.result-is in absurd (cc))
      | in-Err-NoMemory w ↦ λ other. (let clash : true ≡ false = sym other ∙ w.result-is in absurd (cc))
      | in-Err-Read w ↦ λ other. no_table view w.in-Err-Read.field-0 expected (λ memory. search rules) w.in-Err-Read.ensures.value
      | in-Err-Settle w ↦ λ other. no_table view w.in-Err-Settle.field-0 expected (λ memory. search rules) w.in-Err-Settle.ensures.value
      | in-Err-Build w ↦ λ other. no_table view w.in-Err-Build.field-0 expected (λ memory. search rules) w.in-Err-Build.ensures.value
    ]
