use Rattle.std.proofs.Common.{refl, inl, inr, ◌∙◌, ap, ◌++◌, subst, string_bytes, option_copied}
use Rattle.compose_input.specs.Faults.{FailsFound}
use Rattle.compose_input.specs.Tables.{IsFoundOnSystem}
use Rattle.compose_given.proofs.Failing.{handed, memory}
use Rattle.compose_given.specs.Faults.{FailsChosenTable, OrMemory}
use Rattle.compose_given.specs.Noted.{rule_unless}
use Rattle.compose_given.proofs.chosen.chosen_table.Goals as goal

pub returns-clause-read : goal.returns-clause-read
returns-clause-read g c =
    let places = c.args.places in let path = string_bytes c.in_ok-file.file.path in let table = c.in_ok-table.table in
    record {
      file = c.in_ok-file.file;
      is_file = c.in_ok-file.ensures.chosen;
      is_table = subst (λ f. IsFoundOnSystem f places path (rule_unless c.args.arguments.now.refuse_overlaps) table) c.in_ok-file.ensures.kept
          (subst (λ r. IsFoundOnSystem c.file_or_own.new.files.holds places path r table) c.rule_of-rule.ensures
          (subst (λ p. IsFoundOnSystem c.file_or_own.new.files.holds places p c.rule_of-rule.result table) c.deref.ensures c.in_ok-table.ensures.found));
      noted = c.in_ok-notes.ensures ∙ (ap (λ n. n ++ c.deref-3.result.now) c.deref-2.ensures ∙ ap (λ n. string_bytes c.in_ok-file.file.note ++ n) c.deref-3.ensures);
    }

pub returns-in_err-file-clause-fault : goal.returns-in_err-file-clause-fault
returns-in_err-file-clause-fault g c =
    handed (OrMemory (FailsChosenTable c.args.files.now.holds c.args.environment.now c.args.places (option_copied c.args.arguments.now.file))) c.from_residual.result c.in_err-file.field-0.0
    c.from_residual.ensures.1 (inr (inl c.in_err-file.ensures.fault))

pub returns-in_err-table-clause-fault : goal.returns-in_err-table-clause-fault
returns-in_err-table-clause-fault g c =
    let fault = c.in_err-table.field-0.0 in let places = c.args.places in let path = string_bytes c.in_ok-file.file.path in
    handed (OrMemory (FailsChosenTable c.args.files.now.holds c.args.environment.now places (option_copied c.args.arguments.now.file))) c.from_residual-in_err-table.result fault
    c.from_residual-in_err-table.ensures.1
    (inr (inr (
      c.in_ok-file.file,
      c.in_ok-file.ensures.chosen,
      subst (λ f. FailsFound f places path fault) c.in_ok-file.ensures.kept
          (subst (λ p. FailsFound c.file_or_own.new.files.holds places p fault) c.deref.ensures c.in_err-table.ensures.fault),
    )))

pub returns-in_err-notes-clause-fault : goal.returns-in_err-notes-clause-fault
returns-in_err-notes-clause-fault g c =
    memory (OrMemory (FailsChosenTable c.args.files.now.holds c.args.environment.now c.args.places (option_copied c.args.arguments.now.file))) c.from_residual-in_err-notes.result
    c.from_residual-in_err-notes.ensures.1 (inl refl)
