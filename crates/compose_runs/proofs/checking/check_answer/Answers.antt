use Rattle.std.proofs.Common.{map, subst, sym, ℕ, List, Bor}
use Rattle.std.specs.Prelude.{Option}
use Rattle.compose_check.specs.Input.{allowed_parts, parts_of}
use Rattle.compose_migration.specs.Refused.{Returns}
use Rattle.compose_tool.specs.Answers.{IsChecked, IsCheckedFor}
use Rattle.compose_runs.specs.Checking.{AnswersCheck, allowed_names}
use Rattle.compose_runs.proofs.checking.check_answer.Goals as goal

pub returns-in-Some : goal.returns-in-Some
returns-in-Some g c =
    let r = c.check_allowed.result in let check = c.args.check.now in let names = map (λ name. name.now) c.in-Some.allowed.now in
    subst (λ (a : Option (Bor (List (Bor (List ℕ))))). AnswersCheck (allowed_names a) r check) (sym c.in-Some.is) (subst (λ i. Returns IsCheckedFor r (allowed_parts names i)) c.input-input.ensures c.check_allowed.ensures)

pub returns-in-None : goal.returns-in-None
returns-in-None g c =
    let r = c.check_migration.result in let check = c.args.check.now in
    subst (λ (a : Option (Bor (List (Bor (List ℕ))))). AnswersCheck (allowed_names a) r check) (sym c.in-None.is) (subst (λ i. Returns IsChecked r (parts_of i)) c.input-input.ensures c.check_migration.ensures)
