use Rattle.std.proofs.Common.{rules}
use Rattle.compose_migration.specs.declared.refusal.Refusal.TheVariants.{NoMemory}
use Rattle.compose_migration.proofs.Steps.{refusal_gives}
use Rattle.compose_check.specs.Input.{parts_of}
use Rattle.compose_check.specs.CheckReturns.{input_of}
use Rattle.compose_tool.specs.Answers.{IsChecked}
use Rattle.compose_tool.proofs.checking.check_migration.Goals as goal

pub returns-in_err-parts : goal.returns-in_err-parts
returns-in_err-parts g c = refusal_gives IsChecked c.from_residual.result c.in_err-parts.field-0.0 (parts_of (input_of c.args.input.now)) (search rules) c.in_err-parts.ensures

pub returns-in_err-from_str-in-Yes : goal.returns-in_err-from_str-in-Yes
returns-in_err-from_str-in-Yes g c = refusal_gives IsChecked c.from_residual-in_err-from_str-in-Yes.result NoMemory (parts_of (input_of c.args.input.now)) (search rules) tt
