use Rattle.std.proofs.Common.{rules, map}
use Rattle.compose_migration.specs.declared.refusal.Refusal.TheVariants.{NoMemory}
use Rattle.compose_migration.proofs.Steps.{refusal_gives}
use Rattle.compose_check.specs.Input.{allowed_parts}
use Rattle.compose_check.specs.CheckReturns.{input_of}
use Rattle.compose_tool.specs.Answers.{IsCheckedFor}
use Rattle.compose_tool.proofs.checking.check_allowed.Goals as goal

pub returns-in_err-parts : goal.returns-in_err-parts
returns-in_err-parts g c =
    let expected = allowed_parts (map (λ word. word.now) c.args.key_names.now) (input_of c.args.input.now) in
    refusal_gives IsCheckedFor c.from_residual.result c.in_err-parts.field-0.0 expected (search rules) c.in_err-parts.ensures

pub returns-in_err-from_str-in-None : goal.returns-in_err-from_str-in-None
returns-in_err-from_str-in-None g c =
    let expected = allowed_parts (map (λ word. word.now) c.args.key_names.now) (input_of c.args.input.now) in
    refusal_gives IsCheckedFor c.from_residual-in_err-from_str-in-None.result NoMemory expected (search rules) tt
