use Rattle.std.proofs.Common.{◌∙◌, sym, ap}
use Rattle.compose_model.specs.Step.{is_empty}
use Rattle.compose_state.specs.Texts.{text_bytes}
use Rattle.compose_check.proofs.TypingConditions.{character_not_empty}
use Rattle.compose_check.proofs.typings.is_empty.Goals as goal

pub returns-in-Char : goal.returns-in-Char
returns-in-Char c = sym (ap (λ t. is_empty (text_bytes t)) c.in-Char.is ∙ character_not_empty c.in-Char.field-0)
