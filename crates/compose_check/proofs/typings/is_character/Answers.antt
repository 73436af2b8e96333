use Rattle.std.proofs.Common.{◌∙◌, sym, ap}
use Rattle.std.specs.Prelude.{encode_utf8}
use Rattle.compose_model.specs.Table.{same}
use Rattle.compose_state.specs.Texts.{text_bytes}
use Rattle.compose_check.proofs.TypingConditions.{character_not_none}
use Rattle.compose_check.proofs.typings.is_character.Goals as goal

pub returns-in-Empty : goal.returns-in-Empty
returns-in-Empty c = sym (ap (λ t. same (text_bytes t) (encode_utf8 c.args.character)) c.in-Empty.is ∙ character_not_none c.args.character)
