use Rattle.std.proofs.Common.{◌∙◌, sym}
use Rattle.compose_fresh.proofs.Unmet.{none_left}
use Rattle.compose_check.proofs.TypingConditions.{typing_unmet, typing_met}
use Rattle.compose_check.proofs.typings.check_typings.Goals as goal

pub returns-in-Some : goal.returns-in-Some
returns-in-Some g c =
    let new = g.U.ComposeTable.definitions c.args.new.now in
    sym
    (typing_unmet c.args.names.now new c.args.repertoire.now c.args.repertoire.now.characters c.args.certificate.now.typings
    c.loop-index.index c.char_at-character.result c.typing.result.now c.char_at-character.ensures c.typing.ensures c.in-Some.fault
    (sym c.check_typing.ensures ∙ c.in-Some.is))
    ∙ c.loop-index.invariant

pub loop-index-preserved : goal.loop-index-preserved
loop-index-preserved g c =
    let new = g.U.ComposeTable.definitions c.args.new.now in
    typing_met c.args.names.now new c.args.repertoire.now c.args.repertoire.now.characters c.args.certificate.now.typings
    c.loop-index.index c.char_at-character.result c.typing.result.now c.char_at-character.ensures c.typing.ensures
    (sym c.check_typing.ensures ∙ none_left c.check_typing.result c.in_default.not-Some)
    ∙ c.loop-index.invariant
