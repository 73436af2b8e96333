use Rattle.std.proofs.Common.{◌∙◌, sym}
use Rattle.std.proofs.lemmas.List.{take_rest}
use Rattle.compose_cert.proofs.WordRead.{not_a_character, character_as_read}
use Rattle.compose_cert.proofs.certificate_words.character_of.Goals as goal

pub returns-in_err-number : goal.returns-in_err-number
returns-in_err-number c =
    let none = rw (take_rest c.args.word.now 2) at c.in_err-number.ensures in
    c.from_residual.ensures ∙ not_a_character c.args.word.now none

pub returns : goal.returns
returns c =
    let some = rw (take_rest c.args.word.now 2) at c.in_ok-number.ensures in
    character_as_read c.args.word.now c.in_ok-number.number _ (sym c.if-not-starts_with.ensures.value) some c.from_u32.ensures.value c.from_u32.ensures.cases
