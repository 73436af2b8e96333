use Rattle.std.proofs.Common.{◌∙◌, sym, ap, arith}
use Rattle.std.specs.Prelude.{Some}
use Rattle.compose_fresh.specs.declared.fault.CheckFault.TheVariants.{TypingUnasked}
use Rattle.compose_check.proofs.TypingConditions.{character_left, typing_left}
use Rattle.compose_check.proofs.typings.check_ends.Goals as goal

pub returns-then-end-count : goal.returns-then-end-count
returns-then-end-count c = λ names new.
    sym
    (character_left names new c.args.repertoire.now c.args.repertoire.now.characters c.args.certificate.now.typings c.args.end c.char_at.result c.char_at.ensures
    (omega (arith, c.count.ensures.count)))

pub returns-then-end-typing_count : goal.returns-then-end-typing_count
returns-then-end-typing_count c = λ names new.
    ap (λ k. Some (TypingUnasked k)) c.character.ensures
    ∙ sym
    (typing_left names new c.args.repertoire.now c.args.repertoire.now.characters c.args.certificate.now.typings c.args.end c.typing.result.now c.typing.ensures
    (omega (arith, c.count.ensures.count)))
