use Rattle.std.proofs.Common.{◌≡◌, ◌∙◌, sym, ap, arith, Some, None}
use Rattle.std.specs.Prelude.{slice_get, option_copied}
use Rattle.compose_lex.proofs.Firsts.{cut_first}
use Rattle.compose_find.specs.FindReturns.{words}
use Rattle.compose_find.proofs.Percents.{percent_piece, plain_piece}
use Rattle.compose_find.proofs.percent.piece_at.Goals.{in_default-via-in-Some+in_default, in_default-via-in_default}
use Rattle.compose_find.proofs.percent.piece_at.Goals as goal

pub range_from-requires : goal.range_from-requires
range_from-requires c =
    λ _. cut_first c.args.text.now c.as_bytes.result.now c.in-Some-eq37.field-0.now c.utf8.text c.as_bytes.ensures.value c.in-Some-eq37.ensures.value (omega (arith, c.in-Some-eq37.field-0-test))

pub returns-in-Some-eq37 : goal.returns-in-Some-eq37
returns-in-Some-eq37 c =
    percent_piece (words c.args.meanings) c.args.text.now c.in-Some-eq37.field-0.now c.range_from.result.now c.meaning_at.result
    (c.in-Some-eq37.ensures.value ∙ ap (λ xs. slice_get xs 0) c.as_bytes.ensures.value) (omega (arith, c.in-Some-eq37.field-0-test)) c.range_from.ensures.value c.meaning_at.ensures

pub returns-in_default : goal.returns-in_default
returns-in_default c =
    let first = c.first.ensures.value ∙ ap (λ xs. slice_get xs 0) c.as_bytes.ensures.value in
    plain_piece (words c.args.meanings) c.args.text.now c.split_plain.result.0.now c.split_plain.result.1.now c.requires
    (λ b at is. elim c.in_default.branch [
      | in_default-via-in-Some+in_default w ↦ w.in_default.field-0-test.1 (let same : Some b ≡ Some w.in_default.field-0.now = at ∙ sym first ∙ ap option_copied w.in_default.is in cc)
      | in_default-via-in_default w ↦ (let same : Some b ≡ None = at ∙ sym first ∙ ap option_copied w.in_default.is in cc)
    ])
    c.split_plain.ensures.plain c.split_plain.ensures.rest
