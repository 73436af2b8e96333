use Rattle.std.proofs.Common.{◌∙◌, ◌<◌, ◌++◌, ◌∷◌, [], length, take, sym, ap, arith, string_bytes}
use Rattle.std.specs.Prelude.{flat_map}
use Rattle.std.proofs.lemmas.List.{take_more, flat_map_more}
use Rattle.compose_details.specs.Input.{unopened_line}
use Rattle.compose_details.proofs.input.push_tried.Goals as goal

pub loop-unopened-preserved : goal.loop-unopened-preserved
loop-unopened-preserved c =
    let us = c.args.tried.now in let i = c.loop-unopened.unopened-index in
    let within : i < length us = omega (arith, c.loop-unopened-test.true) in
    c.in_ok-push_unopened.ensures ∙ ap (λ t. t ++ unopened_line c.unopened-item.result) c.loop-unopened.invariant
    ∙ flat_map_more unopened_line (string_bytes c.args.text.now) (take i us) c.unopened-item.result
    ∙ ap (λ xs. string_bytes c.args.text.now ++ flat_map unopened_line xs) (ap (λ x. take i us ++ x ∷ []) c.unopened-item.is ∙ sym (take_more us i c.unopened-item.result within))
