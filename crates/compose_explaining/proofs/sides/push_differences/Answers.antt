use Rattle.std.proofs.Common.{◌∙◌, ◌<◌, ◌++◌, ◌∷◌, [], length, take, sym, ap, arith, string_bytes}
use Rattle.std.specs.Prelude.{flat_map}
use Rattle.std.proofs.lemmas.List.{take_more, flat_map_more}
use Rattle.compose_explaining.specs.Sides.{difference_text, lined}
use Rattle.compose_explaining.proofs.sides.push_differences.Goals as goal

pub loop-difference-preserved : goal.loop-difference-preserved
loop-difference-preserved g c =
    let view = g.T.ComposeTable.definitions in
    let lines = difference_text c.args.names.now (lined view c.args.old_side c.args.old.now) (lined view c.args.new_side c.args.new.now) in
    let ds = c.args.differences.now in let i = c.loop-difference.difference-index in
    let within : i < length ds = omega (arith, c.loop-difference-test.true) in
    c.in_ok-push_difference.ensures ∙ ap (λ t. t ++ lines c.difference-item.result) c.loop-difference.invariant
    ∙ flat_map_more lines (string_bytes c.args.text.now) (take i ds) c.difference-item.result
    ∙ ap (λ xs. string_bytes c.args.text.now ++ flat_map lines xs) (ap (λ x. take i ds ++ x ∷ []) c.difference-item.is ∙ sym (take_more ds i c.difference-item.result within))
