use Rattle.std.proofs.Common.{◌≡◌, ◌∙◌, ◌+◌, ◌-◌, ◌<◌, ◌++◌, ◌∷◌, [], ap, sym, subst, arith, length, map, take, drop, length-drop, Some}
use Rattle.std.specs.Prelude.{slice_get, unwrap_or}
use Rattle.std.specs.List.{All}
use Rattle.std.proofs.lemmas.List.{map_more, take_all}
use Rattle.std.proofs.lemmas.Option.{slice_get-get_or}
use Rattle.compose_read.specs.Sources.{add_fault}
use Rattle.compose_find.specs.Found.{held, held_at}
use Rattle.compose_find.proofs.Held.{no_fault}
use Rattle.compose_find.proofs.Taken.{still_left}
use Rattle.compose_find.proofs.table.FoundTable.new.Goals as goal

pub add_held-requires-clause-new : goal.add_held-requires-clause-new
add_held-requires-clause-new c =
    let files = c.args.files in let found = c.args.found.items in let index = c.loop-index.index in let source = c.index.result.now in
    let within : index < length found = omega (arith, c.loop-index-test.true, c.len-index-end.ensures) in
    let at : slice_get found index ≡ Some source = slice_get-get_or found index source within ∙ ap Some (sym c.index.ensures) in
    ap (λ sources. add_fault sources source.name) c.loop-index.invariant.sources ∙ no_fault files found index source c.requires.distinct c.requires.few at

pub loop-index-preserved : goal.loop-index-preserved
loop-index-preserved c =
    let files = c.args.files in let found = c.args.found.items in let index = c.loop-index.index in let source = c.index.result.now in
    let left = c.loop-index.files in let slice = c.deref.result.now in let new = c.add_held.new.files in
    let within : index < length found = omega (arith, c.loop-index-test.true, c.len-index-end.ensures) in
    let is : held_at left source.path ≡ held_at files source.path = subst (λ s. held_at left s.path ≡ held_at files s.path) (sym c.index.ensures) (c.loop-index.invariant.left index source (omega arith) within) in
    let same : held left source ≡ held files source = ap (λ b. record { name = source.name; bytes = unwrap_or b [] }) is in
    let more : map (held files) (take (index + 1) found) ≡ map (held files) (take index found) ++ held files source ∷ [] =
    map_more (held files) found index source within ∙ ap (λ s. map (held files) (take index found) ++ held files s ∷ []) (sym c.index.ensures) in
    let later : take (length slice - (index + 1)) (drop (index + 1) slice) ≡ drop (index + 1) found =
    take_all (length slice - (index + 1)) (drop (index + 1) slice) (omega (arith, length-drop (index + 1) slice)) ∙ ap (drop (index + 1)) c.deref.ensures.value in
    let kept = subst (All (λ m. held_at new m.path ≡ held_at left m.path)) later c.in_ok-add_held.ensures.kept in
    record {
      sources = c.in_ok-add_held.ensures.added ∙ ap (λ s. c.loop-index.sources ++ s ∷ []) same ∙ ap (λ sources. sources ++ held files source ∷ []) c.loop-index.invariant.sources ∙ sym more;
      left = λ k d from less. still_left files left new found index kept c.loop-index.invariant.left k d from less;
    }
