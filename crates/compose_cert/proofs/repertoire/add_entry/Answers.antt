use Rattle.std.proofs.Common.{◌≡◌, ◌∙◌, ap, sym, true, false, length, arith, eqb-true}
use Rattle.std.specs.Prelude.{nat_lt}
use Rattle.std.specs.List.{list_all}
use Rattle.compose_model.specs.Certificate.{Repertoire}
use Rattle.compose_cert.proofs.Rising.{range_added, character_added, range_falls, ranges_many, character_falls, characters_many}
use Rattle.compose_cert.proofs.repertoire.add_entry.Goals as goal

pub returns-then-not-is_above_ranges-clause-err : goal.returns-then-not-is_above_ranges-clause-err
returns-then-not-is_above_ranges-clause-err c _ =
    let r : Repertoire = record { characters = c.args.characters.now.items; keys = c.args.keys.now.items } in
    let none : length c.args.characters.now.items ≡ 0 = omega (arith, c.args.characters.now.ok, eqb-true _ 0 (sym c.if-not-is_empty.ensures)) in
    let above : list_all (λ k. nat_lt k.1 c.in-Keys.first) c.args.keys.now.items ≡ false =
    ap (list_all (λ k. nat_lt k.1 c.in-Keys.first)) (sym c.deref.ensures.value) ∙ sym c.if-not-is_above_ranges.ensures in
    rw c.in-Keys.is (range_falls c.args.line c.in-Keys.first c.in-Keys.last r none above)

pub returns-then-len-ge-MOST-clause-err : goal.returns-then-len-ge-MOST-clause-err
returns-then-len-ge-MOST-clause-err c _ =
    let r : Repertoire = record { characters = c.args.characters.now.items; keys = c.args.keys.now.items } in
    let none : length c.args.characters.now.items ≡ 0 = omega (arith, c.args.characters.now.ok, eqb-true _ 0 (sym c.if-not-is_empty.ensures)) in
    let above : list_all (λ k. nat_lt k.1 c.in-Keys.first) c.args.keys.now.items ≡ true =
    ap (list_all (λ k. nat_lt k.1 c.in-Keys.first)) (sym c.deref.ensures.value) ∙ sym c.if-not-is_above_ranges.ensures in
    rw c.in-Keys.is (ranges_many c.args.line c.in-Keys.first c.in-Keys.last r none above (omega arith))

pub returns-then-not-is_above_characters-clause-err : goal.returns-then-not-is_above_characters-clause-err
returns-then-not-is_above_characters-clause-err c _ =
    let r : Repertoire = record { characters = c.args.characters.now.items; keys = c.args.keys.now.items } in
    let above : list_all (λ d. nat_lt d c.in-Character.character) c.args.characters.now.items ≡ false =
    ap (list_all (λ d. nat_lt d c.in-Character.character)) (sym c.deref-in-Character.ensures.value) ∙ sym c.if-not-is_above_characters.ensures in
    rw c.in-Character.is (character_falls c.args.line c.in-Character.character r above)

pub returns-then-len-ge-MOST-2-clause-err : goal.returns-then-len-ge-MOST-2-clause-err
returns-then-len-ge-MOST-2-clause-err c _ =
    let r : Repertoire = record { characters = c.args.characters.now.items; keys = c.args.keys.now.items } in
    let above : list_all (λ d. nat_lt d c.in-Character.character) c.args.characters.now.items ≡ true =
    ap (list_all (λ d. nat_lt d c.in-Character.character)) (sym c.deref-in-Character.ensures.value) ∙ sym c.if-not-is_above_characters.ensures in
    rw c.in-Character.is (characters_many c.args.line c.in-Character.character r above (omega arith))

pub returns-in_ok-push-in-Keys-clause-sound : goal.returns-in_ok-push-in-Keys-clause-sound
returns-in_ok-push-in-Keys-clause-sound c =
    let r : Repertoire = record { characters = c.args.characters.now.items; keys = c.args.keys.now.items } in
    let above : list_all (λ k. nat_lt k.1 c.in-Keys.first) c.args.keys.now.items ≡ true =
    ap (list_all (λ k. nat_lt k.1 c.in-Keys.first)) (sym c.deref.ensures.value) ∙ sym c.if-not-is_above_ranges.ensures in
    let up = rw c.in-Keys.is at c.requires.ordered in
    rw c.in_ok-push-in-Keys.ensures.items (range_added r c.in-Keys.first c.in-Keys.last c.requires.sound above up (omega arith))

pub returns-in_ok-push-in-Character-clause-sound : goal.returns-in_ok-push-in-Character-clause-sound
returns-in_ok-push-in-Character-clause-sound c =
    let r : Repertoire = record { characters = c.args.characters.now.items; keys = c.args.keys.now.items } in
    let above : list_all (λ d. nat_lt d c.in-Character.character) c.args.characters.now.items ≡ true =
    ap (list_all (λ d. nat_lt d c.in-Character.character)) (sym c.deref-in-Character.ensures.value) ∙ sym c.if-not-is_above_characters.ensures in
    rw c.in_ok-push-in-Character.ensures.items (character_added r c.in-Character.character c.requires.sound above (omega arith))
