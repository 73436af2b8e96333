use Rattle.std.proofs.Common.{◌≡◌, ◌∙◌, ◌-◌, ◌+◌, ◌/◌, ◌<◌, ℕ, length, get_or, sym, ap, arith}
use Rattle.std.proofs.lemmas.List.{length-map, get_or-map}
use Rattle.compose_make.specs.Wanted.{WantedCharacter, characters_of}
use Rattle.compose_make.proofs.Rows.{below_from, above_from}
use Rattle.compose_make.proofs.wanted.index_of.Goals as goal

pub loop-low-preserved-then-there-character-2 : goal.loop-low-preserved-then-there-character-2
loop-low-preserved-then-there-character-2 c =
    let rows = c.args.rows.now in
    let row = c.index-rows-middle.result in
    let m : ℕ = c.loop-low.low + (c.loop-low.high - c.loop-low.low) / 2 in
    let fits : m < length rows = omega (arith, c.loop-low-test.true, c.loop-low.invariant.ends) in
    let there : get_or (characters_of rows) m 0 ≡ row.character =
    get_or-map (λ (r : WantedCharacter). r.character) rows m row 0 fits ∙ ap (λ (r : WantedCharacter). r.character) (sym c.index-rows-middle.is) in
    let less : get_or (characters_of rows) m 0 < c.args.character = let e = c.character-there.ensures in let l = c.if-there-character-2.true in omega arith in
    record {
      ends = c.loop-low.invariant.ends;
      order = omega (arith, c.loop-low-test.true);
      below = below_from (characters_of rows) c.args.character m c.requires (let n = length-map rows (λ (r : WantedCharacter). r.character) in omega arith) less;
      above = c.loop-low.invariant.above;
    }

pub loop-low-preserved : goal.loop-low-preserved
loop-low-preserved c =
    let rows = c.args.rows.now in
    let row = c.index-rows-middle.result in
    let m : ℕ = c.loop-low.low + (c.loop-low.high - c.loop-low.low) / 2 in
    let fits : m < length rows = omega (arith, c.loop-low-test.true, c.loop-low.invariant.ends) in
    let there : get_or (characters_of rows) m 0 ≡ row.character =
    get_or-map (λ (r : WantedCharacter). r.character) rows m row 0 fits ∙ ap (λ (r : WantedCharacter). r.character) (sym c.index-rows-middle.is) in
    let more : c.args.character < get_or (characters_of rows) m 0 = let e = c.character-there.ensures in let l = c.if-there-character-2.false in let n = c.if-there-character.false in omega arith in
    record {
      ends = omega (arith, c.loop-low-test.true, c.loop-low.invariant.ends);
      order = omega arith;
      below = c.loop-low.invariant.below;
      above = λ k le fits_k. above_from (characters_of rows) c.args.character m c.requires more k le (let n = length-map rows (λ (r : WantedCharacter). r.character) in omega arith);
    }
