use Rattle.std.proofs.Common.{◌≡◌, ◌∙◌, ◌+◌, ◌-◌, ◌||◌, drop, nat_le, sym, ap, arith}
use lib.Lanes.{chunk, zip2, mask_l}
use Rattle.compose_lint.specs.Lost.{is_sign, openings}
use Rattle.compose_lint.proofs.AtOnce.{has_sign_in, passed, found, openings_at_once, few_at_once}
use Rattle.compose_lint.proofs.signs.has_sign.Goals as goal

pub returns-then-signs-ne0 : goal.returns-then-signs-ne0
returns-then-signs-ne0 c =
    let line = c.args.line.now in let at = c.loop-at.at in
    let next : at ≡ (at - 1) + 1 = omega (arith, c.loop-at.invariant.3) in
    let mask = c.signs.ensures ∙ ap (λ k. mask_l (zip2 is_sign (chunk (at - 1) 16 line) (chunk k 16 line))) next in
    let sign = found line (at - 1) 16 (omega arith) (omega (arith, mask)) in
    ap (λ t. t || nat_le 10 (openings line)) (sym sign ∙ c.loop-at.invariant.0)

pub overflow_add-openings : goal.overflow_add-openings
overflow_add-openings c =
    let few = few_at_once c.args.line.now c.loop-at.at 16 (omega arith) in let counted = c.opening_count-openings.ensures in omega (arith, few, counted, c.loop-at.invariant.2, c.requires)

pub loop-at-preserved : goal.loop-at-preserved
loop-at-preserved c =
    let line = c.args.line.now in let at = c.loop-at.at in
    let next : at ≡ (at - 1) + 1 = omega (arith, c.loop-at.invariant.3) in
    let last : at + 16 - 1 ≡ (at - 1) + 16 = omega (arith, c.loop-at.invariant.3) in
    let mask = c.signs.ensures ∙ ap (λ k. mask_l (zip2 is_sign (chunk (at - 1) 16 line) (chunk k 16 line))) next in
    let none = passed line (at - 1) 16 (omega arith) (omega (arith, mask)) in
    let split = openings_at_once line at 16 in
    let few = few_at_once line at 16 (omega arith) in
    let counted = c.opening_count-openings.ensures in (
      ap (λ k. has_sign_in (drop k line)) last ∙ sym none ∙ c.loop-at.invariant.0,
      omega (arith, split, counted, c.loop-at.invariant.1),
      omega (arith, few, counted, c.loop-at.invariant.2),
      omega arith,
      omega arith,
    )
