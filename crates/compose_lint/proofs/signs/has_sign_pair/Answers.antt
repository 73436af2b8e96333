use Rattle.std.proofs.Common.{◌≡◌, ◌∙◌, ◌+◌, ◌-◌, length, drop, sym, ap, arith}
use lib.Lanes.{chunk, zip2, mask_l}
use Rattle.compose_lint.specs.Lost.{is_sign, has_sign_after}
use Rattle.compose_lint.proofs.AtOnce.{has_sign_in, passed, sign_among, sign_at_end, none_at_end, by_mask}
use Rattle.compose_lint.proofs.signs.has_sign_pair.Goals as goal

pub returns-then-signs-ne0 : goal.returns-then-signs-ne0
returns-then-signs-ne0 c =
    let line = c.args.line.now in let at = c.loop-at.at in
    let next : at ≡ (at - 1) + 1 = omega (arith, c.loop-at.invariant.low) in
    let mask = c.signs.ensures ∙ ap (λ k. mask_l (zip2 is_sign (chunk (at - 1) 16 line) (chunk k 16 line))) next in
    sym (sign_among line (at - 1) (omega arith) (omega (arith, mask)))

pub loop-at-preserved : goal.loop-at-preserved
loop-at-preserved c =
    let line = c.args.line.now in let at = c.loop-at.at in
    let next : at ≡ (at - 1) + 1 = omega (arith, c.loop-at.invariant.low) in
    let last : at + 16 - 1 ≡ (at - 1) + 16 = omega (arith, c.loop-at.invariant.low) in
    let mask = c.signs.ensures ∙ ap (λ k. mask_l (zip2 is_sign (chunk (at - 1) 16 line) (chunk k 16 line))) next in
    let none = passed line (at - 1) 16 (omega arith) (omega (arith, mask)) in record {
      none = ap (λ k. has_sign_in (drop k line)) last ∙ sym none ∙ c.loop-at.invariant.none;
      low = omega arith;
      high = omega arith;
    }

pub returns : goal.returns
returns c =
    let line = c.args.line.now in let at = c.loop-at.at in let last = length line - 16 - 1 in
    let next : length line - 16 ≡ last + 1 = omega arith in
    let ends : last + 17 ≡ length line = omega arith in
    let mask = c.signs-2.ensures ∙ ap (λ k. mask_l (zip2 is_sign (chunk last 16 line) (chunk k 16 line))) next in
    by_mask c.signs-2.result (has_sign_after 58 line)
    (λ some. sign_at_end line last (at - 1) ends (omega (arith, c.loop-at.invariant.low)) (omega (arith, mask, some)))
    (λ none. none_at_end line last (at - 1) ends (omega (arith, c.loop-at.invariant.low)) (omega (arith, mask, none)) c.loop-at.invariant.none)
