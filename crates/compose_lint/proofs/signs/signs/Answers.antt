use Rattle.std.proofs.Common.{◌∙◌, sym, eqb, leb}
use Rattle.compose_lint.proofs.AtOnce.{compared, compared_left, either, both, firsts_are, seconds_are, pairs, length_pairs, signs_masked}
use Rattle.compose_lint.proofs.signs.signs.Goals as goal

pub returns : goal.returns
returns c =
    let xs = c.args.firsts in let ys = c.args.seconds in
    let ps = pairs xs ys in
    let long = length_pairs xs ys 16 c.fits-firsts.0 c.fits-seconds.0 in
    let first = firsts_are xs ys (c.fits-firsts.0 ∙ sym c.fits-seconds.0) in
    let second = seconds_are xs ys (c.fits-firsts.0 ∙ sym c.fits-seconds.0) in
    let returns = compared ps long eqb (λ p. p.1) 13 second in
    let opened = both ps long _ _ (compared ps long eqb (λ p. p.0) 60 first) (either ps long _ _ (compared ps long leb (λ p. p.1) 48 second) (compared ps long eqb (λ p. p.1) 78 second)) in
    let closed = both ps long _ _ (compared ps long leb (λ p. p.0) 32 first) (compared ps long eqb (λ p. p.1) 62 second) in
    let before = either ps long _ _ (compared ps long leb (λ p. p.0) 34 first) (compared ps long eqb (λ p. p.0) 58 first) in
    let digit = both ps long _ _ (compared_left ps long leb (λ p. p.1) 48 second) (compared ps long leb (λ p. p.1) 57 second) in
    signs_masked xs ys _ c.fits-firsts.0 c.fits-seconds.0
    (either ps long _ _ (either ps long _ _ (either ps long _ _ returns opened) closed) (both ps long _ _ before digit))
