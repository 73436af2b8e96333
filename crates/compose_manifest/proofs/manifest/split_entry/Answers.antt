use Rattle.std.proofs.Common.{◌≡◌, sym, ◌∙◌, ap, arith, get_or, length, take, ℕ, ◌-◌, ◌<◌}
use Rattle.std.proofs.lemmas.Bool.{eqb-true, eq-eqb}
use Rattle.std.specs.Option.{option_map}
use Rattle.compose_manifest.specs.ManifestReturns.{entry}
use Rattle.std.proofs.lemmas.Str.{IsCharBoundary-after_ascii}
use Rattle.compose_manifest.proofs.Tabs.{TabAt, first_tab, no_entry, bad_entry, good_entry}
use Rattle.compose_manifest.proofs.manifest.split_entry.Goals as goal

pub returns-in_err-at : goal.returns-in_err-at
returns-in_err-at c =
    ap (option_map entry) c.from_residual.ensures ∙
    sym
    (no_entry c.args.text.now
    (λ i less is. c.in_err-at.ensures i (omega arith) (omega (arith, ap length c.as_bytes.ensures.value)) (eq-eqb _ 9 (ap (λ xs. get_or xs i 0) c.as_bytes.ensures.value ∙ is))))

from_start : (n : ℕ) → n - 0 ≡ n
from_start n = omega arith

pub range_from-path-requires : goal.range_from-path-requires
range_from-path-requires c =
    let text = c.args.text.now in
    let at = c.in_ok-at.at in
    let found = c.in_ok-at.ensures in
    let same = ap (λ xs. get_or xs at 0) c.as_bytes.ensures.value in
    let tab = eqb-true _ 9 found.1 in
    let less : at < length text = omega (arith, found.0.high, ap length c.as_bytes.ensures.value) in
    λ _. IsCharBoundary-after_ascii text at c.utf8.text less (omega (arith, same, tab))

pub returns-then-not-are_parts : goal.returns-then-not-are_parts
returns-then-not-are_parts c =
    let text = c.args.text.now in
    let at = c.in_ok-at.at in
    let found = c.in_ok-at.ensures in
    let tab : TabAt text at = first_tab text at (omega (arith, found.0.high, ap length c.as_bytes.ensures.value))
    (ap (λ xs. get_or xs at 0) (sym c.as_bytes.ensures.value) ∙ eqb-true _ 9 found.1)
    (λ i less is. found.0.before i (omega arith) less (eq-eqb _ 9 (ap (λ xs. get_or xs i 0) c.as_bytes.ensures.value ∙ is))) in
    sym
    (bad_entry text at tab c.range-name.result.now c.range_from-path.result.now (c.range-name.ensures.value ∙ ap (λ n. take n text) (from_start at)) c.range_from-path.ensures.value
    (sym c.are_parts.ensures ∙ c.if-not-are_parts.true))

pub returns : goal.returns
returns c =
    let text = c.args.text.now in
    let at = c.in_ok-at.at in
    let found = c.in_ok-at.ensures in
    let tab : TabAt text at = first_tab text at (omega (arith, found.0.high, ap length c.as_bytes.ensures.value))
    (ap (λ xs. get_or xs at 0) (sym c.as_bytes.ensures.value) ∙ eqb-true _ 9 found.1)
    (λ i less is. found.0.before i (omega arith) less (eq-eqb _ 9 (ap (λ xs. get_or xs i 0) c.as_bytes.ensures.value ∙ is))) in
    sym
    (good_entry text at tab c.range-name.result.now c.range_from-path.result.now (c.range-name.ensures.value ∙ ap (λ n. take n text) (from_start at)) c.range_from-path.ensures.value
    (sym c.are_parts.ensures ∙ c.if-not-are_parts.false))
