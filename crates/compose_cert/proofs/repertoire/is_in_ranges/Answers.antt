use Rattle.std.proofs.Common.{◌≡◌, ◌∙◌, ℕ, ◌+◌, ◌-◌, ◌/◌, ap, sym, get_or, arith}
use Rattle.std.specs.List.{list_any}
use Rattle.compose_text.specs.Numbers.{is_between}
use Rattle.std.proofs.lemmas.List.{get_or_default}
use Rattle.compose_cert.proofs.Rising.{ends_below, begins_above, in_none_of_all, in_one}
use Rattle.compose_cert.proofs.repertoire.is_in_ranges.Goals as goal

pub loop-low-preserved-then-number-value : goal.loop-low-preserved-then-number-value
loop-low-preserved-then-number-value c =
    let ranges = c.args.ranges.now in
    let middle : ℕ = c.loop-low.low + (c.loop-low.high - c.loop-low.low) / 2 in
    let first : c.value.result ≡ (get_or ranges middle (0, 0)).0 = c.value.ensures.same ∙ ap (λ r. r.0) (get_or_default ranges middle c.index-ranges-middle.result (0, 0) (omega arith)) in
    (omega arith, omega arith, c.loop-low.invariant.2, begins_above ranges middle c.value-number.result c.requires (omega arith))

pub loop-low-preserved : goal.loop-low-preserved
loop-low-preserved c =
    let ranges = c.args.ranges.now in
    let middle : ℕ = c.loop-low.low + (c.loop-low.high - c.loop-low.low) / 2 in
    let last : c.value-else-number-value.result ≡ (get_or ranges middle (0, 0)).1 =
    c.value-else-number-value.ensures.same ∙ ap (λ r. r.1) (get_or_default ranges middle c.index-ranges-middle-in-loop-low.result (0, 0) (omega arith)) in
    (omega arith, omega arith, ends_below ranges middle c.value-number.result c.requires (omega arith) (omega arith), c.loop-low.invariant.3)

pub returns-else-value-number : goal.returns-else-value-number
returns-else-value-number c =
    let ranges = c.args.ranges.now in
    let middle : ℕ = c.loop-low.low + (c.loop-low.high - c.loop-low.low) / 2 in
    let first : c.value.result ≡ (get_or ranges middle (0, 0)).0 = c.value.ensures.same ∙ ap (λ r. r.0) (get_or_default ranges middle c.index-ranges-middle.result (0, 0) (omega arith)) in
    let last : c.value-else-number-value.result ≡ (get_or ranges middle (0, 0)).1 =
    c.value-else-number-value.ensures.same ∙ ap (λ r. r.1) (get_or_default ranges middle c.index-ranges-middle-in-loop-low.result (0, 0) (omega arith)) in
    sym (ap (λ k. list_any (λ r. is_between r.0 r.1 k) ranges) (sym c.value-number.ensures.same) ∙ in_one ranges middle c.value-number.result (omega arith) (omega arith) (omega arith))

pub returns : goal.returns
returns c =
    let ranges = c.args.ranges.now in
    sym (ap (λ k. list_any (λ r. is_between r.0 r.1 k) ranges) (sym c.value-number.ensures.same)
    ∙ in_none_of_all ranges c.loop-low.low c.loop-low.high c.value-number.result (omega arith) c.loop-low.invariant.2 c.loop-low.invariant.3)
