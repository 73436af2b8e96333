use Rattle.std.proofs.Common.{◌≡◌, ◌∙◌, ◌-◌, ap, sym, length, get_or, arith}
use Rattle.std.specs.Prelude.{nat_lt}
use Rattle.std.proofs.lemmas.List.{get_or_read}
use Rattle.compose_cert.proofs.Numerals.{positive}
use Rattle.compose_cert.proofs.Rising.{above_ranges}
use Rattle.compose_cert.proofs.repertoire.is_above_ranges.Goals as goal

pub returns : goal.returns
returns c =
    let ranges = c.args.ranges.now in
    let some = positive (length ranges) (sym c.if-is_empty.ensures) in
    let read = get_or_read ranges _ _ (omega arith) c.index-ranges-ranges.is (0, 0) in
    let last : c.value.result ≡ (get_or ranges (length ranges - 1) (0, 0)).1 = c.value.ensures.same ∙ ap (λ r. r.1) (sym c.index-ranges-ranges.is ∙ read) in
    ap (λ k. nat_lt k c.value-2.result) last ∙ ap (nat_lt (get_or ranges (length ranges - 1) (0, 0)).1) c.value-2.ensures.same ∙ above_ranges ranges c.args.keysym c.requires some
