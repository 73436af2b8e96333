use Rattle.std.proofs.Common.{◌≡◌, ◌∙◌, refl, ap, Ok}
use Rattle.std.specs.Prelude.{codes}
use Rattle.compose_model.specs.Certificate.{Certificate}
use Rattle.compose_cert.specs.Reading.{certificate_of}
use Rattle.compose_cert.specs.Spelling.{is_counted}
use Rattle.compose_cert.proofs.Found.{read_is_spelled, is_counted-certificate}
use Rattle.compose_cert.proofs.certificate.read_lines.Goals as goal

pub invariant_of-result : goal.invariant_of-result
invariant_of-result c =
    let found : Certificate = record { bound = c.in_ok-bound.bound; pairs = c.in_ok-pairs.pairs.items; typings = c.in_ok-typings.typings.items; fresh = c.in_ok-fresh.fresh.items } in
    let expected : certificate_of c.args.bytes.now ≡ Ok found =
    rw (
      c.in_ok-version.ensures,
      c.in_ok-bound.ensures.says (codes "bound") refl,
      c.in_ok-pair_count.ensures.says (codes "pairs") refl,
      c.in_ok-pairs.ensures,
      c.in_ok-typing_count.ensures.says (codes "typings") refl,
      c.in_ok-typings.ensures,
      c.in_ok-fresh.ensures,
    ) refl in
    ap (λ pairs. is_counted (record { bound = found.bound; pairs = pairs; typings = found.typings; fresh = found.fresh })) c.in_ok-indexed.ensures.ok
    ∙ is_counted-certificate found (read_is_spelled c.args.bytes.now found expected).fits
