use Rattle.std.proofs.Common.{rules, ◌≡◌, true, sym, subst, refl}
use Rattle.keysym_core.specs.Header.{names_of}
use Rattle.compose_skipped.specs.Kept.{IsKept}
use Rattle.compose_runs.proofs.LeftOut.{two_reported}
use Rattle.compose_runs.specs.Skipping.{IsKeptPair, SkipsPair}
use Rattle.compose_runs.specs.declared.skipping.KeptPair.{KeptPair}
use Rattle.compose_runs.proofs.skipping.KeptPair.of.Goals as goal

pub returns : goal.returns
returns c =
    let files = c.args.files in let both = files.both in let header = both.names.lines.items in
    let kept : KeptPair = record { files = record { both = record { names = both.names; old = c.in_ok-old.old; new = c.in_ok-new.new }; accepted = files.accepted }; skipped = c.in_ok-skipped.skipped } in
    let is_on : c.args.skip_faulty ≡ true = search rules in
    let skips : SkipsPair files kept = record {
      names = refl;
      accepted = refl;
      old = subst (λ h. IsKept (names_of h) both.old c.in_ok-old.old) c.deref.ensures.value c.in_ok-old.ensures.kept;
      new = subst (λ h. IsKept (names_of h) both.new c.in_ok-new.new) c.deref-2.ensures.value c.in_ok-new.ensures.kept;
      skipped = two_reported header both.old both.new _ _ _ _ _ _ c.deref.ensures.value c.deref-2.ensures.value c.new-report.ensures c.in_ok-old.ensures.report c.in_ok-new.ensures.report c.in_ok-skipped.ensures;
    } in
    subst (λ b. IsKeptPair b files kept) (sym is_on) skips
