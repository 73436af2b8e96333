use Rattle.std.proofs.Common.{◌∙◌, ◌++◌, ℕ, List, refl, ap, string_bytes}
use Rattle.compose_merging.proofs.Skips.{two_reported}
use Rattle.compose_merging.proofs.running.merge_skipped.Goals as goal

pub returns : goal.returns
returns g c =
    let header = c.args.names.now.lines.items in record {
      kept_old = c.in_ok-old.old;
      kept_new = c.in_ok-new.new;
      is_old = c.in_ok-old.ensures.kept;
      is_new = c.in_ok-new.ensures.kept;
      printed = c.in_ok-outcome.outcome;
      is = c.in_ok-outcome.ensures;
      output = refl;
      errors = c.in_ok-push_str.ensures.bytes
          ∙ ap (λ (more : List ℕ). string_bytes c.in_ok-outcome.outcome.errors ++ more)
          (c.deref.ensures ∙ c.in_ok-skipped.ensures ∙ two_reported header c.args.old.table c.args.new.table _ _ _ c.new-report.ensures c.in_ok-old.ensures.report c.in_ok-new.ensures.report);
      notes = refl;
      file = refl;
      ended = refl;
    }
