use Rattle.std.proofs.Common.{◌∙◌, ap, sym, subst, ◌++◌, string_bytes}
use Rattle.compose_service_runs.specs.Taking.{PrintsLoaded}
use Rattle.compose_service_runs.proofs.Decided.{printed_as}
use Rattle.compose_service_runs.proofs.taking.load_running.Goals as goal

pub returns-in_ok-followed_by-in-Yes : goal.returns-in_ok-followed_by-in-Yes
returns-in_ok-followed_by-in-Yes g c =
    let both = c.in_ok-followed_by-in-Yes.ensures in let stored = c.in_ok-stored-in-Yes.ensures in
    record {
      exchanged = c.in_ok-outcome.outcome;
      exchange = c.in_ok-outcome.ensures.exchange;
      prints = subst (λ ended. PrintsLoaded ended c.in_ok-outcome.outcome c.in_ok-followed_by-in-Yes.field-0) (sym c.in-Yes.is)
          (both.output ∙ ap (λ text. string_bytes c.in_ok-outcome.outcome.output ++ text) stored.output, both.ends ∙ stored.ended);
    }

pub returns-in_default : goal.returns-in_default
returns-in_default g c = record {
  exchanged = c.in_ok-outcome.outcome;
  exchange = c.in_ok-outcome.ensures.exchange;
  prints = printed_as c.in_ok-outcome.outcome.ended c.in_ok-outcome.outcome c.in_default.not-Yes;
}
