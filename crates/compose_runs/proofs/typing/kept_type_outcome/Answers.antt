use Rattle.std.proofs.Common.{map, subst, string_bytes}
use Rattle.std.specs.Prelude.{option_map}
use Rattle.compose_report.proofs.Results.{ok_map}
use Rattle.compose_runs.specs.Skipping.{IsFollowed}
use Rattle.compose_runs.specs.Typing.{IsKeptType}
use Rattle.compose_runs.proofs.typing.kept_type_outcome.Goals as goal

pub returns : goal.returns
returns g c =
    let printed = c.in_ok-printed.printed in
    ok_map (IsFollowed c.deref.result.now printed) (IsKeptType c.args.read c.args.skip_faulty (map (λ word. word.now) c.args.words.now) (option_map string_bytes c.args.lines)) c.followed.result
    (λ outcome after. record {
      kept = c.in_ok-kept.kept;
      is_kept = c.in_ok-kept.ensures;
      printed = printed;
      is = c.in_ok-printed.ensures;
      followed = subst (λ text. IsFollowed text printed outcome) c.deref.ensures after;
    }) c.followed.ensures
