use Rattle.std.proofs.Common.{subst, rules}
use Rattle.compose_migration.specs.Values.{parts}
use Rattle.compose_walk.specs.Walks.{IsWalk}
use Rattle.compose_answer.specs.Parts.{Explainable}
use Rattle.compose_tool.proofs.FreshKeysyms.{taken}
use Rattle.compose_tool.proofs.explaining.explain_tables.Goals as goal

pub returns-in_ok-counterexample_text-in-Differs : goal.returns-in_ok-counterexample_text-in-Differs
returns-in_ok-counterexample_text-in-Differs g c =
    let move = parts g.T.ComposeTable.definitions c.args.migration.now in
    let fresh = c.args.fresh.now in
    let e : Explainable = record { move = move; fresh = fresh } in
    let is_walk = IsWalk move.names fresh move.old move.new in
    let ok = taken is_walk move.old fresh e c.walk.result c.in-Ok.found c.in-Ok.is c.walk.ensures.bad_fresh c.walk.ensures.too_many c.in-Ok.ensures.answer in
    let least = subst is_walk c.in-Differs.is ok.1 in
    (e, ok.0, record { differs = least.0; evidence = c.in-Differs.least; least = least.1; is = c.in_ok-counterexample_text-in-Differs.ensures })

pub returns-in_ok-from_str-in-Follows : goal.returns-in_ok-from_str-in-Follows
returns-in_ok-from_str-in-Follows g c =
    let move = parts g.T.ComposeTable.definitions c.args.migration.now in
    let fresh = c.args.fresh.now in
    let e : Explainable = record { move = move; fresh = fresh } in
    let is_walk = IsWalk move.names fresh move.old move.new in
    let ok = taken is_walk move.old fresh e c.walk.result c.in-Ok.found c.in-Ok.is c.walk.ensures.bad_fresh c.walk.ensures.too_many c.in-Ok.ensures.answer in
    let follower = subst is_walk c.in-Follows.is ok.1 in
    (e, ok.0, (follower.follows, search rules))
