use Rattle.std.proofs.Common.{subst, rules, string_bytes}
use Rattle.std.specs.Prelude.{false}
use Rattle.compose_migration.specs.Values.{parts}
use Rattle.compose_walk.specs.Walks.{IsWalk}
use Rattle.compose_answer.specs.Parts.{Explainable}
use Rattle.compose_tool.proofs.FreshKeysyms.{taken}
use Rattle.compose_explaining.specs.Sides.{lined}
use Rattle.compose_explaining.proofs.Telling.{least_is, follows_least, tells}
use Rattle.compose_explaining.proofs.explaining.tell_least.Goals as goal

pub returns-in_ok-least_told-in-Differs : goal.returns-in_ok-least_told-in-Differs
returns-in_ok-least_told-in-Differs g c =
    let view = g.T.ComposeTable.definitions in let m = c.args.migration.now in
    let move = parts (λ placed. view placed.table) m in let fresh = c.args.fresh.now in
    let e : Explainable = record { move = move; fresh = fresh } in
    let old = lined view c.args.old_side m.old in let new = lined view c.args.new_side m.new in
    let is_walk = IsWalk move.names fresh move.old move.new in
    let ok = taken is_walk move.old fresh e c.walk.result c.in-Ok.found c.in-Ok.is c.walk.ensures.bad_fresh c.walk.ensures.too_many c.in-Ok.ensures.answer in
    let least = subst is_walk c.in-Differs.is ok.1 in
    let told = c.in_ok-least_told-in-Differs.field-0 in (
      e,
      ok.0,
      tells false old new e told (least_is e old new c.in-Differs.least told.answer (string_bytes told.details) least.0 least.1
          c.in_ok-least_told-in-Differs.ensures.answer c.in_ok-least_told-in-Differs.ensures.details),
    )

pub returns-in_ok-follows-in-Follows : goal.returns-in_ok-follows-in-Follows
returns-in_ok-follows-in-Follows g c =
    let view = g.T.ComposeTable.definitions in let m = c.args.migration.now in
    let move = parts (λ placed. view placed.table) m in let fresh = c.args.fresh.now in
    let e : Explainable = record { move = move; fresh = fresh } in
    let old = lined view c.args.old_side m.old in let new = lined view c.args.new_side m.new in
    let is_walk = IsWalk move.names fresh move.old move.new in
    let ok = taken is_walk move.old fresh e c.walk.result c.in-Ok.found c.in-Ok.is c.walk.ensures.bad_fresh c.walk.ensures.too_many c.in-Ok.ensures.answer in
    let follower = subst is_walk c.in-Follows.is ok.1 in
    let told = c.in_ok-follows-in-Follows.field-0 in
    (e, ok.0, tells false old new e told (follows_least e old new told.answer (string_bytes told.details) follower.follows c.in_ok-follows-in-Follows.ensures.answer c.in_ok-follows-in-Follows.ensures.details))
