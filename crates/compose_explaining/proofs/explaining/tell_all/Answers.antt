use Rattle.std.proofs.Common.{rules, subst, string_bytes}
use Rattle.std.specs.Prelude.{true}
use Rattle.compose_migration.specs.Values.{parts}
use Rattle.compose_walk.specs.Evidence.{AreDifferences}
use Rattle.compose_answer.specs.Parts.{Explainable}
use Rattle.compose_tool.proofs.FreshKeysyms.{taken}
use Rattle.compose_explaining.specs.Sides.{lined}
use Rattle.compose_explaining.proofs.Telling.{all_are, follows_all, tells}
use Rattle.compose_explaining.proofs.explaining.tell_all.Goals as goal

pub returns-then-is_empty : goal.returns-then-is_empty
returns-then-is_empty g c =
    let view = g.T.ComposeTable.definitions in let m = c.args.migration.now in
    let move = parts (λ placed. view placed.table) m in let fresh = c.args.fresh.now in
    let e : Explainable = record { move = move; fresh = fresh } in
    let old = lined view c.args.old_side m.old in let new = lined view c.args.new_side m.new in
    let are = AreDifferences move.names fresh move.old move.new in
    let ok = taken are move.old fresh e c.differences.result c.in-Ok.found c.in-Ok.is c.differences.ensures.bad_fresh c.differences.ensures.too_many c.in-Ok.ensures.answer in
    let told = c.in_ok-follows.field-0 in
    (e, ok.0, tells true old new e told (follows_all e old new told.answer (string_bytes told.details) (subst are (c.is_empty.ensures.0 c.if-is_empty.true) ok.1) c.in_ok-follows.ensures.answer c.in_ok-follows.ensures.details))

pub returns : goal.returns
returns g c =
    let view = g.T.ComposeTable.definitions in let m = c.args.migration.now in
    let move = parts (λ placed. view placed.table) m in let fresh = c.args.fresh.now in
    let e : Explainable = record { move = move; fresh = fresh } in
    let old = lined view c.args.old_side m.old in let new = lined view c.args.new_side m.new in
    let are = AreDifferences move.names fresh move.old move.new in
    let ok = taken are move.old fresh e c.differences.result c.in-Ok.found c.in-Ok.is c.differences.ensures.bad_fresh c.differences.ensures.too_many c.in-Ok.ensures.answer in
    let told = c.in_ok-all_told.field-0 in (
      e,
      ok.0,
      tells true old new e told (all_are e old new c.in-Ok.found told.answer (string_bytes told.details) ok.1 (λ none. (let e = c.is_empty.ensures.1 none in let f = c.if-is_empty.false in cc))
          c.in_ok-all_told.ensures.answer c.in_ok-all_told.ensures.details),
    )
