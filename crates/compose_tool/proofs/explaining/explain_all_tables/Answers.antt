use Rattle.std.proofs.Common.{subst, rules}
use Rattle.compose_migration.specs.Values.{parts}
use Rattle.compose_walk.specs.Evidence.{AreDifferences}
use Rattle.compose_answer.specs.Parts.{Explainable}
use Rattle.compose_tool.proofs.FreshKeysyms.{taken}
use Rattle.compose_tool.proofs.explaining.explain_all_tables.Goals as goal

pub returns-then-is_empty : goal.returns-then-is_empty
returns-then-is_empty g c =
    let move = parts g.T.ComposeTable.definitions c.args.migration.now in
    let fresh = c.args.fresh.now in
    let e : Explainable = record { move = move; fresh = fresh } in
    let are = AreDifferences move.names fresh move.old move.new in
    let ok = taken are move.old fresh e c.differences.result c.in-Ok.found c.in-Ok.is c.differences.ensures.bad_fresh c.differences.ensures.too_many c.in-Ok.ensures.answer in
    (e, ok.0, (subst are (c.is_empty.ensures.0 c.if-is_empty.true) ok.1, search rules))

pub returns : goal.returns
returns g c =
    let move = parts g.T.ComposeTable.definitions c.args.migration.now in
    let fresh = c.args.fresh.now in
    let e : Explainable = record { move = move; fresh = fresh } in
    let are = AreDifferences move.names fresh move.old move.new in
    let ok = taken are move.old fresh e c.differences.result c.in-Ok.found c.in-Ok.is c.differences.ensures.bad_fresh c.differences.ensures.too_many c.in-Ok.ensures.answer in
    (e, ok.0, record { differences = c.in-Ok.found; are = ok.1; some = λ none. (let e = c.is_empty.ensures.1 none in let f = c.if-is_empty.false in cc); is = c.in_ok-print_differences.ensures })
