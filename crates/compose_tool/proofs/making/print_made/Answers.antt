use Rattle.std.proofs.Common.{subst, inl, inr}
use Rattle.compose_make.specs.IsMade.{IsMade}
use Rattle.compose_migration.specs.Values.{parts}
use Rattle.compose_answer.specs.Parts.{Needs}
use Rattle.compose_tool.proofs.FreshKeysyms.{taken}
use Rattle.compose_tool.proofs.making.print_made.Goals as goal

pub returns-in_ok-spell-in-Made : goal.returns-in_ok-spell-in-Made
returns-in_ok-spell-in-Made g c =
    let move = parts g.T.ComposeTable.definitions c.args.migration.now in
    let fresh = c.args.fresh.now in
    let needs : Needs = record { move = move; repertoire = c.args.repertoire.now; fresh = fresh } in
    let is_made = IsMade move.names fresh move.old move.new needs.repertoire in
    let ok = taken is_made move.old fresh needs c.make.result c.in-Ok.made c.in-Ok.is c.make.ensures.bad_fresh c.make.ensures.too_many c.in-Ok.ensures.answer in
    (needs, ok.0, record { certificate = c.in-Made.certificate; made = subst is_made c.in-Made.is ok.1; spells = c.in_ok-spell-in-Made.ensures })

pub returns-in_ok-counterexample_text-in-Differs : goal.returns-in_ok-counterexample_text-in-Differs
returns-in_ok-counterexample_text-in-Differs g c =
    let move = parts g.T.ComposeTable.definitions c.args.migration.now in
    let fresh = c.args.fresh.now in
    let needs : Needs = record { move = move; repertoire = c.args.repertoire.now; fresh = fresh } in
    let is_made = IsMade move.names fresh move.old move.new needs.repertoire in
    let ok = taken is_made move.old fresh needs c.make.result c.in-Ok.made c.in-Ok.is c.make.ensures.bad_fresh c.make.ensures.too_many c.in-Ok.ensures.answer in
    let least = subst is_made c.in-Differs.is ok.1 in
    (needs, ok.0, inl (record { differs = least.0; evidence = c.in-Differs.least; least = least.1; is = c.in_ok-counterexample_text-in-Differs.ensures }))

pub returns-in_ok-unreachable_line-in-Unreachable : goal.returns-in_ok-unreachable_line-in-Unreachable
returns-in_ok-unreachable_line-in-Unreachable g c =
    let move = parts g.T.ComposeTable.definitions c.args.migration.now in
    let fresh = c.args.fresh.now in
    let needs : Needs = record { move = move; repertoire = c.args.repertoire.now; fresh = fresh } in
    let is_made = IsMade move.names fresh move.old move.new needs.repertoire in
    let ok = taken is_made move.old fresh needs c.make.result c.in-Ok.made c.in-Ok.is c.make.ensures.bad_fresh c.make.ensures.too_many c.in-Ok.ensures.answer in
    let none = subst is_made c.in-Unreachable.is ok.1 in
    (needs, ok.0, inr (record { follows = none.0; character = c.in-Unreachable.character; unreachable = none.1; is = c.in_ok-unreachable_line-in-Unreachable.ensures }))
