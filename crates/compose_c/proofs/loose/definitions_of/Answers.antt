use Rattle.std.proofs.Common.{◌∙◌, [], ap}
use Rattle.compose_read.specs.Rows.{DraftRows}
use Rattle.compose_c.proofs.FirstDefinitions.{all_first}
use Rattle.compose_c.proofs.WholeTable.{begins, all_left}
use Rattle.compose_c.proofs.loose.definitions_of.Goals as goal

pub returns-then-not-branch : goal.returns-then-not-branch
returns-then-not-branch c table is =
    let x =
    c.in_ok-add_from.ensures.added table [] is (begins table is.settled c.new-path.result.items c.new-path.ensures.items)
    (all_left table is.settled c.new-path.result.items c.new-path.ensures.items c.new-draft.result.table (ap (λ (d : DraftRows). d.table) c.new-draft.ensures)) in
    let e = x.0 in let f = c.if-not-branch.true in cc

pub returns : goal.returns
returns c table is =
    let x =
    c.in_ok-add_from.ensures.added table [] is (begins table is.settled c.new-path.result.items c.new-path.ensures.items)
    (all_left table is.settled c.new-path.result.items c.new-path.ensures.items c.new-draft.result.table (ap (λ (d : DraftRows). d.table) c.new-draft.ensures)) in
    c.into_definitions.ensures.same ∙ all_first table c.add_from.new.draft.table x.1
