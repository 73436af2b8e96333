use Rattle.std.proofs.Common.{◌∙◌, ◌-◌, Bool, map, sym, ap, arith}
use Rattle.std.specs.Prelude.{slice_get}
use Rattle.compose_read.specs.Lines.{Visit}
use Rattle.compose_read.specs.Visits.{visit_of}
use Rattle.compose_places.specs.Counting.{begins_definition, written_line}
use Rattle.compose_places.proofs.BegunLeft.{none_left, none_read, still_none, none_after, first, others_left, left_out}
use Rattle.compose_places.proofs.counting.BegunLines.next.Goals as goal

abbrev begins : Visit → Bool
begins v = begins_definition v.bytes

pub loop-self-init : goal.loop-self-init
loop-self-init c = c.self.view_is

pub loop-self-preserved : goal.loop-self-preserved
loop-self-preserved c =
    let left = c.loop-self.self-inside.left in
    left_out begins _ c.loop-self.self-inside.visits left c.loop-self.invariant
    (visit_of c.in_ok-line.line) c.next.new.self (left - 1) c.in_ok-line.ensures.steps (omega (arith, c.loop-self-test.true)) (sym c.if-begins_definition.ensures)

pub returns-in_err-line-clause-line : goal.returns-in_err-line-clause-line
returns-in_err-line-clause-line c =
    c.from_residual.ensures
    ∙ ap (λ xs. slice_get (map written_line xs) 0) (none_left begins _ c.loop-self.self-inside.visits c.loop-self.self-inside.left c.loop-self.invariant c.in_err-line.ensures.steps.0)

pub returns-in_err-line-clause-rest : goal.returns-in_err-line-clause-rest
returns-in_err-line-clause-rest c =
    none_after begins _ c.loop-self.self-inside.visits c.loop-self.self-inside.left c.loop-self.invariant c.next.new.self c.in_err-line.ensures.steps.0 c.in_err-line.ensures.steps.1

pub returns-then-begins_definition-clause-line : goal.returns-then-begins_definition-clause-line
returns-then-begins_definition-clause-line c =
    let left = c.loop-self.self-inside.left in
    ap (λ xs. slice_get (map written_line xs) 0)
    (first begins _ c.loop-self.self-inside.visits left c.loop-self.invariant
    (visit_of c.in_ok-line.line) c.next.new.self (left - 1) c.in_ok-line.ensures.steps (omega (arith, c.loop-self-test.true)) (sym c.if-begins_definition.ensures))

pub returns-then-begins_definition-clause-rest : goal.returns-then-begins_definition-clause-rest
returns-then-begins_definition-clause-rest c =
    let left = c.loop-self.self-inside.left in
    others_left begins _ c.loop-self.self-inside.visits left c.loop-self.invariant
    (visit_of c.in_ok-line.line) c.next.new.self (left - 1) c.in_ok-line.ensures.steps (omega (arith, c.loop-self-test.true)) (sym c.if-begins_definition.ensures)

pub returns-clause-line : goal.returns-clause-line
returns-clause-line c =
    ap (λ xs. slice_get (map written_line xs) 0)
    (none_read begins _ c.loop-self.self-inside.visits c.loop-self.self-inside.left c.loop-self.invariant (omega (arith, c.loop-self-test.false)))

pub returns-clause-rest : goal.returns-clause-rest
returns-clause-rest c =
    still_none begins _ c.loop-self.self-inside.visits c.loop-self.self-inside.left c.loop-self.invariant (omega (arith, c.loop-self-test.false))
