use Rattle.std.proofs.Common.{◌≡◌, ◌∙◌, ◌-◌, ◌+◌, ◌∷◌, [], ap, length, take, length-append, sym, arith}
use Rattle.std.specs.List.{filter_map}
use Rattle.compose_read.specs.Faults.{fault_of}
use Rattle.compose_read.specs.Visits.{visit_of}
use Rattle.compose_read.proofs.FaultsSoFar.{all_found, enough_found, nothing_more, one_more}
use Rattle.compose_read.proofs.line_faults.faults_in.Goals as goal
use Rattle.compose_read.proofs.line_faults.faults_in.Goals.{then-loop-visits-test+else-lines-lt-MAX_LINES, else-loop-visits-test}

pub loop-visits-preserved : goal.loop-visits-preserved
loop-visits-preserved c =
    let f = fault_of c.args.names.now c.args.sources.now in let lines = c.loop-visits.lines in record {
      reported =
          nothing_more f c.loop-visits.faults.items _ c.loop-visits.visits (1000000 - lines) c.loop-visits.invariant.reported (visit_of c.in-Some.line) c.next.new.self
          (1000000 - (lines + 1)) c.in-Some.ensures.steps
          (omega (arith, c.if-lines-lt-MAX_LINES.true)) (sym c.in_default-2.is ∙ c.in_ok-fault.ensures);
      few = c.loop-visits.invariant.few;
      read = omega (arith, c.if-lines-lt-MAX_LINES.true);
    }

pub loop-visits-preserved-in-Continue-branch-3 : goal.loop-visits-preserved-in-Continue-branch-3
loop-visits-preserved-in-Continue-branch-3 c =
    let f = fault_of c.args.names.now c.args.sources.now in let lines = c.loop-visits.lines in let found = c.loop-visits.faults.items in
    let more = ap (λ ys. length ys) c.in_ok-push.ensures.items in let one = length-append found (c.in-Some-2.fault ∷ []) in record {
      reported =
          one_more f found _ c.loop-visits.visits (1000000 - lines) c.loop-visits.invariant.reported (visit_of c.in-Some.line) c.next.new.self (1000000 - (lines + 1)) c.in-Some.ensures.steps
          (omega (arith, c.if-lines-lt-MAX_LINES.true)) c.in-Some-2.fault
          c.push.new.self.items (sym c.in-Some-2.is ∙ c.in_ok-fault.ensures) c.in_ok-push.ensures.items;
      few = omega (arith, more, one, c.len.ensures, c.loop-visits.faults.ok, c.loop-visits-test.true);
      read = omega (arith, c.if-lines-lt-MAX_LINES.true);
    }

pub returns : goal.returns
returns c =
    let f = fault_of c.args.names.now c.args.sources.now in let lines = c.loop-visits.lines in let found = c.loop-visits.faults.items in elim c.loop-visits-test.branch [
      | then-loop-visits-test+else-lines-lt-MAX_LINES w ↦ (
          let none : 1000000 - lines ≡ 0 = omega (arith, w.if-lines-lt-MAX_LINES.false) in
          all_found f found _ c.loop-visits.visits (1000000 - lines) c.loop-visits.invariant.reported c.args.most c.loop-visits.invariant.few (ap (λ n. filter_map f (take n c.loop-visits.visits)) none))
      | else-loop-visits-test w ↦ enough_found f found _ c.loop-visits.visits (1000000 - lines) c.loop-visits.invariant.reported c.args.most
          (omega (arith, w.loop-visits-test.false, c.len.ensures, c.loop-visits.faults.ok, c.loop-visits.invariant.few))
    ]
