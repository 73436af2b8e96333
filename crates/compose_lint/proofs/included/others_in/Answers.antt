use Rattle.std.proofs.Common.{◌≡◌, ◌-◌, ◌+◌, ◌∙◌, ◌++◌, [], ◌∷◌, map, take, ap, arith}
use Rattle.std.specs.Prelude.{filter, not, ◌==◌}
use Rattle.compose_read.specs.Lines.{Visit}
use Rattle.compose_read.specs.Visits.{visit_of}
use Rattle.compose_lint.specs.Lines.{LintLine, lint_line}
use Rattle.compose_lint.proofs.MoreVisits.{all_found, nothing_more, one_more}
use Rattle.compose_lint.proofs.included.others_in.Goals as goal

pub loop-lines-preserved : goal.loop-lines-preserved
loop-lines-preserved c =
    let lines = c.loop-lines.lines in let source = c.args.source in let names = c.args.names.now in let sources = c.args.sources.now in record {
      found =
          nothing_more (λ (v : Visit). not (v.source == source)) (lint_line names sources) c.loop-lines.others.items _ c.loop-lines.visits (1000000 - lines) c.loop-lines.invariant.found
          (visit_of c.in-Some.line) c.next.new.self (1000000 - (lines + 1)) c.in-Some.ensures.steps
          (omega (arith, c.loop-lines-test.true)) (grind (arith, c.if-line-source.false));
      read = omega (arith, c.loop-lines-test.true);
    }

pub loop-lines-preserved-in_ok-push : goal.loop-lines-preserved-in_ok-push
loop-lines-preserved-in_ok-push c =
    let lines = c.loop-lines.lines in let source = c.args.source in let names = c.args.names.now in let sources = c.args.sources.now in let found = c.loop-lines.others.items in record {
      found =
          one_more (λ (v : Visit). not (v.source == source)) (lint_line names sources) found _ c.loop-lines.visits (1000000 - lines) c.loop-lines.invariant.found
          (visit_of c.in-Some.line) c.next.new.self (1000000 - (lines + 1)) c.in-Some.ensures.steps
          (omega (arith, c.loop-lines-test.true)) (grind (arith, c.if-line-source.true)) c.push.new.self.items
          (c.in_ok-push.ensures.items ∙ ap (λ (l : LintLine). found ++ l ∷ []) c.in_ok-visited_line.ensures);
      read = omega (arith, c.loop-lines-test.true);
    }

pub returns : goal.returns
returns c =
    let lines = c.loop-lines.lines in let none : 1000000 - lines ≡ 0 = omega (arith, c.loop-lines-test.false) in
    let source = c.args.source in let names = c.args.names.now in let sources = c.args.sources.now in
    all_found (λ (v : Visit). not (v.source == source)) (lint_line names sources) c.loop-lines.others.items _ c.loop-lines.visits (1000000 - lines) c.loop-lines.invariant.found
    (ap (λ n. map (lint_line names sources) (filter (λ (v : Visit). not (v.source == source)) (take n c.loop-lines.visits))) none)
