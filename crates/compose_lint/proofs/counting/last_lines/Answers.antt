use Rattle.std.proofs.Common.{◌≡◌, ◌∙◌, ◌+◌, true, false, not, List, ℕ, refl, sym, ap, arith}
use Rattle.std.specs.Prelude.{Option, Some, None, is_some, bytes_eq, slice_get}
use Rattle.std.specs.Option.{option_and_then}
use Rattle.std.proofs.lemmas.Bool.{and_parts}
use Rattle.std.proofs.lemmas.List.{take_all}
use Rattle.indexmap.specs.IndexMap.{get_by}
use Rattle.compose_lint.specs.Counting.{last_defining}
use Rattle.compose_lint.specs.Lines.{LintLine}
use Rattle.compose_lint.proofs.LastOnes.{no_more, added, once_with, once_without, once_in_all}
use Rattle.compose_lint.proofs.counting.last_lines.Goals as goal
use Rattle.compose_lint.proofs.counting.last_lines.Goals.{in-Some+in_ok-before, in_default}

is_nothing : (o : Option ℕ) → is_some o ≡ false → o ≡ None
is_nothing None e = refl
is_nothing (Some x) e = cc

pub loop-index-preserved : goal.loop-index-preserved
loop-index-preserved c =
    let lines = c.args.lines.now in let index = c.loop-index.index in let line = c.index-lines-index.result in record {
      last = λ q.
          (elim c.match-definition.branch [
            | in-Some+in_ok-before w ↦ ap (λ m. option_and_then (slice_get lines) (get_by (λ k. bytes_eq q.now k.now) m)) w.last-is
                ∙ ap (option_and_then (slice_get lines)) (w.in_ok-before.ensures.updates.0 q)
                ∙ added lines index line q.now w.sequence.result.now w.in-Some.definition.now (get_by (λ k. bytes_eq q.now k.now) c.loop-index.last) c.loop-index-test.true
                (sym (w.in-Some.ensures ∙ ap (λ (l : LintLine). l.definition) c.index-lines-index.is)) (sym w.sequence.ensures) (c.loop-index.invariant.last q)
            | in_default w ↦ ap (λ m. option_and_then (slice_get lines) (get_by (λ k. bytes_eq q.now k.now) m)) w.last-is
                ∙ c.loop-index.invariant.last q
                ∙ no_more lines index line q.now c.loop-index-test.true (sym (w.in_default.ensures ∙ ap (λ (l : LintLine). l.definition) c.index-lines-index.is))
          ]);
      once = λ t.
          (elim c.match-definition.branch [
            | in-Some+in_ok-before w ↦ (let both = and_parts c.loop-index.is_once w.is_none-is_once.result (sym w.is_once-is ∙ t) in
                once_with lines index line c.loop-index-test.true c.index-lines-index.is (λ (q : List ℕ). get_by (λ k. bytes_eq q k.now) c.loop-index.last) (λ (q : List ℕ). get_by (λ k. bytes_eq q k.now) c.match-definition.last)
                w.in-Some.definition.now w.sequence.result.now (sym w.in-Some.ensures) (sym w.sequence.ensures)
                (λ q. ap (λ m. get_by (λ k. bytes_eq q k.now) m) w.last-is ∙ w.in_ok-before.ensures.updates.0 (record { ref_ptr = c.args.lines.ref_ptr; now = q }))
                (sym w.in_ok-before.ensures.old ∙ is_nothing w.in_ok-before.before (w.is_none-is_once.ensures ∙ ap not both.1))
                (c.loop-index.invariant.once both.0))
            | in_default w ↦ once_without lines index line c.loop-index-test.true c.index-lines-index.is (λ (q : List ℕ). get_by (λ k. bytes_eq q k.now) c.match-definition.last) (sym w.in_default.ensures)
                (λ i m d below at given. ap (λ last. get_by (λ k. bytes_eq d.sequence k.now) last) w.last-is ∙ c.loop-index.invariant.once (sym w.is_once-is ∙ t) i m d below at given)
          ]);
    }

pub returns-clause-last : goal.returns-clause-last
returns-clause-last c = λ q. c.loop-index.invariant.last q ∙ ap (λ ls. last_defining ls q.now) (take_all c.loop-index.index c.args.lines.now (omega arith))

pub returns-clause-once : goal.returns-clause-once
returns-clause-once c = λ t.
    once_in_all c.args.lines.now c.loop-index.index (λ (q : List ℕ). get_by (λ k. bytes_eq q k.now) c.loop-index.last) (omega arith)
    (λ q. c.loop-index.invariant.last (record { ref_ptr = c.args.lines.ref_ptr; now = q }) ∙ ap (λ ls. last_defining ls q) (take_all c.loop-index.index c.args.lines.now (omega arith)))
    (c.loop-index.invariant.once t)
