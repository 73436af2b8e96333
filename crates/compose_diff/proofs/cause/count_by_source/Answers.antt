use Rattle.std.proofs.Common.{◌≡◌, ◌<◌, take, length, sym, ◌∙◌, ap, arith}
use Rattle.std.specs.Prelude.{◌==◌, unwrap_or}
use Rattle.std.proofs.lemmas.List.{length-take-le}
use Rattle.compose_diff.specs.Causes.{count_at, counted_in}
use Rattle.compose_diff.proofs.SourceCounts.{few, counted_more, put}
use Rattle.compose_diff.proofs.cause.count_by_source.Goals as goal
use Rattle.compose_diff.proofs.cause.count_by_source.Goals.{in-Some+in_ok-insert, in_default}

pub overflow_add-count : goal.overflow_add-count
overflow_add-count c =
    let rows = c.args.rows.now in
    let i = c.loop-row.row-index in
    let is : c.count_at-count.result ≡ counted_in c.args.removed_alone c.in-Some.source (take i rows) = c.count_at-count.ensures ∙ c.loop-row.invariant c.in-Some.source in
    let fewer = few c.args.removed_alone c.in-Some.source (take i rows) in
    let within : i < length rows = c.loop-row-test.true in
    let long = length-take-le i rows (omega arith) in
    omega (arith, is, fewer, long, within)

pub loop-row-preserved : goal.loop-row-preserved
loop-row-preserved c = λ source.
    (let rows = c.args.rows.now in let i = c.loop-row.row-index in let removed_alone = c.args.removed_alone in elim c.match-counted_source.branch [
      | in-Some+in_ok-insert w ↦ ap (λ m. count_at m source) w.counts-is
          ∙ ap (λ o. unwrap_or o 0) (w.in_ok-insert.ensures.updates.0 source)
          ∙ put w.in-Some.source source w.count_at-count.result _ (λ s. counted_in removed_alone s (take i rows)) (w.count_at-count.ensures ∙ c.loop-row.invariant w.in-Some.source) (c.loop-row.invariant source)
          ∙ sym (counted_more removed_alone source rows i _ (w.in-Some.source == source) c.loop-row-test.true (w.in-Some.ensures source))
      | in_default w ↦ ap (λ m. count_at m source) w.counts-is ∙ c.loop-row.invariant source ∙ sym (counted_more removed_alone source rows i _ _ c.loop-row-test.true (w.in_default.ensures source))
    ])
