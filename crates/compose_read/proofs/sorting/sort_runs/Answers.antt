use Rattle.std.proofs.Common.{◌-◌, subst, sym, arith}
use Rattle.std.specs.List.Sorted.{IsPermutation, IsStableBy}
use Rattle.std.proofs.lemmas.List.Sorted.{length_permutation}
use Rattle.compose_read.specs.SortKeys.{by_sequence}
use Rattle.compose_read.proofs.SortKeys.{permuted_part, stable_part}
use Rattle.compose_read.proofs.sorting.sort_runs.Goals as goal
use Rattle.compose_read.proofs.sorting.sort_runs.Goals.{then-sort_key-sort_keys+in_ok-sort_run, else-sort_key-sort_keys}

pub returns-in_err-sort_run-clause-permutation : goal.returns-in_err-sort_run-clause-permutation
returns-in_err-sort_run-clause-permutation c =
    permuted_part c.args.spans.now c.loop-index.spans _ _ _ c.loop-index.invariant.permutation c.sort_run.ensures.permutation

pub returns-in_err-sort_run-clause-stable : goal.returns-in_err-sort_run-clause-stable
returns-in_err-sort_run-clause-stable c =
    stable_part c.args.spans.now c.loop-index.spans _ _ _ (by_sequence c.args.keysyms.now) c.loop-index.invariant.stable c.sort_run.ensures.stable

pub loop-index-preserved : goal.loop-index-preserved
loop-index-preserved c =
    let old = c.args.spans.now in let spans = c.if-sort_key-sort_keys.spans in let before = c.loop-index.invariant in
    elim c.if-sort_key-sort_keys.branch [
      | then-sort_key-sort_keys+in_ok-sort_run w ↦
          (let start = c.loop-index.start in let count = c.loop-index.index - start in
          let permuted : IsPermutation old spans =
          subst (IsPermutation old) (sym w.spans-is) (permuted_part old c.loop-index.spans start count w.sort_run.new.run before.permutation w.sort_run.ensures.permutation) in
          record {
            within = let is = w.start-is in omega arith;
            count = length_permutation old spans permuted;
            permutation = permuted;
            stable =
                subst (IsStableBy (by_sequence c.args.keysyms.now) old) (sym w.spans-is)
                (stable_part old c.loop-index.spans start count w.sort_run.new.run (by_sequence c.args.keysyms.now) before.stable w.sort_run.ensures.stable);
          })
      | else-sort_key-sort_keys w ↦
          (let permuted = subst (IsPermutation old) (sym w.spans-is) before.permutation in
          record {
            within = let is = w.start-is in let le = before.within in omega arith;
            count = length_permutation old spans permuted;
            permutation = permuted;
            stable = subst (IsStableBy (by_sequence c.args.keysyms.now) old) (sym w.spans-is) before.stable;
          })
    ]

pub returns-clause-permutation : goal.returns-clause-permutation
returns-clause-permutation c =
    permuted_part c.args.spans.now c.loop-index.spans _ _ _ c.loop-index.invariant.permutation c.sort_run-2.ensures.permutation

pub returns-clause-stable : goal.returns-clause-stable
returns-clause-stable c =
    stable_part c.args.spans.now c.loop-index.spans _ _ _ (by_sequence c.args.keysyms.now) c.loop-index.invariant.stable c.sort_run-2.ensures.stable
