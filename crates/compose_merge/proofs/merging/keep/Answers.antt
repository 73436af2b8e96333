use Rattle.std.proofs.Common.{◌≡◌, [], ◌<◌, ◌≤◌, length, map, not, sym, ◌∙◌, ap, subst, arith, nat_cmp}
use Rattle.std.specs.Cmp.Lexicographic.{slice_cmp}
use Rattle.std.specs.List.Sorted.{IsSorted}
use Rattle.std.specs.Ordering.{on}
use Rattle.std.proofs.lemmas.Bool.{not_from_false, not_from_true}
use Rattle.compose_model.specs.Table.{Definition}
use Rattle.compose_read.specs.Read.{max_definitions}
use Rattle.compose_read.specs.Rows.{DraftRows}
use Rattle.compose_merge.specs.Merged.{is_listed, listed_keys}
use Rattle.compose_merge.proofs.Full.{never_full}
use Rattle.compose_merge.proofs.Rows.{row_in, row_out, row_at, read}
use Rattle.compose_merge.proofs.merging.keep.Goals.{else-not-is_listed-via-then-not-is_listed+in_ok-add+else-not-branch, else-not-is_listed-via-else-not-is_listed}
use Rattle.compose_merge.proofs.merging.keep.Goals as goal

pub loop-index-preserved : goal.loop-index-preserved
loop-index-preserved c =
    let old = c.args.old.now in
    let i = c.loop-index.index in
    let below : c.loop-index.index < length c.args.old.now = let e = c.len-index-end.ensures.count in omega (arith, c.loop-index-test.true) in
    let s = c.sequence-sequence.result.now in
    let t = c.text-text.result.now in
    let listed = is_listed (listed_keys c.args.accepted.now) s in
    let is : c.is_listed.result ≡ is_listed (listed_keys c.args.accepted.now) s =
    c.is_listed.ensures ∙ ap (λ ts. is_listed (map (λ t. t.now) ts) s) c.as_slice-listed.ensures.value ∙ c.in_ok-sorted.ensures.same s in
    elim c.else-not-is_listed.branch [
      | else-not-is_listed-via-then-not-is_listed+in_ok-add+else-not-branch w ↦
          row_in (λ (d : Definition). not (is_listed (listed_keys c.args.accepted.now) d.sequence)) old [] c.loop-index.draft.table i (read old i s t below c.sequence-sequence.ensures c.text-text.ensures) below
          (row_at old i s t below c.sequence-sequence.ensures c.text-text.ensures) c.loop-index.invariant c.else-not-is_listed.draft.table
          (not_from_false listed (sym is ∙ w.if-not-is_listed.true)) (ap (λ (x : DraftRows). x.table) w.draft-is ∙ w.in_ok-add.ensures.added w.if-not-branch.false)
      | else-not-is_listed-via-else-not-is_listed w ↦
          row_out (λ (d : Definition). not (is_listed (listed_keys c.args.accepted.now) d.sequence)) old [] c.loop-index.draft.table i (read old i s t below c.sequence-sequence.ensures c.text-text.ensures) below
          (row_at old i s t below c.sequence-sequence.ensures c.text-text.ensures) c.loop-index.invariant c.else-not-is_listed.draft.table
          (not_from_true listed (sym is ∙ w.if-not-is_listed.false)) (ap (λ (x : DraftRows). x.table) w.draft-is)
    ]

pub returns-then-not-branch-clause-never : goal.returns-then-not-branch-clause-never
returns-then-not-branch-clause-never c =
    let old = c.args.old.now in
    let i = c.loop-index.index in
    let s = c.sequence-sequence.result.now in
    let t = c.text-text.result.now in
    let below : c.loop-index.index < length c.args.old.now = let e = c.len-index-end.ensures.count in omega (arith, c.loop-index-test.true) in
    let few : length c.args.old.now ≤ max_definitions = let e = c.len-index-end.ensures.count in omega (arith, c.len-index-end.ensures.few) in
    absurd (never_full old i (read old i s t below c.sequence-sequence.ensures c.text-text.ensures) c.len-index-end.ensures.settled.definitions below
    (row_at old i s t below c.sequence-sequence.ensures c.text-text.ensures) c.loop-index.draft.table (c.in_ok-add.ensures.refused c.if-not-branch.true)
    (λ (d : Definition). not (is_listed (listed_keys c.args.accepted.now) d.sequence)) few c.loop-index.invariant)

pub is_listed-requires : goal.is_listed-requires
is_listed-requires c = subst (IsSorted (on (λ t. t.now) (slice_cmp nat_cmp))) (sym c.as_slice-listed.ensures.value) c.in_ok-sorted.ensures.sorted
