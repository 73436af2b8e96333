use Rattle.std.proofs.Common.{◌≡◌, ◌∙◌, ap, subst, ◌++◌, ◌∷◌, [], rules, map, drop, ◌+◌, slice_index_or, IsTrue}
use Rattle.keysym_core.specs.Names.{KeysymNames}
use Rattle.keysym_core.specs.Table.{is_addable, are_addable}
use Rattle.keysym_core.proofs.Rows.{listed_row, turn}
use Rattle.keysym_core.proofs.table.NameTable.of_rows.Goals as goal

pub unwrap-keysym-requires : goal.unwrap-keysym-requires
unwrap-keysym-requires c =
    let t = turn c.loop-name.table.names c.args.rows.now c.loop-name.name-index (record { ref_ptr = (0, 0); now = [] }, 0) c.loop-name-test.true c.loop-name.invariant.0 c.loop-name.invariant.2 in
    let some = c.new.ensures.some t.keysym in
    search rules

pub add_name-requires : goal.add_name-requires
add_name-requires c =
    let t = turn c.loop-name.table.names c.args.rows.now c.loop-name.name-index (record { ref_ptr = (0, 0); now = [] }, 0) c.loop-name-test.true c.loop-name.invariant.0 c.loop-name.invariant.2 in
    let some = c.new.ensures.some t.keysym in
    let unwrapped = c.unwrap-keysym.ensures in
    let same : (slice_index_or c.args.rows.now c.loop-name.name-index (record { ref_ptr = (0, 0); now = [] }, 0)).1 ≡ c.unwrap-keysym.result = cc in
    subst
    (λ v. IsTrue
    (is_addable c.loop-name.table.names (record { name = (slice_index_or c.args.rows.now c.loop-name.name-index (record { ref_ptr = (0, 0); now = [] }, 0)).0.now; value = v }))) same t.addable

pub loop-name-preserved : goal.loop-name-preserved
loop-name-preserved c =
    let t = turn c.loop-name.table.names c.args.rows.now c.loop-name.name-index (record { ref_ptr = (0, 0); now = [] }, 0) c.loop-name-test.true c.loop-name.invariant.0 c.loop-name.invariant.2 in
    let some = c.new.ensures.some t.keysym in
    let unwrapped = c.unwrap-keysym.ensures in
    let same : c.unwrap-keysym.result ≡ (slice_index_or c.args.rows.now c.loop-name.name-index (record { ref_ptr = (0, 0); now = [] }, 0)).1 = cc in
    let added = c.in_ok-add_name.ensures in
    let names : c.add_name.new.self.names ≡ c.loop-name.table.names ++ listed_row (slice_index_or c.args.rows.now c.loop-name.name-index (record { ref_ptr = (0, 0); now = [] }, 0)) ∷ [] =
    ap (λ (t : KeysymNames). t.names) added
    ∙ ap (λ v. c.loop-name.table.names ++ record { name = (slice_index_or c.args.rows.now c.loop-name.name-index (record { ref_ptr = (0, 0); now = [] }, 0)).0.now; value = v } ∷ []) same in (
      ap (λ n. n ++ map listed_row (drop (c.loop-name.name-index + 1) c.args.rows.now)) names ∙ t.whole,
      ap (λ (t : KeysymNames). t.characters) added ∙ c.loop-name.invariant.1,
      ap (λ n. are_addable n (map listed_row (drop (c.loop-name.name-index + 1) c.args.rows.now))) names ∙ t.others,
    )
