use Rattle.std.proofs.Common.{◌≡◌, ◌∙◌, ◌+◌, ◌*◌, ◌-◌, ◌<◌, [], arith, sym, ap, subst, get_or, take, drop, length}
use Rattle.std.specs.Prelude.{unwrap_or}
use Rattle.std.proofs.lemmas.List.{get_or-map, length-map, take_all}
use Rattle.compose_model.specs.Table.{Definition}
use Rattle.compose_tree.specs.Packed.{texts_of, AreEntries}
use Rattle.compose_tree.proofs.Lookups.{leaf_text_is, leaves_count}
use Rattle.compose_tree.proofs.PackedTexts.{entries_count}
use Rattle.compose_c.specs.Arrays.{IsEntry}
use Rattle.compose_c.proofs.Entries.{entry_at, one_more_text}
use Rattle.compose_c.proofs.packed.are_entries.Goals as goal

pub returns-then-entries-leaves-clause-different : goal.returns-then-entries-leaves-clause-different
returns-then-entries-leaves-clause-different c = λ _ are.
    let n = entries_count (texts_of c.args.table.now) c.args.entries.now c.args.long_texts.now are in
    let m = length-map c.args.table.now (λ (d : Definition). d.text) in
    let l = leaves_count c.args.table.now c.node_count.ensures.settled in
    c.if-entries-leaves.true (omega (arith, n, m, l, c.leaf_count-leaves.ensures))

pub returns-then-not-is_entry-clause-different : goal.returns-then-not-is_entry-clause-different
returns-then-not-is_entry-clause-different c = λ _ are.
    let table = c.args.table.now in
    let entries = c.args.entries.now in
    let long = c.args.long_texts.now in
    let i = c.loop-leaf.leaf in
    let d : Definition = record { sequence = []; text = [] } in
    let l = leaves_count table c.node_count.ensures.settled in
    let m = length-map table (λ (x : Definition). x.text) in
    let within : i < length table = omega (arith, l, c.leaf_count-leaves.ensures, c.loop-leaf-test.true) in
    let text : c.as_bytes.result.now ≡ get_or (texts_of table) i [] =
    c.as_bytes.ensures.value ∙ ap (λ o. unwrap_or o []) (sym c.text.ensures.value ∙ leaf_text_is table i d c.node_count.ensures.settled within)
    ∙ sym (get_or-map (λ (x : Definition). x.text) table i d [] within) in
    let four : i * 4 + 4 - i * 4 ≡ 4 = omega arith in
    c.is_entry.ensures.different c.if-not-is_entry.true
    (subst (λ n. IsEntry (take n (drop (i * 4) entries)) c.as_bytes.result.now long) (sym four)
    (subst (λ t. IsEntry (take 4 (drop (i * 4) entries)) t long) (sym text) (entry_at (texts_of table) entries long i (omega (arith, m, within)) are)))

pub loop-leaf-preserved : goal.loop-leaf-preserved
loop-leaf-preserved c =
    let table = c.args.table.now in
    let entries = c.args.entries.now in
    let long = c.args.long_texts.now in
    let i = c.loop-leaf.leaf in
    let d : Definition = record { sequence = []; text = [] } in
    let l = leaves_count table c.node_count.ensures.settled in
    let m = length-map table (λ (x : Definition). x.text) in
    let within : i < length table = omega (arith, l, c.leaf_count-leaves.ensures, c.loop-leaf-test.true) in
    let text : c.as_bytes.result.now ≡ get_or (texts_of table) i [] =
    c.as_bytes.ensures.value ∙ ap (λ o. unwrap_or o []) (sym c.text.ensures.value ∙ leaf_text_is table i d c.node_count.ensures.settled within)
    ∙ sym (get_or-map (λ (x : Definition). x.text) table i d [] within) in
    let four : i * 4 + 4 - i * 4 ≡ 4 = omega arith in
    one_more_text (texts_of table) entries long i c.as_bytes.result.now (omega (arith, m, within)) (omega (arith, l, c.leaf_count-leaves.ensures, c.loop-leaf-test.true, c.if-entries-leaves.false)) text
    c.loop-leaf.invariant (subst (λ n. IsEntry (take n (drop (i * 4) entries)) c.as_bytes.result.now long) four (c.is_entry.ensures.same c.if-not-is_entry.false))

pub returns-clause-same : goal.returns-clause-same
returns-clause-same c = λ _.
    let table = c.args.table.now in
    let i = c.loop-leaf.leaf in
    let l = leaves_count table c.node_count.ensures.settled in
    let m = length-map table (λ (x : Definition). x.text) in
    subst (λ es. AreEntries es (texts_of table) c.args.long_texts.now) (take_all (i * 4) c.args.entries.now (omega (arith, c.loop-leaf-test.false, c.if-entries-leaves.false, c.loop-leaf.auto.leaf-end)))
    (subst (λ ts. AreEntries (take (i * 4) c.args.entries.now) ts c.args.long_texts.now) (take_all i (texts_of table) (omega (arith, l, m, c.leaf_count-leaves.ensures, c.loop-leaf-test.false))) c.loop-leaf.invariant)
