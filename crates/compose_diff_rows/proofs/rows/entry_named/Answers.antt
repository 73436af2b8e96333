use Rattle.std.proofs.Common.{◌≡◌, ◌∙◌, map, sym, refl, ap, arith, rules}
use Rattle.std.specs.Prelude.{None}
use Rattle.std.specs.Option.{option_map}
use Rattle.std.proofs.lemmas.Option.{same_Some}
use Rattle.compose_model.specs.Table.{is_sequence}
use Rattle.compose_tree.specs.Targets.{leaf_number}
use Rattle.compose_tree.proofs.Steps.{leaf_below}
use Rattle.compose_places.specs.Counting.{sequence_named}
use Rattle.compose_diff_rows.specs.Rows.{written, reported_entry}
use Rattle.compose_diff_rows.proofs.RowsSoFar.{no_entry, entry_by_name, entry_numbered}
use Rattle.compose_diff_rows.proofs.rows.entry_named.Goals as goal

pub entry_at-requires : goal.entry_at-requires
entry_at-requires g c =
    let found = c.in_ok-leaf.ensures in let below = leaf_below (g.T.ComposeTable.definitions c.args.written.now.table.now) found.0 found.2 in let number = found.3 in omega (arith, below, number)

pub returns-in_err-leaf : goal.returns-in_err-leaf
returns-in_err-leaf g c =
    let none : c.from_residual.result ≡ None = search rules in
    let w = written g.T.ComposeTable.definitions c.args.written.now in
    ap (option_map reported_entry) none ∙ entry_by_name w (sequence_named c.args.names.now (map (λ key. key.now) c.args.keys.now)) None (λ _. refl) (λ s h. no_entry w s (c.in_err-leaf.ensures s h))

pub returns : goal.returns
returns g c =
    let table = g.T.ComposeTable.definitions c.args.written.now.table.now in
    let w = written g.T.ComposeTable.definitions c.args.written.now in
    let found = c.in_ok-leaf.ensures in
    entry_by_name w (sequence_named c.args.names.now (map (λ key. key.now) c.args.keys.now)) (option_map reported_entry c.entry_at.result) (λ h. absurd (let clash = sym h ∙ found.1 in cc))
    (λ s h.
    (let is = sym (same_Some found.0 s (sym found.1 ∙ h)) in
    entry_numbered w s c.in_ok-leaf.leaf.0 _ (ap (is_sequence table) is ∙ found.2) (ap (leaf_number table) is ∙ found.3) c.entry_at.ensures))
