use Rattle.std.proofs.Common.{◌≡◌, ◌∙◌, ◌++◌, ℕ, List, refl, sym, ap, map, rules}
use Rattle.std.specs.Prelude.{None}
use Rattle.std.specs.Option.{option_map, option_and_then}
use Rattle.compose_model.specs.Nodes.{node}
use Rattle.compose_model.specs.Table.{is_extended}
use Rattle.compose_walk.proofs.NodeNumbers.{root_at_zero}
use Rattle.compose_places.specs.Counting.{sequence_named}
use Rattle.compose_lookup.specs.Longer.{first_longer}
use Rattle.compose_diff_rows.specs.Rows.{written, named_sequence, sequence_in, longer_in}
use Rattle.compose_diff_rows.proofs.LongerNow.{none_longer, longer_by_name}
use Rattle.compose_diff_rows.proofs.longer.longer_named.Goals as goal

pub returns-in_err-node : goal.returns-in_err-node
returns-in_err-node g c =
    let w = written g.T.ComposeTable.definitions c.args.new.now in
    let none : c.from_residual.result ≡ None = search rules in
    ap (option_map named_sequence) none
    ∙ longer_by_name w (sequence_named c.args.names.now (map (λ key. key.now) c.args.keys.now)) None (λ _. refl)
    (λ s h. none_longer w c.node_count.ensures.settled.definitions s (ap (λ p. is_extended w.table (p ++ s)) (sym (root_at_zero w.table 0 refl)) ∙ c.in_err-node.ensures s h))

pub returns-in_err-leaf : goal.returns-in_err-leaf
returns-in_err-leaf g c =
    let w = written g.T.ComposeTable.definitions c.args.new.now in
    let none : c.from_residual-in_err-leaf.result ≡ None = search rules in
    let found = c.in_ok-node.ensures in
    let same : node w.table c.in_ok-node.node.0 ≡ found.0 = found.3 ∙ ap (λ p. p ++ found.0) (root_at_zero w.table 0 refl) in
    ap (option_map named_sequence) none ∙ ap (option_and_then (sequence_in w)) (c.in_err-leaf.ensures.sequence ∙ ap (first_longer w.table) same) ∙ sym (ap (option_and_then (longer_in w)) found.1)

pub returns : goal.returns
returns g c =
    let w = written g.T.ComposeTable.definitions c.args.new.now in
    let found = c.in_ok-node.ensures in
    let same : node w.table c.in_ok-node.node.0 ≡ found.0 = found.3 ∙ ap (λ p. p ++ found.0) (root_at_zero w.table 0 refl) in
    c.sequence_at.ensures ∙ ap (option_and_then (sequence_in w)) (c.in_ok-leaf.ensures.sequence ∙ ap (first_longer w.table) same) ∙ sym (ap (option_and_then (longer_in w)) found.1)
