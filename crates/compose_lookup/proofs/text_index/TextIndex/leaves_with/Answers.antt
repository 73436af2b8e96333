use Rattle.std.proofs.Common.{◌≡◌, ◌∙◌, List, ap, map, subst, sym}
use Rattle.std.specs.Prelude.{filter}
use Rattle.std.specs.List.{All}
use Rattle.std.proofs.lemmas.List.Elements.{All-filter}
use Rattle.compose_tree.specs.declared.table.LeafId.{LeafId}
use Rattle.compose_lookup.specs.TextIndex.{sequence_at, IsLeaf, has_text}
use Rattle.compose_lookup.proofs.text_index.TextIndex.leaves_with.Goals as goal

pub returns-clause-sequences : goal.returns-clause-sequences
returns-clause-sequences g c =
    let table = g.T.ComposeTable.definitions c.args.table.now in
    let text = c.args.text.now in
    let are : c.with_text.result.now ≡ filter (has_text table text) c.args.self.now = c.with_text.ensures ∙ ap (filter (has_text table text)) (c.as_slice.ensures.value ∙ c.self.view_is) in
    ap (map (sequence_at table)) are ∙ c.requires.sequences

pub returns-clause-in_table : goal.returns-clause-in_table
returns-clause-in_table g c =
    let table = g.T.ComposeTable.definitions c.args.table.now in
    let text = c.args.text.now in
    let are : c.with_text.result.now ≡ filter (has_text table text) c.args.self.now = c.with_text.ensures ∙ ap (filter (has_text table text)) (c.as_slice.ensures.value ∙ c.self.view_is) in
    subst (λ (leaves : List LeafId). All (IsLeaf table) leaves) (sym are) (All-filter (has_text table text) (IsLeaf table) c.args.self.now c.requires.in_table)
