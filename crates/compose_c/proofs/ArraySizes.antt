-- The numbers of entries in the arrays of a table.
use Rattle.std.proofs.Common.{◌≡◌, ◌∙◌, ◌+◌, ◌*◌, ℕ, List, [], ◌∷◌, map, length, refl, sym, ap, ap₂}
use Rattle.std.specs.Prelude.{sum_by}
use Rattle.std.proofs.lemmas.List.{length-append, length-map}
use Rattle.std.proofs.lemmas.List.Sums.{sum_by-cons}
use Rattle.compose_model.specs.Table.{Definition}
use Rattle.compose_model.specs.Nodes.{nodes, edges}
use Rattle.compose_tree.specs.Packed.{IsPacked, different_long, long_text, long_texts, packed_edge, packed_edges, texts_of}
use Rattle.compose_tree.specs.Rows.{edge_of, row_of, rows_of}
use Rattle.compose_tree.specs.declared.packed.PackedEdge.{PackedEdge}
use Rattle.compose_tree.specs.declared.packed.PackedNode.{PackedNode}
use Rattle.compose_tree.proofs.PackedLookups.{packed_count}
use Rattle.compose_tree.proofs.PackedTexts.{entries_counted}
use Rattle.compose_c.specs.Compiled.{AreSizes}
use Rattle.compose_c.specs.declared.compile.Sizes.{Sizes}

module _ (table : List Definition) where
  edge_count : (ps : List (List ℕ)) → length (packed_edges (map (row_of table) ps)) ≡ sum_by (λ p. length (edges table p)) ps
  edge_count [] = refl
  edge_count (p ∷ ps) =
      length-append (map packed_edge (map (edge_of table p) (edges table p))) (packed_edges (map (row_of table) ps))
      ∙ ap₂ (λ m n. m + n) (length-map (map (edge_of table p) (edges table p)) packed_edge ∙ length-map (edges table p) (edge_of table p)) (edge_count ps)
      ∙ sym (sum_by-cons (λ p. length (edges table p)) p ps)

long_bytes : (texts : List (List ℕ)) → length (long_texts texts) ≡ sum_by (λ (t : List ℕ). length (long_text t)) texts
long_bytes [] = refl
long_bytes (t ∷ texts) =
    length-append (long_text t) (long_texts texts) ∙ ap (λ n. length (long_text t) + n) (long_bytes texts) ∙ sym (sum_by-cons (λ (u : List ℕ). length (long_text u)) t texts)

-- the lengths of the arrays of a table
pub lengths : (table : List Definition) (s : Sizes) (packed_in : List PackedNode) (edges_in : List PackedEdge) (entries long : List ℕ)
    → IsPacked packed_in edges_in entries long table
    → s.nodes ≡ length packed_in → s.edges ≡ length edges_in → s.texts ≡ length entries → s.long_texts ≡ length long → s.hints ≡ 2 * length edges_in → AreSizes table s
lengths table s packed_in edges_in entries long packed node_count edge_total entry_count byte_count hint_count = record {
  all_nodes = node_count ∙ ap length packed.nodes_are ∙ packed_count (rows_of table) 0 ∙ ap (λ n. n + 1) (length-map (nodes table) (row_of table));
  all_edges = edge_total ∙ ap length packed.edges_are ∙ edge_count table (nodes table);
  all_texts = entry_count ∙ entries_counted packed_in edges_in entries long table packed;
  all_long_texts = byte_count ∙ ap length packed.long_are ∙ long_bytes (different_long (texts_of table));
  all_hints = hint_count ∙ ap (λ n. 2 * n) (ap length packed.edges_are ∙ edge_count table (nodes table));
}
