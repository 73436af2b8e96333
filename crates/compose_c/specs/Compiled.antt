-- Compiled tables: the table that the sources define.
use Rattle.std.specs.Prelude.{◌≡◌, ◌≤◌, ◌+◌, ◌*◌, ℕ, Bool, true, false, List, length, sum_by, Ok}
use Rattle.keysym_core.specs.Names.{KeysymNames}
use Rattle.keysym_core.specs.Header.{names_of}
use Rattle.compose_model.specs.Table.{Definition}
use Rattle.compose_model.specs.Nodes.{nodes, edges, leaves}
use Rattle.compose_model.specs.declared.Rule.{Rule}
use Rattle.compose_model.specs.declared.Rule.TheVariants.{Refuse, Longest}
use Rattle.compose_bundle.specs.Bundle.{Bundle, IsBundle}
use Rattle.compose_results.specs.Results.{AreFirstResults}
use Rattle.compose_tree.specs.Packed.{different_long, long_text, texts_of}
use Rattle.compose_tree.specs.TableReturns.{first_table}
use Rattle.compose_c.specs.declared.compile.Sizes.{Sizes}

abbrev pub rule_of : Bool → Rule
rule_of true = Longest
rule_of false = Refuse

-- the table that the first source of this bundle defines under the rule, with the names of this
-- header
pub record IsRead (header bundle : List ℕ) (rule : Rule) (table : List Definition) : Type 0 where
  pub names : KeysymNames
  pub sources : Bundle
  pub named : names_of header ≡ Ok names
  pub bundled : IsBundle bundle sources
  pub is : first_table names sources.sources rule ≡ Ok table

-- the same table, and the result keysym of each of its leaves
pub record IsReadWithResults (header bundle : List ℕ) (rule : Rule) (table : List Definition) (results : List ℕ) : Type 0 where
  pub names : KeysymNames
  pub sources : Bundle
  pub named : names_of header ≡ Ok names
  pub bundled : IsBundle bundle sources
  pub is : first_table names sources.sources rule ≡ Ok table
  pub are : AreFirstResults names sources.sources table results

-- a table of these sizes fits into arrays of these lengths
pub record Fits (s : Sizes) (nodes edges texts long_texts hints : ℕ) : Type 0 where
  pub all_nodes : s.nodes ≤ nodes
  pub all_edges : s.edges ≤ edges
  pub all_texts : s.texts ≤ texts
  pub all_long_texts : s.long_texts ≤ long_texts
  pub all_hints : s.hints ≤ hints

-- the sizes of this table: one for each node and one for the end of the edges; one for each edge;
-- four for each text; one for each byte that a long text takes, each text once; and two hints for
-- each edge
pub record AreSizes (table : List Definition) (s : Sizes) : Type 0 where
  pub all_nodes : s.nodes ≡ length (nodes table) + 1
  pub all_edges : s.edges ≡ sum_by (λ p. length (edges table p)) (nodes table)
  pub all_texts : s.texts ≡ 4 * length (leaves table)
  pub all_long_texts : s.long_texts ≡ sum_by (λ (t : List ℕ). length (long_text t)) (different_long (texts_of table))
  pub all_hints : s.hints ≡ 2 * sum_by (λ p. length (edges table p)) (nodes table)

-- the sizes of a table of which this holds
pub record AreSizesOf (P : List Definition → Type 0) (s : Sizes) : Type 0 where
  pub table : List Definition
  pub read : P table
  pub sizes : AreSizes table s
