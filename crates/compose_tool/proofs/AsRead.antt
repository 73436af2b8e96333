-- Typing by the definitions as they are read, before they are settled.
use Rattle.std.proofs.Common.{◌≡◌, ℕ, Bool, true, false, cond, List, [], ◌∷◌, length, refl, sym, ap, subst, ◌∙◌}
use Rattle.std.specs.Prelude.{Result, Ok, Err, nat_le, flat_map}
use Rattle.compose_text.specs.Results.{◌>>=◌}
use Rattle.keysym_core.specs.Names.{KeysymNames}
use Rattle.compose_model.specs.Table.{Definition}
use Rattle.compose_model.specs.Nodes.{nodes}
use Rattle.compose_model.specs.Step.{run}
use Rattle.compose_model.specs.declared.Rule.{Rule}
use Rattle.compose_read.specs.Lines.{Source}
use Rattle.compose_read.specs.Read.{definitions_of}
use Rattle.compose_read.specs.Settle.{Overlap, settled}
use Rattle.compose_tree.specs.Targets.{max_nodes}
use Rattle.compose_tree.specs.TableReturns.{NoTable, too_many_nodes, bounded, settled_by, first_table}
use Rattle.compose_migration.specs.Migration.{NamedParts, NoAnswer, TableSources, no_only_table, or_because, named}
use Rattle.compose_answer.specs.Parts.{TypedParts, type_parts}
use Rattle.compose_answer.specs.declared.answer.Answer.{Answer}
use Rattle.compose_answer.specs.declared.answer.Answer.TheVariants.{Yes, No, Invalid, FreshNotAllowed}
use Rattle.compose_tool.specs.Typed.{typed_line}
use Rattle.compose_tool.specs.Answers.{IsTyped, first_definitions, with_definitions}

-- a table that is not too large is what its definitions are settled to
within_bounds : (r : Result (List Definition) Overlap) (rows : List Definition) → bounded r ≡ Ok rows → r ≡ Ok rows
within_bounds (Err overlap) rows h = cc
within_bounds (Ok table) rows h = by (nat_le (length (nodes table)) max_nodes) h
  where
    by : (t : Bool) → cond t (Ok table) (Err too_many_nodes) ≡ Ok rows → ◌≡◌ {A = Result (List Definition) Overlap} (Ok table) (Ok rows)
    by true e = cc
    by false e = cc

-- the table is what the definitions of the first source are settled to
settled_first : (names : KeysymNames) (sources : List Source) (rule : Rule) (read rows : List Definition) → first_table names sources rule ≡ Ok rows → first_definitions names sources ≡ Ok read
    → settled rule read ≡ Ok rows
settled_first names [] rule read rows h e = cc
settled_first names (s ∷ sources) rule read rows h e = within_bounds (settled rule read) rows (sym (ap (settled_by rule) e) ∙ h)

module _ (header : List ℕ) (key_names : List (List ℕ)) (given : TableSources) where
  -- the table of the parts is the first one of the sources
  table_read : (p : TypedParts) → type_parts header key_names given ≡ Ok p → first_table p.names given.sources given.rule ≡ Ok p.table
  table_read p h = by_names (named header key_names) h
    where
      by_table : (n : NamedParts) (r : Result (List Definition) NoTable) → first_table n.names given.sources given.rule ≡ r
          → (or_because no_only_table r >>= (λ table. Ok (record { names = n.names; keys = n.keys; table = table }))) ≡ Ok p → first_table p.names given.sources given.rule ≡ Ok p.table
      by_table n (Err why) is e = cc
      by_table n (Ok table) is e =
          let same : record { names = n.names; keys = n.keys; table = table } ≡ p = cc in subst (λ (q : TypedParts). first_table q.names given.sources given.rule ≡ Ok q.table) same is

      by_names : (r : Result NamedParts NoAnswer)
          → (r >>= (λ n. or_because no_only_table (first_table n.names given.sources given.rule) >>= (λ table. Ok (record { names = n.names; keys = n.keys; table = table })))) ≡ Ok p
          → first_table p.names given.sources given.rule ≡ Ok p.table
      by_names (Err why) e = cc
      by_names (Ok n) e = by_table n (first_table n.names given.sources given.rule) refl e

module _ (runs : (names : KeysymNames) (rule : Rule) (table rows : List Definition) (keys : List ℕ) → settled rule table ≡ Ok rows → run names rows keys ≡ run names table keys) where
  -- what is typed over the settled table is typed over the definitions as they are read
  same_typed : (p : TypedParts) (rule : Rule) (read : List Definition) (answer : Answer) → settled rule read ≡ Ok p.table → IsTyped p answer → IsTyped (with_definitions read p) answer
  same_typed p rule read (Yes text) is h = h ∙ ap (flat_map typed_line) (runs p.names rule read p.table p.keys is)
  same_typed p rule read (No text) is h = h
  same_typed p rule read (Invalid fault) is h = h
  same_typed p rule read (FreshNotAllowed keysym) is h = h

  pub typed_as_read : (header : List ℕ) (key_names : List (List ℕ)) (given : TableSources) (found : TypedParts) → type_parts header key_names given ≡ Ok found → (answer : Answer) → IsTyped found answer
      → (p : TypedParts) (read : List Definition) → type_parts header key_names given ≡ Ok p → first_definitions p.names given.sources ≡ Ok read → IsTyped (with_definitions read p) answer
  typed_as_read header key_names given found is answer h p read also e =
      let same : found ≡ p = cc in
      same_typed p given.rule read answer (settled_first p.names given.sources given.rule read p.table (table_read header key_names given p also) e) (subst (λ (q : TypedParts). IsTyped q answer) same h)
