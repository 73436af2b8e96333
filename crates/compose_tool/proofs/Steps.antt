-- The parts of a command, read one after another.
use Rattle.std.proofs.Common.{◌≡◌, ℕ, List, sym, ◌∙◌, ap, subst, nat_cmp}
use Rattle.std.specs.Prelude.{Result, Ok}
use Rattle.compose_text.specs.Results.{◌>>=◌}
use Rattle.compose_model.specs.Table.{Definition}
use Rattle.compose_model.specs.Nodes.{rising}
use Rattle.compose_model.specs.Certificate.{Repertoire}
use Rattle.compose_tree.specs.TableReturns.{first_table}
use Rattle.compose_cert.specs.Repertoire.{repertoire_of}
use Rattle.compose_migration.specs.Migration.{GivenMigration, NoAnswer, NamedParts, TableSources, Parts, no_only_table, no_repertoire, or_because, named, migration_of}
use Rattle.compose_migration.specs.Refused.{IsRefused}
use Rattle.compose_migration.specs.declared.refusal.Refusal.{Refusal}
use Rattle.compose_migration.proofs.Steps.{IsRead, is_read, step_refused}
use Rattle.compose_answer.specs.Parts.{TypedParts, type_parts, Explainable, explainable, explain_parts, Needs, makeable, make_parts}
use Rattle.compose_tool.specs.Answers.{needs_of}

-- ---- type

module _ (header : List ℕ) (key_names : List (List ℕ)) (given : TableSources) where
  abbrev with_table : NamedParts → List Definition → Result TypedParts NoAnswer
  with_table n table = Ok (record { names = n.names; keys = n.keys; table = table })

  abbrev with_named : NamedParts → Result TypedParts NoAnswer
  with_named n = or_because no_only_table (first_table n.names given.sources given.rule) >>= with_table n

  -- of `type`, a refusal of the names is the refusal of the command
  pub named_refused : (refusal : Refusal) → IsRefused refusal (named header key_names) → IsRefused refusal (type_parts header key_names given)
  named_refused refusal h = step_refused refusal (named header key_names) with_named h

  module _ (n : NamedParts) (n_read : IsRead (named header key_names) n) where
    after_named : type_parts header key_names given ≡ (or_because no_only_table (first_table n.names given.sources given.rule) >>= with_table n)
    after_named = ap (λ r. r >>= with_named) (is_read (named header key_names) n n_read)

    -- for `type`: if the names are read, a refusal of the table is the refusal of the command
    pub table_refused : (refusal : Refusal) → IsRefused refusal (or_because no_only_table (first_table n.names given.sources given.rule)) → IsRefused refusal (type_parts header key_names given)
    table_refused refusal h =
        subst (λ (s : Result TypedParts NoAnswer). IsRefused refusal s) (sym after_named)
        (step_refused refusal (or_because no_only_table (first_table n.names given.sources given.rule)) (with_table n) h)

    -- for `type`: if the names and the table are read, these are its parts
    pub typed_read : (table : List Definition) → IsRead (or_because no_only_table (first_table n.names given.sources given.rule)) table
        → type_parts header key_names given ≡ Ok (record { names = n.names; keys = n.keys; table = table })
    typed_read table table_read = after_named ∙ ap (λ r. r >>= with_table n) (is_read (or_because no_only_table (first_table n.names given.sources given.rule)) table table_read)

-- ---- explain and make

module _ (given : GivenMigration) where
  abbrev with_fresh : Parts → Result Explainable NoAnswer
  with_fresh move = explainable move (rising nat_cmp move.keys)

  -- of `explain`, a refusal of the migration is the refusal of the command
  pub explain_refused : (refusal : Refusal) → IsRefused refusal (migration_of given) → IsRefused refusal (explain_parts given)
  explain_refused refusal h = step_refused refusal (migration_of given) with_fresh h

  -- of `make`, a refusal of the migration is the refusal of the command
  pub make_refused : (bytes : List ℕ) (refusal : Refusal) → IsRefused refusal (migration_of given) → IsRefused refusal (make_parts given bytes)
  make_refused bytes refusal h = step_refused refusal (migration_of given) (λ move. needs_of move bytes) h

  module _ (move : Parts) (move_read : IsRead (migration_of given) move) where
    -- for `explain`: once the migration is read, the parts depend on it and on its fresh keysyms in
    -- rising order
    pub explain_read : (fresh : List ℕ) → fresh ≡ rising nat_cmp move.keys → explain_parts given ≡ explainable move fresh
    explain_read fresh is = ap (λ r. r >>= with_fresh) (is_read (migration_of given) move move_read) ∙ ap (explainable move) (sym is)

    -- for `make`: once the migration is read, the parts depend on it and on the repertoire's text
    pub make_read : (bytes : List ℕ) → make_parts given bytes ≡ needs_of move bytes
    make_read bytes = ap (λ r. r >>= (λ move. needs_of move bytes)) (is_read (migration_of given) move move_read)

module _ (move : Parts) (bytes : List ℕ) where
  abbrev with_repertoire : Repertoire → Result Needs NoAnswer
  with_repertoire r = makeable move r (rising nat_cmp move.keys)

  -- of `make` on these tables, a refusal of the repertoire is the refusal of the command
  pub repertoire_refused : (refusal : Refusal) → IsRefused refusal (or_because no_repertoire (repertoire_of bytes)) → IsRefused refusal (needs_of move bytes)
  repertoire_refused refusal h = step_refused refusal (or_because no_repertoire (repertoire_of bytes)) with_repertoire h

  -- for `make` on these tables: once the repertoire is read, the parts depend on it and on the
  -- fresh keysyms in rising order
  pub needs_read : (r : Repertoire) → IsRead (or_because no_repertoire (repertoire_of bytes)) r → (fresh : List ℕ) → fresh ≡ rising nat_cmp move.keys
      → needs_of move bytes ≡ makeable move r fresh
  needs_read r r_read fresh is = ap (λ x. x >>= with_repertoire) (is_read (or_because no_repertoire (repertoire_of bytes)) r r_read) ∙ ap (makeable move r) (sym is)
