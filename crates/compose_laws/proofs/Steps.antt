-- The steps in which a migration is read, and the tables that are read.
use Rattle.std.proofs.Common.{◌≡◌, ℕ, List, [], ◌∷◌, Bool, true, false, length, refl, ◌∙◌, ap, subst}
use Rattle.std.specs.Prelude.{if◌then◌else◌, nat_le, Result, Ok, Err}
use Rattle.compose_text.specs.Results.{◌>>=◌}
use Rattle.keysym_core.specs.Header.{names_of}
use Rattle.keysym_core.specs.Names.{KeysymNames}
use Rattle.compose_model.specs.Nodes.{nodes}
use Rattle.compose_model.specs.Table.{Definition, is_table}
use Rattle.compose_model.specs.declared.Rule.{Rule}
use Rattle.compose_read.specs.Lines.{Source}
use Rattle.compose_read.specs.Read.{definitions_of}
use Rattle.compose_read.specs.Settle.{Overlap, IsSettled, settled}
use Rattle.compose_read.specs.declared.ReadFault.{ReadFault}
use Rattle.compose_read.proofs.SettledTable.{settled_is}
use Rattle.compose_tree.specs.TableReturns.{too_many_nodes, bounded, settled_by, first_table}
use Rattle.compose_tree.specs.Targets.{max_nodes}
use Rattle.compose_migration.specs.Keys.{keys_of}
use Rattle.compose_migration.specs.Migration.{NoAnswer, GivenMigration, NamedParts, Parts, or_because, named, migration_of, table_of_side, no_key, no_names, no_table}
use Rattle.compose_migration.specs.declared.refusal.Side.TheVariants.{Old, New}
use Rattle.compose_laws.proofs.ReadTables.{definitions_are}
use Rattle.compose_laws.proofs.Results.{bind_ok, because_ok, ok_ok}

-- ---- the steps

abbrev with_new : NamedParts → List Definition → List Definition → Result Parts NoAnswer
with_new n old new = Ok (record { names = n.names; keys = n.keys; old = old; new = new })

abbrev new_after : GivenMigration → NamedParts → List Definition → Result Parts NoAnswer
new_after given n old = table_of_side n.names New given.new >>= with_new n old

abbrev old_after : GivenMigration → NamedParts → Result Parts NoAnswer
old_after given n = table_of_side n.names Old given.old >>= new_after given n

abbrev pub parts_with : NamedParts → List Definition → List Definition → Parts
parts_with n old new = record { names = n.names; keys = n.keys; old = old; new = new }

pub record Steps (given : GivenMigration) (m : Parts) : Type 0 where
  pub n : NamedParts
  pub is_named : named given.header given.key_names ≡ Ok n
  pub old : List Definition
  pub is_old : table_of_side n.names Old given.old ≡ Ok old
  pub new : List Definition
  pub is_new : table_of_side n.names New given.new ≡ Ok new
  pub whole : parts_with n old new ≡ m

pub steps_of : (given : GivenMigration) (m : Parts) → migration_of given ≡ Ok m → Steps given m
steps_of given m h =
    let n = bind_ok (named given.header given.key_names) (old_after given) m h in
    let old = bind_ok (table_of_side n.0.names Old given.old) (new_after given n.0) m n.2 in
    let new = bind_ok (table_of_side n.0.names New given.new) (with_new n.0 old.0) m old.2 in
    record {
      n = n.0;
      is_named = n.1;
      old = old.0;
      is_old = old.1;
      new = new.0;
      is_new = new.1;
      whole = ok_ok (parts_with n.0 old.0 new.0) m new.2;
    }

pub of_steps : (given : GivenMigration) (n : NamedParts) (old new : List Definition) → named given.header given.key_names ≡ Ok n → table_of_side n.names Old given.old ≡ Ok old
    → table_of_side n.names New given.new ≡ Ok new → migration_of given ≡ Ok (parts_with n old new)
of_steps given n old new is_named is_old is_new =
    ap (λ r. r >>= old_after given) is_named ∙ (ap (λ r. r >>= new_after given n) is_old ∙ ap (λ r. r >>= with_new n old) is_new)

-- ---- the names

abbrev with_keys : KeysymNames → List ℕ → Result NamedParts NoAnswer
with_keys names keys = Ok (record { names = names; keys = keys })

abbrev with_names : List (List ℕ) → KeysymNames → Result NamedParts NoAnswer
with_names key_names names = or_because no_key (keys_of names key_names) >>= with_keys names

pub names_are : (header : List ℕ) (key_names : List (List ℕ)) (n : NamedParts) → named header key_names ≡ Ok n → names_of header ≡ Ok n.names
names_are header key_names n h =
    let names = bind_ok (or_because no_names (names_of header)) (with_names key_names) n h in
    let keys = bind_ok (or_because no_key (keys_of names.0 key_names)) (with_keys names.0) n names.2 in
    because_ok no_names (names_of header) names.0 names.1 ∙ ap (λ (x : NamedParts). Ok x.names) (ok_ok (record { names = names.0; keys = keys.0 }) n keys.2)

-- the same names without the keys
pub named_alone : (header : List ℕ) (key_names : List (List ℕ)) (n : NamedParts) → named header key_names ≡ Ok n → named header [] ≡ Ok (record { names = n.names; keys = [] })
named_alone header key_names n h = ap (λ x. or_because no_names x >>= with_names []) (names_are header key_names n h)

-- ---- the tables are settled

bound_same : (b : Bool) (r rows : List Definition) → if b then Ok r else Err too_many_nodes ≡ Ok rows → r ≡ rows
bound_same true r rows h = cc
bound_same false r rows h = absurd (cc)

bounded_settled : (rule : Rule) (table rows : List Definition) (s : Result (List Definition) Overlap) → is_table table ≡ true → settled rule table ≡ s → bounded s ≡ Ok rows → IsSettled rows
bounded_settled rule table rows (Err o) t e h = absurd (cc)
bounded_settled rule table rows (Ok r) t e h = settled_is rule table rows t (e ∙ ap (λ (x : List Definition). Ok x) (bound_same (nat_le (length (nodes r)) max_nodes) r rows h))

read_settled : (rule : Rule) (rows : List Definition) (read : Result (List Definition) ReadFault) → ((table : List Definition) → read ≡ Ok table → is_table table ≡ true) → settled_by rule read ≡ Ok rows → IsSettled rows
read_settled rule rows (Err f) t h = absurd (cc)
read_settled rule rows (Ok table) t h = bounded_settled rule table rows (settled rule table) (t table refl) refl h

first_settled : (header : List ℕ) (names : KeysymNames) (sources : List Source) (rule : Rule) (rows : List Definition) → names_of header ≡ Ok names → first_table names sources rule ≡ Ok rows → IsSettled rows
first_settled header names [] rule rows read h = absurd (cc)
first_settled header names (s ∷ sources) rule rows read h =
    read_settled rule rows (definitions_of names (s ∷ sources) s.name) (λ table e. definitions_are header names read (s ∷ sources) s.name table e) h

pub both_settled : (given : GivenMigration) (m : Parts) → migration_of given ≡ Ok m → IsSettled m.old × IsSettled m.new
both_settled given m h =
    let s = steps_of given m h in
    let names = names_are given.header given.key_names s.n s.is_named in
    let old = first_settled given.header s.n.names given.old.sources given.old.rule s.old names (because_ok (no_table Old) (first_table s.n.names given.old.sources given.old.rule) s.old s.is_old) in
    let new = first_settled given.header s.n.names given.new.sources given.new.rule s.new names (because_ok (no_table New) (first_table s.n.names given.new.sources given.new.rule) s.new s.is_new) in
    subst (λ (x : Parts). IsSettled x.old × IsSettled x.new) s.whole (old, new)
