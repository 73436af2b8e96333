-- The tables of a migration that was read.
use Rattle.std.proofs.Common.{◌≡◌, refl, List, subst}
use Rattle.std.specs.Prelude.{Result, Ok, Err}
use Rattle.compose_text.specs.Results.{◌>>=◌}
use Rattle.compose_model.specs.Table.{Definition}
use Rattle.compose_tree.specs.TableReturns.{first_table}
use Rattle.compose_migration.specs.Migration.{GivenMigration, NamedParts, NoAnswer, Parts, migration_of, named, no_table, or_because, table_of_side}
use Rattle.compose_migration.specs.declared.refusal.Side.TheVariants.{Old, New}

because_ok : {A E F : Type 0} (why : E → F) (r : Result A E) (a : A) → or_because why r ≡ Ok a → r ≡ Ok a
because_ok why (Ok x) a h = cc
because_ok why (Err e) a h = absurd (cc)

bind_ok : {A B E : Type 0} (r : Result A E) (f : A → Result B E) (b : B) → (r >>= f) ≡ Ok b → (a : A) × (r ≡ Ok a) × (f a ≡ Ok b)
bind_ok (Ok a) f b h = (a, refl, h)
bind_ok (Err e) f b h = absurd (cc)

parts_same : (a b : Parts) (r : Result Parts NoAnswer) → r ≡ Ok a → r ≡ Ok b → a ≡ b
parts_same a b r h k = cc

pub tables_read : (given : GivenMigration) (m : Parts) → migration_of given ≡ Ok m
    → (first_table m.names given.old.sources given.old.rule ≡ Ok m.old) × (first_table m.names given.new.sources given.new.rule ≡ Ok m.new)
tables_read given m h =
    let with_new : NamedParts → List Definition → List Definition → Result Parts NoAnswer = λ n old new. Ok (record { names = n.names; keys = n.keys; old = old; new = new }) in
    let n = bind_ok (named given.header given.key_names) (λ n. table_of_side n.names Old given.old >>= (λ old. table_of_side n.names New given.new >>= with_new n old)) m h in
    let old = bind_ok (table_of_side n.0.names Old given.old) (λ old. table_of_side n.0.names New given.new >>= with_new n.0 old) m n.2 in
    let new = bind_ok (table_of_side n.0.names New given.new) (with_new n.0 old.0) m old.2 in
    let same : record { names = n.0.names; keys = n.0.keys; old = old.0; new = new.0 } ≡ m = parts_same (record { names = n.0.names; keys = n.0.keys; old = old.0; new = new.0 }) m (with_new n.0 old.0 new.0) refl new.2 in
    subst (λ (q : Parts). (first_table q.names given.old.sources given.old.rule ≡ Ok q.old) × (first_table q.names given.new.sources given.new.rule ≡ Ok q.new)) same
    (because_ok (no_table Old) (first_table n.0.names given.old.sources given.old.rule) old.0 old.1, because_ok (no_table New) (first_table n.0.names given.new.sources given.new.rule) new.0 new.1)
