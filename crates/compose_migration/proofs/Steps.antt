-- Reading the parts of a migration, one after another.
use Rattle.std.proofs.Common.{◌≡◌, ℕ, List, sym, ◌∙◌, ap, subst}
use Rattle.std.specs.Prelude.{Result, Ok, Err}
use Rattle.std.specs.Result.{IsErrAnd}
use Rattle.compose_text.specs.Results.{◌>>=◌}
use Rattle.keysym_core.specs.Names.{KeysymNames}
use Rattle.keysym_core.specs.Header.{names_of}
use Rattle.keysym_core.specs.declared.fault.NameFault.TheVariants as name_faults
use Rattle.compose_model.specs.Table.{Definition}
use Rattle.compose_cert.specs.declared.CertFault.TheVariants as cert_faults
use Rattle.compose_cert.specs.declared.RepertoireFault.TheVariants as repertoire_faults
use Rattle.compose_migration.specs.Keys.{keys_of}
use Rattle.compose_migration.specs.Migration.{GivenMigration, NamedParts, Parts, NoAnswer, no_names, no_key, or_because, named, migration_of, table_of_side}
use Rattle.compose_migration.specs.Refused.{IsRefused, Returns}
use Rattle.compose_migration.specs.declared.refusal.Side.TheVariants as sides
use Rattle.compose_migration.specs.declared.refusal.Refusal.{Refusal}
use Rattle.compose_migration.specs.declared.refusal.Refusal.TheVariants as refusals

-- this is read
abbrev pub IsRead : {A : Type 0} → Result A NoAnswer → A → Type 0
IsRead {A} expected x = (a : A) × (expected ≡ Ok a) × (a ≡ x)

pub is_read : {A : Type 0} (expected : Result A NoAnswer) (x : A) → IsRead expected x → expected ≡ Ok x
is_read expected x h = h.1 ∙ ap (λ a. Ok a) h.2

-- a refusal of one step is the refusal of the whole
pub step_refused : {A B : Type 0} (refusal : Refusal) (r : Result A NoAnswer) (f : A → Result B NoAnswer) → IsRefused refusal r → IsRefused refusal (r >>= f)
step_refused (refusals.Names name_faults.NoMemory) r f h = absurd h
step_refused (refusals.Names (name_faults.NotUtf8 n)) r f h = ap (λ r. r >>= f) h
step_refused (refusals.Names (name_faults.BadLine n)) r f h = ap (λ r. r >>= f) h
step_refused (refusals.Names (name_faults.ValueTooLarge n)) r f h = ap (λ r. r >>= f) h
step_refused (refusals.Names (name_faults.NameConflict n)) r f h = ap (λ r. r >>= f) h
step_refused (refusals.Names name_faults.TooManyNames) r f h = ap (λ r. r >>= f) h
step_refused (refusals.Key index) r f h = ap (λ r. r >>= f) h
step_refused (refusals.Table fault) r f h = (h.0, ap (λ r. r >>= f) h.1, h.2)
step_refused (refusals.Side side fault) r f h = (h.0, ap (λ r. r >>= f) h.1, h.2)
step_refused (refusals.Repertoire (repertoire_faults.BadLine n)) r f h = ap (λ r. r >>= f) h
step_refused (refusals.Repertoire (repertoire_faults.NotRising n)) r f h = ap (λ r. r >>= f) h
step_refused (refusals.Repertoire repertoire_faults.TooMany) r f h = ap (λ r. r >>= f) h
step_refused (refusals.Repertoire repertoire_faults.NoMemory) r f h = absurd h
step_refused (refusals.Certificate (cert_faults.NotText n)) r f h = ap (λ r. r >>= f) h
step_refused (refusals.Certificate cert_faults.TooLarge) r f h = ap (λ r. r >>= f) h
step_refused (refusals.Certificate cert_faults.NoMemory) r f h = absurd h
step_refused (refusals.Fresh fault) r f h = ap (λ r. r >>= f) h
step_refused refusals.TooManyFresh r f h = ap (λ r. r >>= f) h
step_refused refusals.NoMemory r f h = tt

-- a result that is this refusal has the meaning of the refusal
pub refusal_gives : {P A : Type 0} (answers : P → A → Type 0) (r : Result A Refusal) (refusal : Refusal) (expected : Result P NoAnswer) → IsErrAnd r (λ e. e ≡ refusal) → IsRefused refusal expected
    → Returns answers r expected
refusal_gives answers (Ok x) refusal expected h g = absurd h
refusal_gives answers (Err e) refusal expected h g = subst (λ (x : Refusal). IsRefused x expected) (sym h) g

-- ---- names and keysyms

module _ (header : List ℕ) (key_names : List (List ℕ)) (names : KeysymNames) (names_read : IsRead (or_because no_names (names_of header)) names) where
  abbrev with_keys : List ℕ → Result NamedParts NoAnswer
  with_keys keys = Ok (record { names = names; keys = keys })

  after_names : named header key_names ≡ (or_because no_key (keys_of names key_names) >>= with_keys)
  after_names =
      ap (λ r. r >>= (λ n. or_because no_key (keys_of n key_names) >>= (λ keys. (let p : NamedParts = record { names = n; keys = keys } in Ok p))))
      (is_read (or_because no_names (names_of header)) names names_read)

  -- if the names are read, a faulty key name is the first part with a fault
  pub keys_refused : (refusal : Refusal) → IsRefused refusal (or_because no_key (keys_of names key_names)) → IsRefused refusal (named header key_names)
  keys_refused refusal h = subst (λ (s : Result NamedParts NoAnswer). IsRefused refusal s) (sym after_names) (step_refused refusal (or_because no_key (keys_of names key_names)) with_keys h)

-- ---- both tables

module _ (given : GivenMigration) (n : NamedParts) (n_read : IsRead (named given.header given.key_names) n) where
  abbrev with_new : List Definition → List Definition → Result Parts NoAnswer
  with_new old new = Ok (record { names = n.names; keys = n.keys; old = old; new = new })

  abbrev with_old : List Definition → Result Parts NoAnswer
  with_old old = table_of_side n.names sides.New given.new >>= with_new old

  after_named : migration_of given ≡ (table_of_side n.names sides.Old given.old >>= with_old)
  after_named =
      ap
      (λ r. r >>=
      (λ m. table_of_side m.names sides.Old given.old >>=
      (λ old. table_of_side m.names sides.New given.new >>= (λ new. (let p : Parts = record { names = m.names; keys = m.keys; old = old; new = new } in Ok p)))))
      (is_read (named given.header given.key_names) n n_read)

  -- if the names and keys are read, a faulty old table is the first part with a fault
  pub old_refused : (refusal : Refusal) → IsRefused refusal (table_of_side n.names sides.Old given.old) → IsRefused refusal (migration_of given)
  old_refused refusal h = subst (λ (s : Result Parts NoAnswer). IsRefused refusal s) (sym after_named) (step_refused refusal (table_of_side n.names sides.Old given.old) with_old h)

  module _ (old : List Definition) (old_read : IsRead (table_of_side n.names sides.Old given.old) old) where
    after_old : migration_of given ≡ (table_of_side n.names sides.New given.new >>= with_new old)
    after_old = after_named ∙ ap (λ r. r >>= with_old) (is_read (table_of_side n.names sides.Old given.old) old old_read)

    -- if all before it is read, a faulty new table is the first part with a fault
    pub new_refused : (refusal : Refusal) → IsRefused refusal (table_of_side n.names sides.New given.new) → IsRefused refusal (migration_of given)
    new_refused refusal h = subst (λ (s : Result Parts NoAnswer). IsRefused refusal s) (sym after_old) (step_refused refusal (table_of_side n.names sides.New given.new) (with_new old) h)

    -- if every part is read, together they are the migration
    pub all_read : (new : List Definition) → IsRead (table_of_side n.names sides.New given.new) new → migration_of given ≡ Ok (record { names = n.names; keys = n.keys; old = old; new = new })
    all_read new new_read = after_old ∙ ap (λ r. r >>= with_new old) (is_read (table_of_side n.names sides.New given.new) new new_read)
