-- Reading the parts of a check, one after another.
use Rattle.std.proofs.Common.{◌≡◌, ℕ, List, [], sym, ◌∙◌, ap, subst}
use Rattle.std.specs.Prelude.{Result, Ok, Err}
use Rattle.compose_text.specs.Results.{◌>>=◌}
use Rattle.keysym_core.specs.Names.{KeysymNames}
use Rattle.keysym_core.specs.Header.{names_of}
use Rattle.keysym_core.specs.declared.fault.NameFault.{NameFault}
use Rattle.compose_model.specs.Table.{Definition}
use Rattle.compose_model.specs.Certificate.{Certificate, Repertoire}
use Rattle.compose_cert.specs.Reading.{certificate_of}
use Rattle.compose_cert.specs.Repertoire.{repertoire_of}
use Rattle.compose_cert.specs.declared.CertFault.{CertFault}
use Rattle.compose_cert.specs.declared.RepertoireFault.{RepertoireFault}
use Rattle.compose_tree.specs.TableReturns.{NoTable, first_table}
use Rattle.compose_migration.specs.Keys.{keys_of}
use Rattle.compose_migration.specs.Migration as migrations
use Rattle.compose_migration.specs.Migration.{NoAnswer, no_names, no_key, no_only_table, no_table, no_repertoire, no_certificate, no_fresh, too_many_fresh, or_because, named, migration_of, table_of_side}
use Rattle.compose_migration.specs.Refused.{IsRefused, Returns}
use Rattle.compose_migration.specs.declared.refusal.Side.{Side}
use Rattle.compose_migration.specs.declared.refusal.Side.TheVariants as sides
use Rattle.compose_migration.specs.declared.refusal.Refusal.{Refusal}
use Rattle.compose_migration.specs.declared.refusal.Refusal.TheVariants as refusals
use Rattle.compose_migration.proofs.Steps.{IsRead, is_read, step_refused}
use Rattle.compose_check.specs.Input.{Input, Parts, certified_parts, parts_of}
use Rattle.compose_check.specs.CheckReturns.{IsOfInput}

-- ---- the parts in their order

module _ (m : migrations.Parts) (repertoire certificate : List ℕ) where
  abbrev with_certificate : Repertoire → Certificate → Result Parts NoAnswer
  with_certificate r c = Ok (record { names = m.names; keys = m.keys; old = m.old; new = m.new; repertoire = r; certificate = c })

  abbrev with_repertoire : Repertoire → Result Parts NoAnswer
  with_repertoire r = or_because no_certificate (certificate_of certificate) >>= with_certificate r

  -- a refusal of the repertoire is the refusal of the parts
  pub repertoire_refused : (refusal : Refusal) → IsRefused refusal (or_because no_repertoire (repertoire_of repertoire)) → IsRefused refusal (certified_parts m repertoire certificate)
  repertoire_refused refusal h = step_refused refusal (or_because no_repertoire (repertoire_of repertoire)) with_repertoire h

  module _ (r : Repertoire) (r_read : IsRead (or_because no_repertoire (repertoire_of repertoire)) r) where
    after_repertoire : certified_parts m repertoire certificate ≡ (or_because no_certificate (certificate_of certificate) >>= with_certificate r)
    after_repertoire = ap (λ x. x >>= with_repertoire) (is_read (or_because no_repertoire (repertoire_of repertoire)) r r_read)

    -- if the repertoire is read, a refusal of the certificate is the refusal of the parts
    pub certificate_refused : (refusal : Refusal) → IsRefused refusal (or_because no_certificate (certificate_of certificate)) → IsRefused refusal (certified_parts m repertoire certificate)
    certificate_refused refusal h =
        subst (λ (s : Result Parts NoAnswer). IsRefused refusal s) (sym after_repertoire) (step_refused refusal (or_because no_certificate (certificate_of certificate)) (with_certificate r) h)

    -- if the repertoire and the certificate are read, these are the parts
    pub all_read : (c : Certificate) → IsRead (or_because no_certificate (certificate_of certificate)) c
        → certified_parts m repertoire certificate ≡ Ok (record { names = m.names; keys = m.keys; old = m.old; new = m.new; repertoire = r; certificate = c })
    all_read c c_read = after_repertoire ∙ ap (λ x. x >>= with_certificate r) (is_read (or_because no_certificate (certificate_of certificate)) c c_read)

module _ (input : Input) where
  abbrev certified : migrations.Parts → Result Parts NoAnswer
  certified m = certified_parts m input.repertoire input.certificate

  -- a refusal of the migration is the refusal of the whole input
  pub migration_refused : (refusal : Refusal) → IsRefused refusal (migration_of input.migration) → IsRefused refusal (parts_of input)
  migration_refused refusal h = step_refused refusal (migration_of input.migration) certified h

  -- if the migration is read, the parts are those with it
  pub after_migration : (m : migrations.Parts) → IsRead (migration_of input.migration) m → parts_of input ≡ certified m
  after_migration m m_read = ap (λ r. r >>= certified) (is_read (migration_of input.migration) m m_read)

-- ---- what is refused of an input without key names

-- the part is the names, the old or new table, the repertoire or the certificate
abbrev pub IsPart : NoAnswer → Type 0
IsPart (no_key index) = ⊥
IsPart (no_only_table why) = ⊥
IsPart (no_fresh fault) = ⊥
IsPart too_many_fresh = ⊥
IsPart part = Unit {0}

-- all that is refused is such a part
abbrev pub AreParts : {A : Type 0} → Result A NoAnswer → Type 0
AreParts (Ok a) = Unit {0}
AreParts (Err part) = IsPart part

certificates : {A : Type 0} (r : Result A CertFault) → AreParts (or_because no_certificate r)
certificates (Ok a) = tt
certificates (Err fault) = tt

repertoires : {A : Type 0} (r : Result A RepertoireFault) → AreParts (or_because no_repertoire r)
repertoires (Ok a) = tt
repertoires (Err fault) = tt

tables : {A : Type 0} (side : Side) (r : Result A NoTable) → AreParts (or_because (no_table side) r)
tables side (Ok a) = tt
tables side (Err why) = tt

headers : {A : Type 0} (r : Result A NameFault) → AreParts (or_because no_names r)
headers (Ok a) = tt
headers (Err fault) = tt

steps : {A B : Type 0} (r : Result A NoAnswer) (f : A → Result B NoAnswer) → AreParts r → ((a : A) → AreParts (f a)) → AreParts (r >>= f)
steps (Ok a) f h g = g a
steps (Err part) f h g = h

module _ (header : List ℕ) (old new : migrations.TableSources) (repertoire certificate : List ℕ) where
  abbrev read_new : migrations.NamedParts → List Definition → Result migrations.Parts NoAnswer
  read_new n a = table_of_side n.names sides.New new >>= (λ b. Ok (record { names = n.names; keys = n.keys; old = a; new = b }))

  abbrev read_tables : migrations.NamedParts → Result migrations.Parts NoAnswer
  read_tables n = table_of_side n.names sides.Old old >>= read_new n

  abbrev read_keys : KeysymNames → Result migrations.NamedParts NoAnswer
  read_keys names = or_because no_key (keys_of names []) >>= (λ keys. Ok (record { names = names; keys = keys }))

  named_are : AreParts (named header [])
  named_are = steps (or_because no_names (names_of header)) read_keys (headers (names_of header)) (λ names. tt)

  migration_are : AreParts (migration_of (record { header = header; key_names = []; old = old; new = new }))
  migration_are =
      steps (named header []) read_tables named_are
      (λ n. steps (table_of_side n.names sides.Old old) (read_new n) (tables sides.Old (first_table n.names old.sources old.rule))
      (λ a. steps (table_of_side n.names sides.New new) (λ b. Ok (record { names = n.names; keys = n.keys; old = a; new = b })) (tables sides.New (first_table n.names new.sources new.rule)) (λ b. tt)))

  pub parts_are : AreParts (parts_of (record { migration = record { header = header; key_names = []; old = old; new = new }; repertoire = repertoire; certificate = certificate }))
  parts_are =
      steps (migration_of (record { header = header; key_names = []; old = old; new = new })) (λ m. certified_parts m repertoire certificate) migration_are
      (λ m. steps (or_because no_repertoire (repertoire_of repertoire)) (with_repertoire m repertoire certificate) (repertoires (repertoire_of repertoire))
      (λ r. steps (or_because no_certificate (certificate_of certificate)) (with_certificate m repertoire certificate r) (certificates (certificate_of certificate)) (λ c. tt)))

-- a refusal of such a part is one of the input of a check
pub of_input : (refusal : Refusal) (expected : Result Parts NoAnswer) → AreParts expected → IsRefused refusal expected → IsOfInput refusal
of_input (refusals.Names fault) expected are h = tt
of_input (refusals.Key index) expected are h = subst (λ (r : Result Parts NoAnswer). AreParts r) h are
of_input (refusals.Table fault) expected are h = subst (λ (r : Result Parts NoAnswer). AreParts r) h.1 are
of_input (refusals.Side side fault) expected are h = tt
of_input (refusals.Repertoire fault) expected are h = tt
of_input (refusals.Certificate fault) expected are h = tt
of_input (refusals.Fresh fault) expected are h = subst (λ (r : Result Parts NoAnswer). AreParts r) h are
of_input refusals.TooManyFresh expected are h = subst (λ (r : Result Parts NoAnswer). AreParts r) h are
of_input refusals.NoMemory expected are h = tt
