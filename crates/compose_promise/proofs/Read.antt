-- A table that is read has no overlap.
use Rattle.std.proofs.Common.{◌≡◌, ℕ, List, refl, sym, ◌∙◌, ap}
use Rattle.std.specs.Prelude.{Bool, true, false, if◌then◌else◌, nat_le, length, [], ◌∷◌, Result, Ok, Err}
use Rattle.compose_text.specs.Results.{◌>>=◌}
use Rattle.keysym_core.specs.Names.{KeysymNames}
use Rattle.compose_model.specs.Table.{Definition, is_prefix_free}
use Rattle.compose_model.specs.declared.Rule.{Rule}
use Rattle.compose_model.specs.Nodes.{nodes}
use Rattle.compose_model.specs.Certificate.{Certificate, Repertoire}
use Rattle.compose_read.specs.Lines.{Source}
use Rattle.compose_read.specs.Read.{definitions_of}
use Rattle.compose_read.specs.Settle.{Overlap, settled}
use Rattle.compose_read.specs.declared.ReadFault.{ReadFault}
use Rattle.compose_read.proofs.Settled.{settled_free}
use Rattle.compose_tree.specs.Targets.{max_nodes}
use Rattle.compose_tree.specs.TableReturns.{too_many_nodes, bounded, settled_by, first_table}
use Rattle.compose_migration.specs.Migration as migrations
use Rattle.compose_migration.specs.Migration.{NoAnswer, GivenMigration, NamedParts, or_because, named, migration_of, table_of_side, no_table, no_repertoire, no_certificate}
use Rattle.compose_migration.specs.declared.refusal.Side.TheVariants as sides
use Rattle.compose_cert.specs.Reading.{certificate_of}
use Rattle.compose_cert.specs.Repertoire.{repertoire_of}
use Rattle.compose_check.specs.Input.{Input, Parts, parts_of, certified_parts}

bound_same : (b : Bool) (r rows : List Definition) → if b then Ok r else Err too_many_nodes ≡ Ok rows → r ≡ rows
bound_same true r rows h = cc
bound_same false r rows h = absurd (cc)

free_if_bounded : (rule : Rule) (table rows : List Definition) (s : Result (List Definition) Overlap) → settled rule table ≡ s → bounded s ≡ Ok rows → is_prefix_free rows ≡ true
free_if_bounded rule table rows (Err o) e h = absurd (cc)
free_if_bounded rule table rows (Ok r) e h = settled_free rule table rows (e ∙ ap (λ (x : List Definition). Ok x) (bound_same (nat_le (length (nodes r)) max_nodes) r rows h))

free_if_settled : (rule : Rule) (rows : List Definition) (read : Result (List Definition) ReadFault) → settled_by rule read ≡ Ok rows → is_prefix_free rows ≡ true
free_if_settled rule rows (Err f) h = absurd (cc)
free_if_settled rule rows (Ok table) h = free_if_bounded rule table rows (settled rule table) refl h

first_free : (names : KeysymNames) (sources : List Source) (rule : Rule) (rows : List Definition) → first_table names sources rule ≡ Ok rows → is_prefix_free rows ≡ true
first_free names [] rule rows h = absurd (cc)
first_free names (s ∷ sources) rule rows h = free_if_settled rule rows (definitions_of names (s ∷ sources) s.name) h

because_ok : {A E F : Type 0} (why : E → F) (r : Result A E) (a : A) → or_because why r ≡ Ok a → r ≡ Ok a
because_ok why (Ok x) a h = cc
because_ok why (Err e) a h = absurd (cc)

-- ---- the parts in order

bind_ok : {A B E : Type 0} (r : Result A E) (f : A → Result B E) (b : B) → (r >>= f) ≡ Ok b → (a : A) × (r ≡ Ok a) × (f a ≡ Ok b)
bind_ok (Ok a) f b h = (a, refl, h)
bind_ok (Err e) f b h = absurd (cc)

ok_same : {A E : Type 0} (a b : A) (r : Result A E) → r ≡ Ok a → r ≡ Ok b → a ≡ b
ok_same a b r h k = cc

pub migration_free : (given : GivenMigration) (m : migrations.Parts) → migration_of given ≡ Ok m → is_prefix_free m.new ≡ true
migration_free given m h =
    let with_new : NamedParts → List Definition → List Definition → Result migrations.Parts NoAnswer = λ n old new. Ok (record { names = n.names; keys = n.keys; old = old; new = new }) in
    let n = bind_ok (named given.header given.key_names) (λ n. table_of_side n.names sides.Old given.old >>= (λ old. table_of_side n.names sides.New given.new >>= with_new n old)) m h in
    let old = bind_ok (table_of_side n.0.names sides.Old given.old) (λ old. table_of_side n.0.names sides.New given.new >>= with_new n.0 old) m n.2 in
    let new = bind_ok (table_of_side n.0.names sides.New given.new) (with_new n.0 old.0) m old.2 in
    let same : record { names = n.0.names; keys = n.0.keys; old = old.0; new = new.0 } ≡ m = ok_same (record { names = n.0.names; keys = n.0.keys; old = old.0; new = new.0 }) m (with_new n.0 old.0 new.0) refl new.2 in
    ap (λ (q : migrations.Parts). is_prefix_free q.new) (sym same)
    ∙ first_free n.0.names given.new.sources given.new.rule new.0 (because_ok (no_table sides.New) (first_table n.0.names given.new.sources given.new.rule) new.0 new.1)

certified_new : (m : migrations.Parts) (repertoire certificate : List ℕ) (p : Parts) → certified_parts m repertoire certificate ≡ Ok p → m.new ≡ p.new
certified_new m repertoire certificate p h =
    let whole : Repertoire → Certificate → Result Parts NoAnswer = λ r c. Ok (record { names = m.names; keys = m.keys; old = m.old; new = m.new; repertoire = r; certificate = c }) in
    let r = bind_ok (or_because no_repertoire (repertoire_of repertoire)) (λ r. or_because no_certificate (certificate_of certificate) >>= whole r) p h in
    let c = bind_ok (or_because no_certificate (certificate_of certificate)) (whole r.0) p r.2 in
    ap (λ (q : Parts). q.new) (ok_same (record { names = m.names; keys = m.keys; old = m.old; new = m.new; repertoire = r.0; certificate = c.0 }) p (whole r.0 c.0) refl c.2)

pub parts_free : (input : Input) (p : Parts) → parts_of input ≡ Ok p → is_prefix_free p.new ≡ true
parts_free input p h =
    let m = bind_ok (migration_of input.migration) (λ m. certified_parts m input.repertoire input.certificate) p h in
    ap is_prefix_free (sym (certified_new m.0 input.repertoire input.certificate p m.2)) ∙ migration_free input.migration m.0 m.1
