-- What becomes of a table, by the decision about it.
use Rattle.std.proofs.Common.{◌≡◌, ◌∙◌, refl, sym, ap, subst, eqb-true, arith, ℕ, Bool, true, false, List, [], ◌∷◌, length, map, inl, inr}
use Rattle.std.specs.Prelude.{◌==◌, ◌||◌, if◌then◌else◌, Option, Some, None, Result, Ok, Err, IsTrue, IsFalse}
use Rattle.std.specs.declared.alloc.Global.{Global}
use Rattle.std.specs.declared.vec.Vec.{Vec}
use Rattle.compose_answer.specs.declared.answer.Ended.{Ended}
use Rattle.compose_answer.specs.declared.answer.Ended.TheVariants as ends
use Rattle.compose_bundle.specs.Bundle.{Bundle, IsBundle}
use Rattle.compose_bundle.proofs.OneBundle.{one}
use Rattle.compose_model.specs.Step.{is_empty}
use Rattle.compose_model.specs.Table.{Definition}
use Rattle.compose_read.specs.Lines.{Source}
use Rattle.compose_read.specs.declared.ReadFault.TheVariants as read_faults
use Rattle.compose_read.specs.declared.settling.SettleFault.TheVariants as settle_faults
use Rattle.compose_tree.specs.TableReturns.{NoTable, TableReturns}
use Rattle.compose_tree.specs.declared.table.BuildFault.TheVariants as build_faults
use Rattle.compose_tree.specs.declared.reading.TableFault.{TableFault}
use Rattle.compose_tree.specs.declared.reading.TableFault.TheVariants as table_faults
use Rattle.compose_input.specs.declared.names.NameFiles.{NameFiles}
use Rattle.compose_report.specs.declared.outcome.Outcome.{Outcome}
use Rattle.compose_runs.specs.Updating.{IsUpdateRun}
use Rattle.compose_runs.specs.declared.updating.UpdateFiles.{UpdateFiles}
use Rattle.compose_runs.specs.declared.updating.UpdateRun.{UpdateRun}
use Rattle.compose_table_file.specs.TableFile.{TableFile}
use Rattle.compose_service_runs.specs.Taking.{Asked, Becomes, Decides, IsFile, Needs, NeedsNames, NeedsRepertoire, PrintsLoaded, fresh_of, is_meant, is_other, names_needed, needed, payload_of}
use Rattle.compose_service_runs.specs.declared.taking.Taking.{Taking}
use Rattle.compose_service_runs.specs.declared.taking.Taking.TheVariants as takings

-- bundles without a certificate that are written alike have the same sources
pub same_sources : (payload a b : List ℕ) (bundle : Bundle) (new : List Source) → IsBundle payload bundle → IsBundle a (record { sources = bundle.sources; certificate = [] })
    → IsBundle b (record { sources = new; certificate = [] }) → a ≡ b → (x : Bundle) × IsBundle payload x × (x.sources ≡ new)
same_sources payload a b bundle new is old other same = (
  bundle,
  is,
  ap (λ (x : Bundle). x.sources) (one b (record { sources = bundle.sources; certificate = [] }) (record { sources = new; certificate = [] })
      (subst (λ (bytes : List ℕ). IsBundle bytes (record { sources = bundle.sources; certificate = [] })) same old) other),
)

-- a change is never meant if no table is in use
pub none_meant : (a : Asked) (fresh : List (List ℕ)) → false ≡ is_meant a fresh None
none_meant a [] = refl
none_meant a (name ∷ fresh) = refl

-- whether a change is meant beside a table in use: without fresh keys the names and the repertoire
-- decide
pub empty_meant : {A : Type 0} (name : A → List ℕ) (a : Asked) (fresh : List A) (current : TableFile) (other : Bool) → true ≡ (length fresh == 0)
    → other ≡ is_other a (Some current) → other ≡ is_meant a (map name fresh) (Some current)
empty_meant name a [] current other e o = o
empty_meant name a (x ∷ fresh) current other e o = let h : length (x ∷ fresh) ≡ 0 = eqb-true (length (x ∷ fresh)) 0 (sym e) in absurd (omega (arith, h))

pub named_meant : {A : Type 0} (name : A → List ℕ) (a : Asked) (fresh : List A) (current : TableFile) → false ≡ (length fresh == 0) → true ≡ is_meant a (map name fresh) (Some current)
named_meant name a [] current e = cc
named_meant name a (x ∷ fresh) current e = refl

-- what becomes of a table by this decision
pub becomes : (a : Asked) (fresh : List (List ℕ)) (current : Option TableFile) (files : UpdateFiles) (meant : Bool) (kept : List ℕ) (run : UpdateRun) (taking : Taking)
    → meant ≡ is_meant a fresh current → kept ≡ fresh_of current → IsUpdateRun files fresh (payload_of current) run → Decides meant kept (λ r. r ≡ run) files taking → Becomes a fresh current files taking
becomes a fresh current files meant kept run (takings.Refused outcome) m k ran d = inl (subst (IsUpdateRun files fresh (payload_of current)) (sym d) ran)
becomes a fresh current files meant kept run takings.Same m k ran d = absurd d
becomes a fresh current files meant kept run (takings.Follows file load) m k ran d = (
  d.0,
  d.1,
  subst (IsUpdateRun files fresh (payload_of current)) (sym d.2) ran,
  subst IsFalse m d.3,
  subst (λ (x : List ℕ). IsFile files x d.0.items file.items) k d.4,
  d.5,
)
becomes a fresh current files meant kept run (takings.Meant file) m k ran (stored, inl e, f) =
    (stored, inl (subst (IsUpdateRun files fresh (payload_of current)) (sym e) ran), subst (λ (x : List ℕ). IsFile files x stored.items file.items) k f)
becomes a fresh current files meant kept run (takings.Meant file) m k ran (stored, inr h, f) = (
  stored,
  inr (h.0, subst (IsUpdateRun files fresh (payload_of current)) (sym h.1) ran, subst IsTrue m h.2),
  subst (λ (x : List ℕ). IsFile files x stored.items file.items) k f,
)

-- ---- the names and the repertoire of the files

-- the files have the names and the repertoire that they need, once both are set
pub needed_by : (merges has_names has_repertoire : Bool) (a : Asked) (current : TableFile) (old between new : UpdateFiles) → a ≡ record { merges = merges; has_names = has_names; names = old.names.lines.items; has_repertoire = has_repertoire; repertoire = old.repertoire.items }
    → NeedsNames (has_names || is_empty current.names) current.names old between → NeedsRepertoire has_repertoire current.repertoire between new
    → Needs (names_needed a (Some current)) (needed a (Some current)) old new
needed_by merges has_names has_repertoire a current old between new e n r =
    subst (λ (x : Asked). Needs (names_needed x (Some current)) (needed x (Some current)) old new) (sym e)
    (record {
      lines = ap (λ (x : NameFiles). x.lines.items) r.names ∙ n.lines_are;
      table = r.table ∙ n.table;
      meant = r.meant ∙ n.meant;
      characters = r.characters ∙ ap (λ (x : List ℕ). if has_repertoire then x else current.repertoire) (ap (λ (x : Vec ℕ Global). x.items) n.characters);
    })

-- a fault of reading that isn't a lack of memory is one of the table
pub no_table : {T : Type 0} (view : T → List Definition) (fault : TableFault) (expected : Result (List Definition) NoTable) → (fault ≡ table_faults.NoMemory → ⊥) → TableReturns view (Err fault) expected
    → (why : NoTable) × (expected ≡ Err why)
no_table view (table_faults.Read read_faults.NoMemory) (Err why) some returns = (why, refl)
no_table view (table_faults.Read fault) (Err why) some returns = (why, refl)
no_table view (table_faults.Settle fault) (Err why) some returns = (why, refl)
no_table view (table_faults.Build fault) (Err why) some returns = (why, refl)
no_table view table_faults.NoMemory expected some returns = absurd (some refl)
no_table view (table_faults.Read read_faults.NoMemory) (Ok table) some returns = absurd returns
no_table view (table_faults.Read fault) (Ok table) some returns = cc
no_table view (table_faults.Settle (settle_faults.Overlap short long)) (Ok table) some returns = cc
no_table view (table_faults.Settle settle_faults.NoMemory) (Ok table) some returns = absurd returns
no_table view (table_faults.Build build_faults.TooManyNodes) (Ok table) some returns = cc
no_table view (table_faults.Build build_faults.NoMemory) (Ok table) some returns = absurd returns

-- an exchange that does not end with yes is printed as it is
pub printed_as : (ended : Ended) (outcome : Outcome) → (ended ≡ ends.Yes → ⊥) → PrintsLoaded ended outcome outcome
printed_as ends.Yes outcome never = absurd (never refl)
printed_as ends.No outcome never = refl
printed_as ends.Refused outcome never = refl
printed_as ends.NoMemory outcome never = refl
