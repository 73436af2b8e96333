-- The steps of a merge, one after another.
use Rattle.std.proofs.Common.{◌≡◌, ◌∙◌, ◌<◌, ◌≤◌, ℕ, List, [], ◌∷◌, ◌⊎◌, length, refl, sym, ap, ap₂, subst, inl, inr, arith}
use Rattle.std.specs.Prelude.{Result, Ok, Err, IfErr}
use Rattle.std.specs.Result.{IsErrAnd}
use Rattle.compose_migration.specs.Refused.{IsRefused}
use Rattle.compose_migration.specs.declared.refusal.Refusal.{Refusal}
use Rattle.compose_answer.specs.Parts.{Explainable}
use Rattle.compose_diff_rows.specs.Answers.{compared_parts}
use Rattle.keysym_core.specs.Names.{KeysymNames}
use Rattle.compose_model.specs.Nodes.{nodes}
use Rattle.compose_model.specs.Table.{Definition}
use Rattle.compose_read.specs.Read.{max_definitions}
use Rattle.compose_tree.specs.Targets.{max_nodes}
use Rattle.compose_diff_rows.specs.Rows.{Written}
use Rattle.compose_merge.specs.Merged.{kept, merged}
use Rattle.compose_merge.specs.declared.merging.MergeFault.{MergeFault}
use Rattle.compose_merge.specs.declared.merging.MergeFault.TheVariants as merge_faults
use Rattle.compose_merging.specs.Faults.{merge_raised}
use Rattle.compose_merging.specs.Merges.{Asked, AnswersMerge, IsTooLarge, Merges, MergesCompared}
use Rattle.compose_merging.specs.Printed.{FailsBack, table_text}
use Rattle.compose_merging.specs.Treatments.{treatments}
use Rattle.compose_merging.specs.declared.asking.Merging.{Merging}
use Rattle.compose_merging.specs.declared.asking.MergingFault.{MergingFault}
use Rattle.compose_merging.specs.declared.asking.MergingFault.TheVariants.{Input, TooLarge, NotReadBack}

module _ (asked : Asked) (e : Explainable) (is : compared_parts asked.migration ≡ Ok e) where
  -- the merge of what is compared is the answer
  pub merges_answer : (r : Result Merging MergingFault) → MergesCompared asked e r → AnswersMerge asked r
  merges_answer (Ok merging) h = (e, is, h)
  merges_answer (Err (Input refusal)) h = subst (λ (x : Refusal). IsRefused x (compared_parts asked.migration)) (sym h) tt
  merges_answer (Err TooLarge) h = (e, is, h)
  merges_answer (Err NotReadBack) h = (e, is, h)

-- a refusal that is passed on is the answer
pub handed_on : (asked : Asked) (r : Result Merging MergingFault) (refusal : Refusal) → IsErrAnd r (λ e. e ≡ Input refusal) → IsRefused refusal (compared_parts asked.migration) → AnswersMerge asked r
handed_on asked (Ok merging) refusal h g = absurd h
handed_on asked (Err e) refusal h g = subst (λ (x : MergingFault). AnswersMerge asked (Err x)) (sym h) g

-- with nothing accepted all of a table is kept
pub kept_none : (old : List Definition) → kept [] old ≡ old
kept_none [] = refl
kept_none (d ∷ old) = ap (λ ds. d ∷ ds) (kept_none old)

-- rows that can't be merged are too many
pub large_merge : (names : KeysymNames) (fresh : List ℕ) (rows others old new : List Definition) → rows ≡ old → others ≡ new → length (nodes old) ≤ max_nodes
    → (max_definitions < length (merged names fresh [] rows others)) ⊎ (max_nodes < length (nodes (kept [] rows))) → IsTooLarge (merged names fresh [] old new)
large_merge names fresh rows others old new o n few (inl many) = inl (subst (λ (count : ℕ). max_definitions < count) (ap₂ (λ (a b : List Definition). length (merged names fresh [] a b)) o n) many)
large_merge names fresh rows others old new o n few (inr many) =
    absurd (omega (arith, few, subst (λ (count : ℕ). max_nodes < count) (ap (λ (t : List Definition). length (nodes t)) (kept_none rows ∙ o)) many))

-- a fault that is passed on
pub handed_fault : {X : Type 0} (P : MergingFault → Type 0) (r : Result X MergingFault) (fault : MergingFault) → IsErrAnd r (λ e. e ≡ fault) → P fault → IfErr r P
handed_fault P (Ok x) fault h p = tt
handed_fault P (Err e) fault h p = subst P (sym h) p

module _ (names : KeysymNames) (fresh : List ℕ) (old new : Written) where
  -- the tables can't be merged
  pub not_merged : (r : Result Merging MergingFault) (fault : MergeFault) → IsErrAnd r (λ e. e ≡ merge_raised fault)
      → (fault ≡ merge_faults.TooLarge → IsTooLarge (merged names fresh [] old.table new.table)) → Merges names fresh old new r
  not_merged (Ok merging) fault h large = absurd h
  not_merged (Err e) merge_faults.TooLarge h large = subst (λ (x : MergingFault). Merges names fresh old new (Err x)) (sym h) (large refl)
  not_merged (Err e) merge_faults.NoMemory h large = subst (λ (x : MergingFault). Merges names fresh old new (Err x)) (sym h) refl

  -- what would be printed is not read as the merged table
  pub not_read : (r : Result Merging MergingFault) (fault : MergingFault) → IsErrAnd r (λ e. e ≡ fault)
      → FailsBack names (merged names fresh [] old.table new.table) (table_text old new (treatments names fresh old.table new.table)) fault → Merges names fresh old new r
  not_read (Ok merging) fault h fails = absurd h
  not_read (Err e) fault h fails = subst (λ (x : MergingFault). Merges names fresh old new (Err x)) (sym h) (go fault fails)
    where
      go : (x : MergingFault) → FailsBack names (merged names fresh [] old.table new.table) (table_text old new (treatments names fresh old.table new.table)) x → Merges names fresh old new (Err x)
      go (Input refusal) f = f
      go TooLarge f = inr f
      go NotReadBack f = f
