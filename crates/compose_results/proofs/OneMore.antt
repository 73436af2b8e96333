-- Lists with one more element appended.
use Rattle.std.proofs.Common.{◌≡◌, ◌<◌, ◌+◌, ◌∙◌, ℕ, List, [], ◌∷◌, ◌++◌, map, take, length, get_or, refl, sym, ap, subst, arith, inl, inr}
use Rattle.std.specs.Prelude.{IfOk, Option, Some, None, Result, option_map, slice_get, unwrap_or}
use Rattle.std.proofs.lemmas.Bool.{cases_lt}
use Rattle.std.proofs.lemmas.List.{append_assoc, get_or_append_left, length-append, map-append, take_more}
use Rattle.std.proofs.lemmas.Option.{get_or_from_slice_get, slice_get-get_or, slice_get_read, same_Some}
use Rattle.std.proofs.Math.Seq.{get_or-append_seam}
use Rattle.keysym_core.specs.Names.{KeysymNames}
use Rattle.compose_model.specs.Table.{Definition}
use Rattle.compose_model.specs.declared.Rule.{Rule}
use Rattle.compose_read.specs.Lines.{Source, source_lines}
use Rattle.compose_places.specs.Counting.{WrittenLine}
use Rattle.compose_tree.specs.Targets.{leaf_text}
use Rattle.compose_tree.specs.TableReturns.{NoTable, TableReturns, first_table, table_of}
use Rattle.compose_tree.specs.declared.reading.TableFault.{TableFault}
use Rattle.compose_tree.proofs.FirstSource.{root_named}
use Rattle.compose_results.specs.Results.{IsResult, AreFor, AreResults, AreFirstResults, counting_lines, named_by}
use Rattle.compose_results.specs.SourceLines.{all_lines}

-- what holds of each element at its index
pub one_more : (P : ℕ → ℕ → Type 0) (xs : List ℕ) (k : ℕ) → ((i : ℕ) → i < length xs → P i (get_or xs i 0)) → P (length xs) k
    → (i : ℕ) → i < length (xs ++ k ∷ []) → P i (get_or (xs ++ k ∷ []) i 0)
one_more P xs k old new i h = elim (cases_lt i (length xs)) [
  | inl low ↦ subst (P i) (sym (get_or_append_left xs (k ∷ []) 0 i low)) (old i low)
  | inr high ↦
      let long : length (xs ++ k ∷ []) ≡ length xs + 1 = length-append xs (k ∷ []) in
      let e : length xs ≡ i = omega (arith, h, high, long) in
      subst (λ j. P j (get_or (xs ++ k ∷ []) j 0)) e (subst (P (length xs)) (sym (get_or-append_seam xs k [] 0)) new)
]

-- a line that is moved from those that are left to those that were found
pub one_line : {A : Type 0} (f : A → List ℕ) (found after : List A) (x : A) (left behind all : List (List ℕ)) → after ≡ found ++ x ∷ [] → left ≡ f x ∷ behind
    → map f found ++ left ≡ all → map f after ++ behind ≡ all
one_line f found after x left behind all pushed is h =
    ap (λ xs. map f xs ++ behind) pushed ∙ ap (λ ls. ls ++ behind) (map-append f found (x ∷ [])) ∙ append_assoc (map f found) (f x ∷ []) behind
    ∙ ap (λ ls. map f found ++ ls) (sym is) ∙ h

-- the lines of one source more
module _ (sources : List Source) (index : ℕ) (bytes : List ℕ) (within : index < length sources) (at : option_map (λ (s : Source). s.bytes) (slice_get sources index) ≡ Some bytes) where
  none : Source
  none = record { name = []; bytes = [] }

  read : (get_or sources index none).bytes ≡ bytes
  read = same_Some (get_or sources index none).bytes bytes (ap (option_map (λ (s : Source). s.bytes)) (sym (slice_get-get_or sources index none within)) ∙ at)

  pub one_source : all_lines (take index sources) ++ source_lines bytes ∷ [] ≡ all_lines (take (index + 1) sources)
  one_source =
      sym (ap all_lines (take_more sources index none within)
      ∙ map-append (λ (s : Source). source_lines s.bytes) (take index sources) (get_or sources index none ∷ [])
      ∙ ap (λ b. all_lines (take index sources) ++ source_lines b ∷ []) read)

-- ---- the result keysyms of the first leaves

-- the line that was read at an index
pub line_at : (lines : List (Option WrittenLine)) (leaf : ℕ) (line : Option WrittenLine) → leaf < length lines → line ≡ get_or lines leaf line → get_or lines leaf None ≡ line
line_at lines leaf line within e = get_or_from_slice_get lines leaf line None (slice_get_read lines (length lines) leaf line refl within e)

module _ (names : KeysymNames) (sources : List Source) (lines : List (Option WrittenLine)) (table : List Definition) where
  pub one_result : (leaf : ℕ) (results after : List ℕ) (k : ℕ) → AreFor names sources lines table leaf results
      → IsResult names (named_by names sources (get_or lines leaf None)) (unwrap_or (leaf_text table leaf) []) k → after ≡ results ++ k ∷ []
      → AreFor names sources lines table (leaf + 1) after
  one_result leaf results after k far is e =
      let P : ℕ → ℕ → Type 0 = λ i j. IsResult names (named_by names sources (get_or lines i None)) (unwrap_or (leaf_text table i) []) j in
      let last : P (length results) k = subst (λ n. P n k) (sym far.as_many) is in
      let long : length (results ++ k ∷ []) ≡ length results + 1 = length-append results (k ∷ []) in
      subst (AreFor names sources lines table (leaf + 1)) (sym e) (record {
        as_many = long ∙ ap (λ n. n + 1) far.as_many;
        are = one_more P results k far.are last;
      })

-- ---- the root is the first source

pub first_given : {T : Type 0} (result : Result T TableFault) (table : T → List Definition) (names : KeysymNames) (sources : List Source) (root : List ℕ) (rule : Rule)
    → Some root ≡ option_map (λ (s : Source). s.name) (slice_get sources 0) → TableReturns table result (table_of names sources root rule) → TableReturns table result (first_table names sources rule)
first_given result table names sources root rule e h = subst (λ (contents : Result (List Definition) NoTable). TableReturns table result contents) (root_named names sources root rule e) h

pub first_results : {T : Type 0} (result : Result T TableFault) (table : T → List Definition) (results : T → List ℕ) (names : KeysymNames) (sources : List Source) (root : List ℕ)
    → Some root ≡ option_map (λ (s : Source). s.name) (slice_get sources 0)
    → IfOk result (λ r. AreResults names sources (counting_lines names sources root (table r)) (table r) (results r))
    → IfOk result (λ r. AreFirstResults names sources (table r) (results r))
first_results result table results names [] root e h = cc
first_results result table results names (s ∷ sources) root e h =
    let is : root ≡ s.name = cc in
    subst (λ (name : List ℕ). IfOk result (λ r. AreResults names (s ∷ sources) (counting_lines names (s ∷ sources) name (table r)) (table r) (results r))) is h
