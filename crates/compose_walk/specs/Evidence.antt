-- Evidence that a new table does not follow an old one, and which evidence comes first.
use Rattle.std.specs.Prelude.{◌≡◌, ◌≢◌, ◌⊎◌, ℕ, Bool, true, not, ◌&&◌, ◌||◌, ◌==◌, nat_lt, List, [], ◌∷◌, ◌++◌, length, IsTrue}
use Rattle.std.specs.List.{list_any, list_all, AllByRecursion}
use Rattle.keysym_core.specs.Keysym.{is_ignored}
use Rattle.keysym_core.specs.Names.{KeysymNames}
use Rattle.compose_model.specs.Table.{Definition, same, comes_before}
use Rattle.compose_model.specs.Step.{pending}
use Rattle.compose_model.specs.Follows.{Kind, Counterexample}

-- keys at whose last one the tables differ, how they differ there, and the texts that they commit
-- there
pub record Evidence : Type 0 where
  pub keys : List ℕ
  pub kind : Kind
  pub old_text : List ℕ
  pub new_text : List ℕ

-- these keys are fewer than the other ones, or as many and before them in the order of sequences
abbrev pub comes_first : List ℕ → List ℕ → Bool
comes_first keys other = nat_lt (length keys) (length other) || (length keys == length other && comes_before keys other)

abbrev pub Shows : KeysymNames → List ℕ → List Definition → List Definition → Evidence → Type 0
Shows names fresh old new x = Counterexample names fresh old new x.keys x.kind x.old_text x.new_text

-- it is a counterexample, and comes before every other: none is shorter, and it is the first of the
-- shortest
pub record IsLeast (names : KeysymNames) (fresh : List ℕ) (old new : List Definition) (x : Evidence) : Type 0 where
  pub shows : Shows names fresh old new x
  pub least : (y : Evidence) → Shows names fresh old new y → (x.keys ≡ y.keys) ⊎ IsTrue (comes_first x.keys y.keys)

-- a counterexample without detours: it has no ignored keysym, and the old table is never at rest on
-- the way
pub record IsDifference (names : KeysymNames) (fresh : List ℕ) (old new : List Definition) (x : Evidence) : Type 0 where
  pub shows : Shows names fresh old new x
  pub none_ignored : IsTrue (list_all (λ k. not (is_ignored k)) x.keys)
  pub never_at_rest : (v w : List ℕ) → x.keys ≡ v ++ w → v ≢ [] → w ≢ [] → pending old v ≢ []

abbrev pub differences_rise : List Evidence → Bool
differences_rise [] = true
differences_rise (x ∷ []) = true
differences_rise (x ∷ y ∷ xs) = comes_first x.keys y.keys && differences_rise (y ∷ xs)

-- these are all differences of the tables, each once, the shortest first and those of the same
-- length in the order of sequences
pub record AreDifferences (names : KeysymNames) (fresh : List ℕ) (old new : List Definition) (xs : List Evidence) : Type 0 where
  pub each : AllByRecursion (IsDifference names fresh old new) xs
  pub all : (x : Evidence) → IsDifference names fresh old new x → IsTrue (list_any (λ y. same y.keys x.keys) xs)
  pub rise : IsTrue (differences_rise xs)
