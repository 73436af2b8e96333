-- The promise to people who type, as it is read aloud: on all keys that the old table does not
-- cancel, the new table agrees with it at every key.
use Rattle.std.specs.Prelude.{ℕ, not, List, [], ◌∷◌, IsTrue}
use Rattle.std.specs.List.{list_all}
use Rattle.keysym_core.specs.Names.{KeysymNames}
use Rattle.compose_model.specs.Table.{Definition, avoids}
use Rattle.compose_model.specs.Step.{Step, run, is_cancel}
use Rattle.compose_model.specs.Follows.{Agrees}

-- the two lists have one step for each key, and agree at each
abbrev pub AgreeAtEach : List Step → List Step → Type 0
AgreeAtEach [] [] = Unit {0}
AgreeAtEach (old ∷ olds) (new ∷ news) = Agrees old new × AgreeAtEach olds news
AgreeAtEach olds news = ⊥

-- the new table changes nobody's typing, but for the fresh keysyms
abbrev pub KeepsTyping : KeysymNames → List ℕ → List Definition → List Definition → Type 0
KeepsTyping names fresh old new =
    (keys : List ℕ) → IsTrue (avoids fresh keys) → IsTrue (list_all (λ s. not (is_cancel s.effect)) (run names old keys))
    → AgreeAtEach (run names old keys) (run names new keys)
