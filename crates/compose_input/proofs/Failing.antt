-- The first file that can't be read.
use Rattle.std.proofs.Common.{◌≡◌, ◌∙◌, sym, ap, subst, ℕ, ◌+◌, ◌<◌, inl, inr, List, [], ◌∷◌, ◌++◌, map, take, drop, length, get_or, Bor}
use Rattle.std.specs.Prelude.{Option, All}
use Rattle.std.proofs.lemmas.List.{map-append, take-append-drop, drop_more}
use Rattle.std.proofs.lemmas.List.Elements.{All-head, All-tail}
use Rattle.compose_folder.specs.Content.{Entry}
use Rattle.compose_input.specs.Faults.{FailsName, FailNames, IsUnopened, AreUnopened}
use Rattle.compose_input.specs.Names.{NamedText, IsNamedText}
use Rattle.compose_input.specs.declared.fault.Fault.{Fault}
use Rattle.compose_input.specs.declared.fault.Unopened.{Unopened}
use Rattle.compose_input.proofs.NamesRead.{now_of}

module _ (folder : Option (List Entry)) (fault : Fault) where
  -- a file that can't be read, after files that were read
  pub behind : (texts : List NamedText) (name : List ℕ) (names : List (List ℕ)) → All (IsNamedText folder) texts → FailsName folder name fault
      → FailNames folder (map (λ n. n.name) texts ++ name ∷ names) fault
  behind [] name names held fails = inl fails
  behind (n ∷ texts) name names held fails =
      inr (n.text, All-head (IsNamedText folder) n texts held, behind texts name names (All-tail (IsNamedText folder) n texts held) fails)

  -- the same if the names were given as references
  pub fails_at : (names : List (Bor (List ℕ))) (i : ℕ) (d : Bor (List ℕ)) (texts : List NamedText) → i < length names → map (λ n. n.name) texts ≡ map now_of (take i names)
      → All (IsNamedText folder) texts → FailsName folder (get_or names i d).now fault → FailNames folder (map now_of names) fault
  fails_at names i d texts within named held fails =
      let x = get_or names i d in let rest = drop (i + 1) names in
      let parts : map now_of names ≡ map (λ n. n.name) texts ++ x.now ∷ map now_of rest =
      ap (map now_of) (sym (take-append-drop i names) ∙ ap (λ l. take i names ++ l) (drop_more names i d within)) ∙ (map-append now_of (take i names) (x ∷ rest) ∙ ap (λ l. l ++ x.now ∷ map now_of rest) (sym named)) in
      subst (λ l. FailNames folder l fault) (sym parts) (behind texts x.now (map now_of rest) held fails)

-- one more path at which nothing is read
pub one_more_unopened : (folder : Option (List Entry)) (root : List ℕ) (paths : List (List ℕ)) (tried : List Unopened) (path : List ℕ) (u : Unopened) → AreUnopened folder root paths tried
    → IsUnopened folder root path u → AreUnopened folder root (paths ++ path ∷ []) (tried ++ u ∷ [])
one_more_unopened folder root [] [] path u are is = (is, tt)
one_more_unopened folder root [] (t ∷ tried) path u are is = absurd are
one_more_unopened folder root (p ∷ paths) [] path u are is = absurd are
one_more_unopened folder root (p ∷ paths) (t ∷ tried) path u are is = (are.0, one_more_unopened folder root paths tried path u are.1 is)
