-- Paths that begin with a folder and a slash.
use Rattle.std.proofs.Common.{◌≡◌, ℕ, List, [], ◌∷◌, ◌++◌, Bool, true, false, drop, length, refl, sym, ◌∙◌, ap, append_assoc}
use Rattle.std.specs.Prelude.{◌==◌, ◌≢◌}
use Rattle.std.proofs.lemmas.Bool.{eqb-true}
use Rattle.std.proofs.lemmas.Bool.Decides.{Decides-eqb}
use Rattle.std.proofs.lemmas.List.{append_cancel_left}
use Rattle.std.proofs.lemmas.Slice.Eq.{starts_is}
use Rattle.compose_text.specs.Bytes.{begins}
use Rattle.compose_find.specs.Trees.{lies_below}

same_test : (a b : Bool) → (a ≡ true → b ≡ true) → (b ≡ true → a ≡ true) → a ≡ b
same_test true b f g = sym (f refl)
same_test false true f g = g refl
same_test false false f g = refl

-- what a path below a folder is
below : (folder path : List ℕ) → lies_below folder path ≡ true → (rest : List ℕ) × (path ≡ folder ++ 47 ∷ rest)
below folder path e =
    let slash = folder ++ 47 ∷ [] in
    (drop (length slash) path, (starts_is Decides-eqb path slash (lies_below folder path) refl).0 e ∙ append_assoc folder (47 ∷ []) (drop (length slash) path))

-- and the other way round
lies : (folder path rest : List ℕ) → path ≡ folder ++ 47 ∷ rest → lies_below folder path ≡ true
lies folder path rest e =
    (starts_is Decides-eqb path (folder ++ 47 ∷ []) (lies_below folder path) refl).1 rest (e ∙ sym (append_assoc folder (47 ∷ []) rest))

-- a path that begins with the folder lies below it exactly if a slash follows
pub below_by_rest : (folder path rest : List ℕ) → path ≡ folder ++ rest → begins (λ b. b == 47) rest ≡ lies_below folder path
below_by_rest folder path rest e = same_test (begins (λ b. b == 47) rest) (lies_below folder path) (there rest e) back
  where
    there : (rest : List ℕ) → path ≡ folder ++ rest → begins (λ b. b == 47) rest ≡ true → lies_below folder path ≡ true
    there [] e slash = cc
    there (b ∷ rest) e slash = lies folder path rest (e ∙ ap (λ k. folder ++ k ∷ rest) (eqb-true b 47 slash))

    back : lies_below folder path ≡ true → begins (λ b. b == 47) rest ≡ true
    back lies = let is = below folder path lies in ap (begins (λ b. b == 47)) (append_cancel_left folder rest (47 ∷ is.0) (sym e ∙ is.1))

-- a path that doesn't begin with the folder doesn't lie below it
pub not_below : (folder path : List ℕ) → ((rest : List ℕ) → path ≢ folder ++ rest) → false ≡ lies_below folder path
not_below folder path lacks = same_test false (lies_below folder path) (λ e. cc) (λ e. (let is = below folder path e in absurd (lacks (47 ∷ is.0) is.1)))
