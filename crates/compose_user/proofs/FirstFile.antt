-- The first of some paths at which there is a file.
use Rattle.std.proofs.Common.{◌≡◌, ℕ, ◌+◌, ◌<◌, ◌≤◌, List, [], ◌∷◌, ◌++◌, Bool, true, false, length, get_or, map, take, drop, refl, sym, ◌∙◌, ap, subst, inl, inr, Option, Some, None}
use Rattle.std.specs.List.{find}
use Rattle.std.proofs.lemmas.Bool.{cases_Bool}
use Rattle.std.proofs.lemmas.List.{take_more, take_all, drop_more, take-append-drop, map-append}
use Rattle.compose_folder.specs.Content.{Entry, held}
use Rattle.compose_user.specs.Paths.{IsFirstFile, IsKnown, is_file}

-- ---- the first element that is found

module _ {X : Type 0} (p : X → Bool) where
  found_first : (x : X) (xs : List X) → p x ≡ true → find p (x ∷ xs) ≡ Some x
  found_first x xs e = rw e refl

  passed_first : (x : X) (xs : List X) → p x ≡ false → find p (x ∷ xs) ≡ find p xs
  passed_first x xs e = rw e refl

  found_after : (xs ys : List X) → None ≡ find p xs → find p (xs ++ ys) ≡ find p ys
  found_after [] ys h = refl
  found_after (x ∷ xs) ys h = elim (cases_Bool (p x)) [
    | inl e ↦ absurd (let clash : None ≡ Some x = h ∙ found_first x xs e in cc)
    | inr e ↦ passed_first x (xs ++ ys) e ∙ found_after xs ys (h ∙ passed_first x xs e)
  ]

-- ---- a folder

-- the same for an equal folder, path and answer
pub known_as : (f g : Option (List Entry)) (p q : List ℕ) (a b : Bool) → f ≡ g → p ≡ q → a ≡ b → IsKnown f p a → IsKnown g q b
known_as f g p q a b i j k h = subst (λ x. IsKnown g q x) k (subst (λ x. IsKnown g x a) j (subst (λ x. IsKnown x p a) i h))

module _ {S : Type 0} (text : S → List ℕ) (folder : Option (List Entry)) (paths : List S) where
  pub none_yet : IsFirstFile folder (map text (take 0 paths)) None
  none_yet = by folder
    where
      by : (f : Option (List Entry)) → IsFirstFile f (map text (take 0 paths)) None
      by None = refl
      by (Some entries) = refl

  pub none_at_all : (i : ℕ) → length paths ≤ i → IsFirstFile folder (map text (take i paths)) None → IsFirstFile folder (map text paths) None
  none_at_all i h none = subst (λ ps. IsFirstFile folder (map text ps) None) (take_all i paths h) none

  module _ (i : ℕ) (path : S) (below : i < length paths) (is : path ≡ get_or paths i path) (none : IsFirstFile folder (map text (take i paths)) None) where
    pub none_more : IsKnown folder (text path) false → IsFirstFile folder (map text (take (i + 1) paths)) None
    none_more known = by folder none known
      where
        more : map text (take (i + 1) paths) ≡ map text (take i paths) ++ text path ∷ []
        more = ap (map text) (take_more paths i path below) ∙ map-append text (take i paths) (get_or paths i path ∷ []) ∙ ap (λ (s : S). map text (take i paths) ++ text s ∷ []) (sym is)

        by : (f : Option (List Entry)) → IsFirstFile f (map text (take i paths)) None → IsKnown f (text path) false → IsFirstFile f (map text (take (i + 1) paths)) None
        by None a b = refl
        by (Some entries) a b = sym (
            ap (find (λ p. is_file (held entries p))) more ∙ found_after (λ p. is_file (held entries p)) (map text (take i paths)) (text path ∷ []) a
            ∙ passed_first (λ p. is_file (held entries p)) (text path) [] (sym b))

    pub found_here : IsKnown folder (text path) true → IsFirstFile folder (map text paths) (Some (text path))
    found_here known = by folder none known
      where
        whole : map text paths ≡ map text (take i paths) ++ (text path ∷ map text (drop (i + 1) paths))
        whole =
            ap (map text) (sym (take-append-drop i paths) ∙ ap (λ t. take i paths ++ t) (drop_more paths i path below)) ∙ map-append text (take i paths) (get_or paths i path ∷ drop (i + 1) paths)
            ∙ ap (λ (s : S). map text (take i paths) ++ (text s ∷ map text (drop (i + 1) paths))) (sym is)

        by : (f : Option (List Entry)) → IsFirstFile f (map text (take i paths)) None → IsKnown f (text path) true → IsFirstFile f (map text paths) (Some (text path))
        by None a b = refl
        by (Some entries) a b = sym (
            ap (find (λ p. is_file (held entries p))) whole ∙ found_after (λ p. is_file (held entries p)) (map text (take i paths)) (text path ∷ map text (drop (i + 1) paths)) a
            ∙ found_first (λ p. is_file (held entries p)) (text path) (map text (drop (i + 1) paths)) (sym b))

    -- and for a copy of it
    pub copy_found : (copy : List ℕ) → copy ≡ text path → IsKnown folder (text path) true → IsFirstFile folder (map text paths) (Some copy)
    copy_found copy e known = subst (λ q. IsFirstFile folder (map text paths) (Some q)) (sym e) (found_here known)
