-- The path of a locale's table, taken apart at its last two slashes.
use Rattle.std.proofs.Common.{◌≡◌, ℕ, suc, ◌+◌, ◌-◌, ◌<◌, ◌≤◌, List, ◌∷◌, ◌++◌, length, get_or, take, drop, true, sym, ◌∙◌, ap, ap₂, arith, length-append, length-drop}
use Rattle.std.specs.Prelude.{◌==◌, codes}
use Rattle.std.proofs.lemmas.Bool.{eq-eqb, eqb-true}
use Rattle.std.proofs.lemmas.List.{append_cancel_right, get_or-append-add, get_or-drop, take-append-drop, drop_more}
use Rattle.std.proofs.lemmas.Grind.{get_or_default_zero}
use Rattle.compose_find.specs.Trees.{IsTableOf}

-- the part before `/Compose` is the tree, a slash and the locale
folder_parts : (path folder tree : List ℕ) → path ≡ folder ++ codes "/Compose" → (table : IsTableOf tree path) → folder ≡ tree ++ 47 ∷ table.0
folder_parts path folder tree is table =
    append_cancel_right folder (tree ++ 47 ∷ table.0) (codes "/Compose") (sym is ∙ table.2)

-- if there is no slash in it, there is no tree
pub no_slash_no_tree : (path folder : List ℕ) → path ≡ folder ++ codes "/Compose" → ((i : ℕ) → i < length folder → get_or folder i 0 == 47 ≡ true → ⊥) → (tree : List ℕ) → IsTableOf tree path → ⊥
no_slash_no_tree path folder is none tree table =
    let parts = folder_parts path folder tree is table in
    let n = ap length parts in
    let long = length-append tree (47 ∷ table.0) in
    let slash : get_or folder (length tree + 0) 0 ≡ 47 = ap (λ xs. get_or xs (length tree + 0) 0) parts ∙ get_or-append-add tree (47 ∷ table.0) 0 0 in
    none (length tree + 0) (omega arith) (eq-eqb (get_or folder (length tree + 0) 0) 47 slash)

-- if it ends with the slash, there is no locale
pub no_locale_no_tree : (path folder : List ℕ) (at : ℕ) → path ≡ folder ++ codes "/Compose" → at + 1 ≡ length folder → get_or folder at 0 == 47 ≡ true → (tree : List ℕ) → IsTableOf tree path → ⊥
no_locale_no_tree path folder at is last slash tree table =
    let parts = folder_parts path folder tree is table in
    let n = ap length parts in
    let long = length-append tree (47 ∷ table.0) in
    let some = table.1.0 in
    let end : at ≡ length tree + suc (length table.0 - 1) = omega arith in
    let read : get_or folder at 0 ≡ get_or table.0 (length table.0 - 1) 0 =
    ap₂ (λ xs i. get_or xs i 0) parts end ∙ get_or-append-add tree (47 ∷ table.0) (suc (length table.0 - 1)) 0 in
    table.1.1 (length table.0 - 1) 0 (omega arith) (sym read ∙ eqb-true (get_or folder at 0) 47 slash)

-- the tree comes before the last slash, and the locale after it
pub tree_there : (path folder : List ℕ) (at : ℕ) → path ≡ folder ++ codes "/Compose" → at < length folder → at + 1 < length folder → get_or folder at 0 == 47 ≡ true
    → ((i : ℕ) → at + 1 ≤ i → i < length folder → get_or folder i 0 == 47 ≡ true → ⊥) → IsTableOf (take at folder) path
tree_there path folder at is within more slash after = (drop (at + 1) folder, (omega (arith, length-drop (at + 1) folder), free), whole)
  where
    free : (k d : ℕ) → k < length (drop (at + 1) folder) → get_or (drop (at + 1) folder) k d ≡ 47 → ⊥
    free k d less same =
        let long = length-drop (at + 1) folder in
        after (at + 1 + k) (omega arith) (omega arith) (eq-eqb (get_or folder (at + 1 + k) 0) 47 (sym (get_or-drop (at + 1) folder k 0) ∙ sym (get_or_default_zero (drop (at + 1) folder) k d less) ∙ same))

    split : folder ≡ take at folder ++ 47 ∷ drop (at + 1) folder
    split = sym (take-append-drop at folder) ∙ ap (λ xs. take at folder ++ xs) (drop_more folder at 0 within ∙ ap (λ b. b ∷ drop (at + 1) folder) (eqb-true (get_or folder at 0) 47 slash))

    whole : path ≡ take at folder ++ 47 ∷ drop (at + 1) folder ++ codes "/Compose"
    whole = is ∙ ap (λ xs. xs ++ codes "/Compose") split
