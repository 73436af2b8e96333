-- The leaves that give one of the texts that are asked for.
use Rattle.std.proofs.Common.{◌≡◌, ◌∙◌, ℕ, zero, suc, ◌+◌, ◌<◌, List, [], ◌∷◌, ◌++◌, Bool, true, false, cond, ◌||◌, Bor, map, take, get_or, length, append-nil, refl, sym, ap, ap₂, inl, inr, arith}
use Rattle.std.specs.Prelude.{bytes_eq, filter, IsTrue}
use Rattle.std.proofs.lemmas.Bool.{cases_Bool}
use Rattle.std.proofs.lemmas.List.{take_more, map-append}
use Rattle.std.proofs.lemmas.List.Folds.{list_any-append}
use Rattle.std.proofs.lemmas.List.FromFn.{filter_of_map_range_with_len_more}
use Rattle.std.proofs.lemmas.Slice.Eq.{bytes_eq-Decides}
use Rattle.compose_model.specs.Table.{Definition}
use Rattle.compose_model.proofs.NodeLemmas.{same_is}
use Rattle.compose_tree.specs.declared.table.LeafId.{LeafId}
use Rattle.compose_lookup.specs.TextIndex.{is_among, text_of, has_text, leaf_id, leaf_ids}

-- ---- one text more

swapped : (s t : List ℕ) → bytes_eq s t ≡ bytes_eq t s
swapped s t = by (bytes_eq s t) (bytes_eq t s) refl refl
  where
    by : (a b : Bool) → bytes_eq s t ≡ a → bytes_eq t s ≡ b → a ≡ b
    by true b e f = sym ((bytes_eq-Decides t s).1 (sym ((bytes_eq-Decides s t).0 e))) ∙ f
    by false true e f = sym e ∙ (bytes_eq-Decides s t).1 (sym ((bytes_eq-Decides t s).0 f))
    by false false e f = refl

or_first : (a b : Bool) → cond a true b ≡ (b || a)
or_first true true = refl
or_first true false = refl
or_first false true = refl
or_first false false = refl

or_none : (a : Bool) → (a || false) ≡ a
or_none true = refl
or_none false = refl

pub text_added : (texts : List (Bor (List ℕ))) (i : ℕ) (d : Bor (List ℕ)) (q : List ℕ) (found : Bool) → i < length texts → found ≡ is_among (map (λ t. t.now) (take i texts)) q
    → cond (bytes_eq (get_or texts i d).now q) true found ≡ is_among (map (λ t. t.now) (take (i + 1) texts)) q
text_added texts i d q found within before =
    let text = get_or texts i d in
    or_first (bytes_eq text.now q) found ∙ ap₂ (λ a b. a || b) before (swapped text.now q ∙ sym (or_none (bytes_eq q text.now)))
    ∙ sym (
    ap (λ ts. is_among (map (λ t. t.now) ts) q) (take_more texts i d within) ∙ ap (λ ts. is_among ts q) (map-append (λ t. t.now) (take i texts) (text ∷ []))
    ∙ list_any-append (λ t. bytes_eq q t) (map (λ t. t.now) (take i texts)) (text.now ∷ []))

-- ---- one leaf more

module _ (p : LeafId → Bool) (i : ℕ) (xs : List LeafId) (so_far : xs ≡ filter p (leaf_ids i)) where
  more : (t : Bool) → p (leaf_id i) ≡ t → filter p (leaf_ids (i + 1)) ≡ xs ++ cond t (leaf_id i ∷ []) []
  more t e =
      filter_of_map_range_with_len_more p leaf_id 0 i i (omega arith) ∙ ap (λ b. filter p (leaf_ids i) ++ cond b (leaf_id i ∷ []) []) e
      ∙ ap (λ l. l ++ cond t (leaf_id i ∷ []) []) (sym so_far)

  pub taken : p (leaf_id i) ≡ true → xs ++ leaf_id i ∷ [] ≡ filter p (leaf_ids (i + 1))
  taken e = sym (more true e)

  pub passed : p (leaf_id i) ≡ false → xs ≡ filter p (leaf_ids (i + 1))
  passed e = sym (more false e ∙ append-nil xs)

-- ---- those with one text

-- of elements that all pass a weaker test, none is left out by it
filtered_again : {X : Type 0} (p q : X → Bool) → ((x : X) → p x ≡ true → q x ≡ true) → (xs : List X) → filter p (filter q xs) ≡ filter p xs
filtered_again p q weaker [] = refl
filtered_again p q weaker (x ∷ xs) = elim (cases_Bool (q x)) [
  | inl e ↦ rw e (elim (cases_Bool (p x)) [
    | inl f ↦ rw f (ap (λ l. x ∷ l) (filtered_again p q weaker xs))
    | inr f ↦ rw f (filtered_again p q weaker xs)
  ])
  | inr e ↦ rw e (elim (cases_Bool (p x)) [
    | inl f ↦ (let clash : true ≡ false = sym (weaker x f) ∙ e in cc)
    | inr f ↦ rw f (filtered_again p q weaker xs)
  ])
]

-- a leaf with a text that is asked for gives one of the texts
pub gives_one : (table : List Definition) (texts : List (List ℕ)) (text : List ℕ) → IsTrue (is_among texts text) → (leaf : LeafId) → has_text table text leaf ≡ true → is_among texts (text_of table leaf) ≡ true
gives_one table texts text among leaf h = ap (is_among texts) (sym (same_is text (text_of table leaf) h)) ∙ among

pub none_left_out : (table : List Definition) (texts : List (List ℕ)) (text : List ℕ) → IsTrue (is_among texts text) → (leaves : List LeafId)
    → filter (has_text table text) (filter (λ leaf. is_among texts (text_of table leaf)) leaves) ≡ filter (has_text table text) leaves
none_left_out table texts text among leaves = filtered_again (has_text table text) (λ leaf. is_among texts (text_of table leaf)) (gives_one table texts text among) leaves

-- ---- the texts themselves

-- each of the texts is one of them
pub is_asked : (texts : List (Bor (List ℕ))) (i : ℕ) (d : Bor (List ℕ)) → i < length texts → IsTrue (is_among (map (λ t. t.now) texts) (get_or texts i d).now)
is_asked [] i d within = absurd (omega arith)
is_asked (text ∷ texts) zero d within = ap (λ b. b || is_among (map (λ t. t.now) texts) text.now) ((bytes_eq-Decides text.now text.now).1 refl)
is_asked (text ∷ texts) (suc i) d within = later (bytes_eq (get_or texts i d).now text.now) (is_asked texts i d (omega arith))
  where
    later : {b : Bool} (a : Bool) → b ≡ true → (a || b) ≡ true
    later true h = refl
    later false h = h
