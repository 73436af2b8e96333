-- Rows of wanted characters: the search for a character, and what an offer does to them.
use Rattle.std.proofs.Common.{◌≡◌, ℕ, zero, suc, ◌+◌, ◌<◌, ◌≤◌, List, [], ◌∷◌, Bool, true, false, cond, ◌&&◌, ◌||◌, length, get_or, map, refl, sym, ◌∙◌, ap, ap₂, subst, inl, inr, arith, append-nil}
use Rattle.std.specs.Prelude.{encode_utf8, slice_set}
use Rattle.std.proofs.lemmas.Str.{encode_same}
use Rattle.std.proofs.lemmas.List.{length-map}
use Rattle.std.proofs.lemmas.Bool.{cases_Bool, cases_lt}
use Rattle.compose_model.specs.Table.{same}
use Rattle.compose_model.specs.Certificate.{keys_rise}
use Rattle.compose_model.proofs.NodeLemmas.{same_is, same_from}
use Rattle.compose_fresh.proofs.Positions.{rises_head, rises_tail, rises}
use Rattle.compose_make.specs.Candidates.{spells, IsLeastOf}
use Rattle.compose_make.specs.Wanted.{WantedCharacter, better, offered_row, characters_of, AreLeast}
use Rattle.compose_make.proofs.Order.{least_same, least_more}

-- ---- rising characters

-- if the character at m is less, each up to m is less
pub below_from : (xs : List ℕ) (c m : ℕ) → keys_rise xs ≡ true → m < length xs → get_or xs m 0 < c → (k : ℕ) → k < m + 1 → get_or xs k 0 < c
below_from xs c m r fits less k le = elim (cases_lt k m) [
  | inl l ↦ (let a : get_or xs k 0 < get_or xs m 0 = rises xs r k m l fits in omega arith)
  | inr l ↦ (let e : k ≡ m = omega arith in let P : ℕ → Type 0 = λ n. get_or xs n 0 < c in subst P (sym e) less)
]

-- if the character at m is greater, each from m on is greater
pub above_from : (xs : List ℕ) (c m : ℕ) → keys_rise xs ≡ true → c < get_or xs m 0 → (k : ℕ) → m ≤ k → k < length xs → c < get_or xs k 0
above_from xs c m r more k le fits = elim (cases_lt m k) [
  | inl l ↦ (let a : get_or xs m 0 < get_or xs k 0 = rises xs r m k l fits in omega arith)
  | inr l ↦ (let e : m ≡ k = omega arith in let P : ℕ → Type 0 = λ n. c < get_or xs n 0 in subst P e more)
]

-- ---- texts of one character

-- two characters with the same text are the same
pub encodes_one : (c d : ℕ) → encode_utf8 c ≡ encode_utf8 d → c ≡ d
encodes_one c d e = (encode_same c d [] [] (append-nil (encode_utf8 c) ∙ e ∙ sym (append-nil (encode_utf8 d)))).0

-- ---- offers

passed_over : (t w : List ℕ) (rows : List WantedCharacter) → ((k : ℕ) → k < length rows → spells (get_or (characters_of rows) k 0) t ≡ false) → rows ≡ map (offered_row t w) rows
passed_over t w [] n = refl
passed_over t w (row ∷ rows) n = ap₂ (λ r rs. r ∷ rs) (go (spells row.character t) (n zero (omega arith))) (passed_over t w rows (λ k h. n (suc k) (omega arith)))
  where
    go : (b : Bool) → b ≡ false → row ≡ cond b (record row { keys = better row.keys w }) row
    go true e = cc
    go false e = refl

-- a text that is not a character changes nothing
pub no_character : (t w : List ℕ) (rows : List WantedCharacter) → ((c : ℕ) → t ≡ encode_utf8 c → ⊥) → rows ≡ map (offered_row t w) rows
no_character t w rows n = passed_over t w rows (λ k h. other (get_or (characters_of rows) k 0))
  where
    other : (c : ℕ) → spells c t ≡ false
    other c = elim (cases_Bool (spells c t)) [ inl e ↦ absurd (n c (sym (same_is (encode_utf8 c) t e))) | inr e ↦ e ]

spells_other : (c d : ℕ) (t : List ℕ) → t ≡ encode_utf8 d → (c ≡ d → ⊥) → spells c t ≡ false
spells_other c d t e n = elim (cases_Bool (spells c t)) [ inl h ↦ absurd (n (encodes_one c d (same_is (encode_utf8 c) t h ∙ e))) | inr h ↦ h ]

-- a character that is not wanted changes nothing either
pub not_wanted : (t w : List ℕ) (d : ℕ) (rows : List WantedCharacter) → t ≡ encode_utf8 d → ((k : ℕ) → k < length rows → get_or (characters_of rows) k 0 ≡ d → ⊥) → rows ≡ map (offered_row t w) rows
not_wanted t w d rows e n = passed_over t w rows (λ k h. spells_other (get_or (characters_of rows) k 0) d t e (n k h))

-- the row of a wanted character takes the keys
pub taken : (t w : List ℕ) (d i : ℕ) (rows : List WantedCharacter) (row : WantedCharacter) → keys_rise (characters_of rows) ≡ true → t ≡ encode_utf8 d → i < length rows
    → get_or (characters_of rows) i 0 ≡ d
    → row ≡ get_or rows i row → slice_set rows i (record row { keys = better row.keys w }) ≡ map (offered_row t w) rows
taken t w d i [] row rise e h at is = absurd (omega arith)
taken t w d zero (r ∷ rows) row rise e h at is =
    ap₂ (λ r rs. r ∷ rs) (ap (λ (x : WantedCharacter). record x { keys = better x.keys w }) is ∙ here (spells r.character t) (same_from (encode_utf8 r.character) t (ap encode_utf8 at ∙ sym e)))
    (passed_over t w rows
    (λ k l. spells_other (get_or (characters_of rows) k 0) d t e
    (λ same_one. absurd
    (let a : r.character < get_or (characters_of rows) k 0 = rises_head r.character (characters_of rows) rise k
    (let n : length (characters_of rows) ≡ length rows = length-map rows (λ x. x.character) in omega arith) in omega arith))))
  where
    here : (b : Bool) → b ≡ true → record r { keys = better r.keys w } ≡ cond b (record r { keys = better r.keys w }) r
    here true f = refl
    here false f = cc
taken t w d (suc i) (r ∷ rows) row rise e h at is =
    ap₂ (λ r rs. r ∷ rs)
    (there (spells r.character t)
    (spells_other r.character d t e
    (λ same_one. absurd
    (let a : r.character < get_or (characters_of rows) i 0 = rises_head r.character (characters_of rows) rise i
    (let n : length (characters_of rows) ≡ length rows = length-map rows (λ x. x.character) in omega arith) in omega arith))))
    (taken t w d i rows row (rises_tail r.character (characters_of rows) rise) e (omega arith) at is)
  where
    there : (b : Bool) → b ≡ false → r ≡ cond b (record r { keys = better r.keys w }) r
    there true f = cc
    there false f = refl

-- an offer changes no row's character
pub offered_characters : (t w : List ℕ) (rows : List WantedCharacter) → characters_of (map (offered_row t w) rows) ≡ characters_of rows
offered_characters t w [] = refl
offered_characters t w (row ∷ rows) = ap₂ (λ c cs. c ∷ cs) (go (spells row.character t)) (offered_characters t w rows)
  where
    go : (b : Bool) → (cond b (record row { keys = better row.keys w }) row).character ≡ row.character
    go true = refl
    go false = refl

-- ---- the least of what was offered

-- the least by one test are the least by another that accepts the same
pub are_same : (p q : ℕ → List ℕ → Bool) → ((c : ℕ) (v : List ℕ) → p c v ≡ q c v) → (rows : List WantedCharacter) → AreLeast p rows → AreLeast q rows
are_same p q alike [] a = tt
are_same p q alike (row ∷ rows) a = (least_same (p row.character) (q row.character) (alike row.character) row.keys a.0, are_same p q alike rows a.1)

-- after an offer the rows hold the least of what they held and of the offered keys, for the
-- character that the text is
pub are_offered : (p : ℕ → List ℕ → Bool) (t w : List ℕ) (rows : List WantedCharacter) → AreLeast p rows → AreLeast (λ c v. p c v || (spells c t && same v w)) (map (offered_row t w) rows)
are_offered p t w [] a = tt
are_offered p t w (row ∷ rows) a = (go (spells row.character t) refl, are_offered p t w rows a.1)
  where
    or_none : (b : Bool) → b ≡ b || false
    or_none true = refl
    or_none false = refl

    go : (b : Bool) → spells row.character t ≡ b
        → IsLeastOf (λ v. p (cond b (record row { keys = better row.keys w }) row).character v || (spells (cond b (record row { keys = better row.keys w }) row).character t && same v w))
        (cond b (record row { keys = better row.keys w }) row).keys
    go true e =
        least_same (λ v. p row.character v || same v w) (λ v. p row.character v || (spells row.character t && same v w)) (λ v. ap (λ b. p row.character v || (b && same v w)) (sym e))
        (better row.keys w) (least_more (p row.character) w row.keys a.0)
    go false e =
        least_same (p row.character) (λ v. p row.character v || (spells row.character t && same v w))
        (λ v. or_none (p row.character v) ∙ ap (λ b. p row.character v || (b && same v w)) (sym e)) row.keys a.0
