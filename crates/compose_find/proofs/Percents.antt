-- A text divided at its first percent sign, and what its parts expand to.
use Rattle.std.proofs.Common.{◌≡◌, ℕ, suc, ◌+◌, ◌<◌, ◌≤◌, List, [], ◌∷◌, ◌++◌, length, get_or, Bool, true, false, not, cond, refl, sym, ◌∙◌, ap, arith, eqb-true, append_assoc, ap₂, subst, drop, Bor, Some}
use Rattle.std.specs.Prelude.{◌==◌, Result, Ok, Err, slice_get}
use Rattle.std.specs.List.{prefix_len}
use Rattle.std.specs.Str.{IsUtf8, IsCharBoundary}
use Rattle.compose_text.specs.Bytes.{leading, behind}
use Rattle.compose_text.specs.Results.{◌>>=◌}
use Rattle.compose_find.specs.Expand.{Words, is_plain, path_from, path_of, meaning_at, meaning}
use Rattle.compose_find.specs.declared.fault.IncludeFault.{IncludeFault}
use Rattle.compose_find.specs.declared.fault.IncludeFault.TheVariants.{Text, UnknownPercent, NoLocale, NoHome, TwoFiles, TooManySources, IncludeDepth, NoMemory}
use Rattle.compose_find.specs.FindReturns.{onto, Returns, IsPiece}

-- either the text ends there, or a percent sign is there
stops : (text : List ℕ) → prefix_len is_plain text < length text → get_or text (prefix_len is_plain text) 0 ≡ 37
stops [] less = absurd (omega arith)
stops (b ∷ rest) less = go (b == 37) refl less (stops rest)
  where
    go : (t : Bool) → b == 37 ≡ t → cond (not t) (1 + prefix_len is_plain rest) 0 < length (b ∷ rest) → (prefix_len is_plain rest < length rest → get_or rest (prefix_len is_plain rest) 0 ≡ 37)
        → get_or (b ∷ rest) (cond (not t) (1 + prefix_len is_plain rest) 0) 0 ≡ 37
    go true e less more = eqb-true b 37 e
    go false e less more = let one : 1 + prefix_len is_plain rest ≡ suc (prefix_len is_plain rest) = omega arith in ap (λ n. get_or (b ∷ rest) n 0) one ∙ more (omega arith)

within : (text : List ℕ) → prefix_len is_plain text ≤ length text
within [] = omega arith
within (b ∷ rest) = go (b == 37) (within rest)
  where
    go : (t : Bool) → prefix_len is_plain rest ≤ length rest → cond (not t) (1 + prefix_len is_plain rest) 0 ≤ length (b ∷ rest)
    go true h = omega arith
    go false h = omega arith

-- a text may be cut before its first percent sign
pub cut_at_percent : (text : List ℕ) → IsUtf8 text → IsCharBoundary text (prefix_len is_plain text)
cut_at_percent text u = (within text, λ less high. absurd (let at = stops text less in omega (arith, at)))

-- ---- what the parts expand to

-- a path with nothing before it is itself
pub onto-none : (r : Result (List ℕ) IncludeFault) → onto [] r ≡ r
onto-none (Ok path) = refl
onto-none (Err e) = refl

one_more : (b : ℕ) (xs : List ℕ) (r : Result (List ℕ) IncludeFault) → onto xs r >>= (λ more. Ok (b ∷ more)) ≡ onto (b ∷ xs) r
one_more b xs (Ok path) = refl
one_more b xs (Err e) = refl

-- a text expands to its bytes before the first percent sign, followed by what the rest expands to
pub plain_first : (words : Words) (text : List ℕ) → path_of words text ≡ onto (leading is_plain text) (path_of words (behind is_plain text))
plain_first words [] = refl
plain_first words (b ∷ rest) = go (b == 37) refl (plain_first words rest)
  where
    go : (t : Bool) → b == 37 ≡ t → path_of words rest ≡ onto (leading is_plain rest) (path_of words (behind is_plain rest))
        → cond t (path_from words true rest) (path_from words false rest >>= (λ more. Ok (b ∷ more)))
        ≡ onto (cond (not t) (b ∷ leading is_plain rest) []) (path_of words (cond (not t) (behind is_plain rest) (b ∷ rest)))
    go true e h = rw e (sym (onto-none (path_from words true rest)))
    go false e h = ap (λ r. r >>= (λ more. Ok (b ∷ more))) h ∙ one_more b (leading is_plain rest) (path_of words (behind is_plain rest))

joined : (word : List ℕ) (r : Result (List ℕ) IncludeFault) → r >>= (λ more. Ok (word ++ more)) ≡ onto word r
joined word (Ok path) = refl
joined word (Err e) = refl

-- after a percent sign
pub meaning_first : (words : Words) (rest : List ℕ) (x : List ℕ × List ℕ) → meaning_at words rest ≡ Ok x → path_from words true rest ≡ onto x.0 (path_of words x.1)
meaning_first words [] x e = cc
meaning_first words (b ∷ rest) x e = go (meaning words b) e
  where
    go : (m : Result (List ℕ) IncludeFault) → m >>= (λ word. Ok (word, rest)) ≡ Ok x → m >>= (λ word. path_of words rest >>= (λ more. Ok (word ++ more))) ≡ onto x.0 (path_of words x.1)
    go (Ok word) e = let same : (word, rest) ≡ x = cc in joined word (path_of words rest) ∙ ap (λ y. onto y.0 (path_of words y.1)) same
    go (Err fault) e = cc

-- a fault in the meaning of a percent sign is the fault of the path
pub meaning_faults : (words : Words) (rest : List ℕ) (fault : IncludeFault) → meaning_at words rest ≡ Err fault → path_from words true rest ≡ Err fault
meaning_faults words [] fault e = cc
meaning_faults words (b ∷ rest) fault e = go (meaning words b) e
  where
    go : (m : Result (List ℕ) IncludeFault) → ◌>>=◌ {B = List ℕ × List ℕ} m (λ word. Ok (word, rest)) ≡ Err fault → m >>= (λ word. path_of words rest >>= (λ more. Ok (word ++ more))) ≡ Err fault
    go (Ok word) e = cc
    go (Err other) e = cc

plain_shorter : (text : List ℕ) → length (behind is_plain text) ≤ length text
plain_shorter [] = omega arith
plain_shorter (b ∷ rest) = go (b == 37) (plain_shorter rest)
  where
    go : (t : Bool) → length (behind is_plain rest) ≤ length rest → length (cond (not t) (behind is_plain rest) (b ∷ rest)) ≤ length (b ∷ rest)
    go true h = omega arith
    go false h = omega arith

-- if there are bytes before the first percent sign
pub plain_shortens : (b : ℕ) (rest : List ℕ) → b == 37 ≡ false → length (behind is_plain (b ∷ rest)) < length (b ∷ rest)
plain_shortens b rest e = rw e (let h = plain_shorter rest in omega (arith, h))

-- ---- the first piece

meaning_shortens : (words : Words) (rest : List ℕ) (x : List ℕ × List ℕ) → meaning_at words rest ≡ Ok x → length x.1 < suc (length rest)
meaning_shortens words [] x e = cc
meaning_shortens words (b ∷ rest) x e = go (meaning words b) e
  where
    go : (m : Result (List ℕ) IncludeFault) → m >>= (λ word. Ok (word, rest)) ≡ Ok x → length x.1 < suc (suc (length rest))
    go (Ok word) e = let same : (word, rest) ≡ x = cc in let long : length rest ≡ length x.1 = ap (λ y. length y.1) same in omega (arith, long)
    go (Err fault) e = cc

percent_first : (words : Words) (rest : List ℕ) (r : Result (Bor (List ℕ) × Bor (List ℕ)) IncludeFault) → Returns (λ x. (x.0.now, x.1.now)) r (meaning_at words rest) → IsPiece words (37 ∷ rest) r
percent_first words rest (Ok x) e = (meaning_first words rest (x.0.now, x.1.now) e, meaning_shortens words rest (x.0.now, x.1.now) e)
percent_first words rest (Err NoMemory) e = tt
percent_first words rest (Err (Text fault)) e = meaning_faults words rest (Text fault) e
percent_first words rest (Err UnknownPercent) e = meaning_faults words rest UnknownPercent e
percent_first words rest (Err NoLocale) e = meaning_faults words rest NoLocale e
percent_first words rest (Err NoHome) e = meaning_faults words rest NoHome e
percent_first words rest (Err TwoFiles) e = meaning_faults words rest TwoFiles e
percent_first words rest (Err TooManySources) e = meaning_faults words rest TooManySources e
percent_first words rest (Err IncludeDepth) e = meaning_faults words rest IncludeDepth e

divided : (text : List ℕ) (b : ℕ) (rest : List ℕ) → Some b ≡ slice_get text 0 → rest ≡ drop 1 text → b ∷ rest ≡ text
divided [] b rest first left = cc
divided (a ∷ text) b rest first left = cc

-- a percent sign and what follows it are a piece, or have the fault of its meaning
pub percent_piece : (words : Words) (text : List ℕ) (b : ℕ) (rest : List ℕ) (r : Result (Bor (List ℕ) × Bor (List ℕ)) IncludeFault) → Some b ≡ slice_get text 0 → b ≡ 37 → rest ≡ drop 1 text
    → Returns (λ x. (x.0.now, x.1.now)) r (meaning_at words rest) → IsPiece words text r
percent_piece words text b rest r first is left gives =
    subst (λ t. IsPiece words t r) (ap (λ k. k ∷ rest) (sym is) ∙ divided text b rest first left) (percent_first words rest r gives)

-- the bytes before the first percent sign are a piece that expands to itself
pub plain_piece : (words : Words) (text plain rest : List ℕ) → 0 < length text → ((b : ℕ) → Some b ≡ slice_get text 0 → b ≡ 37 → ⊥) → plain ≡ leading is_plain text → rest ≡ behind is_plain text
    → (path_of words text ≡ onto plain (path_of words rest)) × (length rest < length text)
plain_piece words [] plain rest some other p r = absurd (omega arith)
plain_piece words (b ∷ text) plain rest some other p r = go (b == 37) refl
  where
    go : (t : Bool) → b == 37 ≡ t → (path_of words (b ∷ text) ≡ onto plain (path_of words rest)) × (length rest < length (b ∷ text))
    go true e = absurd (other b refl (eqb-true b 37 e))
    go false e = (plain_first words (b ∷ text) ∙ ap₂ (λ x y. onto x (path_of words y)) (sym p) (sym r), subst (λ xs. length xs < length (b ∷ text)) (sym r) (plain_shortens b text e))

-- ---- the pieces so far

onto-append : (xs ys : List ℕ) (r : Result (List ℕ) IncludeFault) → onto xs (onto ys r) ≡ onto (xs ++ ys) r
onto-append xs ys (Ok path) = ap Ok (sym (append_assoc xs ys path))
onto-append xs ys (Err e) = refl

-- one more piece added to the expanded path leaves the expansion of the whole text unchanged
pub piece_more : (words : Words) (text done : List ℕ) (piece rest all : List ℕ) (path : List ℕ) → path ≡ done ++ piece → path_of words text ≡ onto piece (path_of words rest)
    → onto done (path_of words text) ≡ path_of words all → onto path (path_of words rest) ≡ path_of words all
piece_more words text done piece rest all path is more before =
    ap (λ p. onto p (path_of words rest)) is ∙ sym (onto-append done piece (path_of words rest)) ∙ ap (onto done) (sym more) ∙ before

-- the fault of the rest of a text is that of the whole text
pub piece_faults : (words : Words) (text done all : List ℕ) (fault : IncludeFault) → path_of words text ≡ Err fault → onto done (path_of words text) ≡ path_of words all → path_of words all ≡ Err fault
piece_faults words text done all fault e before = sym before ∙ ap (onto done) e
