-- The words of bytes are the first word and those after it.
use Rattle.std.proofs.Common.{◌≡◌, ℕ, zero, suc, ◌+◌, ◌<◌, List, [], ◌∷◌, length, get_or, drop, take, map, Bool, true, false, cond, refl, sym, ◌∙◌, ap, arith, eq-eqb}
use Rattle.std.specs.Prelude.{◌==◌, ◌||◌, nat_lt, filter}
use Rattle.std.specs.List.{position_or_len}
use Rattle.std.proofs.lemmas.Bool.{ne_eqb, lt-ltb, false≢true}
use Rattle.compose_text.specs.Lines.{divide}
use Rattle.compose_text.specs.Bytes.{is_blank}
use Rattle.compose_cert.specs.Repertoire.{plain_blank, words_in, before_comment}

-- ---- comments

comment_step : (b : ℕ) (line : List ℕ) → (b == 35) ≡ false → before_comment (b ∷ line) ≡ b ∷ before_comment line
comment_step b line e =
    let next : 1 + position_or_len (λ b. b == 35) line ≡ suc (position_or_len (λ b. b == 35) line) = omega arith in
    rw e (ap (λ n. take n (b ∷ line)) next)

-- the bytes before the first `#` of a line are those before its comment
pub comment_found : (line : List ℕ) (i : ℕ) → i < length line → get_or line i 0 ≡ 35 → ((k : ℕ) → k < i → get_or line k 0 ≡ 35 → ⊥) → take i line ≡ before_comment line
comment_found [] i l e n = absurd (omega arith)
comment_found (b ∷ line) zero l e n = rw (eq-eqb b 35 e) refl
comment_found (b ∷ line) (suc i) l e n = ap (λ bs. b ∷ bs) (comment_found line i (omega arith) e (λ k h. n (suc k) (omega arith))) ∙ sym (comment_step b line (ne_eqb b 35 (n 0 (omega arith))))

-- a line without `#` has no comment
pub comment_unfound : (line : List ℕ) → ((k : ℕ) → k < length line → get_or line k 0 ≡ 35 → ⊥) → line ≡ before_comment line
comment_unfound [] n = refl
comment_unfound (b ∷ line) n = ap (λ bs. b ∷ bs) (comment_unfound line (λ k h. n (suc k) (omega arith))) ∙ sym (comment_step b line (ne_eqb b 35 (n 0 (omega arith))))

-- ---- words

-- a byte that is no blank is unchanged
plain : (b : ℕ) → is_blank b ≡ false → (plain_blank b ≡ b) × ((b == 32) ≡ false)
plain b h = (ap (λ t. cond t 32 b) h, go (b == 32) (b == 9) (b == 13) h)
  where
    go : (s t u : Bool) → s || t || u ≡ false → s ≡ false
    go true t u e = e
    go false t u e = refl

parts_found : (bytes : List ℕ) (i : ℕ) → i < length bytes → is_blank (get_or bytes i 0) ≡ true → ((k : ℕ) → k < i → is_blank (get_or bytes k 0) ≡ false)
    → divide 32 (map plain_blank bytes) ≡ take i bytes ∷ divide 32 (map plain_blank (drop (suc i) bytes))
parts_found [] i l e n = absurd (omega arith)
parts_found (b ∷ bytes) zero l e n = rw e refl
parts_found (b ∷ bytes) (suc i) l e n =
    let p = plain b (n 0 (omega arith)) in
    rw (p.0, p.1, parts_found bytes i (omega arith) e (λ k h. n (suc k) (omega arith))) refl

parts_unfound : (bytes : List ℕ) → ((k : ℕ) → k < length bytes → is_blank (get_or bytes k 0) ≡ false) → divide 32 (map plain_blank bytes) ≡ bytes ∷ []
parts_unfound [] n = refl
parts_unfound (b ∷ bytes) n =
    let p = plain b (n 0 (omega arith)) in
    rw (p.0, p.1, parts_unfound bytes (λ k h. n (suc k) (omega arith))) refl

some_kept : (word : List ℕ) (words : List (List ℕ)) → 0 < length word → filter (λ word. nat_lt 0 (length word)) (word ∷ words) ≡ word ∷ filter (λ word. nat_lt 0 (length word)) words
some_kept [] words l = absurd (omega arith)
some_kept (b ∷ word) words l = rw (lt-ltb 0 (length (b ∷ word)) l) refl

-- bytes that don't begin with a blank have their first word before their first blank
pub word_found : (bytes : List ℕ) (i : ℕ) → i < length bytes → is_blank (get_or bytes 0 0) ≡ false → is_blank (get_or bytes i 0) ≡ true → ((k : ℕ) → k < i → is_blank (get_or bytes k 0) ≡ false)
    → words_in bytes ≡ take i bytes ∷ words_in (drop (suc i) bytes)
word_found [] i l f e n = absurd (omega arith)
word_found (b ∷ bytes) zero l f e n = absurd (false≢true (sym f ∙ e))
word_found (b ∷ bytes) (suc i) l f e n =
    ap (λ parts. filter (λ word. nat_lt 0 (length word)) parts) (parts_found (b ∷ bytes) (suc i) l e n)
    ∙ some_kept (take (suc i) (b ∷ bytes)) (divide 32 (map plain_blank (drop (suc (suc i)) (b ∷ bytes)))) (omega arith)

-- bytes that are not empty, and have no blank, are one word
pub word_unfound : (bytes : List ℕ) → 0 < length bytes → ((k : ℕ) → k < length bytes → is_blank (get_or bytes k 0) ≡ false) → words_in bytes ≡ bytes ∷ []
word_unfound bytes l n = ap (λ parts. filter (λ word. nat_lt 0 (length word)) parts) (parts_unfound bytes n) ∙ some_kept bytes [] l
