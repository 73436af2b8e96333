-- Blanks next to key names, searched byte by byte; and a line without a carriage return.
use Rattle.std.proofs.Common.{◌≡◌, ◌∙◌, ℕ, zero, suc, ◌+◌, ◌≤◌, List, [], ◌∷◌, Bool, true, false, cond, not, ◌&&◌, ◌||◌, length, take, drop, refl, sym, ap, ap₂, arith}
use Rattle.std.specs.Prelude.{Option, Some, None, nat_lt, ◌==◌, is_some, take_while, unwrap_or}
use Rattle.std.specs.List.{list_any, zip, prefix_len}
use Rattle.std.specs.Option.{option_map_or}
use Rattle.std.proofs.lemmas.Bool.{ltb-false, true≢false}
use Rattle.compose_read.specs.Visits.{raw_include}
use Rattle.memchr.specs.Find.{Nowhere, Passes, is_byte}
use Rattle.compose_lint.specs.Productions.{Written}
use Rattle.compose_lint.specs.FileLines.{begins_string_or_comment, head_len, is_spaced, has_spaced_name, has_spaced_name_after, has_return, has_return_in_include, tail}

-- ---- the bytes before the string or the comment

abbrev is_head : ℕ → Bool
is_head b = not (begins_string_or_comment b)

past : (x : ℕ) (xs : List ℕ) → is_head x ≡ true → prefix_len is_head (x ∷ xs) ≡ suc (prefix_len is_head xs)
past x xs e = let h : prefix_len is_head (x ∷ xs) ≡ 1 + prefix_len is_head xs = rw e refl in omega (arith, h)

here : (x : ℕ) (xs : List ℕ) → is_head x ≡ false → prefix_len is_head (x ∷ xs) ≡ 0
here x xs e = rw e refl

prefix_le : (xs : List ℕ) → prefix_len is_head xs ≤ length xs
prefix_le [] = omega arith
prefix_le (x ∷ xs) = by (is_head x) refl (prefix_le xs)
  where
    by : (t : Bool) → is_head x ≡ t → prefix_len is_head xs ≤ length xs → prefix_len is_head (x ∷ xs) ≤ length (x ∷ xs)
    by true e less = let h = past x xs e in omega (arith, h, less)
    by false e less = let h = here x xs e in omega (arith, h)

head_is : (line : List ℕ) → head_len line ≡ prefix_len is_head line
head_is line = by (nat_lt (prefix_len is_head line) (length line)) refl
  where
    by : (t : Bool) → nat_lt (prefix_len is_head line) (length line) ≡ t → unwrap_or (cond t (Some (prefix_len is_head line)) None) (length line) ≡ prefix_len is_head line
    by true e = refl
    by false e = let more = ltb-false (prefix_len is_head line) (length line) e in let less = prefix_le line in omega (arith, more, less)

head_past : (b : ℕ) (line : List ℕ) → begins_string_or_comment b ≡ false → head_len (b ∷ line) ≡ suc (head_len line)
head_past b line e = head_is (b ∷ line) ∙ past b line (ap not e) ∙ ap suc (sym (head_is line))

head_here : (b : ℕ) (line : List ℕ) → begins_string_or_comment b ≡ true → head_len (b ∷ line) ≡ 0
head_here b line e = head_is (b ∷ line) ∙ here b line (ap not e)

-- ---- blanks next to names

abbrev pairs : ℕ → List ℕ → Bool
pairs before head = list_any is_spaced (zip (before ∷ head) head)

after_is : (before : ℕ) (line : List ℕ) → has_spaced_name_after before line ≡ pairs before (take (head_len line) line)
after_is before [] = refl
after_is before (b ∷ line) = by (begins_string_or_comment b) refl (after_is b line)
  where
    by : (t : Bool) → begins_string_or_comment b ≡ t → has_spaced_name_after b line ≡ pairs b (take (head_len line) line)
        → (not t && (is_spaced (before, b) || has_spaced_name_after b line)) ≡ pairs before (take (head_len (b ∷ line)) (b ∷ line))
    by true e rest = sym (ap (λ n. pairs before (take n (b ∷ line))) (head_here b line e))
    by false e rest = ap (λ t. is_spaced (before, b) || t) rest ∙ sym (ap (λ n. pairs before (take n (b ∷ line))) (head_past b line e))

-- a colon (code 58) is neither `<` nor a blank
pub after_colon : (line : List ℕ) → has_spaced_name_after 58 line ≡ has_spaced_name line
after_colon line = after_is 58 line ∙ by (take (head_len line) line)
  where
    by : (head : List ℕ) → pairs 58 head ≡ list_any is_spaced (zip head (drop 1 head))
    by [] = refl
    by (b ∷ head) = refl

-- ---- carriage returns

abbrev pub is_return : ℕ → Bool
is_return b = b == 13

any_first : (n : ℕ) (xs : List ℕ) → list_any is_return xs ≡ false → list_any is_return (take n xs) ≡ false
any_first zero xs e = refl
any_first (suc n) [] e = refl
any_first (suc n) (x ∷ xs) e = by (is_return x) (any_first n xs) e
  where
    by : (t : Bool) → (list_any is_return xs ≡ false → list_any is_return (take n xs) ≡ false) → (t || list_any is_return xs) ≡ false → (t || list_any is_return (take n xs)) ≡ false
    by true rest f = f
    by false rest f = rest f

any_dropped : (n : ℕ) (xs : List ℕ) → list_any is_return xs ≡ false → list_any is_return (drop n xs) ≡ false
any_dropped zero xs e = e
any_dropped (suc n) [] e = refl
any_dropped (suc n) (x ∷ xs) e = by (is_return x) (any_dropped n xs) e
  where
    by : (t : Bool) → (list_any is_return xs ≡ false → list_any is_return (drop n xs) ≡ false) → (t || list_any is_return xs) ≡ false → list_any is_return (drop n xs) ≡ false
    by true rest f = absurd (true≢false f)
    by false rest f = rest f

any_while : (p : ℕ → Bool) (xs : List ℕ) → list_any is_return xs ≡ false → list_any is_return (take_while p xs) ≡ false
any_while p xs e = any_first (prefix_len p xs) xs e

none_there : (line : List ℕ) → Nowhere (Passes (is_byte 13) line) 0 (length line) → list_any is_return line ≡ false
none_there [] h = refl
none_there (x ∷ line) h = by (is_return x) refl (none_there line (λ k low high p. h (suc k) (omega arith) (omega (arith, high)) p))
  where
    by : (t : Bool) → is_return x ≡ t → list_any is_return line ≡ false → (t || list_any is_return line) ≡ false
    by true e rest = absurd (h 0 (omega arith) (omega arith) e)
    by false e rest = rest

none_later : (line : List ℕ) (raw : Option (List ℕ)) → list_any is_return line ≡ false → option_map_or (λ raw. list_any is_return (tail line raw)) raw false ≡ false
none_later line None none = refl
none_later line (Some raw) none =
    any_while (λ b. not (b == 35)) (drop (length raw) (drop 2 (drop (head_len line) line)))
    (any_dropped (length raw) (drop 2 (drop (head_len line) line)) (any_dropped 2 (drop (head_len line) line) (any_dropped (head_len line) line none)))

-- a line without one has none outside of its string and its comment
pub returnless : (line : List ℕ) (p : Written) → list_any is_return line ≡ false → has_return line p ≡ false
returnless line p none = ap₂ (λ s t. s || t) (any_first (head_len line) line none) (none_later line p.raw none)

pub no_return : (line : List ℕ) (p : Written) → Nowhere (Passes (is_byte 13) line) 0 (length line) → has_return line p ≡ false
no_return line p h = returnless line p (none_there line h)

-- and none before the string of an include
pub returnless_include : (line : List ℕ) → list_any is_return line ≡ false → has_return_in_include line ≡ false
returnless_include line none = ap (λ t. is_some (raw_include line) && t) (any_first (head_len line) line none) ∙ by (is_some (raw_include line))
  where
    by : (b : Bool) → (b && false) ≡ false
    by true = refl
    by false = refl

pub no_return_in_include : (line : List ℕ) → Nowhere (Passes (is_byte 13) line) 0 (length line) → has_return_in_include line ≡ false
no_return_in_include line h = returnless_include line (none_there line h)
