-- The text of a string, piece by piece: the bytes so far come before those of the rest.
use Rattle.std.proofs.Common.{◌≡◌, ℕ, zero, suc, ◌+◌, ◌-◌, ◌≤◌, Bool, true, false, List, [], ◌∷◌, ◌++◌, length, take, drop, cond, not, nat_le, ◌&&◌, le-leb, refl, sym, ◌∙◌, ap, subst, arith}
use Rattle.std.specs.Prelude.{◌==◌, ◌||◌, Option, Some, None, option_to_list}
use Rattle.std.proofs.Math.Numerals.{one-add}
use Rattle.std.proofs.lemmas.List.{append_assoc, append-nil, drop-drop, length-drop, length-take}
use Rattle.std.specs.List.{list_any}
use Rattle.std.specs.Str.{IsUtf8, is_utf8}
use Rattle.std.proofs.lemmas.Bool.{and_parts, and_from}
use Rattle.std.proofs.lemmas.Str.{IsUtf8-from_is_utf8, is_utf8-from_IsUtf8}
use Rattle.compose_text.specs.Bytes.{leading}
use Rattle.compose_text.specs.Numbers.{is_hexadecimal_digit}
use Rattle.compose_lex.specs.Escape.{is_octal}
use Rattle.compose_xkbcommon.specs.Text.{escape_bytes, escape_len, is_typed, typed, typed_from}

-- ---- an escape has no more bytes than there are

fewer : (p : ℕ → Bool) (xs : List ℕ) → length (leading p xs) ≤ length xs
fewer p [] = omega arith
fewer p (x ∷ xs) = go (p x) (fewer p xs)
  where
    go : (b : Bool) → length (leading p xs) ≤ length xs → length (cond b (x ∷ leading p xs) []) ≤ length (x ∷ xs)
    go true h = omega arith
    go false h = omega arith

run_fits : (p : ℕ → Bool) (most : ℕ) (xs : List ℕ) → length (leading p (take most xs)) ≤ length xs
run_fits p most xs = let a = fewer p (take most xs) in let b = simp length-take at a in omega (arith, b)

escape_fits : (rest : List ℕ) → escape_len rest ≤ length rest
escape_fits [] = omega arith
escape_fits (e ∷ rest) = go (e == 92 || e == 34) (e == 120 || e == 88)
  where
    go : (x y : Bool) → cond x 1 (cond y (1 + length (leading is_hexadecimal_digit (take 2 rest))) (length (leading is_octal (take 3 (e ∷ rest))))) ≤ length (e ∷ rest)
    go true y = omega arith
    go false true = let a = run_fits is_hexadecimal_digit 2 rest in omega arith
    go false false = run_fits is_octal 3 (e ∷ rest)

abbrev pub piece_bytes : ℕ → List ℕ → List ℕ
piece_bytes b behind = cond (b == 92) (escape_bytes behind) (option_to_list (Some b))

abbrev pub piece_len : ℕ → List ℕ → ℕ
piece_len b behind = cond (b == 92) (escape_len behind) 0

piece_fits : (b : ℕ) (behind : List ℕ) → piece_len b behind ≤ length behind
piece_fits b behind = go (b == 92)
  where
    go : (x : Bool) → cond x (escape_len behind) 0 ≤ length behind
    go true = escape_fits behind
    go false = omega arith

-- ---- one piece more

-- bytes that still belong to the escape before are skipped
skipped : (left : ℕ) (raw : List ℕ) → typed_from left raw ≡ typed_from 0 (drop left raw)
skipped zero raw = refl
skipped (suc left) [] = refl
skipped (suc left) (b ∷ raw) = skipped left raw

read_one : (b : ℕ) (behind : List ℕ) → typed (b ∷ behind) ≡ piece_bytes b behind ++ typed (drop (piece_len b behind) behind)
read_one b behind = go (b == 92)
  where
    go : (x : Bool) → cond x (escape_bytes behind ++ typed_from (escape_len behind) behind) (b ∷ typed_from 0 behind)
        ≡ cond x (escape_bytes behind) (option_to_list (Some b)) ++ typed (drop (cond x (escape_len behind) 0) behind)
    go true = ap (λ bs. escape_bytes behind ++ bs) (skipped (escape_len behind) behind)
    go false = refl

pub record Types (raw : List ℕ) (at : ℕ) (bytes : List ℕ) : Type 0 where
  pub within : at ≤ length raw
  pub read : bytes ++ typed (drop at raw) ≡ typed raw

pub types_none : (raw : List ℕ) → Types raw 0 []
types_none raw = record { within = omega arith; read = refl }

pub types_within : (raw : List ℕ) (at b taken : ℕ) (behind : List ℕ) → at ≤ length raw → drop at raw ≡ b ∷ behind → taken ≡ piece_len b behind → at + (1 + taken) ≤ length raw
types_within raw at b taken behind within here takes =
    let fits : taken ≤ length behind = let f = piece_fits b behind in omega (arith, f, takes) in
    let left : length raw - at ≡ suc (length behind) = sym (length-drop at raw) ∙ ap length here in omega (arith, fits, left, within)

pub types_more : (raw : List ℕ) (at b taken : ℕ) (behind bytes more : List ℕ) → drop at raw ≡ b ∷ behind → taken ≡ piece_len b behind → more ≡ bytes ++ piece_bytes b behind
    → Types raw at bytes → Types raw (at + (1 + taken)) more
types_more raw at b taken behind bytes more here takes is s =
    let after_here : drop (piece_len b behind) behind ≡ drop (at + (1 + taken)) raw =
    sym (sym (drop-drop (1 + taken) at raw) ∙ ap (drop (1 + taken)) here ∙ ap (λ n. drop n (b ∷ behind)) (one-add taken) ∙ ap (λ n. drop n behind) takes) in
    record {
      within = types_within raw at b taken behind s.within here takes;
      read = ap (λ bs. bs ++ typed (drop (at + (1 + taken)) raw)) is ∙ append_assoc bytes (piece_bytes b behind) (typed (drop (at + (1 + taken)) raw))
          ∙ ap (λ r. bytes ++ (piece_bytes b behind ++ typed r)) (sym after_here) ∙ ap (λ r. bytes ++ r) (sym (read_one b behind)) ∙ ap (λ r. bytes ++ typed r) (sym here) ∙ s.read;
    }

pub types_all : (raw : List ℕ) (at : ℕ) (bytes : List ℕ) → drop at raw ≡ [] → Types raw at bytes → bytes ≡ typed raw
types_all raw at bytes none s = sym (append-nil bytes) ∙ ap (λ r. bytes ++ typed r) (sym none) ∙ s.read

-- ---- a text

pub text_given : (text bytes given : List ℕ) → text ≡ bytes → bytes ≡ given → length bytes ≤ 255 → IsUtf8 text → list_any (λ b. b == 0) bytes ≡ false
    → Some text ≡ (let o : Option (List ℕ) = cond (is_typed given) (Some given) None in o)
text_given text bytes given same is few u none =
    let utf8 : is_utf8 bytes ≡ true = is_utf8-from_IsUtf8 bytes (subst IsUtf8 same u) in
    let short : nat_le (length bytes) 255 ≡ true = le-leb (length bytes) 255 few in
    let good : is_typed bytes ≡ true = and_from _ _ (and_from _ _ short utf8) (ap not none) in
    ap Some (same ∙ is) ∙ sym (ap (λ b. let o : Option (List ℕ) = cond b (Some given) None in o) (ap is_typed (sym is) ∙ good))

pub text_none : (bytes given : List ℕ) → bytes ≡ given → (IsUtf8 bytes → ⊥) → None ≡ (let o : Option (List ℕ) = cond (is_typed given) (Some given) None in o)
text_none bytes given is bad = go (is_typed given) refl
  where
    go : (b : Bool) → is_typed given ≡ b → None ≡ (let o : Option (List ℕ) = cond b (Some given) None in o)
    go true e =
        let parts = and_parts (nat_le (length given) 255 && is_utf8 given) (not (list_any (λ b. b == 0) given)) e in
        let utf8 = and_parts (nat_le (length given) 255) (is_utf8 given) parts.0 in
        absurd (bad (subst IsUtf8 (sym is) (IsUtf8-from_is_utf8 given utf8.1)))
    go false e = refl
