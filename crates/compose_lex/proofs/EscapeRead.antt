-- What follows a backslash: a code, a letter, or no escape.
use Rattle.std.proofs.Common.{◌≡◌, ℕ, suc, zero, ◌+◌, ◌<◌, ◌≤◌, List, [], ◌∷◌, length, take, drop, Bool, true, false, cond, not, ◌&&◌, ◌||◌, nat_lt, refl, sym, ◌∙◌, ap, arith, lt-ltb, length-take}
use Rattle.std.specs.Prelude.{◌==◌, nat_le, Option, None, Result, Ok, Err}
use Rattle.std.specs.List.{list_all}
use Rattle.std.specs.Str.Parse.{digits_value}
use Rattle.std.proofs.Math.Numerals.{one-add}
use Rattle.std.proofs.lemmas.Bool.{and_from, or_right, le-leb}
use Rattle.std.proofs.lemmas.Bool.Decides.{nat_tests}
use Rattle.compose_text.specs.Bytes.{leading, begins}
use Rattle.compose_lex.specs.Steps.{escape_byte, IsByte}
use Rattle.compose_lex.specs.declared.LexFault.{LexFault}
use Rattle.compose_lex.specs.declared.LexFault.TheVariants.{BadCode}
use Rattle.compose_text.specs.Numbers.{is_hexadecimal_digit}
use Rattle.compose_lex.specs.Escape.{is_octal, is_run, byte_of, escape, escape_len, escape_fault}
use Rattle.compose_lex.proofs.Runs.{prefix_passes}

-- as many bytes as possible are read
eqb-suc : (a b : ℕ) → (suc a == suc b) ≡ (a == b)
eqb-suc a b = grind (arith, nat_tests)

run_ends : (p : ℕ → Bool) (most : ℕ) (rest : List ℕ) → (length (leading p (take most rest)) == most || not (begins p (drop (length (leading p (take most rest))) rest))) ≡ true
run_ends p zero rest = refl
run_ends p (suc m) [] = or_right (0 == suc m) true refl
run_ends p (suc m) (r ∷ rest) = go (p r) refl (run_ends p m rest)
  where
    go : (b : Bool) → p r ≡ b → (length (leading p (take m rest)) == m || not (begins p (drop (length (leading p (take m rest))) rest))) ≡ true
        → (length (cond b (r ∷ leading p (take m rest)) []) == suc m || not (begins p (drop (length (cond b (r ∷ leading p (take m rest)) [])) (r ∷ rest)))) ≡ true
    go true e h = rw eqb-suc h
    go false e h = or_right (0 == suc m) (not (p r)) (ap not e)

prefix_short : (p : ℕ → Bool) (xs : List ℕ) → length (leading p xs) ≤ length xs
prefix_short p [] = omega arith
prefix_short p (x ∷ xs) = go (p x) (prefix_short p xs)
  where
    go : (b : Bool) → length (leading p xs) ≤ length xs → length (cond b (x ∷ leading p xs) []) ≤ length (x ∷ xs)
    go true h = omega arith
    go false h = omega arith

run_most : (p : ℕ → Bool) (most : ℕ) (rest : List ℕ) → length (leading p (take most rest)) ≤ most
run_most p most rest = let a = prefix_short p (take most rest) in let b = simp length-take at a in omega (arith, b)

-- the bytes that are read are a run if there are any
run_is_some : (p : ℕ → Bool) (most : ℕ) (rest : List ℕ) → 0 < length (leading p (take most rest)) → is_run p most (leading p (take most rest)) (drop (length (leading p (take most rest))) rest) ≡ true
run_is_some p most rest h =
    let ds = leading p (take most rest) in
    let some : nat_lt 0 (length ds) ≡ true = lt-ltb 0 (length ds) h in
    let few : nat_le (length ds) most ≡ true = le-leb (length ds) most (run_most p most rest) in
    and_from (nat_lt 0 (length ds) && nat_le (length ds) most && list_all p ds) (length ds == most || not (begins p (drop (length ds) rest)))
    (and_from (nat_lt 0 (length ds) && nat_le (length ds) most) (list_all p ds) (and_from (nat_lt 0 (length ds)) (nat_le (length ds) most) some few) (prefix_passes p (take most rest)))
    (run_ends p most rest)

-- so the code of a run is that of the digits that are read; no digits are the number 0, which does
-- not stand for a byte
run_code : (p : ℕ → Bool) (most radix : ℕ) (rest : List ℕ)
    → let ds = leading p (take most rest) in let after = drop (length ds) rest in cond (is_run p most ds after) (byte_of (digits_value radix ds)) None ≡ byte_of (digits_value radix ds)
run_code p most radix rest = go (leading p (take most rest)) (drop (length (leading p (take most rest))) rest) (run_is_some p most rest)
  where
    go : (ds after : List ℕ) → (0 < length ds → is_run p most ds after ≡ true) → cond (is_run p most ds after) (byte_of (digits_value radix ds)) None ≡ byte_of (digits_value radix ds)
    go [] after h = refl
    go (d ∷ ds) after h = let is = h (omega arith) in rw is refl

-- the bytes that are read are the leading ones
prefix_taken : (p : ℕ → Bool) (most : ℕ) (rest : List ℕ) → take (length (leading p (take most rest))) rest ≡ leading p (take most rest)
prefix_taken p zero rest = refl
prefix_taken p (suc m) [] = refl
prefix_taken p (suc m) (r ∷ rest) = go (p r) (prefix_taken p m rest)
  where
    go : (b : Bool) → take (length (leading p (take m rest))) rest ≡ leading p (take m rest)
        → take (length (cond b (r ∷ leading p (take m rest)) [])) (r ∷ rest) ≡ cond b (r ∷ leading p (take m rest)) []
    go true h = ap (λ t. r ∷ t) h
    go false h = refl

-- ---- codes

-- the byte that an escape stands for, after its backslash, the number of bytes that it takes, and
-- its fault if it stands for none
pub record EscapeIs (at : ℕ) (rest : List ℕ) (byte : Option ℕ) (len : ℕ) (fault : LexFault) : Type 0 where
  pub stands : escape_byte rest ≡ byte
  pub takes : escape_len rest ≡ len
  pub fails : escape_fault at rest ≡ fault

-- after `x` or `X` the hexadecimal digits among the next two bytes are the code
pub hexadecimal_is : (at e : ℕ) (rest : List ℕ) → (e == 120 || e == 88) ≡ true
    → let ds = leading is_hexadecimal_digit (take 2 rest) in EscapeIs at (e ∷ rest) (byte_of (digits_value 16 ds)) (1 + length ds) (BadCode at)
hexadecimal_is at e rest h =
    let ds = leading is_hexadecimal_digit (take 2 rest) in
    let n = length ds in
    let takes : escape_len (e ∷ rest) ≡ 1 + n = rw h refl in
    let one : escape_len (e ∷ rest) ≡ suc n = takes ∙ one-add n in
    record {
      stands =
          ap (λ l. escape (take l (e ∷ rest)) (drop l (e ∷ rest))) one ∙ ap (λ x. escape (e ∷ x) (drop n rest)) (prefix_taken is_hexadecimal_digit 2 rest)
          ∙ rw h (run_code is_hexadecimal_digit 2 16 rest);
      takes = takes;
      fails = rw h refl;
    }

octal_read : (e : ℕ) (digits after : List ℕ) → (e == 120 || e == 88) ≡ false → is_octal e ≡ true
    → escape (e ∷ digits) after ≡ cond (is_run is_octal 3 (e ∷ digits) after) (byte_of (digits_value 8 (e ∷ digits))) None
octal_read e digits after h o = rw (h, o) refl

-- if there is no `x`, the octal digits among the next three bytes are the code, if there is one
pub octal_is : (at e : ℕ) (rest : List ℕ) → (e == 120 || e == 88) ≡ false → 0 < length (leading is_octal (take 3 (e ∷ rest)))
    → let ds = leading is_octal (take 3 (e ∷ rest)) in EscapeIs at (e ∷ rest) (byte_of (digits_value 8 ds)) (length ds) (BadCode at)
octal_is at e rest h some = go (is_octal e) refl some
  where
    go : (b : Bool) → is_octal e ≡ b → 0 < length (cond b (e ∷ leading is_octal (take 2 rest)) [])
        → let ds = leading is_octal (take 3 (e ∷ rest)) in EscapeIs at (e ∷ rest) (byte_of (digits_value 8 ds)) (length ds) (BadCode at)
    go false o some = absurd (omega arith)
    go true o some =
        let ds = leading is_octal (take 3 (e ∷ rest)) in
        let after = drop (length ds) (e ∷ rest) in
        let is : ds ≡ e ∷ leading is_octal (take 2 rest) = rw o refl in
        let takes : escape_len (e ∷ rest) ≡ length ds = rw (h, o) refl in
        record {
          stands =
              ap (λ l. escape (take l (e ∷ rest)) (drop l (e ∷ rest))) takes ∙ ap (λ x. escape x after) (prefix_taken is_octal 3 (e ∷ rest) ∙ is)
              ∙ octal_read e (leading is_octal (take 2 rest)) after h o
              ∙ ap (λ x. cond (is_run is_octal 3 x after) (byte_of (digits_value 8 x)) None) (sym is) ∙ run_code is_octal 3 8 (e ∷ rest);
          takes = takes;
          fails = rw (h, o) refl;
        }

-- a byte that is found in this way is the byte of the escape
pub escape_found : (at : ℕ) (rest : List ℕ) (byte : Option ℕ) (len : ℕ) (fault : LexFault) (r : Result (ℕ × ℕ) LexFault) → EscapeIs at rest byte len fault → IsByte byte len fault r
    → IsByte (escape_byte rest) (escape_len rest) (escape_fault at rest) r
escape_found at rest byte len fault (Ok x) is h = (is.stands ∙ h.0, h.1 ∙ sym is.takes)
escape_found at rest byte len fault (Err e) is h = (is.stands ∙ h.0, h.1 ∙ sym is.fails)

-- an escape has no more bytes than there are
pub escape_fits : (rest : List ℕ) → escape_len rest ≤ length rest
escape_fits [] = omega arith
escape_fits (e ∷ rest) = go (e == 120 || e == 88) (is_octal e)
  where
    run_fits : (p : ℕ → Bool) (most : ℕ) (xs : List ℕ) → length (leading p (take most xs)) ≤ length xs
    run_fits p most xs = let a = prefix_short p (take most xs) in let b = simp length-take at a in omega (arith, b)

    go : (x y : Bool) → cond x (1 + length (leading is_hexadecimal_digit (take 2 rest))) (cond y (length (leading is_octal (take 3 (e ∷ rest)))) 1) ≤ length (e ∷ rest)
    go true y = let a = run_fits is_hexadecimal_digit 2 rest in omega arith
    go false true = run_fits is_octal 3 (e ∷ rest)
    go false false = omega arith
