-- Runs of bytes.
use Rattle.std.proofs.Common.{◌≡◌, ◌<◌, ◌+◌, ℕ, Bool, true, false, cond, not, nat_lt, List, [], ◌∷◌, length, take, position, Some, None, refl, sym, subst, arith, one-add}
use Rattle.std.proofs.lemmas.Bool.{ltb-false}
use Rattle.std.proofs.lemmas.Bool.Decides.{nat_tests}
use Rattle.std.proofs.lemmas.List.Sums.{prefix_len-le-length}
use Rattle.std.proofs.lemmas.Str.Ascii.{IsAscii-nil, IsAscii-cons}
use Rattle.std.specs.List.{position_or_len, prefix_len}
use Rattle.std.specs.Option.{unwrap_or}
use Rattle.std.specs.Str.{IsAscii}
use Rattle.compose_text.specs.Bytes.{is_name_byte}
use Rattle.keysym_core.specs.Header.{run}

-- the first index that passes the test, or else the length
pub position-or_length : (p : ℕ → Bool) (xs : List ℕ) → unwrap_or (position p xs) (length xs) ≡ position_or_len p xs
position-or_length p xs = by (nat_lt (position_or_len p xs) (length xs)) refl
  where
    by : (b : Bool) → nat_lt (position_or_len p xs) (length xs) ≡ b → unwrap_or (cond b (Some (position_or_len p xs)) None) (length xs) ≡ position_or_len p xs
    by true e = refl
    by false e =
        let past = ltb-false (position_or_len p xs) (length xs) e in
        let within = prefix_len-le-length (λ x. not (p x)) xs in
        omega (arith, past, within)

-- a name's bytes are ASCII
name_byte-ascii : (b : ℕ) → not (not (is_name_byte b)) ≡ true → b < 128
name_byte-ascii b h = grind (arith, nat_tests)

-- the bytes of a name are ASCII
pub name-ascii : (bytes : List ℕ) → IsAscii (run is_name_byte bytes)
name-ascii [] = IsAscii-nil
name-ascii (b ∷ bytes) = by (not (not (is_name_byte b))) refl (name-ascii bytes)
  where
    by : (t : Bool) → not (not (is_name_byte b)) ≡ t → IsAscii (run is_name_byte bytes) → IsAscii (take (cond t (1 + prefix_len (λ x. not (not (is_name_byte x))) bytes) 0) (b ∷ bytes))
    by false e rest = IsAscii-nil
    by true e rest = subst (λ n. IsAscii (take n (b ∷ bytes))) (sym (one-add (prefix_len (λ x. not (not (is_name_byte x))) bytes))) (IsAscii-cons b (run is_name_byte bytes) (name_byte-ascii b e) rest)
