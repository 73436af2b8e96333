-- Numbers as a certificate writes them. Definitions for the contracts of private functions.
use Rattle.std.specs.Prelude.{◌≡◌, ℕ, Bool, true, false, ◌||◌, ◌≤◌, ◌-◌, ◌++◌, length, replicate, List, Option, Some, None}
use Rattle.std.specs.Fmt.{digits}
use Rattle.compose_text.specs.Numbers.{is_between, is_hexadecimal_digit}
use Rattle.compose_cert.specs.declared.numeral.Notation.{Notation}
use Rattle.compose_cert.specs.declared.numeral.Notation.TheVariants.{Decimal, LowerHexadecimal, UpperHexadecimal, EitherHexadecimal}

abbrev pub radix : Notation → ℕ
radix Decimal = 10
radix LowerHexadecimal = 16
radix UpperHexadecimal = 16
radix EitherHexadecimal = 16

-- letters have one case
abbrev pub is_one_case : Notation → Bool
is_one_case EitherHexadecimal = false
is_one_case _ = true

-- the digits of a number, without leading zeros
abbrev pub numeral : Notation → ℕ → List ℕ
numeral Decimal n = digits 10 false n
numeral LowerHexadecimal n = digits 16 false n
numeral UpperHexadecimal n = digits 16 true n
numeral EitherHexadecimal n = digits 16 false n

-- the digits of a character's number, padded with zeros to four digits
abbrev pub padded : ℕ → List ℕ
padded c = replicate (4 - length (digits 16 true c)) 48 ++ digits 16 true c

-- `0` to `9` (codes 48 to 57), and `a` to `f` or `A` to `F` (codes from 97 and from 65)
abbrev pub is_digit : Notation → ℕ → Bool
is_digit Decimal c = is_between 48 57 c
is_digit LowerHexadecimal c = is_between 48 57 c || is_between 97 102 c
is_digit UpperHexadecimal c = is_between 48 57 c || is_between 65 70 c
is_digit EitherHexadecimal c = is_hexadecimal_digit c

-- the number up to `most` that the word spells, or none if it spells none of these
abbrev pub IsSpelled : (ℕ → List ℕ) → ℕ → List ℕ → Option ℕ → Type 0
IsSpelled text most word None = (n : ℕ) → n ≤ most → word ≡ text n → ⊥
IsSpelled text most word (Some n) = (n ≤ most) × (word ≡ text n)
