-- Numbers in a range, and numbers in hexadecimal digits.
use Rattle.std.specs.Prelude.{ℕ, Bool, ◌&&◌, nat_le, nat_lt, List, length}
use Rattle.std.specs.Char.{digit_value}
use Rattle.std.specs.List.{list_all}
use Rattle.std.specs.Str.Parse.{digits_value}

abbrev pub is_between : ℕ → ℕ → ℕ → Bool
is_between low high k = nat_le low k && nat_le k high

-- the number that these digits write; a digit may be of either case
abbrev pub hexadecimal : List ℕ → ℕ
hexadecimal ds = digits_value 16 ds

abbrev pub is_hexadecimal_digit : ℕ → Bool
is_hexadecimal_digit d = nat_lt (digit_value d) 16

-- between `low` and `high` hexadecimal digits, and nothing else
abbrev pub is_hexadecimal : ℕ → ℕ → List ℕ → Bool
is_hexadecimal low high ds = is_between low high (length ds) && list_all is_hexadecimal_digit ds
