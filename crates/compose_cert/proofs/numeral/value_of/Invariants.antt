use Rattle.std.proofs.Common.{◌≡◌, ◌≤◌, drop}
use Rattle.std.specs.List.{list_all}
use Rattle.std.specs.Str.Parse.{digits_value, digits_value_after}
use Rattle.compose_cert.specs.Numerals.{radix, is_digit}
use Rattle.compose_cert.proofs.numeral.value_of.Given as goal

-- all bytes are digits exactly if the remaining ones are, and these continue the value so far
abbrev pub invariant-loop-byte : goal.invariant-loop-byte
invariant-loop-byte l =
    (l.value ≤ l.most) × (list_all (is_digit l.notation) (drop l.byte-index l.word) ≡ list_all (is_digit l.notation) l.word)
    × (digits_value_after (radix l.notation) l.value (drop l.byte-index l.word) ≡ digits_value (radix l.notation) l.word)
