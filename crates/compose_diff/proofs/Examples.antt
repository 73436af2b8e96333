-- Keys, counts, strings of JSON and accepted lines, written down by hand.
use Rattle.std.proofs.Common.{◌≡◌, [], ◌∷◌, ◌++◌, refl, true, false}
use Rattle.std.specs.Prelude.{None, Ok, Err, codes}
use Rattle.std.specs.Char.{encode_utf8}
use Rattle.std.specs.Fmt.{digits}
use Rattle.std.specs.Str.{chars}
use Rattle.compose_compare.specs.declared.Change.TheVariants.{Removed, Added}
use Rattle.compose_diff.specs.Line.{keys_part, now_part}
use Rattle.compose_diff.specs.Counts.{counts_line}
use Rattle.compose_diff.specs.Json.{json_string, json_strings}
use Rattle.compose_diff.specs.Accepted.{accepted_of, matches_text}
use Rattle.compose_diff.specs.declared.accepted.AcceptFault.TheVariants.{BadLine}

-- ---- what is printed

two_keys : keys_part (codes "dead_hook" ∷ codes "o" ∷ []) ≡ codes " <dead_hook> <o>"
unfolding chars encode_utf8
two_keys = refl

-- an escape (code 27) can't steer a terminal
shown_key : keys_part ((97 ∷ 27 ∷ []) ∷ []) ≡ codes " <a\\u{1b}>"
unfolding chars encode_utf8 digits
shown_key = refl

all_counts : counts_line (record { kept = 5205; changed = 3; waiting = 0; removed = 298; new_starts = 0; added = 12; accepted = 2; lost_texts = 4 })
    ≡ codes "diff: 5205 kept, 3 changed, 0 waiting, 298 removed, 0 new starts, 12 added, 2 accepted; 4 texts lost\n"
unfolding digits
all_counts = refl

one_start : counts_line (record { kept = 0; changed = 0; waiting = 0; removed = 0; new_starts = 1; added = 0; accepted = 0; lost_texts = 1 })
    ≡ codes "diff: 0 kept, 0 changed, 0 waiting, 0 removed, 1 new start, 0 added, 0 accepted; 1 text lost\n"
unfolding digits
one_start = refl

nothing_now : now_part Removed None ≡ codes " now: none"
nothing_now = refl

not_asked : now_part Added None ≡ []
not_asked = refl

quotes : json_string (codes "a\"\\") ≡ codes "\"a\\\"\\\\\""
unfolding chars encode_utf8
quotes = refl

controls : json_strings ((27 ∷ []) ∷ codes "b" ∷ []) ≡ codes "[\"\\u001b\",\"b\"]"
unfolding chars encode_utf8 digits
controls = refl

-- ---- accepted lines

skipped : accepted_of (codes "# meant" ++ 10 ∷ 10 ∷ codes "removed: <a> \"x\"" ++ 10 ∷ []) ≡ Ok (record { number = 3; text = codes "removed: <a> \"x\"" } ∷ [])
skipped = refl

harmless : accepted_of (codes "removed: <a> \"x\"" ++ 10 ∷ codes "added: <a> \"x\"" ++ 10 ∷ []) ≡ Err (BadLine 2)
harmless = refl

with_a_place : matches_text (codes "removed: <a> \"x\"") (record { number = 1; text = codes "removed: <a> \"x\" OLD:9" }) ≡ true
with_a_place = refl

other_text : matches_text (codes "removed: <a> \"x\"") (record { number = 1; text = codes "removed: <a> \"xy\" OLD:9" }) ≡ false
other_text = refl
