-- A line without a sign is not skipped.
use Rattle.std.proofs.Common.{◌≡◌, ◌∙◌, ℕ, zero, suc, ◌+◌, ◌<◌, ◌≤◌, List, [], ◌∷◌, ◌++◌, Bool, true, false, cond, not, ◌&&◌, ◌||◌, length, take, drop, refl, sym, ap, inl, inr, append_assoc, length-append, eqb-true, arith}
use Rattle.std.specs.Prelude.{◌==◌, nat_eq, nat_le, nat_lt, flat_map, Option, Some, None, Result, Ok, Err, bytes_eq, codes, unwrap_or}
use Rattle.std.specs.Char.{is_ascii_digit}
use Rattle.std.specs.List.{list_all, list_any}
use Rattle.std.specs.Option.{option_map_or}
use Rattle.std.specs.Result.{result_ok}
use Rattle.std.specs.Str.{is_utf8}
use Rattle.std.proofs.lemmas.Bool.{and_parts, and_left, and_right, or_parts, or_from, or_cases, true≢false, leb-false, leb-true}
use Rattle.compose_text.specs.Bytes.{is_blank, begins}
use Rattle.compose_lex.specs.Escape.{piece, first_len, escape_fault, with_byte, bytes_from, text_or, text_of}
use Rattle.compose_lex.specs.Line.{Reading, blank, include, production, quoted, event_tokens, result_tokens, AreTokens, IsLine}
use Rattle.compose_lex.specs.Fault.{reading_of}
use Rattle.compose_lex.specs.declared.LexFault.{LexFault}
use Rattle.compose_lex.specs.declared.LexFault.TheVariants.{EmptyText, TextTooLong, TextNotUtf8}
use Rattle.compose_lex.proofs.LineSound.{reading_sound}
use Rattle.compose_lint.specs.FileLines.{is_spaced, has_spaced_name, has_spaced_name_after, has_return, has_return_in_include, begins_string_or_comment}
use Rattle.compose_lint.specs.Productions.{Written, Production, parts_of, production_of}
use Rattle.compose_lint.specs.Readers.{has_digit_name}
use Rattle.compose_lint.specs.Lost.{is_zero, is_no_symbol, has_longest_string, is_skipped_production, is_skipped, is_sign, has_sign_after, openings, may_be_skipped}
use Rattle.compose_lint.proofs.Spaced.{is_return, after_colon, returnless, returnless_include}

-- ---- the parts of a line

-- there is no sign after the first bytes either
from_byte : (first : ℕ) (xs : List ℕ) (c : ℕ) (ys : List ℕ) → has_sign_after first (xs ++ c ∷ ys) ≡ false → has_sign_after c ys ≡ false
from_byte first [] c ys e = (or_parts (is_sign first c) (has_sign_after c ys) e).1
from_byte first (x ∷ xs) c ys e = from_byte x xs c ys (or_parts (is_sign first x) (has_sign_after x (xs ++ c ∷ ys)) e).1

past : (first : ℕ) (xs ys : List ℕ) → has_sign_after first (xs ++ ys) ≡ false → (last : ℕ) × (has_sign_after last ys ≡ false)
past first [] ys e = (first, e)
past first (x ∷ xs) ys e = past x xs ys (or_parts (is_sign first x) (has_sign_after x (xs ++ ys)) e).1

more_openings : (xs ys : List ℕ) → openings ys ≤ openings (xs ++ ys)
more_openings [] ys = omega arith
more_openings (x ∷ xs) ys = by (x == 60) (more_openings xs ys)
  where
    by : (t : Bool) → openings ys ≤ openings (xs ++ ys) → openings ys ≤ cond t (1 + openings (xs ++ ys)) (openings (xs ++ ys))
    by true less = omega (arith, less)
    by false less = less

at_openings : (xs ys bytes : List ℕ) → bytes ≡ xs ++ ys → openings ys ≤ openings bytes
at_openings xs ys bytes is = let same = ap openings is in let more = more_openings xs ys in omega (arith, same, more)

at_length : (xs ys bytes : List ℕ) → bytes ≡ xs ++ ys → length ys ≤ length bytes
at_length xs ys bytes is = let same = ap length is in let both = length-append xs ys in omega (arith, same, both)

-- ---- two consecutive bytes

abbrev after_opening : ℕ → ℕ → Bool
after_opening first second = first == 60 && (nat_le second 48 || second == 78)

abbrev before_closing : ℕ → ℕ → Bool
before_closing first second = nat_le first 32 && second == 62

abbrev precedes : ℕ → Bool
precedes first = nat_le first 34 || first == 58

no_sign : (first second : ℕ) → is_sign first second ≡ false
    → ((second == 13) ≡ false) × (after_opening first second ≡ false) × (before_closing first second ≡ false) × ((precedes first && is_ascii_digit second) ≡ false)
no_sign first second e =
    let three = or_parts (second == 13 || after_opening first second || before_closing first second) (precedes first && is_ascii_digit second) e in
    let two = or_parts (second == 13 || after_opening first second) (before_closing first second) three.0 in
    let one = or_parts (second == 13) (after_opening first second) two.0 in
    (one.0, one.1, two.1, three.1)

narrower : (x y z : Bool) → (z ≡ true → y ≡ true) → (x && y) ≡ false → (x && z) ≡ false
narrower true y true also e = sym (also refl) ∙ e
narrower true y false also e = refl
narrower false y z also e = refl

narrower_first : (x y z : Bool) → (z ≡ true → x ≡ true) → (x && y) ≡ false → (z && y) ≡ false
narrower_first x y true also e = sym (ap (λ t. t && y) (also refl)) ∙ e
narrower_first x y false also e = refl

-- a property of the three blanks is a property of each blank
of_blanks : (p : ℕ → Bool) → p 32 ≡ true → p 9 ≡ true → p 13 ≡ true → (b : ℕ) → is_blank b ≡ true → p b ≡ true
of_blanks p space tab return b h = elim (or_cases (b == 32 || b == 9) (b == 13) h) [
  | inl f ↦ elim (or_cases (b == 32) (b == 9) f) [ inl e ↦ ap p (eqb-true b 32 e) ∙ space | inr e ↦ ap p (eqb-true b 9 e) ∙ tab ]
  | inr e ↦ ap p (eqb-true b 13 e) ∙ return
]

abbrev opens_badly : ℕ → Bool
opens_badly b = nat_le b 48 || b == 78

-- without a sign there is no carriage return
no_return_in : (first : ℕ) (line : List ℕ) → has_sign_after first line ≡ false → list_any is_return line ≡ false
no_return_in first [] e = refl
no_return_in first (b ∷ line) e =
    let parts = or_parts (is_sign first b) (has_sign_after b line) e in
    or_from (is_return b) (list_any is_return line) (no_sign first b parts.0).0 (no_return_in b line parts.1)

-- without a sign no blank is next to a name
no_spaced : (first : ℕ) (line : List ℕ) → has_sign_after first line ≡ false → has_spaced_name_after first line ≡ false
no_spaced first [] e = refl
no_spaced first (b ∷ line) e =
    let parts = or_parts (is_sign first b) (has_sign_after b line) e in
    let none = no_sign first b parts.0 in
    and_right (not (begins_string_or_comment b)) (is_spaced (first, b) || has_spaced_name_after b line)
    (or_from (is_spaced (first, b)) (has_spaced_name_after b line)
    (or_from (first == 60 && is_blank b) (is_blank first && b == 62)
    (narrower (first == 60) (opens_badly b) (is_blank b) (of_blanks opens_badly refl refl refl b) none.1)
    (narrower_first (nat_le first 32) (b == 62) (is_blank first) (of_blanks (λ x. nat_le x 32) refl refl refl first) none.2))
    (no_spaced b line parts.1))

-- ---- the keys

no_zero : (n : ℕ) (name : List ℕ) → nat_le n 48 ≡ false → is_zero (n ∷ name) ≡ false
no_zero n name h = by (nat_eq 48 n) refl
  where
    by : (t : Bool) → nat_eq 48 n ≡ t → is_zero (n ∷ name) ≡ false
    by true e = absurd (true≢false (sym (ap (λ y. nat_le y 48) (sym (eqb-true 48 n e))) ∙ h))
    by false e = rw e refl

-- without a sign, the name after a `<` is not a name of the keysym 0
named_otherwise : (blanks name rest : List ℕ) → list_all is_blank blanks ≡ true → has_sign_after 60 (blanks ++ (name ++ rest)) ≡ false → is_no_symbol name ≡ false
named_otherwise [] [] rest all e = refl
named_otherwise [] (n ∷ name) rest all e =
    let none : opens_badly n ≡ false = (no_sign 60 n (or_parts (is_sign 60 n) (has_sign_after n (name ++ rest)) e).0).1 in
    let parts = or_parts (nat_le n 48) (n == 78) none in
    or_from (bytes_eq (n ∷ name) (codes "NoSymbol")) (is_zero (n ∷ name)) (and_left (n == 78) (bytes_eq name (codes "oSymbol")) parts.1) (no_zero n name parts.0)
named_otherwise (b ∷ blanks) name rest all e =
    let none : opens_badly b ≡ false = (no_sign 60 b (or_parts (is_sign 60 b) (has_sign_after b (blanks ++ (name ++ rest))) e).0).1 in
    absurd (true≢false (sym (of_blanks opens_badly refl refl refl b (and_parts (is_blank b) (list_all is_blank blanks) all).0) ∙ none))

-- the rest of bytes without a sign, after these keys
record Passed (events ts : List (List ℕ)) (bytes : List ℕ) : Type 0 where
  rest : List ℕ
  last : ℕ
  unsigned : has_sign_after last rest ≡ false
  are : AreTokens ts rest
  named : list_any is_no_symbol events ≡ false
  counted : length events ≤ openings bytes
  short : length rest ≤ length bytes

keys_passed : (events ts : List (List ℕ)) (first : ℕ) (bytes : List ℕ) → AreTokens (flat_map event_tokens events ++ ts) bytes → has_sign_after first bytes ≡ false → Passed events ts bytes
keys_passed [] ts first bytes are e = record { rest = bytes; last = first; unsigned = e; are = are; named = refl; counted = omega arith; short = omega arith }
keys_passed (name ∷ events) ts first bytes are e =
    let opening : AreTokens ((60 ∷ []) ∷ name ∷ (62 ∷ []) ∷ (flat_map event_tokens events ++ ts)) bytes = are in
    let opened : has_sign_after 60 opening.1 ≡ false = from_byte first opening.0 60 opening.1 (sym (ap (has_sign_after first) opening.3) ∙ e) in
    let naming : AreTokens (name ∷ (62 ∷ []) ∷ (flat_map event_tokens events ++ ts)) opening.1 = opening.4 in
    let inside : has_sign_after 60 (naming.0 ++ (name ++ naming.1)) ≡ false = sym (ap (has_sign_after 60) naming.3) ∙ opened in
    let at_name = past 60 naming.0 (name ++ naming.1) inside in
    let after_name = past at_name.0 name naming.1 at_name.1 in
    let closing : AreTokens ((62 ∷ []) ∷ (flat_map event_tokens events ++ ts)) naming.1 = naming.4 in
    let closed : has_sign_after 62 closing.1 ≡ false = from_byte after_name.0 closing.0 62 closing.1 (sym (ap (has_sign_after after_name.0) closing.3) ∙ after_name.1) in
    let more = keys_passed events ts 62 closing.1 closing.4 closed in
    let one : openings (60 ∷ opening.1) ≤ openings bytes = at_openings opening.0 (60 ∷ opening.1) bytes opening.3 in
    let two : openings (name ++ naming.1) ≤ openings opening.1 = at_openings naming.0 (name ++ naming.1) opening.1 naming.3 in
    let three : openings naming.1 ≤ openings (name ++ naming.1) = more_openings name naming.1 in
    let four : openings closing.1 ≤ openings naming.1 = at_openings closing.0 (62 ∷ closing.1) naming.1 closing.3 in
    let five : length events ≤ openings closing.1 = more.counted in
    let short_one : length (60 ∷ opening.1) ≤ length bytes = at_length opening.0 (60 ∷ opening.1) bytes opening.3 in
    let short_two : length (name ++ naming.1) ≤ length opening.1 = at_length naming.0 (name ++ naming.1) opening.1 naming.3 in
    let short_three : length naming.1 ≤ length (name ++ naming.1) = at_length name naming.1 (name ++ naming.1) refl in
    let short_four : length (62 ∷ closing.1) ≤ length naming.1 = at_length closing.0 (62 ∷ closing.1) naming.1 closing.3 in
    let short_five : length more.rest ≤ length closing.1 = more.short in
    record {
      rest = more.rest;
      last = more.last;
      unsigned = more.unsigned;
      are = more.are;
      named = or_from (is_no_symbol name) (list_any is_no_symbol events) (named_otherwise naming.0 name naming.1 naming.2 inside) more.named;
      counted = omega (arith, one, two, three, four, five);
      short = omega (arith, short_one, short_two, short_three, short_four, short_five);
    }

-- ---- the result

no_digit : (first : ℕ) (blanks name rest : List ℕ) → precedes first ≡ true → list_all is_blank blanks ≡ true → has_sign_after first (blanks ++ (name ++ rest)) ≡ false
    → begins is_ascii_digit name ≡ false
no_digit first [] [] rest may all e = refl
no_digit first [] (d ∷ name) rest may all e =
    sym (ap (λ t. t && is_ascii_digit d) may) ∙ (no_sign first d (or_parts (is_sign first d) (has_sign_after d (name ++ rest)) e).0).3
no_digit first (b ∷ blanks) name rest may all e =
    let parts = and_parts (is_blank b) (list_all is_blank blanks) all in
    no_digit b blanks name rest (of_blanks precedes refl refl refl b parts.0) parts.1 (or_parts (is_sign first b) (has_sign_after b (blanks ++ (name ++ rest))) e).1

-- the name of the result does not begin with a digit
no_digit_name : (raw name : Option (List ℕ)) (first : ℕ) (bytes : List ℕ) → AreTokens ((58 ∷ []) ∷ result_tokens raw name) bytes → has_sign_after first bytes ≡ false
    → option_map_or (begins is_ascii_digit) name false ≡ false
no_digit_name raw None first bytes are e = refl
no_digit_name None (Some name) first bytes are e =
    let after : has_sign_after 58 are.1 ≡ false = from_byte first are.0 58 are.1 (sym (ap (has_sign_after first) are.3) ∙ e) in
    let naming : AreTokens (name ∷ []) are.1 = are.4 in
    no_digit 58 naming.0 name naming.1 refl naming.2 (sym (ap (has_sign_after 58) naming.3) ∙ after)
no_digit_name (Some raw) (Some name) first bytes are e =
    let after : has_sign_after 58 are.1 ≡ false = from_byte first are.0 58 are.1 (sym (ap (has_sign_after first) are.3) ∙ e) in
    let string : AreTokens (quoted raw ∷ name ∷ []) are.1 = are.4 in
    let at = past 58 string.0 (quoted raw ++ string.1) (sym (ap (has_sign_after 58) string.3) ∙ after) in
    let closed : has_sign_after 34 string.1 ≡ false =
    from_byte at.0 (34 ∷ raw) 34 string.1 (sym (ap (λ xs. has_sign_after at.0 (34 ∷ xs)) (append_assoc raw (34 ∷ []) string.1)) ∙ at.1) in
    let naming : AreTokens (name ∷ []) string.1 = string.4 in
    no_digit 34 naming.0 name naming.1 refl naming.2 (sym (ap (has_sign_after 34) naming.3) ∙ closed)

-- ---- the text

abbrev text_len : Result (List ℕ) LexFault → ℕ
text_len r = length (unwrap_or (result_ok r) [])

-- a piece adds at most one byte to the text
one_byte : (o : Option ℕ) (fault : LexFault) (r : Result (List ℕ) LexFault) (n : ℕ) → text_len r ≤ n → text_len (with_byte o fault r) ≤ suc n
one_byte None fault r n less = omega arith
one_byte (Some b) fault (Err f) n less = omega arith
one_byte (Some b) fault (Ok bytes) n less = omega (arith, less)

-- a raw text has at least as many bytes as its text
bytes_fit : (at left : ℕ) (raw : List ℕ) → text_len (bytes_from at left raw) ≤ length raw
bytes_fit at zero [] = omega arith
bytes_fit at (suc left) [] = omega arith
bytes_fit at (suc left) (b ∷ raw) = let less = bytes_fit (1 + at) left raw in omega (arith, less)
bytes_fit at zero (b ∷ raw) =
    let len = first_len (b ∷ raw) in
    one_byte (piece (b ∷ take len raw) (drop len raw)) (escape_fault at raw) (bytes_from (1 + at) len raw) (length raw) (bytes_fit (1 + at) len raw)

or_fits : (r : Result (List ℕ) LexFault) → text_len (text_or r) ≤ text_len r
or_fits (Err f) = omega arith
or_fits (Ok bytes) = by (length bytes == 0) (nat_lt 255 (length bytes)) (is_utf8 bytes)
  where
    by : (a b c : Bool) → text_len (cond a (Err EmptyText) (cond b (Err TextTooLong) (cond c (Ok bytes) (Err TextNotUtf8)))) ≤ length bytes
    by true b c = omega arith
    by false true c = omega arith
    by false false true = omega arith
    by false false false = omega arith

text_fits : (raw : List ℕ) → text_len (text_of raw) ≤ length raw
text_fits raw = let less = or_fits (bytes_from 0 0 raw) in let fit = bytes_fit 0 0 raw in omega (arith, less, fit)

not_longest : (o : Option (List ℕ)) → length (unwrap_or o []) < 255 → option_map_or (λ text. nat_le 255 (length text)) o false ≡ false
not_longest None less = refl
not_longest (Some text) less = by (nat_le 255 (length text)) refl
  where
    by : (t : Bool) → nat_le 255 (length text) ≡ t → nat_le 255 (length text) ≡ false
    by true e = let more = leb-true 255 (length text) e in absurd (omega (arith, more, less))
    by false e = e

-- a raw string is not longer than its line
raw_fits : (raw : List ℕ) (more : List (List ℕ)) (bytes : List ℕ) → AreTokens ((58 ∷ []) ∷ quoted raw ∷ more) bytes → length raw ≤ length bytes
raw_fits raw more bytes are =
    let string : AreTokens (quoted raw ∷ more) are.1 = are.4 in
    let one : length (58 ∷ are.1) ≤ length bytes = at_length are.0 (58 ∷ are.1) bytes are.3 in
    let two : length (quoted raw ++ string.1) ≤ length are.1 = at_length string.0 (quoted raw ++ string.1) are.1 string.3 in
    let three = length-append (raw ++ 34 ∷ []) string.1 in
    let four = length-append raw (34 ∷ []) in
    omega (arith, one, two, three, four)

no_longest_string : (raw name : Option (List ℕ)) (bytes : List ℕ) → AreTokens ((58 ∷ []) ∷ result_tokens raw name) bytes → length bytes < 255
    → has_longest_string (record { raw = raw; name = name }) ≡ false
no_longest_string None name bytes are few = refl
no_longest_string (Some raw) None bytes are few =
    let less = raw_fits raw [] bytes are in let fits = text_fits raw in not_longest (result_ok (text_of raw)) (omega (arith, less, fits, few))
no_longest_string (Some raw) (Some name) bytes are few =
    let less = raw_fits raw (name ∷ []) bytes are in let fits = text_fits raw in not_longest (result_ok (text_of raw)) (omega (arith, less, fits, few))

-- ---- lines

few_keys : (keys found : ℕ) → keys ≤ found → nat_le 10 found ≡ false → nat_le 10 keys ≡ false
few_keys keys found less e = by (nat_le 10 keys) refl
  where
    by : (t : Bool) → nat_le 10 keys ≡ t → nat_le 10 keys ≡ false
    by true h = let more = leb-true 10 keys h in let fewer = leb-false 10 found e in absurd (omega (arith, more, fewer, less))
    by false h = h

production_kept : (line : List ℕ) (events : List (List ℕ)) (raw name : Option (List ℕ)) → length line < 255 → has_sign_after 58 line ≡ false → nat_le 10 (openings line) ≡ false
    → AreTokens (flat_map event_tokens events ++ (58 ∷ []) ∷ result_tokens raw name) line
    → is_skipped_production line (record { events = events; written = record { raw = raw; name = name } }) ≡ false
production_kept line events raw name few unsigned counted are =
    let p : Written = record { raw = raw; name = name } in
    let passed = keys_passed events ((58 ∷ []) ∷ result_tokens raw name) 58 line are unsigned in
    let short : length passed.rest < 255 = (let less = passed.short in omega (arith, less, few)) in
    let spaced : has_spaced_name line ≡ false = sym (after_colon line) ∙ no_spaced 58 line unsigned in
    let digit : has_digit_name p ≡ false = no_digit_name raw name passed.last passed.rest passed.are passed.unsigned in
    let longest : has_longest_string p ≡ false = no_longest_string raw name passed.rest passed.are short in
    or_from (has_return line p || has_spaced_name line || nat_le 10 (length events) || list_any is_no_symbol events || has_digit_name p) (has_longest_string p)
    (or_from (has_return line p || has_spaced_name line || nat_le 10 (length events) || list_any is_no_symbol events) (has_digit_name p)
    (or_from (has_return line p || has_spaced_name line || nat_le 10 (length events)) (list_any is_no_symbol events)
    (or_from (has_return line p || has_spaced_name line) (nat_le 10 (length events))
    (or_from (has_return line p) (has_spaced_name line) (returnless line p (no_return_in 58 line unsigned)) spaced)
    (few_keys (length events) (openings line) passed.counted counted))
    passed.named)
    digit)
    longest

-- if `may_be_skipped` is false, the line is not skipped for its own bytes
pub never_skipped : (line : List ℕ) → may_be_skipped line ≡ false → is_skipped line ≡ false
never_skipped line e =
    let one = or_parts (nat_le 255 (length line)) (has_sign_after 58 line || nat_le 10 (openings line)) e in
    let two = or_parts (has_sign_after 58 line) (nat_le 10 (openings line)) one.1 in
    let few : length line < 255 = leb-false 255 (length line) one.0 in
    or_from (has_return_in_include line) (option_map_or (is_skipped_production line) (production_of line) false) (returnless_include line (no_return_in 58 line two.0))
    (by few two.0 two.1 (is_utf8 line) (reading_of line) refl)
  where
    by : length line < 255 → has_sign_after 58 line ≡ false → nat_le 10 (openings line) ≡ false → (t : Bool) (r : Result Reading LexFault) → reading_of line ≡ r
        → option_map_or (is_skipped_production line) (cond t (parts_of r) None) false ≡ false
    by few unsigned counted false r is = refl
    by few unsigned counted true (Err f) is = refl
    by few unsigned counted true (Ok blank) is = refl
    by few unsigned counted true (Ok (include name)) is = refl
    by few unsigned counted true (Ok (production events raw name)) is =
        production_kept line events raw name few unsigned counted (reading_sound line (production events raw name) is).content

-- it has no carriage return outside of its string and its comment, and no blank next to a key name
pub never_returned : (line : List ℕ) (p : Written) → has_sign_after 58 line ≡ false → has_return line p ≡ false
never_returned line p none = returnless line p (no_return_in 58 line none)

pub never_spaced : (line : List ℕ) → has_sign_after 58 line ≡ false → has_spaced_name line ≡ false
never_spaced line none = sym (after_colon line) ∙ no_spaced 58 line none
