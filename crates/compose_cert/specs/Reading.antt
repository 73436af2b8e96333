-- Reading a certificate's text line by line: the certificate, or the fault of the first faulty
-- line.
use Rattle.std.specs.Prelude.{ℕ, Bool, ◌+◌, ◌&&◌, ◌==◌, nat_eq, nat_lt, zero, suc, if◌then◌else◌, List, [], ◌∷◌, ◌++◌, length, drop, Option, Some, None, Result, Ok, Err, bytes_eq, codes}
use Rattle.std.specs.Option.{option_map_or, option_map}
use Rattle.std.specs.List.{starts_with}
use Rattle.std.specs.Fmt.{decimal}
use Rattle.std.specs.Str.Parse.{digits_value}
use Rattle.compose_text.specs.Results.{◌>>=◌}
use Rattle.keysym_core.specs.Keysym.{is_keysym}
use Rattle.compose_text.specs.Lines.{divide}
use Rattle.compose_model.specs.Certificate.{Typing, Certificate}
use Rattle.compose_cert.specs.Spelling.{character_text, keysym_text, is_number, is_character, max_count}
use Rattle.compose_cert.specs.declared.CertFault.{CertFault}
use Rattle.compose_cert.specs.declared.CertFault.TheVariants.{NotText, TooLarge}

-- ---- words: a word has to be the text of the value of its digits

-- x, if it passes the test and the word is its text
abbrev pub written : (ℕ → List ℕ) → (ℕ → Bool) → ℕ → List ℕ → Option ℕ
written text test x word = if test x && bytes_eq word (text x) then Some x else None

abbrev pub number_of : List ℕ → Option ℕ
number_of word = written decimal is_number (digits_value 10 word) word

abbrev pub keysym_of : List ℕ → Option ℕ
keysym_of word = written keysym_text is_keysym (digits_value 16 word) word

-- the digits follow `U+`
abbrev pub character_of : List ℕ → Option ℕ
character_of word = written character_text is_character (digits_value 16 (drop 2 word)) word

-- ---- lines

-- 1 or 2
abbrev pub version_of : List ℕ → Option ℕ
version_of line = if bytes_eq line (codes "compose-certificate 1") then Some 1 else if bytes_eq line (codes "compose-certificate 2") then Some 2 else None

-- the number after this word and a blank
abbrev pub number_after : List ℕ → List ℕ → Option ℕ
number_after word line = if starts_with nat_eq line (word ++ 32 ∷ []) then number_of (drop (length word + 1) line) else None

abbrev pub both : {A B : Type 0} → Option A → Option B → Option (A × B)
both (Some x) (Some y) = Some (x, y)
both (Some x) None = None
both None y = None

abbrev pub pair_of_words : List (List ℕ) → Option (ℕ × ℕ)
pair_of_words (i ∷ j ∷ []) = both (number_of i) (number_of j)
pair_of_words _ = None

-- two numbers, with a blank between them
abbrev pub pair_of : List ℕ → Option (ℕ × ℕ)
pair_of line = pair_of_words (divide 32 line)

abbrev pub keysyms_of : List (List ℕ) → Option (List ℕ)
keysyms_of [] = Some []
keysyms_of (word ∷ words) = option_map (λ x. x.0 ∷ x.1) (both (keysym_of word) (keysyms_of words))

abbrev pub typing_of_words : List (List ℕ) → Option Typing
typing_of_words (c ∷ k ∷ ks) = option_map (λ x. let t : Typing = record { character = x.0; keys = x.1 } in t) (both (character_of c) (keysyms_of (k ∷ ks)))
typing_of_words _ = None

-- a character and one or more keysyms, with a blank before each keysym
abbrev pub typing_of : List ℕ → Option Typing
typing_of line = typing_of_words (divide 32 line)

-- ---- lines in a row. `n` is the number of the first of them. A line counts only if a newline ends it, that is, if
-- another part follows

-- a line of this form
abbrev pub line_at : {A : Type 0} → (List ℕ → Option A) → ℕ → List (List ℕ) → Result (A × List (List ℕ)) CertFault
line_at form n [] = Err (NotText n)
line_at form n (line ∷ []) = Err (NotText n)
line_at form n (line ∷ next ∷ lines) = option_map_or (λ x. Ok (x, next ∷ lines)) (form line) (Err (NotText n))

-- what was read, if it is not too large
abbrev pub if_few : {A : Type 0} → (A → ℕ) → A × List (List ℕ) → Result (A × List (List ℕ)) CertFault
if_few size x = if nat_lt max_count (size x.0) then Err TooLarge else Ok x

abbrev pub count_at : List ℕ → ℕ → List (List ℕ) → Result (ℕ × List (List ℕ)) CertFault
count_at word n lines = line_at (number_after word) n lines >>= if_few (λ count. count)

abbrev pub typing_at : ℕ → List (List ℕ) → Result (Typing × List (List ℕ)) CertFault
typing_at n lines = line_at typing_of n lines >>= if_few (λ t. length t.keys)

-- as many of these as the count, one after another
abbrev pub times : {A : Type 0} → (ℕ → List (List ℕ) → Result (A × List (List ℕ)) CertFault) → ℕ → ℕ → List (List ℕ) → Result (List A × List (List ℕ)) CertFault
times one zero n lines = Ok ([], lines)
times one (suc count) n lines = do
  first ← one n lines
  more ← times one count (1 + n) first.1
  Ok (first.0 ∷ more.0, more.1)

-- nothing follows the last newline
abbrev pub end_at : ℕ → List (List ℕ) → Result (Unit {0}) CertFault
end_at n ([] ∷ []) = Ok tt
end_at n _ = Err (NotText n)

-- ---- the fresh keysyms: none in version 1, and at least one in version 2

abbrev pub if_some : ℕ → ℕ × List (List ℕ) → Result (ℕ × List (List ℕ)) CertFault
if_some n count = if count.0 == 0 then Err (NotText n) else Ok count

abbrev pub some_fresh_at : ℕ → List (List ℕ) → Result (List ℕ) CertFault
some_fresh_at n lines = do
  count ← count_at (codes "fresh") n lines >>= if_some n
  keys ← times (line_at keysym_of) count.0 (1 + n) count.1
  end ← end_at (1 + n + count.0) keys.1
  Ok keys.0

abbrev pub fresh_at : ℕ → ℕ → List (List ℕ) → Result (List ℕ) CertFault
fresh_at version n lines = if version == 1 then (end_at n lines >>= λ _. Ok []) else some_fresh_at n lines

-- ---- the text

abbrev pub certificate_at : List (List ℕ) → Result Certificate CertFault
certificate_at lines = do
  version ← line_at version_of 1 lines
  bound ← line_at (number_after (codes "bound")) 2 version.1
  p ← count_at (codes "pairs") 3 bound.1
  pairs ← times (line_at pair_of) p.0 4 p.1
  q ← count_at (codes "typings") (4 + p.0) pairs.1
  typings ← times typing_at q.0 (5 + p.0) q.1
  fresh ← fresh_at version.0 (5 + p.0 + q.0) typings.1
  Ok (record { bound = bound.0; pairs = pairs.0; typings = typings.0; fresh = fresh })

-- the certificate that the bytes spell, or their fault
abbrev pub certificate_of : List ℕ → Result Certificate CertFault
certificate_of bytes = certificate_at (divide 10 bytes)
