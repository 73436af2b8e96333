-- Evidence as text (this project's profile): four lines; and all differences, with a line that
-- counts them.
use Rattle.std.specs.Prelude.{ℕ, Bool, true, false, ◌==◌, if◌then◌else◌, List, [], ◌∷◌, ◌++◌, length, filter, flat_map, codes}
use Rattle.std.specs.Fmt.{decimal}
use Rattle.keysym_core.specs.Names.{KeysymNames}
use Rattle.keysym_core.specs.Printed.{printed}
use Rattle.compose_lex.specs.Escape.{quote}
use Rattle.compose_model.specs.Follows.{Kind, cancelled, text_differs, waiting}
use Rattle.compose_walk.specs.Evidence.{Evidence}

abbrev pub kind_word : Kind → List ℕ
kind_word text_differs = codes "text"
kind_word cancelled = codes "cancelled"
kind_word waiting = codes "waiting"

-- the word `keys`, and each key with a blank (code 32) before it
abbrev pub keys_line : KeysymNames → List ℕ → List ℕ
keys_line names keys = codes "keys" ++ flat_map (λ k. 32 ∷ printed names k) keys

-- a line, with the newline (code 10) that ends it
abbrev pub line : List ℕ → List ℕ
line bytes = bytes ++ 10 ∷ []

abbrev pub explained : KeysymNames → Evidence → List ℕ
explained names x = line (keys_line names x.keys) ++ line (codes "kind " ++ kind_word x.kind) ++ line (codes "old " ++ quote x.old_text) ++ line (codes "new " ++ quote x.new_text)

-- ---- all differences

abbrev pub is_same_kind : Kind → Kind → Bool
is_same_kind text_differs text_differs = true
is_same_kind cancelled cancelled = true
is_same_kind waiting waiting = true
is_same_kind _ _ = false

-- the number of differences of this kind
abbrev pub count_of : Kind → List Evidence → ℕ
count_of kind xs = length (filter (λ x. is_same_kind x.kind kind) xs)

-- the number, a blank (code 32), and the word
abbrev pub counted : ℕ → List ℕ → List ℕ
counted n word = decimal n ++ 32 ∷ word

-- the singular or the plural, as this number demands
abbrev pub count_word : ℕ → List ℕ
count_word n = if n == 1 then codes "difference" else codes "differences"

abbrev pub kind_counted : Kind → List Evidence → List ℕ
kind_counted kind xs = counted (count_of kind xs) (kind_word kind)

-- such as `2 differences: 1 text, 1 cancelled, 0 waiting`
abbrev pub count_line : List Evidence → List ℕ
count_line xs =
    line (counted (length xs) (count_word (length xs)) ++ codes ": " ++ kind_counted text_differs xs ++ codes ", " ++ kind_counted cancelled xs ++ codes ", " ++ kind_counted waiting xs)

-- each difference with an empty line after it
abbrev pub each_explained : KeysymNames → List Evidence → List ℕ
each_explained names xs = flat_map (λ x. explained names x ++ line []) xs

-- and the line that counts them; or `follows` if there is none
abbrev pub all_explained : KeysymNames → List Evidence → List ℕ
all_explained names [] = line (codes "follows")
all_explained names (x ∷ xs) = each_explained names (x ∷ xs) ++ count_line (x ∷ xs)
