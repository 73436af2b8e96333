-- Texts in Markdown (CommonMark, and the tables of GitHub and GitLab) and in HTML.
use Rattle.std.specs.Prelude.{ℕ, Bool, true, ◌==◌, ◌||◌, if◌then◌else◌, List, [], ◌∷◌, ◌++◌, flat_map, codes}
use Rattle.std.specs.Fmt.{decimal, digits}
use Rattle.std.specs.Str.{chars}
use Rattle.std.specs.Char.{encode_utf8}
use Rattle.compose_text.specs.Numbers.{is_between}
use Rattle.compose_shown.specs.Shown.{is_unsafe}
use Rattle.keysym_core.specs.Printed.{at_least_four}
use Rattle.compose_page.specs.declared.markup.Markup.{Markup}
use Rattle.compose_page.specs.declared.markup.Markup.TheVariants.{Markdown, Html}

-- the character may have a meaning: in Markdown any of !"#$&'()*<>[\]^_`{|}~, in HTML any of "&'<>
abbrev pub is_mark : Markup → ℕ → Bool
is_mark Markdown c = is_between 33 36 c || is_between 38 42 c || c == 60 || c == 62 || is_between 91 96 c || is_between 123 126 c
is_mark Html c = c == 34 || c == 38 || c == 39 || c == 60 || c == 62

-- such a character, escaped: after a backslash (code 92), or by its number
abbrev pub mark_text : Markup → ℕ → List ℕ
mark_text Markdown c = 92 ∷ encode_utf8 c
mark_text Html c = codes "&#" ++ (decimal c ++ codes ";")

-- `U+` and at least four digits
abbrev pub number_text : ℕ → List ℕ
number_text c = codes "U+" ++ at_least_four (digits 16 true c)

-- a character that could control a terminal or the direction of writing, by its number
abbrev pub character_text : Markup → ℕ → List ℕ
character_text markup c = if is_unsafe c then number_text c else if is_mark markup c then mark_text markup c else encode_utf8 c

-- a text, no character of which is taken for markup
abbrev pub escaped : Markup → List ℕ → List ℕ
escaped markup text = flat_map (character_text markup) (chars text)

-- the number of each character, after a blank (code 32)
abbrev pub numbers_part : List ℕ → List ℕ
numbers_part text = flat_map (λ c. 32 ∷ number_text c) (chars text)
