-- The lines of `diff` in colours, like those of `git diff`, by the escape sequences of terminals
-- (ECMA-48, Select Graphic Rendition).
use Rattle.std.specs.Prelude.{ℕ, Bool, true, false, not, ◌==◌, if◌then◌else◌, List, [], ◌∷◌, ◌++◌, flat_map, codes}
use Rattle.std.specs.List.{list_any}
use Rattle.compose_compare.specs.declared.Change.{Change}
use Rattle.compose_compare.specs.declared.Change.TheVariants.{Changed, Waiting, Removed, Added, NewStart}
use Rattle.compose_diff.specs.Line.{change_word}
use Rattle.compose_diff.specs.Accepted.{begins_with}

-- the line begins with the word for this change
abbrev pub begins_with_word : List ℕ → Change → Bool
begins_with_word line change = begins_with line (change_word change)

-- red if people lose something, green if they get something, otherwise bold
abbrev pub color_of : List ℕ → List ℕ
color_of line =
    if list_any (begins_with_word line) (Changed ∷ Waiting ∷ Removed ∷ []) then codes "31" else
    if list_any (begins_with_word line) (NewStart ∷ Added ∷ []) then codes "32" else codes "1"

-- an escape (code 27) and the colour, the line, and an escape that resets the colour
abbrev pub colored_line : List ℕ → List ℕ
colored_line line = 27 ∷ codes "[" ++ (color_of line ++ (codes "m" ++ (line ++ (27 ∷ codes "[m\n"))))

abbrev pub colored_lines : List (List ℕ) → List ℕ
colored_lines all = flat_map colored_line all

-- ---- back

-- the text without its escape sequences, each of which ends in `m` (code 109); the first argument
-- is whether one has begun
abbrev pub uncolored_from : Bool → List ℕ → List ℕ
uncolored_from begun [] = []
uncolored_from false (b ∷ bytes) = if b == 27 then uncolored_from true bytes else b ∷ uncolored_from false bytes
uncolored_from true (b ∷ bytes) = uncolored_from (not (b == 109)) bytes

abbrev pub uncolored_text : List ℕ → List ℕ
uncolored_text text = uncolored_from false text
