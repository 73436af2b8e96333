-- Include lines.
use Rattle.std.specs.Prelude.{ℕ, List, IsUtf8}
use Rattle.compose_lex.specs.Line.{IsLine, include}

-- the line is an include with this raw name, the bytes between its quotes
abbrev pub IsInclude : List ℕ → List ℕ → Type 0
IsInclude line name = IsLine line (include name)

-- the line is not an include, or it is not UTF-8
abbrev pub IncludesNone : List ℕ → Type 0
IncludesNone line = IsUtf8 line → (name : List ℕ) → IsInclude line name → ⊥
