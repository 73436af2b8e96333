-- A file as a reader reads it: one record for each of its lines.
use Rattle.std.specs.Prelude.{ℕ, ◌≡◌, Bool, true, false, ◌||◌, ◌==◌, List, [], ◌∷◌, Option, map}
use Rattle.compose_text.specs.Bytes.{begins, behind}
use Rattle.compose_text.specs.Lines.{lines_of}
use Rattle.compose_text.specs.Numbers.{is_between}
use Rattle.compose_readers.specs.Definitions.{Definition}
use Rattle.compose_readers.specs.declared.cause.Cause.{Cause}
use Rattle.compose_readers.specs.declared.walking.Refusal.{Refusal}

-- what comes behind the definitions of a line
pub data LineEnd : Type 0 where
  nothing : LineEnd
  left_out : Cause → LineEnd
  includes : List ℕ → LineEnd

pub record LineRead : Type 0 where
  pub definitions : List Definition
  pub end : LineEnd

pub record FileRead : Type 0 where
  pub path : List ℕ
  pub refusal : Option Refusal
  pub lines : List LineRead

-- space, and the controls from tab to carriage return
abbrev pub is_space : ℕ → Bool
is_space b = b == 32 || is_between 9 13 b

-- a line is empty if it has only blanks, and perhaps a comment behind a `#` (code 35)
abbrev pub is_empty_rest : List ℕ → Bool
is_empty_rest [] = true
is_empty_rest (b ∷ bs) = b == 35

abbrev pub is_empty : List ℕ → Bool
is_empty line = is_empty_rest (behind is_space line)

-- nothing is told of the line
abbrev pub is_end : LineEnd → Bool
is_end nothing = true
is_end (left_out cause) = false
is_end (includes path) = false

abbrev pub is_untold : LineRead → List Definition → Bool
is_untold r [] = is_end r.end
is_untold r (d ∷ ds) = false

abbrev pub untold : List LineRead → List Bool
untold lines = map (λ r. is_untold r r.definitions) lines

abbrev pub empties : List ℕ → List Bool
empties bytes = map is_empty (lines_of bytes)

-- there is a record for each line, in order, and something is told of exactly those that aren't
-- empty
abbrev pub AreLinesOf : List LineRead → List ℕ → Type 0
AreLinesOf lines bytes = untold lines ≡ empties bytes
