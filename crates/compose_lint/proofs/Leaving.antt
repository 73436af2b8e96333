-- The findings that a list leaves, or why the list is refused.
use Rattle.std.proofs.Common.{◌≡◌, ℕ, List, filter, not}
use Rattle.std.specs.Prelude.{Result, Ok, Err, Option, Some, None}
use Rattle.std.specs.List.{find}
use Rattle.std.specs.Option.{option_map_or}
use Rattle.std.specs.declared.vec.Vec.{Vec}
use Rattle.std.specs.declared.alloc.Global.{Global}
use Rattle.compose_text.specs.Lines.{lines_of}
use Rattle.compose_diff.specs.Accepted.{Line, Returns, list_lines_from}
use Rattle.compose_diff.specs.declared.accepted.AcceptFault.{AcceptFault}
use Rattle.compose_diff.specs.declared.accepted.AcceptFault.TheVariants.{Stale, BadLine, NoMemory}
use Rattle.compose_lint.specs.Rows.{Row}
use Rattle.compose_lint.specs.Accepted.{accepted_of, is_in_form, is_accepted, is_stale, left_of, Leaves, IsLeftBy}
use Rattle.compose_lint.specs.Answers.{Asked, AnswersOn}
use Rattle.compose_lint.specs.Raised.{accept_raised}

-- a list that is read leaves no line that is not in the form
form_read : (lines : List Line) (rows : List Row) (n : ℕ) → left_of lines rows ≡ Err (BadLine n) → ⊥
form_read lines rows n is = by (find (is_stale rows) lines) is
  where
    by : (o : Option Line) → option_map_or (λ (line : Line). Err (Stale line.number)) o (Ok (filter (λ row. not (is_accepted lines row)) rows)) ≡ Err (BadLine n) → ⊥
    by None h = cc
    by (Some line) h = cc

-- after the list is read
pub left_once : (bytes : List ℕ) (lines : List Line) (rows : List Row) (left : Result (Vec Row Global) AcceptFault) → accepted_of bytes ≡ Ok lines → Leaves left (left_of lines rows) → IsLeftBy bytes rows left
left_once bytes lines rows (Ok left) read is = (lines, read, is)
left_once bytes lines rows (Err (Stale n)) read is = (lines, read, is)
left_once bytes lines rows (Err (BadLine n)) read is = absurd (form_read lines rows n is)
left_once bytes lines rows (Err NoMemory) read is = tt

-- a list whose form is valid has no stale line yet
no_stale : (lines : List Line) (o : Option Line) (n : ℕ) → option_map_or (λ (line : Line). Err (BadLine line.number)) o (Ok lines) ≡ Err (Stale n) → ⊥
no_stale lines None n h = cc
no_stale lines (Some line) n h = cc

-- if it is refused
pub read_refused : (bytes : List ℕ) (rows : List Row) (fault : AcceptFault) → Returns (Err fault) (accepted_of bytes) → IsLeftBy bytes rows (Err fault)
read_refused bytes rows (Stale n) is = absurd (no_stale (list_lines_from 1 (lines_of bytes)) (find (λ line. not (is_in_form line)) (list_lines_from 1 (lines_of bytes))) n is)
read_refused bytes rows (BadLine n) is = is
read_refused bytes rows NoMemory is = tt

-- the answer if it is refused
pub refused_on : (asked : Asked) (rows : List Row) (fault : AcceptFault) → IsLeftBy asked.accepted rows (Err fault) → AnswersOn asked rows (Err (accept_raised fault))
refused_on asked rows (Stale n) is = record { lines = is.0; read = is.1; stale = is.2 }
refused_on asked rows (BadLine n) is = is
refused_on asked rows NoMemory is = tt
