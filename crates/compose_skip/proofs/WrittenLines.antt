-- Lines that are written, each with its newline, are read as exactly these lines.
use Rattle.std.proofs.Common.{◌≡◌, ◌+◌, ℕ, Bool, true, not, List, [], ◌∷◌, ◌++◌, map, refl, sym, ◌∙◌, ap, inl, inr, append_assoc}
use Rattle.std.specs.Prelude.{◌==◌, Option, Some, None, option_to_list, unwrap_or}
use Rattle.std.specs.List.{cons_option, filter_map, list_all}
use Rattle.std.proofs.lemmas.Bool.{and_parts, cases_Bool, ne_eqb}
use Rattle.compose_text.specs.Lines.{in_line, lines_of, onto_first}
use Rattle.compose_text.proofs.LineParts.{stays_in_line}
use Rattle.keysym_core.specs.Names.{KeysymNames}
use Rattle.compose_read.specs.Lines.{Visit, numbered, source_lines, without_mark}
use Rattle.compose_read.specs.declared.ReadFault.{ReadFault}
use Rattle.compose_skip.specs.Faulty.{kept_line, line_without, lines_in, own_fault}
use Rattle.compose_skip.specs.Libxkbcommon.{rewritten}
use Rattle.compose_skip.specs.Written.{mark, written}
use Rattle.compose_skip.proofs.Rewritten.{is_rewritten}

-- ---- no line has a newline

abbrev are_in_line : List (List ℕ) → Bool
are_in_line lines = list_all (list_all in_line) lines

onto : (b : ℕ) (lines : List (List ℕ)) → in_line b ≡ true → are_in_line lines ≡ true → are_in_line (onto_first b lines) ≡ true
onto b [] h k = rw h refl
onto b (line ∷ lines) h k = rw h k

all_in_line : (bytes : List ℕ) → are_in_line (lines_of bytes) ≡ true
all_in_line [] = refl
all_in_line (b ∷ bytes) = elim (cases_Bool (b == 10)) [
  | inl h ↦ rw h (all_in_line bytes)
  | inr h ↦ rw h (onto b (lines_of bytes) (ap not h) (all_in_line bytes))
]

-- ---- lines, and their newlines

line_first : (line rest : List ℕ) → list_all in_line line ≡ true → lines_of (line ++ 10 ∷ rest) ≡ line ∷ lines_of rest
line_first [] rest plain = refl
line_first (b ∷ line) rest plain =
    let parts = and_parts (in_line b) (list_all in_line line) plain in
    rw (ne_eqb b 10 (stays_in_line b parts.0)) (ap (onto_first b) (line_first line rest parts.1))

plain_rewritten : (names : KeysymNames) (line : List ℕ) (o : Option (List ℕ)) → rewritten names line ≡ o → list_all in_line (unwrap_or o []) ≡ true
plain_rewritten names line None e = refl
plain_rewritten names line (Some written) e = (is_rewritten names line written e).plain

plain_without : (names : KeysymNames) (line : List ℕ) (fault : Option ReadFault) → list_all in_line line ≡ true → list_all in_line (line_without names line fault) ≡ true
plain_without names line None plain = plain
plain_without names line (Some fault) plain = plain_rewritten names line (rewritten names line) refl

lines_written : (names : KeysymNames) (source number : ℕ) (lines : List (List ℕ)) → are_in_line lines ≡ true
    → lines_of (written names (numbered source 0 number lines)) ≡ map (kept_line names) (numbered source 0 number lines)
lines_written names source number [] plain = refl
lines_written names source number (line ∷ lines) plain =
    let parts = and_parts (list_all in_line line) (are_in_line lines) plain in
    let v : Visit = record { source = source; line = number; bytes = line; depth = 0 } in
    let others = written names (numbered source 0 (1 + number) lines) in
    ap lines_of (append_assoc (kept_line names v) (10 ∷ []) others)
    ∙ line_first (kept_line names v) others (plain_without names line (own_fault names v) parts.0)
    ∙ ap (λ ls. kept_line names v ∷ ls) (lines_written names source (1 + number) lines parts.1)

-- a source that is a mark and these lines has these lines
pub source_written : (names : KeysymNames) (source : ℕ) (bytes kept : List ℕ) → kept ≡ mark ++ written names (lines_in source bytes)
    → source_lines kept ≡ map (kept_line names) (lines_in source bytes)
source_written names source bytes kept h = ap source_lines h ∙ lines_written names source 1 (source_lines bytes) (all_in_line (without_mark bytes))

-- ---- one line more

-- the next line, numbered, before the others
pub numbered_more : (source n m : ℕ) (line : List ℕ) (lines whole : List (List ℕ)) → m ≡ n → whole ≡ line ∷ lines
    → (record { source = source; line = m; bytes = line; depth = 0 } ∷ numbered source 0 (1 + m) lines) ≡ numbered source 0 n whole
numbered_more source n m line lines whole e h = ap (λ k. numbered source 0 k (line ∷ lines)) e ∙ ap (numbered source 0 n) (sym h)

put_before : {Y : Type 0} (o : Option Y) (ys : List Y) → option_to_list o ++ ys ≡ cons_option o ys
put_before None ys = refl
put_before (Some y) ys = refl

-- its fault after those that were found before
pub found_more : {X Y : Type 0} (f : X → Option Y) (v : X) (vs : List X) (found more whole : List Y) → found ++ filter_map f (v ∷ vs) ≡ whole
    → more ≡ found ++ option_to_list (f v) → more ++ filter_map f vs ≡ whole
found_more f v vs found more whole h e =
    ap (λ ys. ys ++ filter_map f vs) e ∙ append_assoc found (option_to_list (f v)) (filter_map f vs) ∙ ap (λ ys. found ++ ys) (put_before (f v) (filter_map f vs)) ∙ h

pub written_more : (names : KeysymNames) (v : Visit) (vs : List Visit) (kept more whole : List ℕ) → kept ++ written names (v ∷ vs) ≡ whole
    → more ≡ kept ++ (kept_line names v ++ 10 ∷ []) → more ++ written names vs ≡ whole
written_more names v vs kept more whole h e =
    ap (λ bytes. bytes ++ written names vs) e ∙ append_assoc kept (kept_line names v ++ 10 ∷ []) (written names vs) ∙ h
