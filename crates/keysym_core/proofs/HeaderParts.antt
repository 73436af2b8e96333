-- A header that is read part by part, each of whole lines.
use Rattle.std.proofs.Common.{◌≡◌, ◌≢◌, ◌+◌, ℕ, Bool, true, false, cond, List, [], ◌∷◌, ◌++◌, length, take, drop, refl, sym, ap, ◌∙◌, arith, ◌==◌}
use Rattle.std.specs.Prelude.{Result, Ok, Err}
use Rattle.std.proofs.lemmas.List.{take-append-drop, drop-drop}
use Rattle.compose_text.specs.Lines.{lines_of, onto_first}
use Rattle.keysym_core.specs.Names.{KeysymNames}
use Rattle.keysym_core.specs.Header.{with_line, with_lines}
use Rattle.keysym_core.specs.declared.fault.NameFault.{NameFault}
use Rattle.keysym_core.specs.BuiltIn.{built_in_rows, built_in_characters}
use Rattle.builtin_names.specs.declared.lines.TheConstants.{LINES}

-- no bytes, or whole lines: the last byte is a newline (code 10)
abbrev pub ends_line : List ℕ → Bool
ends_line [] = true
ends_line (b ∷ []) = b == 10
ends_line (b ∷ c ∷ bytes) = ends_line (c ∷ bytes)

first_part : (b : ℕ) (parts others : List (List ℕ)) → parts ≢ [] → onto_first b (parts ++ others) ≡ onto_first b parts ++ others
first_part b [] others some = absurd (some refl)
first_part b (part ∷ parts) others some = refl

some_line : (b : ℕ) (bytes : List ℕ) → lines_of (b ∷ bytes) ≢ []
some_line b bytes = by (b == 10) (lines_of bytes)
  where
    by : (newline : Bool) (lines : List (List ℕ)) → cond newline ([] ∷ lines) (onto_first b lines) ≢ []
    by true lines = λ e. cc
    by false [] = λ e. cc
    by false (line ∷ lines) = λ e. cc

-- the lines of whole lines and of what follows
pub lines_of-append : (bytes others : List ℕ) → ends_line bytes ≡ true → lines_of (bytes ++ others) ≡ lines_of bytes ++ lines_of others
lines_of-append [] others h = refl
lines_of-append (b ∷ []) others h = ap (λ newline. cond newline ([] ∷ lines_of others) (onto_first b (lines_of others))) h ∙ sym (ap (λ newline. cond newline ([] ∷ []) (onto_first b []) ++ lines_of others) h)
lines_of-append (b ∷ c ∷ bytes) others h = by (b == 10) (lines_of-append (c ∷ bytes) others h)
  where
    by : (newline : Bool) → lines_of ((c ∷ bytes) ++ others) ≡ lines_of (c ∷ bytes) ++ lines_of others
        → cond newline ([] ∷ lines_of ((c ∷ bytes) ++ others)) (onto_first b (lines_of ((c ∷ bytes) ++ others)))
        ≡ cond newline ([] ∷ lines_of (c ∷ bytes)) (onto_first b (lines_of (c ∷ bytes))) ++ lines_of others
    by true e = ap (λ lines. [] ∷ lines) e
    by false e = ap (onto_first b) e ∙ first_part b (lines_of (c ∷ bytes)) (lines_of others) (some_line c bytes)

-- lines that are read one after another
pub with_lines-append : (names : Result KeysymNames NameFault) (n : ℕ) (lines others : List (List ℕ))
    → with_lines names n (lines ++ others) ≡ with_lines (with_lines names n lines) (n + length lines) others
with_lines-append (Err fault) n [] others = refl
with_lines-append (Err fault) n (line ∷ lines) others = refl
with_lines-append (Ok names) n [] others = ap (λ m. with_lines (Ok names) m others) (omega arith)
with_lines-append (Ok names) n (line ∷ lines) others =
    with_lines-append (with_line names n line) (n + 1) lines others
    ∙ ap (λ m. with_lines (with_lines (with_line names n line) (n + 1) lines) m others) (omega arith)

-- so many of the built-in names, and so many of the characters
abbrev pub some_of : ℕ → ℕ → KeysymNames
some_of names characters = record { names = take names built_in_rows; characters = take characters built_in_characters }

-- the bytes of the header from an offset on, so many: whole lines, which are read after others
pub record Part (offset size first lines : ℕ) (before after : KeysymNames) : Type 0 where
  pub ends : ends_line (take size (drop offset LINES.now)) ≡ true
  pub count : length (lines_of (take size (drop offset LINES.now))) ≡ lines
  pub read : with_lines (Ok before) first (lines_of (take size (drop offset LINES.now))) ≡ Ok after

-- what follows a part is read after it
pub after_part : {offset size first lines : ℕ} {before after : KeysymNames} → Part offset size first lines before after
    → with_lines (Ok before) first (lines_of (drop offset LINES.now)) ≡ with_lines (Ok after) (first + lines) (lines_of (drop (offset + size) LINES.now))
after_part {offset} {size} {first} {lines} {before} {after} part =
    let bytes = drop offset LINES.now in
    ap (λ bs. with_lines (Ok before) first (lines_of bs)) (sym (take-append-drop size bytes))
    ∙ ap (with_lines (Ok before) first) (lines_of-append (take size bytes) (drop size bytes) part.ends)
    ∙ with_lines-append (Ok before) first (lines_of (take size bytes)) (lines_of (drop size bytes))
    ∙ ap (λ names. with_lines names (first + length (lines_of (take size bytes))) (lines_of (drop size bytes))) part.read
    ∙ ap (λ n. with_lines (Ok after) (first + n) (lines_of (drop size bytes))) part.count
    ∙ ap (λ bs. with_lines (Ok after) (first + lines) (lines_of bs)) (drop-drop size offset LINES.now)
