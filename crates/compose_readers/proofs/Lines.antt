-- What is told, line after line.
use Rattle.std.proofs.Common.{◌≡◌, ◌∙◌, Bool, ℕ, zero, suc, ◌+◌, ◌-◌, ◌<◌, List, [], ◌∷◌, ◌++◌, length, map, take, drop, get_or, refl, sym, ap, append_assoc, arith}
use Rattle.std.specs.Prelude.{Option, Some, None, slice_get, bytes_eq}
use Rattle.std.proofs.lemmas.List.{take_more, drop_more, map-append, map_push, append-nil}
use Rattle.compose_text.specs.Lines.{lines_of}
use Rattle.compose_readers.specs.Definitions.{Definition}
use Rattle.std.specs.Option.{option_map_or}
use Rattle.compose_readers.specs.Files.{LineEnd, nothing, left_out, includes, LineRead, FileRead, is_empty, is_untold, untold, empties}
use Rattle.compose_readers.specs.declared.cause.Cause.{Cause}
use Rattle.compose_readers.specs.Walks.{Told, told_in, told_of, told_file, told_from, told_below, lines_at, index_of, defines, parts_in, parts_behind}

-- the definitions of a line, and what comes behind them
pub told_both : (file line : ℕ) (r : LineRead) → told_in file line (map defines r.definitions) ++ told_in file line (parts_behind r.end) ≡ told_in file line (parts_in r)
told_both file line r = sym (map-append (λ part. let t : Told = record { file = file; line = line; what = part } in t) (map defines r.definitions) (parts_behind r.end))

-- one line more of those that are left
pub line_more : (inside : LineEnd → List Told) (file at : ℕ) (lines : List LineRead) (d : LineRead) (now pushed after whole : List Told) → at < length lines
    → pushed ≡ now ++ told_in file (at + 1) (parts_in (get_or lines at d)) → after ≡ pushed ++ inside (get_or lines at d).end
    → now ++ told_of inside file (at + 1) (drop at lines) ≡ whole → after ++ told_of inside file (at + 1 + 1) (drop (at + 1) lines) ≡ whole
line_more inside file at lines d now pushed after whole within p a so_far =
    let r = get_or lines at d in let own = told_in file (at + 1) (parts_in r) in let rest = told_of inside file (at + 1 + 1) (drop (at + 1) lines) in
    ap (λ x. x ++ rest) (a ∙ ap (λ x. x ++ inside r.end) p)
    ∙ append_assoc (now ++ own) (inside r.end) rest ∙ append_assoc now own (inside r.end ++ rest)
    ∙ ap (λ ls. now ++ told_of inside file (at + 1) ls) (sym (drop_more lines at d within)) ∙ so_far

-- ---- includes

pub below_nothing : (files : List FileRead) (left : ℕ) → told_below files left nothing ≡ []
below_nothing files zero = refl
below_nothing files (suc left) = refl

pub below_left_out : (files : List FileRead) (left : ℕ) (cause : Cause) → told_below files left (left_out cause) ≡ []
below_left_out files zero cause = refl
below_left_out files (suc left) cause = refl

-- a file that is there
pub below_one : (files : List FileRead) (left : ℕ) (path : List ℕ) (index : ℕ) → 0 < left → index_of files path ≡ Some index
    → told_below files left (includes path) ≡ told_from files (left - 1) index
below_one files zero path index more is = absurd (omega arith)
below_one files (suc left) path index more is =
    let one : left ≡ suc left - 1 = omega arith in
    ap (λ (o : Option ℕ). option_map_or (told_file files (told_below files left)) o []) is ∙ ap (λ m. told_from files m index) one

-- the lines of a file that is there
pub lines_of_file : (files : List FileRead) (index : ℕ) (d : FileRead) → index < length files → lines_at files index ≡ (get_or files index d).lines
lines_of_file [] index d within = absurd (omega arith)
lines_of_file (f ∷ files) zero d within = refl
lines_of_file (f ∷ files) (suc index) d within = lines_of_file files index d (omega arith)

-- ---- the lines of a file

-- a line more is read
pub line_read : (lines after : List LineRead) (r : LineRead) (line rest behind : List ℕ) (whole : List Bool) → after ≡ lines ++ r ∷ [] → is_untold r r.definitions ≡ is_empty line
    → lines_of rest ≡ line ∷ lines_of behind → untold lines ++ empties rest ≡ whole → untold after ++ empties behind ≡ whole
line_read lines after r line rest behind whole put same first so_far =
    ap (λ ls. untold ls ++ empties behind) put
    ∙ ap (λ bs. bs ++ empties behind) (map_push (λ (x : LineRead). is_untold x x.definitions) lines r)
    ∙ append_assoc (untold lines) (is_untold r r.definitions ∷ []) (empties behind)
    ∙ ap (λ b. untold lines ++ b ∷ empties behind) same
    ∙ ap (λ ls. untold lines ++ map is_empty ls) (sym first) ∙ so_far

-- all lines are read
pub lines_done : (lines : List LineRead) (rest : List ℕ) (whole : List Bool) → lines_of rest ≡ [] → untold lines ++ empties rest ≡ whole → untold lines ≡ whole
lines_done lines rest whole none so_far = sym (append-nil (untold lines)) ∙ ap (λ ls. untold lines ++ map is_empty ls) (sym none) ∙ so_far
