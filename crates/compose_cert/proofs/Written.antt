-- The lines of a text add up to the whole.
use Rattle.std.proofs.Common.{◌≡◌, ℕ, ◌+◌, ◌-◌, ◌<◌, ◌^◌, List, [], ◌∷◌, ◌++◌, length, map, drop, replicate, get_or, Bool, false, refl, sym, ◌∙◌, ap, arith, append_assoc, append-nil, lt-ltb}
use Rattle.std.specs.List.{list_all}
use Rattle.std.specs.Fmt.{decimal, char_count, padded_integral, format_spec}
use Rattle.std.proofs.lemmas.List.{at_drop_more}
use Rattle.compose_cert.specs.Spelling.{pair_text, are_numbers, ended}

-- the text of lines in two parts is that of the first part, followed by that of the second
pub ended-append : (a b : List (List ℕ)) → ended (a ++ b) ≡ ended a ++ ended b
ended-append [] b = refl
ended-append (line ∷ a) b = ap (λ text. (line ++ 10 ∷ []) ++ text) (ended-append a b) ∙ sym (append_assoc (line ++ 10 ∷ []) (ended a) (ended b))

-- a pair's line is added, and the lines after it are left
pub pair_added : (before after whole : List ℕ) (pairs : List (ℕ × ℕ)) (i : ℕ) → i < length pairs
    → after ≡ before ++ (decimal (get_or pairs i (0, 0)).0 ++ 32 ∷ (decimal (get_or pairs i (0, 0)).1 ++ 10 ∷ []))
    → before ++ ended (map pair_text (drop i pairs)) ≡ whole → after ++ ended (map pair_text (drop (i + 1) pairs)) ≡ whole
pair_added before after whole pairs i l e h =
    let step = at_drop_more (λ (ps : List (ℕ × ℕ)). ended (map pair_text ps)) pairs i (0, 0) l in
    let a = decimal (get_or pairs i (0, 0)).0 in
    let b = decimal (get_or pairs i (0, 0)).1 in
    let rest = ended (map pair_text (drop (i + 1) pairs)) in
    let one : (before ++ (a ++ 32 ∷ (b ++ 10 ∷ []))) ++ rest ≡ before ++ (((a ++ 32 ∷ b) ++ 10 ∷ []) ++ rest) = simp append_assoc in
    ap (λ text. text ++ rest) e ∙ one ∙ ap (λ text. before ++ text) (sym step) ∙ h

-- `{:04X}` writes the padded digits
pub four_digits : (ds : List ℕ) → padded_integral (format_spec 32 0 4 4 18446744073709551615) false [] ds ≡ replicate (4 - length ds) 48 ++ ds
unfolding padded_integral char_count
four_digits ds =
    let none : 4 - length ds - 0 - 0 ≡ 4 - length ds = omega arith in
    ap (λ n. replicate n 48 ++ (ds ++ [])) none ∙ ap (λ text. replicate (4 - length ds) 48 ++ text) (append-nil ds)

-- after one more pair of numbers, the remaining pairs still decide whether all are numbers
pub numbers_left : (pairs : List (ℕ × ℕ)) (i : ℕ) (all : Bool) → i < length pairs → (get_or pairs i (0, 0)).0 < 2 ^ 32 → (get_or pairs i (0, 0)).1 < 2 ^ 32
    → list_all are_numbers (drop i pairs) ≡ all → list_all are_numbers (drop (i + 1) pairs) ≡ all
numbers_left pairs i all l a b h =
    let step = at_drop_more (λ (ps : List (ℕ × ℕ)). list_all are_numbers ps) pairs i (0, 0) l in
    let p = lt-ltb (get_or pairs i (0, 0)).0 0x100000000 a in
    let q = lt-ltb (get_or pairs i (0, 0)).1 0x100000000 b in
    let one : list_all are_numbers (get_or pairs i (0, 0) ∷ drop (i + 1) pairs) ≡ list_all are_numbers (drop (i + 1) pairs) = rw (p, q) in
    sym one ∙ sym step ∙ h
