-- An answer is lines without controls, so that colours can be added and taken away again.
use Rattle.std.proofs.Common.{◌≡◌, ℕ, zero, suc, ◌-◌, ◌<◌, Bool, true, false, List, [], ◌∷◌, ◌++◌, length, take, map, flat_map, refl, sym, ◌∙◌, ap, ap₂, arith, leb-true}
use Rattle.std.specs.Prelude.{◌==◌, ◌&&◌, nat_lt, if◌then◌else◌, Option, Some, None, codes, slice_index}
use Rattle.std.specs.List.{list_all, list_any, slice_split}
use Rattle.std.specs.Fmt.{decimal}
use Rattle.std.specs.Str.Lines.{lines, lines_of_parts, strip_carriage_return}
use Rattle.std.proofs.lemmas.Bool.{and_parts, and_from, ne_eqb}
use Rattle.std.specs.List.{onto_first}
use Rattle.std.proofs.lemmas.List.{append-nil, append_assoc}
use Rattle.std.proofs.lemmas.List.Splits.{slice_split-cons_no, length-slice_split}
use Rattle.std.proofs.lemmas.List.Folds.{list_all-append}
use Rattle.std.proofs.lemmas.Grind.{flat_map-append}
use Rattle.compose_shown.specs.Shown.{shown_text}
use Rattle.compose_compare.specs.declared.Change.{Change}
use Rattle.compose_compare.specs.declared.Change.TheVariants.{Changed, Waiting, Removed, Added, NewStart}
use Rattle.compose_diff.specs.declared.row.TextPlace.{TextPlace}
use Rattle.compose_diff.specs.declared.row.DiffRow.{DiffRow}
use Rattle.compose_diff.specs.declared.counts.Counts.{Counts}
use Rattle.compose_diff.specs.declared.row.NewSequence.{NewSequence}
use Rattle.compose_diff.specs.Line.{keys_text, keys_part, text_part, path_part, place_part, places_text, sequence_part, is_loss, typed_part, now_part, longer_part, row_end, row_text, row_line}
use Rattle.compose_diff.specs.Counts.{counts_of, starts_word, texts_word, counts_line}
use Rattle.compose_diff.specs.Causes.{is_gone, gone_entry, cause_line}
use Rattle.compose_diff.specs.Groups.{fold_keys, groups}
use Rattle.compose_diff.specs.Folds.{texts_part, fold_line, row_lines, reported, lines_by, group_lines}
use Rattle.compose_diff.specs.Lost.{shown_rows}
use Rattle.compose_diff.specs.Overlaps.{overlaps_line}
use Rattle.compose_diff.specs.declared.overlaps.Overlaps.{Overlaps}
use Rattle.compose_diff.specs.Reported.{lines_text, answer_text}
use Rattle.compose_diff.specs.declared.answer.Printed.{Printed}
use Rattle.compose_diff.specs.Colors.{begins_with_word, colored_lines, uncolored_from, uncolored_text}
use Rattle.compose_diff.proofs.Plain.{is_plain, ArePlain, both_plain, all_plain, decimal_plain, shown_plain, names_plain, keys_plain, text_plain, row_text_plain}

-- ---- lines without controls

-- one such line, with its newline
record OneLine (text : List ℕ) : Type 0 where
  line : List ℕ
  plain : ArePlain line
  is : text ≡ line ++ 10 ∷ []

abbrev AllPlain : List (List ℕ) → Type 0
AllPlain parts = list_all (λ part. list_all is_plain part) parts ≡ true

abbrev joined : List (List ℕ) → List ℕ
joined parts = flat_map (λ part. part ++ 10 ∷ []) parts

-- any number of them
record Lined (text : List ℕ) : Type 0 where
  parts : List (List ℕ)
  plain : AllPlain parts
  is : text ≡ joined parts

newline : OneLine (10 ∷ [])
newline = record { line = []; plain = refl; is = refl }

behind : (before text : List ℕ) → ArePlain before → OneLine text → OneLine (before ++ text)
behind before text plain one = record {
  line = before ++ one.line;
  plain = both_plain before one.line plain one.plain;
  is = ap (λ t. before ++ t) one.is ∙ sym (append_assoc before one.line (10 ∷ []));
}

one_lined : (text : List ℕ) → OneLine text → Lined text
one_lined text one = record { parts = one.line ∷ []; plain = and_from _ _ one.plain refl; is = one.is ∙ sym (append-nil (one.line ++ 10 ∷ [])) }

none_lined : Lined []
none_lined = record { parts = []; plain = refl; is = refl }

both_lined : (a b : List ℕ) → Lined a → Lined b → Lined (a ++ b)
both_lined a b x y = record {
  parts = x.parts ++ y.parts;
  plain = list_all-append (λ part. list_all is_plain part) x.parts y.parts ∙ and_from _ _ x.plain y.plain;
  is = ap₂ (λ s t. s ++ t) x.is y.is ∙ sym (flat_map-append (λ part. part ++ 10 ∷ []) x.parts y.parts);
}

all_lined : {X : Type 0} (f : X → List ℕ) (xs : List X) → ((x : X) → Lined (f x)) → Lined (flat_map f xs)
all_lined f [] each = none_lined
all_lined f (x ∷ xs) each = both_lined (f x) (flat_map f xs) (each x) (all_lined f xs each)

-- ---- the lines of an answer

path_plain : (path : List ℕ) (line : ℕ) → ArePlain (path_part path line)
path_plain path line =
    both_plain (codes " ") (shown_text path ++ (codes ":" ++ decimal line)) refl
    (both_plain (shown_text path) (codes ":" ++ decimal line) (shown_plain path) (both_plain (codes ":") (decimal line) refl (decimal_plain line)))

place_plain : (entry : Option TextPlace) → ArePlain (place_part entry)
place_plain None = refl
place_plain (Some entry) = path_plain entry.path.now entry.line

places_plain : (row : DiffRow) → ArePlain (places_text row)
places_plain row = both_plain (place_part row.old) (place_part row.new) (place_plain row.old) (place_plain row.new)

sequence_plain : (s : NewSequence) → ArePlain (sequence_part s)
sequence_plain s =
    both_plain (keys_part (map (λ key. key.now) s.keys.now)) (path_part s.path.now s.line) (names_plain (map (λ key. key.now) s.keys.now)) (path_plain s.path.now s.line)

typed_plain : (now : Option NewSequence) → ArePlain (typed_part now)
typed_plain None = refl
typed_plain (Some s) = sequence_plain s

now_plain : (change : Change) (now : Option NewSequence) → ArePlain (now_part change now)
now_plain change now = by (is_loss change)
  where
    by : (t : Bool) → ArePlain (if t then codes " now:" ++ typed_part now else [])
    by true = both_plain (codes " now:") (typed_part now) refl (typed_plain now)
    by false = refl

longer_plain : (longer : Option NewSequence) → ArePlain (longer_part longer)
longer_plain None = refl
longer_plain (Some s) = both_plain (codes " longer:") (sequence_part s) refl (sequence_plain s)

end_plain : (row : DiffRow) → ArePlain (row_end row)
end_plain row =
    both_plain (places_text row) (longer_part row.longer ++ now_part row.change row.typing) (places_plain row)
    (both_plain (longer_part row.longer) (now_part row.change row.typing) (longer_plain row.longer) (now_plain row.change row.typing))

row_lined : (row : DiffRow) → Lined (row_line row)
row_lined row = one_lined (row_line row) (behind (row_text row) _ (row_text_plain row) (behind (row_end row) (10 ∷ []) (end_plain row) newline))

fold_lined : (rows : List DiffRow) → Lined (fold_line rows)
fold_lined [] = none_lined
fold_lined (row ∷ rows) =
    one_lined (fold_line (row ∷ rows))
    (behind (keys_text row.change (fold_keys row)) _ (keys_plain row.change (fold_keys row))
    (behind (codes " .. ") _ refl
    (behind (decimal (length (row ∷ rows))) _ (decimal_plain (length (row ∷ rows)))
    (behind (codes " sequences") _ refl
    (behind (texts_part (take 3 (row ∷ rows))) _
    (all_plain (λ r. text_part r.old ++ text_part r.new) (take 3 (row ∷ rows)) (λ r. both_plain (text_part r.old) (text_part r.new) (text_plain r.old) (text_plain r.new)))
    (behind (codes " ..") _ refl (behind (places_text row) (10 ∷ []) (places_plain row) newline)))))))

cause_lined : (entry : TextPlace) (count : ℕ) → Lined (cause_line entry count)
cause_lined entry count =
    one_lined (cause_line entry count)
    (behind (codes "removed: all ") _ refl
    (behind (decimal count) _ (decimal_plain count)
    (behind (codes " sequences of ") _ refl
    (behind (shown_text entry.path.now) _ (shown_plain entry.path.now) (record { line = codes ", from which the new table has none"; plain = refl; is = refl })))))

lined_by : (entry : Option TextPlace) (rows : List DiffRow) → Lined (lines_by entry rows)
lined_by (Some entry) rows = cause_lined entry (length rows)
lined_by None rows = by (nat_lt (length rows) 2)
  where
    by : (t : Bool) → Lined (if t then row_lines rows else fold_line rows)
    by true = all_lined row_line rows row_lined
    by false = fold_lined rows

group_lined : (gone : ℕ → Bool) (rows : List DiffRow) → Lined (group_lines gone rows)
group_lined gone [] = none_lined
group_lined gone (row ∷ rows) = lined_by (gone_entry gone row) (row ∷ rows)

number : (word : List ℕ) → ArePlain word → (n : ℕ) (text : List ℕ) → OneLine text → OneLine (word ++ (decimal n ++ text))
number word plain n text one = behind word (decimal n ++ text) plain (behind (decimal n) text (decimal_plain n) one)

starts_plain : (n : ℕ) → ArePlain (starts_word n)
starts_plain n = by (n == 1)
  where
    by : (t : Bool) → ArePlain (if t then codes " new start" else codes " new starts")
    by true = refl
    by false = refl

texts_plain : (n : ℕ) → ArePlain (texts_word n)
texts_plain n = by (n == 1)
  where
    by : (t : Bool) → ArePlain (if t then codes " text" else codes " texts")
    by true = refl
    by false = refl

counts_lined : (counts : Counts) → Lined (counts_line counts)
counts_lined counts =
    one_lined (counts_line counts)
    (number (codes "diff: ") refl counts.kept _
    (number (codes " kept, ") refl counts.changed _
    (number (codes " changed, ") refl counts.waiting _
    (number (codes " waiting, ") refl counts.removed _
    (number (codes " removed, ") refl counts.new_starts _
    (behind (starts_word counts.new_starts) _ (starts_plain counts.new_starts)
    (number (codes ", ") refl counts.added _
    (number (codes " added, ") refl counts.accepted _
    (number (codes " accepted; ") refl counts.lost_texts _
    (behind (texts_word counts.lost_texts) _ (texts_plain counts.lost_texts) (record { line = codes " lost"; plain = refl; is = refl })))))))))))

rows_lined : (folds : Bool) (rows shown : List DiffRow) → Lined (lines_text folds rows shown)
rows_lined true rows shown =
    let gone = is_gone rows (reported shown) in
    all_lined (group_lines gone) (groups gone (reported shown)) (group_lined gone)
rows_lined false rows shown = all_lined row_line (reported shown) row_lined

overlaps_lined : (overlaps : Overlaps) → Lined (overlaps_line overlaps)
overlaps_lined overlaps = by (overlaps.old == 0 && overlaps.new == 0)
  where
    counted : List ℕ
    counted = codes "overlaps: " ++ (decimal overlaps.old ++ (codes " in the old table, " ++ (decimal overlaps.new ++ codes " in the new one; the longer sequences count\n")))

    by : (t : Bool) → Lined (if t then [] else counted)
    by true = none_lined
    by false =
        one_lined counted
        (number (codes "overlaps: ") refl overlaps.old _
        (number (codes " in the old table, ") refl overlaps.new _ (record { line = codes " in the new one; the longer sequences count"; plain = refl; is = refl })))

answer_lined : (printed : Printed) (overlaps : Overlaps) (rows left : List DiffRow) → Lined (answer_text printed overlaps rows left)
answer_lined printed overlaps rows left =
    both_lined (lines_text printed.folds rows (shown_rows printed.lost_alone left)) _ (rows_lined printed.folds rows (shown_rows printed.lost_alone left))
    (both_lined (overlaps_line overlaps) _ (overlaps_lined overlaps) (counts_lined (counts_of left (length rows - length left))))

-- ---- divided into lines

plain_at : (line : List ℕ) (k : ℕ) → ArePlain line → slice_index line k == 13 ≡ false
plain_at [] k plain = refl
plain_at (b ∷ line) zero plain = ne_eqb b 13 (omega (arith, leb-true 32 b (and_parts (is_plain b) _ plain).0))
plain_at (b ∷ line) (suc k) plain = plain_at line k (and_parts (is_plain b) _ plain).1

first_part : (line rest : List ℕ) → ArePlain line → slice_split (λ b. b == 10) (line ++ 10 ∷ rest) ≡ line ∷ slice_split (λ b. b == 10) rest
first_part [] rest plain = refl
first_part (b ∷ line) rest plain =
    let parts = and_parts (is_plain b) (list_all is_plain line) plain in
    slice_split-cons_no (λ c. c == 10) b (line ++ 10 ∷ rest) (ne_eqb b 10 (omega (arith, leb-true 32 b parts.0))) ∙ ap (onto_first b) (first_part line rest parts.1)

after_first : (line : List ℕ) (parts : List (List ℕ)) → 0 < length parts → lines_of_parts (line ∷ parts) ≡ strip_carriage_return line ∷ lines_of_parts parts
after_first line [] some = absurd (omega arith)
after_first line (next ∷ parts) some = refl

line_first : (line rest : List ℕ) → ArePlain line → lines (line ++ 10 ∷ rest) ≡ line ∷ lines rest
line_first line rest plain =
    ap lines_of_parts (first_part line rest plain)
    ∙ after_first line (slice_split (λ b. b == 10) rest) (omega (arith, length-slice_split (λ (b : ℕ). b == 10) rest))
    ∙ ap (λ l. l ∷ lines rest) (rw (plain_at line (length line - 1) plain) refl)

lines_again : (parts : List (List ℕ)) → AllPlain parts → lines (joined parts) ≡ parts
lines_again [] plain = refl
lines_again (part ∷ parts) plain =
    let both = and_parts (list_all is_plain part) _ plain in
    ap lines (append_assoc part (10 ∷ []) (joined parts)) ∙ line_first part (joined parts) both.0 ∙ ap (λ ls. part ∷ ls) (lines_again parts both.1)

-- ---- colours taken away

pass : (line more : List ℕ) → ArePlain line → uncolored_from false (line ++ more) ≡ line ++ uncolored_from false more
pass [] more plain = refl
pass (b ∷ line) more plain =
    let parts = and_parts (is_plain b) (list_all is_plain line) plain in
    rw (ne_eqb b 27 (omega (arith, leb-true 32 b parts.0))) (ap (λ l. b ∷ l) (pass line more parts.1))

body : (line rest : List ℕ) → ArePlain line → uncolored_from false ((line ++ (27 ∷ codes "[m\n")) ++ rest) ≡ line ++ 10 ∷ uncolored_from false rest
body line rest plain = ap (uncolored_from false) (append_assoc line (27 ∷ codes "[m\n") rest) ∙ pass line ((27 ∷ codes "[m\n") ++ rest) plain

off : (s t : Bool) (line rest : List ℕ) → ArePlain line
    → uncolored_from false ((27 ∷ codes "[" ++ ((if s then codes "31" else if t then codes "32" else codes "1") ++ (codes "m" ++ (line ++ (27 ∷ codes "[m\n"))))) ++ rest)
    ≡ line ++ 10 ∷ uncolored_from false rest
off true t line rest plain = body line rest plain
off false true line rest plain = body line rest plain
off false false line rest plain = body line rest plain

all_off : (parts : List (List ℕ)) → AllPlain parts → uncolored_text (colored_lines parts) ≡ joined parts
all_off [] plain = refl
all_off (part ∷ parts) plain =
    let both = and_parts (list_all is_plain part) _ plain in
    off (list_any (begins_with_word part) (Changed ∷ Waiting ∷ Removed ∷ [])) (list_any (begins_with_word part) (NewStart ∷ Added ∷ [])) part (colored_lines parts) both.0
    ∙ ap (λ rest. part ++ 10 ∷ rest) (all_off parts both.1) ∙ sym (append_assoc part (10 ∷ []) (joined parts))

-- an answer in colours is the answer without its escape sequences
pub answer_back : (printed : Printed) (overlaps : Overlaps) (rows left : List DiffRow) → uncolored_text (colored_lines (lines (answer_text printed overlaps rows left))) ≡ answer_text printed overlaps rows left
answer_back printed overlaps rows left =
    let lined = answer_lined printed overlaps rows left in
    ap (λ text. uncolored_text (colored_lines (lines text))) lined.is ∙ ap (λ ls. uncolored_text (colored_lines ls)) (lines_again lined.parts lined.plain) ∙ all_off lined.parts lined.plain ∙ sym lined.is
