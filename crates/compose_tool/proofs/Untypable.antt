-- One write makes the line of a character that can't be typed, and one the line that counts them.
use Rattle.std.proofs.Common.{◌≡◌, ℕ, ◌+◌, ◌<◌, List, [], ◌∷◌, ◌++◌, ◌∙◌, sym, ap, append_assoc, true, get_or, take}
use Rattle.std.proofs.lemmas.Grind.{flat_map-append}
use Rattle.std.proofs.lemmas.List.{append-nil, take_more}
use Rattle.std.specs.Prelude.{length, codes, Result, Ok, Err, IfOk, string_bytes}
use Rattle.std.specs.Fmt.{decimal, digits}
use Rattle.keysym_core.specs.Printed.{at_least_four}
use Rattle.std.specs.declared.alloc.Global.{Global}
use Rattle.std.specs.declared.string.String.{String}
use Rattle.compose_model.specs.Certificate.{Repertoire}
use Rattle.compose_migration.specs.Migration.{Parts}
use Rattle.compose_make.specs.Least.{AreUntypable}
use Rattle.compose_tool.specs.Answers.{IsUntypableText, each_untypable, tables_words, untypable_line, untypable_lines, count_alone, count_of_both, untypable_count}

line_regrouped : (s word number tables : List ℕ) → s ++ (word ++ (number ++ (tables ++ 10 ∷ []))) ≡ s ++ (((word ++ number) ++ tables) ++ 10 ∷ [])
line_regrouped s word number tables = simp append_assoc

-- one write after what was printed adds the line of a character that can't be typed
pub reported : (old : List ℕ) (c : ℕ) (s h tables : List ℕ) → tables ≡ tables_words old c → h ≡ s
    ++ (codes "unreachable U+" ++ (at_least_four (digits 16 true c) ++ (tables ++ 10 ∷ []))) → h ≡ s ++ untypable_line old c
reported old c s h tables et e = rw et at (e ∙ line_regrouped s (codes "unreachable U+") (at_least_four (digits 16 true c)) tables)

-- one line more
pub more_lines : (old new : List ℕ) (i c : ℕ) (s a b : List ℕ) → i < length new → c ≡ get_or new i c → a ≡ s ++ each_untypable old (take i new) → b ≡ a ++ untypable_line old c
    → b ≡ s ++ each_untypable old (take (i + 1) new)
more_lines old new i c s a b h is ea eb =
    let taken : take (i + 1) new ≡ take i new ++ c ∷ [] = take_more new i c h ∙ ap (λ x. take i new ++ x ∷ []) (sym is) in
    let more : each_untypable old (take (i + 1) new) ≡ each_untypable old (take i new) ++ untypable_line old c =
    ap (each_untypable old) taken ∙ flat_map-append (untypable_line old) (take i new) (c ∷ []) ∙ ap (λ x. each_untypable old (take i new) ++ x) (append-nil (untypable_line old c)) in
    eb ∙ ap (λ x. x ++ untypable_line old c) ea ∙ append_assoc s (each_untypable old (take i new)) (untypable_line old c) ∙ ap (λ x. s ++ x) (sym more)

count_regrouped : (s n a b first second third : List ℕ) → s ++ (n ++ (first ++ (a ++ (second ++ (b ++ (third ++ 10 ∷ [])))))) ≡ s ++ ((((((n ++ first) ++ a) ++ second) ++ b) ++ third) ++ 10 ∷ [])
count_regrouped s n a b first second third = simp append_assoc

-- one write after what was printed adds the line that counts the characters that can't be typed
pub counted : (old new s h : List ℕ) (alone both : ℕ) → alone ≡ count_alone old new → both ≡ count_of_both old new
    → h ≡ s ++ (decimal (length new) ++ (codes " unreachable: " ++ (decimal alone ++ (codes " in the new table alone, " ++ (decimal both ++ (codes " in both tables" ++ 10 ∷ []))))))
    → h ≡ s ++ untypable_count old new
counted old new s h alone both ea eb e =
    rw (ea, eb) at (e ∙ count_regrouped s (decimal (length new)) (decimal alone) (decimal both) (codes " unreachable: ") (codes " in the new table alone, ") (codes " in both tables"))

-- all lines
pub all_reported : {E : Type 0} (move : Parts) (repertoire : Repertoire) (old new before after : List ℕ) (r : Result (String Global) E) → AreUntypable move.names move.old repertoire old
    → AreUntypable move.names move.new repertoire new
    → before ≡ old → after ≡ new → IfOk r (λ text. string_bytes text ≡ untypable_lines before after) → IfOk r (λ text. IsUntypableText move repertoire (string_bytes text))
all_reported move repertoire old new before after (Ok text) o n same_old same_new h = record { old = old; are_old = o; new = new; are_new = n; is = rw (same_old, same_new) at h }
all_reported move repertoire old new before after (Err fault) o n same_old same_new h = tt
