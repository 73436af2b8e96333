-- One push after another makes the four lines, and one write the line that counts.
use Rattle.std.proofs.Common.{◌≡◌, ℕ, List, [], ◌∷◌, ◌++◌, ◌∙◌, ap, append_assoc}
use Rattle.std.specs.Prelude.{length, codes}
use Rattle.std.specs.Fmt.{decimal}
use Rattle.keysym_core.specs.Names.{KeysymNames}
use Rattle.compose_lex.specs.Escape.{quote}
use Rattle.compose_model.specs.Follows.{cancelled, text_differs, waiting}
use Rattle.compose_walk.specs.Evidence.{Evidence}
use Rattle.compose_walk.specs.Explained.{keys_line, kind_word, line, explained, count_of, count_word, count_line}

regrouped : (s keys word old new : List ℕ)
    → (((((((s ++ keys) ++ 10 ∷ codes "kind ") ++ word) ++ 10 ∷ codes "old ") ++ old) ++ 10 ∷ codes "new ") ++ new) ++ 10 ∷ []
    ≡ s ++ (((line keys ++ line (codes "kind " ++ word)) ++ line (codes "old " ++ old)) ++ line (codes "new " ++ new))
regrouped s keys word old new = simp append_assoc

-- what is pushed for a piece of evidence, part by part, is its four lines after what was there
pub four_lines : (names : KeysymNames) (x : Evidence) (s a b c d e f g h word old new : List ℕ) → a ≡ s
    ++ keys_line names x.keys → b ≡ a ++ 10 ∷ codes "kind " → c ≡ b ++ word → word ≡ kind_word x.kind → d ≡ c ++ 10 ∷ codes "old "
    → e ≡ d ++ quote old → old ≡ x.old_text → f ≡ e ++ 10 ∷ codes "new " → g ≡ f ++ quote new → new ≡ x.new_text → h ≡ g ++ 10 ∷ [] → h ≡ s ++ explained names x
four_lines names x s a b c d e f g h word old new ea eb ec ew ed ee eo ef eg en eh =
    eh ∙ ap (λ y. y ++ 10 ∷ []) (eg ∙ ap (λ y. f ++ quote y) en
    ∙ ap (λ y. y ++ quote x.new_text) (ef ∙ ap (λ y. y ++ 10 ∷ codes "new ") (ee ∙ ap (λ y. d ++ quote y) eo ∙ ap (λ y. y ++ quote x.old_text)
    (ed ∙ ap (λ y. y ++ 10 ∷ codes "old ") (ec ∙ ap (λ y. b ++ y) ew ∙ ap (λ y. y ++ kind_word x.kind) (eb ∙ ap (λ y. y ++ 10 ∷ codes "kind ") ea))))))
    ∙ regrouped s (keys_line names x.keys) (kind_word x.kind) (quote x.old_text) (quote x.new_text)

words_regrouped : (s n word t c w blank first second third fourth fifth : List ℕ)
    → s ++ (n ++ (blank ++ (word ++ (first ++ (t ++ (second ++ (third ++ (c ++ (fourth ++ (third ++ (w ++ (fifth ++ 10 ∷ []))))))))))))
    ≡ s ++ line ((((((n ++ (blank ++ word)) ++ first) ++ (t ++ second)) ++ third) ++ (c ++ fourth)) ++ third ++ (w ++ fifth))
words_regrouped s n word t c w blank first second third fourth fifth = simp append_assoc

-- the line that counts
pub counts : (xs : List Evidence) (s h : List ℕ) (word : List ℕ) (t c w : ℕ) → word ≡ count_word (length xs) → t ≡ count_of text_differs xs → c ≡ count_of cancelled xs → w ≡ count_of waiting xs
    → h ≡ s ++ (decimal (length xs) ++ 32 ∷ (word ++ (codes ": " ++ (decimal t ++ (codes " text, " ++ (decimal c ++ (codes " cancelled, " ++ (decimal w ++ (codes " waiting" ++ 10 ∷ [])))))))))
    → h ≡ s ++ count_line xs
counts xs s h word t c w ew et ec ecw e =
    rw (ew, et, ec, ecw) at (e ∙ words_regrouped s (decimal (length xs)) word (decimal t) (decimal c)
    (decimal w) (32 ∷ []) (codes ": ") (codes " text") (codes ", ") (codes " cancelled") (codes " waiting"))
