-- The places of texts that are not in normal form C, when a line is added; and that these texts are
-- those that look like a text in normal form.
use Rattle.std.proofs.Common.{◌≡◌, ◌∙◌, ℕ, ◌+◌, ◌<◌, List, [], ◌∷◌, ◌++◌, Bool, true, false, not, cond, ◌&&◌, length, take, get_or, refl, sym, ap, ap₂}
use Rattle.std.specs.Prelude.{Option, Some, None, bytes_eq, is_some}
use Rattle.std.specs.List.{find}
use Rattle.std.specs.Option.{option_map, option_map_or, option_or}
use Rattle.std.proofs.lemmas.List.{append-nil, take_more}
use Rattle.std.proofs.lemmas.List.Folds.{find-append}
use Rattle.std.proofs.lemmas.Slice.Eq.{bytes_eq-Decides}
use Rattle.compose_model.specs.Table.{Definition}
use Rattle.compose_lint.specs.Texts.{normal_form, is_normal}
use Rattle.compose_lint.specs.Lines.{LintLine, SourceLines, all_lines}
use Rattle.compose_lint.specs.Longer.{place_of}
use Rattle.compose_lint.specs.Alike.{are_alike, has_alike, alike_place, has_own_form, form_place}
use Rattle.compose_lint.specs.Findings.{form_of}
use Rattle.compose_lint.specs.declared.finding.LinePlace.{LinePlace}
use Rattle.compose_lint.specs.declared.finding.FindingKind.{FindingKind}
use Rattle.compose_lint.specs.declared.finding.FindingKind.TheVariants.{Alike, Form}
use Rattle.compose_lint.proofs.PrefixOnes.{map_or, lines_more}
use Rattle.compose_lint.proofs.Among.{turned}

-- ---- several lines

-- among several lines, earlier ones go first
pub form_of_both : (xs ys : List LintLine) (q : List ℕ) → form_place (xs ++ ys) q ≡ option_or (form_place xs q) (form_place ys q)
form_of_both xs ys q = ap (option_map place_of) (find-append (has_own_form q) xs ys) ∙ map_or (find (has_own_form q) xs) (find (has_own_form q) ys)

or_assoc : (a b c : Option LinePlace) → option_or (option_or a b) c ≡ option_or a (option_or b c)
or_assoc None b c = refl
or_assoc (Some a) b c = refl

pub line_added : (lines : List LintLine) (i : ℕ) (d : LintLine) (q : List ℕ) (after before old : Option LinePlace) → i < length lines
    → after ≡ option_or before (form_place (get_or lines i d ∷ []) q) → before ≡ option_or old (form_place (take i lines) q)
    → after ≡ option_or old (form_place (take (i + 1) lines) q)
line_added lines i d q after before old within put so_far =
    put ∙ ap (λ o. option_or o (form_place (get_or lines i d ∷ []) q)) so_far
    ∙ or_assoc old (form_place (take i lines) q) (form_place (get_or lines i d ∷ []) q)
    ∙ ap (option_or old) (sym (ap (λ ls. form_place ls q) (take_more lines i d within) ∙ form_of_both (take i lines) (get_or lines i d ∷ []) q))

pub file_added : (files : List SourceLines) (i : ℕ) (d : SourceLines) (q : List ℕ) (after before : Option LinePlace) → i < length files
    → after ≡ option_or before (form_place (get_or files i d).lines q) → before ≡ form_place (all_lines (take i files)) q
    → after ≡ form_place (all_lines (take (i + 1) files)) q
file_added files i d q after before within put so_far =
    put ∙ ap (λ o. option_or o (form_place (get_or files i d).lines q)) so_far
    ∙ sym (ap (λ ls. form_place ls q) (lines_more files i d within) ∙ form_of_both (all_lines (take i files)) (get_or files i d).lines q)

-- ---- another text

or_none : (o : Option LinePlace) → o ≡ option_or o None
or_none None = refl
or_none (Some x) = refl

is_none : (o : Option LinePlace) → is_some o ≡ false → o ≡ None
is_none None e = refl
is_none (Some x) e = cc

is_there : (o other : Option LinePlace) → is_some o ≡ true → o ≡ option_or o other
is_there None other e = cc
is_there (Some x) other e = refl

-- added if the form has no place
pub put_first : (f : List ℕ → Option LinePlace) (form q : List ℕ) (place : LinePlace) → is_some (f form) ≡ false
    → cond (bytes_eq form q) (Some place) (f q) ≡ option_or (f q) (cond (bytes_eq form q) (Some place) None)
put_first f form q place none = by (bytes_eq form q) refl
  where
    by : (b : Bool) → bytes_eq form q ≡ b → cond b (Some place) (f q) ≡ option_or (f q) (cond b (Some place) None)
    by true e = sym (ap (λ o. option_or o (Some place)) (is_none (f q) (ap (λ s. is_some (f s)) (sym ((bytes_eq-Decides form q).0 e)) ∙ none)))
    by false e = or_none (f q)

-- not added if the form has a place
pub kept_first : (f : List ℕ → Option LinePlace) (form q : List ℕ) (place : LinePlace) → is_some (f form) ≡ true
    → f q ≡ option_or (f q) (cond (bytes_eq form q) (Some place) None)
kept_first f form q place there = by (bytes_eq form q) refl
  where
    by : (b : Bool) → bytes_eq form q ≡ b → f q ≡ option_or (f q) (cond b (Some place) None)
    by true e = is_there (f q) (Some place) (ap (λ s. is_some (f s)) (sym ((bytes_eq-Decides form q).0 e)) ∙ there)
    by false e = or_none (f q)

-- a line without a definition, and one whose text is in normal form, have no place
pub none_given : (l : LintLine) (q : List ℕ) (old : Option LinePlace) → l.definition ≡ None → old ≡ option_or old (form_place (l ∷ []) q)
none_given l q old none =
    or_none old
    ∙ sym (ap (λ (o : Option Definition). option_or old (option_map place_of (cond (option_map_or (λ d. not (is_normal d.text) && bytes_eq (normal_form d.text) q) o false) (Some l) None))) none)

pub normal_given : (l : LintLine) (d : Definition) (q : List ℕ) (old : Option LinePlace) → l.definition ≡ Some d → is_normal d.text ≡ true → old ≡ option_or old (form_place (l ∷ []) q)
normal_given l d q old given normal =
    or_none old
    ∙ sym (ap (λ (o : Option Definition). option_or old (option_map place_of (cond (option_map_or (λ d. not (is_normal d.text) && bytes_eq (normal_form d.text) q) o false) (Some l) None))) given
    ∙ ap (λ b. option_or old (option_map place_of (cond (not b && bytes_eq (normal_form d.text) q) (Some l) None))) normal)

-- another line has the place of its own form
pub form_given : (l : LintLine) (d : Definition) (q form : List ℕ) (old : Option LinePlace) → l.definition ≡ Some d → is_normal d.text ≡ false → form ≡ normal_form d.text
    → option_or old (cond (bytes_eq form q) (Some (place_of l)) None) ≡ option_or old (form_place (l ∷ []) q)
form_given l d q form old given other is =
    ap (λ f. option_or old (cond (bytes_eq f q) (Some (place_of l)) None)) is
    ∙ by (bytes_eq (normal_form d.text) q)
    ∙ sym (ap (λ (o : Option Definition). option_or old (option_map place_of (cond (option_map_or (λ d. not (is_normal d.text) && bytes_eq (normal_form d.text) q) o false) (Some l) None))) given
    ∙ ap (λ b. option_or old (option_map place_of (cond (not b && bytes_eq (normal_form d.text) q) (Some l) None))) other)
  where
    by : (b : Bool) → option_or old (cond b (Some (place_of l)) None) ≡ option_or old (option_map place_of (cond b (Some l) None))
    by true = refl
    by false = refl

-- ---- a text in normal form

module _ (text : List ℕ) (normal : is_normal text ≡ true) where
  is_own : normal_form text ≡ text
  is_own = (bytes_eq-Decides (normal_form text) text).0 normal

  same_text : (t : List ℕ) → (not (is_normal t) && bytes_eq (normal_form t) text) ≡ are_alike text t
  same_text t = by (bytes_eq (normal_form t) text) refl
    where
      by : (b : Bool) → bytes_eq (normal_form t) text ≡ b → (not (is_normal t) && bytes_eq (normal_form t) text) ≡ are_alike text t
      by true e =
          let is = (bytes_eq-Decides (normal_form t) text).0 e in
          ap₂ (λ n b. not (bytes_eq n t) && b) is e
          ∙ both (bytes_eq text t)
          ∙ ap (λ b. b && not (bytes_eq text t)) (sym (ap (λ n. bytes_eq n (normal_form t)) is_own ∙ turned text (normal_form t) ∙ e))
        where
          both : (b : Bool) → (not b && true) ≡ (true && not b)
          both true = refl
          both false = refl
      by false e =
          ap (λ b. not (is_normal t) && b) e
          ∙ none (not (is_normal t))
          ∙ ap (λ b. b && not (bytes_eq text t)) (sym (ap (λ n. bytes_eq n (normal_form t)) is_own ∙ turned text (normal_form t) ∙ e))
        where
          none : (b : Bool) → (b && false) ≡ false
          none true = refl
          none false = refl

  same_line : (l : LintLine) → has_own_form text l ≡ has_alike text l
  same_line l = by l.definition
    where
      by : (o : Option Definition) → option_map_or (λ d. not (is_normal d.text) && bytes_eq (normal_form d.text) text) o false ≡ option_map_or (λ d. are_alike text d.text) o false
      by None = refl
      by (Some d) = same_text d.text

  same_find : (lines : List LintLine) → find (has_own_form text) lines ≡ find (has_alike text) lines
  same_find [] = refl
  same_find (l ∷ lines) = ap₂ (λ b o. cond b (Some l) o) (same_line l) (same_find lines)

  -- the texts that are not in normal form C and have this one as their normal form are those that
  -- look like it
  pub same_place : (lines : List LintLine) → form_place lines text ≡ alike_place lines text
  same_place lines = ap (option_map place_of) (same_find lines)

-- the findings about the form of a text, by the places of normal forms
pub form_findings : (all : List LintLine) (text : List ℕ) → form_of all text ≡ cond (is_normal text) (option_map_or (λ place. Alike place ∷ []) (form_place all text) []) (Form ∷ [])
form_findings all text = by (is_normal text) refl
  where
    by : (b : Bool) → is_normal text ≡ b
        → cond b (option_map_or (λ place. Alike place ∷ []) (alike_place all text) []) (Form ∷ []) ≡ cond b (option_map_or (λ place. Alike place ∷ []) (form_place all text) []) (Form ∷ [])
    by true e = ap (λ o. option_map_or (λ place. Alike place ∷ []) o []) (sym (same_place text e all))
    by false e = refl

pub found_alike : (all : List LintLine) (text : List ℕ) (place : LinePlace) (kinds : List FindingKind) → is_normal text ≡ true → Some place ≡ form_place all text → kinds ++ Alike place ∷ [] ≡ kinds ++ form_of all text
found_alike all text place kinds normal at =
    ap (λ ks. kinds ++ ks)
    (sym (form_findings all text
    ∙ ap (λ b. cond b (option_map_or (λ place. Alike place ∷ []) (form_place all text) []) (Form ∷ [])) normal
    ∙ ap (λ o. option_map_or (λ place. Alike place ∷ []) o []) (sym at)))

pub none_alike : (all : List LintLine) (text : List ℕ) (kinds : List FindingKind) → is_normal text ≡ true → None ≡ form_place all text → kinds ≡ kinds ++ form_of all text
none_alike all text kinds normal at =
    sym (ap (λ ks. kinds ++ ks)
    (form_findings all text
    ∙ ap (λ b. cond b (option_map_or (λ place. Alike place ∷ []) (form_place all text) []) (Form ∷ [])) normal
    ∙ ap (λ o. option_map_or (λ place. Alike place ∷ []) o []) (sym at))
    ∙ append-nil kinds)
