-- The last line that defines a sequence, when a line is added.
use Rattle.std.proofs.Common.{◌≡◌, ◌∙◌, ℕ, ◌+◌, ◌<◌, List, [], ◌∷◌, Bool, true, false, cond, length, take, get_or, reverse, refl, sym, ap, ◌≤◌, arith}
use Rattle.std.specs.Prelude.{Option, Some, None, nat_lt, bytes_eq, slice_get}
use Rattle.std.specs.List.{find}
use Rattle.std.specs.Option.{option_map_or, option_and_then}
use Rattle.std.proofs.lemmas.Option.{slice_get-get_or, slice_get_within}
use Rattle.std.proofs.lemmas.Bool.{ltb-true, ltb-false}
use Rattle.std.proofs.lemmas.Slice.Eq.{bytes_eq-Decides}
use Rattle.std.proofs.lemmas.List.{take_more, reverse-append}
use Rattle.compose_model.specs.Table.{Definition}
use Rattle.compose_lint.specs.Lines.{LintLine}
use Rattle.compose_lint.specs.Counting.{defines, last_defining, IsOnce}
use Rattle.compose_lint.specs.Findings.{beside, has_own_text, defined_again}
use Rattle.compose_lint.specs.declared.finding.FindingKind.TheVariants.{Overridden, Repeated}

-- another line: it is the last one if it defines the sequence
pub one_more : (lines : List LintLine) (i : ℕ) (d : LintLine) (s : List ℕ) → i < length lines
    → last_defining (take (i + 1) lines) s ≡ cond (defines s (get_or lines i d)) (Some (get_or lines i d)) (last_defining (take i lines) s)
one_more lines i d s within = ap (λ ls. find (defines s) (reverse ls)) (take_more lines i d within) ∙ ap (find (defines s)) (reverse-append (take i lines) (get_or lines i d ∷ []))

-- a line without a definition is not the last one
pub no_more : (lines : List LintLine) (i : ℕ) (d : LintLine) (s : List ℕ) → i < length lines → (get_or lines i d).definition ≡ None
    → last_defining (take i lines) s ≡ last_defining (take (i + 1) lines) s
no_more lines i d s within none =
    sym (one_more lines i d s within ∙ ap (λ (o : Option Definition). cond (option_map_or (λ e. bytes_eq e.sequence s) o false) (Some (get_or lines i d)) (last_defining (take i lines) s)) none)

-- a line that defines the key's sequence is inserted
pub added : (lines : List LintLine) (i : ℕ) (d : LintLine) (s key : List ℕ) (e : Definition) (old : Option ℕ) → i < length lines → (get_or lines i d).definition ≡ Some e → e.sequence ≡ key
    → option_and_then (slice_get lines) old ≡ last_defining (take i lines) s
    → option_and_then (slice_get lines) (cond (bytes_eq key s) (Some i) old) ≡ last_defining (take (i + 1) lines) s
added lines i d s key e old within given same before =
    by (bytes_eq key s)
    ∙ sym (one_more lines i d s within ∙ ap (λ (o : Option Definition). cond (option_map_or (λ e. bytes_eq e.sequence s) o false) (Some (get_or lines i d)) (last_defining (take i lines) s)) given
    ∙ ap (λ k. cond (bytes_eq k s) (Some (get_or lines i d)) (last_defining (take i lines) s)) same)
  where
    by : (b : Bool) → option_and_then (slice_get lines) (cond b (Some i) old) ≡ cond b (Some (get_or lines i d)) (last_defining (take i lines) s)
    by true = slice_get-get_or lines i d within
    by false = before

-- ---- no line defines a sequence again

-- each of the first lines is the last one of them that defines its sequence
abbrev pub IsOnceIn : List LintLine → ℕ → (List ℕ → Option ℕ) → Type 0
IsOnceIn lines n last = (i : ℕ) (m : LintLine) (d : Definition) → i < n → slice_get lines i ≡ Some m → m.definition ≡ Some d → last d.sequence ≡ Some i

module _ (lines : List LintLine) (index : ℕ) (x : LintLine) (within : index < length lines) (is : x ≡ get_or lines index x) where
  at_index : (i : ℕ) (m : LintLine) → i ≡ index → slice_get lines i ≡ Some m → x ≡ m
  at_index i m same at = let h : Some x ≡ Some m = ap Some is ∙ sym (slice_get-get_or lines index x within) ∙ ap (slice_get lines) (sym same) ∙ at in cc

  -- a line without a definition
  pub once_without : (last : List ℕ → Option ℕ) → x.definition ≡ None → IsOnceIn lines index last → IsOnceIn lines (index + 1) last
  once_without last none before = λ i m d below at given. by i m d below at given (nat_lt i index) refl
    where
      by : (i : ℕ) (m : LintLine) (d : Definition) → i < index + 1 → slice_get lines i ≡ Some m → m.definition ≡ Some d → (b : Bool) → nat_lt i index ≡ b → last d.sequence ≡ Some i
      by i m d below at given true e = before i m d (ltb-true i index e) at given
      by i m d below at given false e =
          let more = ltb-false i index e in
          let h : None ≡ Some d = sym none ∙ ap (λ (l : LintLine). l.definition) (at_index i m (omega (arith, more, below)) at) ∙ given in cc

  -- a line that defines another sequence than those before it
  pub once_with : (old last : List ℕ → Option ℕ) (e : Definition) (key : List ℕ) → x.definition ≡ Some e → e.sequence ≡ key → ((q : List ℕ) → last q ≡ cond (bytes_eq key q) (Some index) (old q)) → old key ≡ None
      → IsOnceIn lines index old → IsOnceIn lines (index + 1) last
  once_with old last e key given_e of put absent before = λ i m d below at given. by i m d below at given (nat_lt i index) refl
    where
      other : (d : Definition) (i : ℕ) (b : Bool) → bytes_eq key d.sequence ≡ b → old d.sequence ≡ Some i → cond b (Some index) (old d.sequence) ≡ Some i
      other d i true t was = let h : None ≡ Some i = sym absent ∙ ap old ((bytes_eq-Decides key d.sequence).0 t) ∙ was in cc
      other d i false t was = was

      by : (i : ℕ) (m : LintLine) (d : Definition) → i < index + 1 → slice_get lines i ≡ Some m → m.definition ≡ Some d → (b : Bool) → nat_lt i index ≡ b → last d.sequence ≡ Some i
      by i m d below at given true t = put d.sequence ∙ other d i (bytes_eq key d.sequence) refl (before i m d (ltb-true i index t) at given)
      by i m d below at given false t =
          let more = ltb-false i index t in let same : i ≡ index = omega (arith, more, below) in
          let h : Some e ≡ Some d = sym given_e ∙ ap (λ (l : LintLine). l.definition) (at_index i m same at) ∙ given in
          let j : e ≡ d = cc in
          put d.sequence ∙ ap (λ b. cond b (Some index) (old d.sequence)) ((bytes_eq-Decides key d.sequence).1 (sym of ∙ ap (λ (f : Definition). f.sequence) j)) ∙ ap Some (sym same)

-- of all lines
pub once_in_all : (lines : List LintLine) (n : ℕ) (last : List ℕ → Option ℕ) → length lines ≤ n → ((q : List ℕ) → option_and_then (slice_get lines) (last q) ≡ last_defining lines q) → IsOnceIn lines n last → IsOnce lines
once_in_all lines n last all found once = λ i l d at given. sym (found d.sequence) ∙ ap (option_and_then (slice_get lines)) (once i l d (let h = slice_get_within lines i l at in omega (arith, h, all)) at given) ∙ at

-- ---- the line that counts is the line itself

pub not_again : (lines : List LintLine) (l : LintLine) (d : Definition) → last_defining lines d.sequence ≡ Some l → defined_again lines l d ≡ []
not_again lines l d is =
    let least : nat_lt l.line l.line ≡ false = grind arith in
    ap (λ o. option_map_or (beside l d) o []) is ∙ ap (λ b. cond b ((cond (has_own_text d.text l) (Repeated l.line) (Overridden l.line)) ∷ []) []) least
