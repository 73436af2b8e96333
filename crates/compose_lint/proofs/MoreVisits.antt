-- The lines of other sources among the visited ones, when a line is visited.
use Rattle.std.proofs.Common.{◌≡◌, ℕ, suc, length, List, [], ◌∷◌, ◌++◌, Bool, true, false, cond, map, take, sym, ◌∙◌, ap, ap₂, append_assoc}
use Rattle.std.specs.Prelude.{filter, nat_lt, Option, Some, None}
use Rattle.std.specs.Option.{option_map, option_map_or}
use Rattle.std.proofs.lemmas.Option.{same_Some}
use Rattle.compose_read.specs.Lines.{Source, Visit, source_named, visits}
use Rattle.compose_read.specs.Read.{max_lines}
use Rattle.std.proofs.lemmas.List.{append-nil}

module _ {X Y : Type 0} (test : X → Bool) (view : X → Y) (found whole : List Y) (left : List X) (n : ℕ) (before : found ++ map view (filter test (take n left)) ≡ whole) where
  -- if no line is left, or no more are to be read
  pub all_found : map view (filter test (take n left)) ≡ [] → found ≡ whole
  all_found h = sym (append-nil found) ∙ ap (λ ys. found ++ ys) (sym h) ∙ before

  module _ (v : X) (others : List X) (m : ℕ) (is : left ≡ v ∷ others) (one : n ≡ suc m) where
    opened : found ++ map view (cond (test v) (v ∷ filter test (take m others)) (filter test (take m others))) ≡ whole
    opened = sym (ap₂ (λ k xs. found ++ map view (filter test (take k xs))) one is) ∙ before

    -- after a line that does not pass, the lines found so far and those still to come are the whole
    pub nothing_more : test v ≡ false → found ++ map view (filter test (take m others)) ≡ whole
    nothing_more h = ap (λ b. found ++ map view (cond b (v ∷ filter test (take m others)) (filter test (take m others)))) (sym h) ∙ opened

    -- after a line that passes and is added, the lines found so far and those still to come are the
    -- whole
    pub one_more : test v ≡ true → (after : List Y) → after ≡ found ++ view v ∷ [] → after ++ map view (filter test (take m others)) ≡ whole
    one_more h after pushed =
        ap (λ ys. ys ++ map view (filter test (take m others))) pushed ∙ append_assoc found (view v ∷ []) (map view (filter test (take m others)))
        ∙ ap (λ b. found ++ map view (cond b (v ∷ filter test (take m others)) (filter test (take m others)))) (sym h) ∙ opened

-- the lines that are read from a source are those that are visited from the source of its name
pub read_is : (sources : List Source) (g : Option Source) (name : List ℕ) (vs : List Visit) → Some name ≡ option_map (λ (s : Source). s.name) g
    → Some vs ≡ cond (nat_lt (source_named sources name) (length sources)) (Some (visits sources (source_named sources name))) None
    → option_map_or (λ (s : Source). cond (nat_lt (source_named sources s.name) (length sources)) (take max_lines (visits sources (source_named sources s.name))) []) g [] ≡ take max_lines vs
read_is sources None name vs is visited = absurd (let h : Some name ≡ None = is in cc)
read_is sources (Some s) name vs is visited =
    ap (λ n. cond (nat_lt (source_named sources n) (length sources)) (take max_lines (visits sources (source_named sources n))) []) (sym (same_Some name s.name is))
    ∙ by (nat_lt (source_named sources name) (length sources)) visited
  where
    by : (b : Bool) → Some vs ≡ cond b (Some (visits sources (source_named sources name))) None → cond b (take max_lines (visits sources (source_named sources name))) [] ≡ take max_lines vs
    by true e = ap (take max_lines) (sym (same_Some vs (visits sources (source_named sources name)) e))
    by false e = absurd (let h : Some vs ≡ None = e in cc)
