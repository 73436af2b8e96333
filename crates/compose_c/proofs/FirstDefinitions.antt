-- The first definitions of a table, one more after another.
use Rattle.std.proofs.Common.{◌≡◌, ℕ, ◌+◌, ◌<◌, List, [], ◌∷◌, ◌++◌, true, length, map, refl, sym, ◌∙◌, ap, subst, arith, append_assoc, length-append}
use Rattle.std.specs.Prelude.{Some, slice_get}
use Rattle.std.specs.List.{list_all}
use Rattle.std.proofs.lemmas.Bool.{and_parts}
use Rattle.std.proofs.lemmas.List.{append-nil, length-map}
use Rattle.compose_model.specs.Table.{Definition, is_definition, is_table}
use Rattle.compose_tree.specs.Packed.{texts_of}
use Rattle.compose_c.specs.Arrays.{AreFirst}

-- at first there are none
pub none_first : (table : List Definition) → AreFirst table [] (map (λ d. d.sequence) table)
none_first table = record { rest = table; joined = refl; sequences = refl }

-- if no other is left, they are the table
pub all_first : (table ds : List Definition) → AreFirst table ds [] → ds ≡ table
all_first table ds first = go first.rest first.joined first.sequences
  where
    go : (rest : List Definition) → table ≡ ds ++ rest → map (λ d. d.sequence) rest ≡ [] → ds ≡ table
    go [] e h = sym (e ∙ append-nil ds)
    go (d ∷ rest) e h = cc

-- as many are added as there are fewer others
pub added_count : (table before after : List Definition) (xs others : List (List ℕ)) → AreFirst table before (xs ++ others) → AreFirst table after others → length after ≡ length before + length xs
added_count table before after xs others first last =
    let n = ap length first.joined ∙ length-append before first.rest in
    let m = ap length last.joined ∙ length-append after last.rest in
    let a = sym (length-map first.rest (λ (d : Definition). d.sequence)) ∙ ap length first.sequences ∙ length-append xs others in
    let b = sym (length-map last.rest (λ (d : Definition). d.sequence)) ∙ ap length last.sequences in
    omega (arith, n, m, a, b)

-- ---- the next one

text_behind : (ds rest : List Definition) (d : Definition) → slice_get (texts_of (ds ++ d ∷ rest)) (length ds) ≡ Some d.text
text_behind [] rest d = refl
text_behind (c ∷ ds) rest d = text_behind ds rest d

sound_behind : (ds rest : List Definition) (d : Definition) → is_table (ds ++ d ∷ rest) ≡ true → is_definition d ≡ true
sound_behind [] rest d h = (and_parts (is_definition d) (is_table rest) h).0
sound_behind (c ∷ ds) rest d h = sound_behind ds rest d (and_parts (is_definition c) (is_table (ds ++ d ∷ rest)) h).1

-- there is one more
pub one_left : (table ds : List Definition) (q : List ℕ) (others : List (List ℕ)) → AreFirst table ds (q ∷ others) → length ds < length table
one_left table ds q others first =
    let n = ap length first.joined ∙ length-append ds first.rest in
    let a = sym (length-map first.rest (λ (d : Definition). d.sequence)) ∙ ap length first.sequences in
    omega (arith, n, a)

-- the definition of the next sequence and its text
pub record IsNext (table ds : List Definition) (d : Definition) (others : List (List ℕ)) : Type 0 where
  pub sound : is_table table ≡ true → is_definition d ≡ true
  pub first : AreFirst table (ds ++ d ∷ []) others

pub next : (table ds : List Definition) (q t : List ℕ) (others : List (List ℕ)) → AreFirst table ds (q ∷ others) → slice_get (texts_of table) (length ds) ≡ Some t
    → IsNext table ds (record { sequence = q; text = t }) others
next table ds q t others first text = go first.rest first.joined first.sequences
  where
    go : (rest : List Definition) → table ≡ ds ++ rest → map (λ d. d.sequence) rest ≡ q ∷ others → IsNext table ds (record { sequence = q; text = t }) others
    go [] e h = cc
    go (d ∷ rest) e h =
        let key : d.sequence ≡ q = cc in
        let left : map (λ (x : Definition). x.sequence) rest ≡ others = cc in
        let found : Some d.text ≡ Some t = sym (text_behind ds rest d) ∙ ap (λ x. slice_get (texts_of x) (length ds)) (sym e) ∙ text in
        let said : d.text ≡ t = cc in
        let is : d ≡ record { sequence = q; text = t } = λ i. record { sequence = key i; text = said i } in
        record {
          sound = λ h. ap is_definition (sym is) ∙ sound_behind ds rest d (ap is_table (sym e) ∙ h);
          first = record {
            rest = rest;
            joined = e ∙ sym (append_assoc ds (d ∷ []) rest) ∙ ap (λ x. (ds ++ x ∷ []) ++ rest) is;
            sequences = left;
          };
        }
