-- Files of names that were read.
use Rattle.std.proofs.Common.{◌≡◌, ◌∙◌, ◌<◌, ◌+◌, ap, sym, subst, ℕ, List, [], ◌∷◌, ◌++◌, map, take, length, get_or, Bor, arith}
use Rattle.std.specs.Prelude.{Option}
use Rattle.std.proofs.lemmas.List.{map-append, flat_map_more, take_more}
use Rattle.std.proofs.lemmas.List.Elements.{All-append, All-cons}
use Rattle.compose_folder.specs.Content.{Entry}
use Rattle.compose_input.specs.Headers.{ended}
use Rattle.compose_input.specs.Names.{NamedText, IsNamedText, AreNames, AddsNames, header_of}
use Rattle.compose_input.specs.declared.names.NameFiles.{NameFiles}

no_less : (k : ℕ) → k < 0 → ⊥
no_less k h = omega (arith, h)

-- one more file of names
pub names_more : (folder : Option (List Entry)) (names : List (List ℕ)) (old new : NameFiles) (n : NamedText) → AreNames folder names old → IsNamedText folder n → AddsNames n old new
    → AreNames folder (names ++ n.name ∷ []) new
names_more folder names old new n are is adds = record {
  texts = are.texts ++ n ∷ [];
  named = map-append (λ (m : NamedText). m.name) are.texts (n ∷ []) ∙ ap (λ l. l ++ n.name ∷ []) are.named;
  held = All-append (IsNamedText folder) are.texts (n ∷ []) are.held (All-cons (IsNamedText folder) n [] is (λ k d within. absurd (no_less k within)));
  lines = adds.lines ∙ ap (λ l. l ++ ended n.text) are.lines ∙ flat_map_more (λ (m : NamedText). ended m.text) [] are.texts n;
  files = adds.files ∙ ap (λ l. l ++ header_of n ∷ []) are.files ∙ sym (map-append header_of are.texts (n ∷ []));
}

abbrev pub now_of : Bor (List ℕ) → List ℕ
now_of b = b.now

-- the step of the loop over names that were given as references
pub names_step : (folder : Option (List Entry)) (names : List (Bor (List ℕ))) (i : ℕ) (d : Bor (List ℕ)) (old new : NameFiles) (text copy : List ℕ) → i < length names
    → AreNames folder (map now_of (take i names)) old → IsNamedText folder (record { name = (get_or names i d).now; text = text })
    → AddsNames (record { name = (get_or names i d).now; text = copy }) old new → copy ≡ text → AreNames folder (map now_of (take (i + 1) names)) new
names_step folder names i d old new text copy within are is adds same =
    let x = get_or names i d in
    let more : map now_of (take (i + 1) names) ≡ map now_of (take i names) ++ x.now ∷ [] = ap (map now_of) (take_more names i d within) ∙ map-append now_of (take i names) (x ∷ []) in
    subst (λ l. AreNames folder l new) (sym more)
    (names_more folder (map now_of (take i names)) old new (record { name = x.now; text = text }) are is (subst (λ t. AddsNames (record { name = x.now; text = t }) old new) same adds))
