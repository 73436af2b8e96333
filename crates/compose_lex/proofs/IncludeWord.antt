-- The name at the beginning of a line is the word `include` exactly if the line begins with that
-- word.
use Rattle.std.proofs.Common.{◌≡◌, ◌≢◌, ℕ, List, [], ◌∷◌, ◌++◌, drop, Bool, true, false, cond, not, refl, sym, ◌∙◌, ap}
use Rattle.std.specs.Prelude.{nat_eq, codes}
use Rattle.std.specs.List.{starts_with}
use Rattle.std.proofs.lemmas.Bool.{and_parts, not-true}
use Rattle.compose_text.specs.Bytes.{is_name_byte, leading, behind, begins}
use Rattle.compose_lex.specs.Fault.{is_include}
use Rattle.compose_lex.proofs.Runs.{parts_of, prefix_all}
use Rattle.compose_lex.proofs.LineSound.{starts_is}

-- what follows a run of bytes that pass a test does not begin with one that passes
pub after_stops : (p : ℕ → Bool) (xs : List ℕ) → begins p (behind p xs) ≡ false
after_stops p [] = refl
after_stops p (x ∷ xs) = go (p x) refl (after_stops p xs)
  where
    go : (b : Bool) → p x ≡ b → begins p (behind p xs) ≡ false → begins p (cond b (behind p xs) (x ∷ xs)) ≡ false
    go true e h = h
    go false e h = e

-- a word that is `include` is found, and what follows it begins seven bytes further
pub include_here : (rest : List ℕ) → leading is_name_byte rest ≡ codes "include" → (is_include rest ≡ true) × (behind is_name_byte rest ≡ drop 7 rest)
include_here rest e =
    let is : rest ≡ codes "include" ++ behind is_name_byte rest = parts_of is_name_byte rest ∙ ap (λ x. x ++ behind is_name_byte rest) e in
    (ap is_include is ∙ ap not (after_stops is_name_byte rest), sym (ap (drop 7) is))

-- any other word at the beginning is not `include`
pub no_include : (rest : List ℕ) → leading is_name_byte rest ≢ codes "include" → is_include rest ≡ false
no_include rest differs = go (is_include rest) refl
  where
    go : (b : Bool) → is_include rest ≡ b → b ≡ false
    go false e = refl
    go true e =
        let parts = and_parts (starts_with nat_eq rest (codes "include")) (not (begins is_name_byte (drop 7 rest))) e in
        absurd (differs (ap (leading is_name_byte) (starts_is rest parts.0) ∙ prefix_all is_name_byte (codes "include") (drop 7 rest) refl (not-true (begins is_name_byte (drop 7 rest)) parts.1)))
