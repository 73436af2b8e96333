-- A line that does not begin with the word `include` is not an include.
use Rattle.std.proofs.Common.{◌≡◌, ℕ, List, [], ◌∷◌, Bool, true, false, cond, ◌&&◌, not, length, drop, nat_eq, refl, sym}
use Rattle.std.specs.Prelude.{◌==◌, Option, None, Result, Ok, Err, codes}
use Rattle.std.specs.List.{starts_with}
use Rattle.std.specs.Str.{is_utf8}
use Rattle.compose_text.specs.Results.{◌>>=◌}
use Rattle.compose_text.specs.Bytes.{begins, is_name_byte}
use Rattle.compose_lex.specs.Line.{blank, production}
use Rattle.compose_lex.specs.Fault.{skip_blanks, event_at, events_at, event_fault, result_at, end_at, production_at, include_at, reading_at}
use Rattle.compose_lex.specs.declared.LexFault.{LexFault}
use Rattle.compose_read.specs.Visits.{include_text, raw_include}

module _ (n : ℕ) (rest : List ℕ) where
  -- a production is not an include
  production_is_other : include_text (production_at n rest) ≡ None
  production_is_other = by_first (event_at n rest)
    where
      by_end : (events : List (List ℕ)) (raw name : Option (List ℕ)) (r : Result (Unit {0}) LexFault) → include_text (r >>= (λ _. Ok (production events raw name))) ≡ None
      by_end events raw name (Ok x) = refl
      by_end events raw name (Err e) = refl

      by_result : (events : List (List ℕ)) (r : Result (Option (List ℕ) × Option (List ℕ) × List ℕ) LexFault)
          → include_text (r >>= (λ result. end_at n (skip_blanks result.2) >>= (λ _. Ok (production events result.0 result.1)))) ≡ None
      by_result events (Ok x) = by_end events x.0 x.1 (end_at n (skip_blanks x.2))
      by_result events (Err e) = refl

      by_more : (first : List ℕ) (r : Result (List (List ℕ) × List ℕ) LexFault)
          → include_text (r >>= (λ more. result_at n (skip_blanks more.1) >>= (λ result. end_at n (skip_blanks result.2) >>= (λ _. Ok (production (first ∷ more.0) result.0 result.1))))) ≡ None
      by_more first (Ok x) = by_result (first ∷ x.0) (result_at n (skip_blanks x.1))
      by_more first (Err e) = refl

      by_first : (r : Result (List ℕ × List ℕ) LexFault)
          → include_text
          (r >>=
          (λ first. events_at n 31 first.1 >>=
          (λ more. result_at n (skip_blanks more.1) >>= (λ result. end_at n (skip_blanks result.2) >>= (λ _. Ok (production (first.0 ∷ more.0) result.0 result.1)))))) ≡ None
      by_first (Ok x) = by_more x.0 (events_at n 31 x.1)
      by_first (Err e) = refl

by_rest : (n : ℕ) (rest : List ℕ) → starts_with nat_eq rest (codes "include") ≡ false → include_text (reading_at n rest) ≡ None
by_rest n [] h = refl
by_rest n (b ∷ rest) h = by_tests (b == 35) (starts_with nat_eq (b ∷ rest) (codes "include")) (not (begins is_name_byte (drop 7 (b ∷ rest)))) (b == 60) h
  where
    by_tests : (comment word ends event : Bool) → word ≡ false
        → include_text (cond comment (Ok blank) (cond (word && ends) (include_at n (drop 7 (b ∷ rest))) (cond event (production_at n rest) (Err (event_fault n (b ∷ rest)))))) ≡ None
    by_tests true word ends event h = refl
    by_tests false true ends event h = cc
    by_tests false false ends true h = production_is_other n rest
    by_tests false false ends false h = refl

-- a line that does not begin with `include` after its blanks includes nothing
pub no_include : (line : List ℕ) → starts_with nat_eq (skip_blanks line) (codes "include") ≡ false → None ≡ raw_include line
no_include line h = sym (go (is_utf8 line))
  where
    go : (text : Bool) → (let o : Option (List ℕ) = cond text (include_text (reading_at (length line) (skip_blanks line))) None in o) ≡ None
    go true = by_rest (length line) (skip_blanks line) h
    go false = refl
