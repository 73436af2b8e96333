-- Of lines without a fault, those that begin like definitions are the definitions.
use Rattle.std.proofs.Common.{◌≡◌, ℕ, List, [], ◌∷◌, Bool, true, false, cond, not, ◌&&◌, length, take, drop, nat_eq, nat_lt, refl, sym, ◌∙◌, ap, ap₂, arith, inl, inr}
use Rattle.std.specs.Prelude.{◌==◌, Option, Result, Ok, Err, is_ok, filter, codes}
use Rattle.std.specs.List.{starts_with}
use Rattle.std.specs.Str.{is_utf8}
use Rattle.std.proofs.lemmas.Bool.{cases_Bool, and_parts, eqb-true}
use Rattle.std.proofs.lemmas.List.{take_all}
use Rattle.compose_text.specs.Results.{◌>>=◌}
use Rattle.compose_text.specs.Bytes.{begins, is_name_byte}
use Rattle.keysym_core.specs.Names.{KeysymNames}
use Rattle.compose_model.specs.Table.{Definition}
use Rattle.compose_lex.specs.Line.{Reading, blank, include, production}
use Rattle.compose_lex.specs.Fault.{skip_blanks, string_at, byte_at, event_at, events_at, event_fault, result_at, end_at, production_at, include_at, reading_at, reading_of}
use Rattle.compose_lex.specs.declared.LexFault.{LexFault}
use Rattle.compose_read.specs.Lines.{Source, Visit, source_named, visits}
use Rattle.compose_read.specs.Read.{at_line, reading_result, line_result, read_on, definitions_of, max_lines}
use Rattle.compose_read.specs.Kept.{are_faultless}
use Rattle.compose_read.specs.declared.ReadFault.TheVariants as faults
use Rattle.compose_read.proofs.Faultless.{read_to_end}
use Rattle.compose_places.specs.Places.{is_production, is_definition_line, definition_lines}
use Rattle.compose_places.specs.Counting.{begins_definition, begun_lines}
use Rattle.compose_places.proofs.Decided.{few}

-- ---- one line

module _ (n : ℕ) (rest : List ℕ) where
  -- what is read after the colon
  abbrev results : List (List ℕ) → List ℕ → Result Reading LexFault
  results events rest = result_at n (skip_blanks rest) >>= (λ result. end_at n (skip_blanks result.2) >>= (λ _. Ok (production events result.0 result.1)))

  -- what is read of a production is one
  production_is : is_ok (production_at n rest) ≡ true → is_production (production_at n rest) ≡ true
  production_is = by_first (event_at n rest)
    where
      by_end : (events : List (List ℕ)) (raw name : Option (List ℕ)) (r : Result (Unit {0}) LexFault)
          → is_ok (r >>= (λ _. Ok (production events raw name))) ≡ true → is_production (r >>= (λ _. Ok (production events raw name))) ≡ true
      by_end events raw name (Ok x) h = refl
      by_end events raw name (Err e) h = h

      by_result : (events : List (List ℕ)) (r : Result (Option (List ℕ) × Option (List ℕ) × List ℕ) LexFault)
          → is_ok (r >>= (λ result. end_at n (skip_blanks result.2) >>= (λ _. Ok (production events result.0 result.1)))) ≡ true
          → is_production (r >>= (λ result. end_at n (skip_blanks result.2) >>= (λ _. Ok (production events result.0 result.1)))) ≡ true
      by_result events (Ok x) h = by_end events x.0 x.1 (end_at n (skip_blanks x.2)) h
      by_result events (Err e) h = h

      by_more : (first : List ℕ) (r : Result (List (List ℕ) × List ℕ) LexFault)
          → is_ok (r >>= (λ more. results (first ∷ more.0) more.1)) ≡ true → is_production (r >>= (λ more. results (first ∷ more.0) more.1)) ≡ true
      by_more first (Ok x) h = by_result (first ∷ x.0) (result_at n (skip_blanks x.1)) h
      by_more first (Err e) h = h

      by_first : (r : Result (List ℕ × List ℕ) LexFault)
          → is_ok (r >>= (λ first. events_at n 31 first.1 >>= (λ more. results (first.0 ∷ more.0) more.1))) ≡ true
          → is_production (r >>= (λ first. events_at n 31 first.1 >>= (λ more. results (first.0 ∷ more.0) more.1))) ≡ true
      by_first (Ok x) h = by_more x.0 (events_at n 31 x.1) h
      by_first (Err e) h = h

  -- what is read from an include is not a production
  include_is : is_production (include_at n rest) ≡ false
  include_is = by_quote (byte_at n 34 (skip_blanks rest))
    where
      by_end : (raw : List ℕ) (r : Result (Unit {0}) LexFault) → is_production (r >>= (λ _. Ok (include raw))) ≡ false
      by_end raw (Ok x) = refl
      by_end raw (Err e) = refl

      by_string : (r : Result (List ℕ × List ℕ) LexFault) → is_production (r >>= (λ string. end_at n (skip_blanks string.1) >>= (λ _. Ok (include string.0)))) ≡ false
      by_string (Ok x) = by_end x.0 (end_at n (skip_blanks x.1))
      by_string (Err e) = refl

      by_quote : (r : Result (List ℕ) LexFault)
          → is_production (r >>= (λ rest. string_at n rest >>= (λ string. end_at n (skip_blanks string.1) >>= (λ _. Ok (include string.0))))) ≡ false
      by_quote (Ok x) = by_string (string_at n x)
      by_quote (Err e) = refl

-- the first byte alone distinguishes a production from any other reading without a fault
by_rest : (n : ℕ) (rest : List ℕ) → is_ok (reading_at n rest) ≡ true → starts_with nat_eq rest (codes "<") ≡ is_production (reading_at n rest)
by_rest n [] h = refl
by_rest n (b ∷ rest) h = by_first (b == 35) refl (starts_with nat_eq (b ∷ rest) (codes "include")) refl (not (begins is_name_byte (drop 7 (b ∷ rest)))) h
  where
    other : (same : Bool) → 60 == b ≡ same → b == 60 ≡ false → same && true ≡ false
    other true f e = let clash : true ≡ false = ap (λ x. x == 60) (eqb-true 60 b f) ∙ e in cc
    other false f e = refl

    first : starts_with nat_eq (b ∷ rest) (codes "<") ≡ b == 60
    first = elim (cases_Bool (b == 60)) [ inl e ↦ ap (λ x. 60 == x && true) (eqb-true b 60 e) ∙ sym e | inr e ↦ other (60 == b) refl e ∙ sym e ]

    by_event : (event : Bool) → (b == 60) ≡ event → is_ok (cond event (production_at n rest) (Err (event_fault n (b ∷ rest)))) ≡ true
        → starts_with nat_eq (b ∷ rest) (codes "<") ≡ is_production (cond event (production_at n rest) (Err (event_fault n (b ∷ rest))))
    by_event true e h = first ∙ e ∙ sym (production_is n rest h)
    by_event false e h = cc

    by_first : (comment : Bool) → (b == 35) ≡ comment → (word : Bool) → starts_with nat_eq (b ∷ rest) (codes "include") ≡ word → (ends : Bool)
        → is_ok (cond comment (Ok blank) (cond (word && ends) (include_at n (drop 7 (b ∷ rest))) (cond (b == 60) (production_at n rest) (Err (event_fault n (b ∷ rest)))))) ≡ true
        → starts_with nat_eq (b ∷ rest) (codes "<")
        ≡ is_production (cond comment (Ok blank) (cond (word && ends) (include_at n (drop 7 (b ∷ rest))) (cond (b == 60) (production_at n rest) (Err (event_fault n (b ∷ rest))))))
    by_first true e word f ends h = first ∙ ap (λ x. x == 60) (eqb-true b 35 e)
    by_first false e true f true h = first ∙ ap (λ x. x == 60) (sym (eqb-true 105 b (and_parts (105 == b) (starts_with nat_eq rest (codes "nclude")) f).0)) ∙ sym (include_is n (drop 7 (b ∷ rest)))
    by_first false e true f false h = by_event (b == 60) refl h
    by_first false e false f ends h = by_event (b == 60) refl h

-- of a line that has no fault
begins_as_definition : (names : KeysymNames) (sources : List Source) (v : Visit) → is_ok (line_result names sources v) ≡ true → begins_definition v.bytes ≡ is_definition_line v.bytes
begins_as_definition names sources v h = by_text (is_utf8 v.bytes) (reading_of v.bytes) (by_rest (length v.bytes) (skip_blanks v.bytes)) h
  where
    by_text : (text : Bool) (r : Result Reading LexFault) → (is_ok r ≡ true → begins_definition v.bytes ≡ is_production r)
        → is_ok (cond text (at_line v r >>= reading_result names sources v) (Err (faults.NotUtf8 v.source v.line))) ≡ true → begins_definition v.bytes ≡ text && is_production r
    by_text false r f h = cc
    by_text true (Ok x) f h = f refl
    by_text true (Err e) f h = cc

-- ---- all lines

module _ (names : KeysymNames) (sources : List Source) where
  same_lines : (vs : List Visit) → are_faultless names sources vs ≡ true → filter (λ (v : Visit). begins_definition v.bytes) vs ≡ filter (λ (v : Visit). is_definition_line v.bytes) vs
  same_lines [] h = refl
  same_lines (v ∷ vs) h =
      let parts = and_parts (is_ok (line_result names sources v)) (are_faultless names sources vs) h in
      ap₂ (λ b ws. cond b (v ∷ ws) ws) (begins_as_definition names sources v parts.0) (same_lines vs parts.1)

  -- if the definitions are read without a fault, the lines that begin like definitions are theirs
  pub begun_lines_exact : (root : List ℕ) (table : List Definition) → definitions_of names sources root ≡ Ok table → begun_lines sources root ≡ definition_lines sources root
  begun_lines_exact root table h = go (nat_lt (source_named sources root) (length sources)) h
    where
      all : List Visit
      all = visits sources (source_named sources root)

      go : (there : Bool) → cond there (read_on names sources 0 0 all) (Err faults.MissingRoot) ≡ Ok table
          → filter (λ (v : Visit). begins_definition v.bytes) (cond there (take max_lines all) []) ≡ cond there (filter (λ (v : Visit). is_definition_line v.bytes) (take max_lines all)) []
      go false h = refl
      go true h =
          let read = read_to_end names sources all 0 0 table h in let no_more = few names sources all 0 0 table h (omega arith) in let whole = take_all max_lines all (omega (arith, no_more)) in
          ap (λ vs. filter (λ (v : Visit). begins_definition v.bytes) vs) whole ∙ same_lines all read.0 ∙ sym (ap (λ vs. filter (λ (v : Visit). is_definition_line v.bytes) vs) whole)
