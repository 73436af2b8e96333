-- The result of one line, by what is read from it.
use Rattle.std.proofs.Common.{◌≡◌, ◌<◌, ℕ, List, true, cond, length, sym, ◌∙◌, ap, subst, inl, inr}
use Rattle.std.specs.Prelude.{Option, Some, None, Result, Ok, Err}
use Rattle.std.specs.Str.{IsUtf8, is_utf8}
use Rattle.std.proofs.lemmas.Bool.{cases_Bool}
use Rattle.std.proofs.lemmas.Str.{IsUtf8-from_is_utf8, is_utf8-from_IsUtf8}
use Rattle.compose_text.specs.Results.{◌>>=◌}
use Rattle.keysym_core.specs.Names.{KeysymNames}
use Rattle.compose_model.specs.Table.{Definition, is_definition}
use Rattle.compose_lex.specs.Line.{Reading, blank, include, production}
use Rattle.compose_lex.specs.Fault.{reading_of}
use Rattle.compose_lex.specs.declared.LexFault.{LexFault}
use Rattle.compose_lex.specs.declared.LexFault.TheVariants as lex_faults
use Rattle.compose_read.specs.Lines.{Source, included, included_by}
use Rattle.compose_read.specs.Read.{at_line, definition_of, include_fault, reading_result, line_result}
use Rattle.compose_read.specs.ReadReturns.{ReadReturns}
use Rattle.compose_read.specs.Progress.{visit, located_fault, no_definition, FindsLine}
use Rattle.compose_read.specs.declared.line.Found.TheVariants as found
use Rattle.compose_read.specs.declared.line.Place.{Place}
use Rattle.compose_read.specs.declared.ReadFault.{ReadFault}
use Rattle.compose_read.specs.declared.ReadFault.TheVariants as faults

module _ (names : KeysymNames) (sources : List Source) (place : Place) (bytes : List ℕ) (row : Definition) where
  -- a line that is not UTF-8 has the fault with its position
  pub not_utf8 : (IsUtf8 bytes → ⊥) → line_result names sources (visit place bytes) ≡ Err (faults.NotUtf8 place.source place.line)
  not_utf8 n = elim (cases_Bool (is_utf8 bytes)) [
    | inl h ↦ absurd (n (IsUtf8-from_is_utf8 bytes h))
    | inr h ↦ ap (λ b. cond b (at_line (visit place bytes) (reading_of bytes) >>= reading_result names sources (visit place bytes)) (Err (faults.NotUtf8 place.source place.line))) h
  ]

  module _ (u : IsUtf8 bytes) where
    given : (r : Result Reading LexFault) → reading_of bytes ≡ r → line_result names sources (visit place bytes) ≡ at_line (visit place bytes) r >>= reading_result names sources (visit place bytes)
    given r h =
        ap (λ b. cond b (at_line (visit place bytes) (reading_of bytes) >>= reading_result names sources (visit place bytes)) (Err (faults.NotUtf8 place.source place.line))) (is_utf8-from_IsUtf8 bytes u)
        ∙ ap (λ r. at_line (visit place bytes) r >>= reading_result names sources (visit place bytes)) h

    goes_to : (r : Result Reading LexFault) → reading_of bytes ≡ r → included sources bytes ≡ included_by sources r
    goes_to r h = ap (λ b. let o : Option ℕ = cond b (included_by sources (reading_of bytes)) None in o) (is_utf8-from_IsUtf8 bytes u) ∙ ap (included_by sources) h

    -- a blank line has no definition and includes no source
    pub blank_line : reading_of bytes ≡ Ok blank → (line_result names sources (visit place bytes) ≡ Ok None) × (included sources bytes ≡ None)
    blank_line h = (given (Ok blank) h, goes_to (Ok blank) h)

    -- a line with a syntax fault has that fault at its position
    pub faulty_line : (fault : LexFault) (f : ReadFault) → reading_of bytes ≡ Err fault → f ≡ located_fault place fault → FindsLine names sources (visit place bytes) row (Err f)
    faulty_line fault f h e = subst (λ f. FindsLine names sources (visit place bytes) row (Err f)) (sym e) (go fault (given (Err fault) h))
      where
        go : (fault : LexFault) → line_result names sources (visit place bytes) ≡ Err (faults.Lex place.source place.line fault)
            → FindsLine names sources (visit place bytes) row (Err (located_fault place fault))
        go lex_faults.NoMemory h = tt
        go fault h = h

    -- an include of a known source, with a level left, results in that source
    pub include_line : (name : List ℕ) (source : ℕ) → reading_of bytes ≡ Ok (include name) → include_fault sources (visit place bytes) name ≡ Ok no_definition
        → included_by sources (Ok (include name)) ≡ Some source → place.depth < 8 → source < length sources
        → FindsLine names sources (visit place bytes) row (Ok (found.Include source))
    include_line name source h e i d w = (given (Ok (include name)) h ∙ e, goes_to (Ok (include name)) h ∙ i, d, w)

    -- an include of a missing source, or one that is nested too deeply, has that fault
    pub refused_include : (name : List ℕ) (f : ReadFault) → reading_of bytes ≡ Ok (include name) → ReadReturns (λ (s : ℕ). no_definition) (Err f) (include_fault sources (visit place bytes) name)
        → FindsLine names sources (visit place bytes) row (Err f)
    refused_include name faults.NoMemory h e = tt
    refused_include name f h e = given (Ok (include name)) h ∙ e

    module _ (events : List (List ℕ)) (raw name : Option (List ℕ)) (h : reading_of bytes ≡ Ok (production events raw name)) where
      -- a production with a valid definition results in it
      pub production_line : definition_of names (visit place bytes) events raw name ≡ Ok row → is_definition row ≡ true → FindsLine names sources (visit place bytes) row (Ok found.Definition)
      production_line e is =
          (given (Ok (production events raw name)) h ∙ ap (λ r. r >>= (λ d. let x : Result (Option Definition) ReadFault = Ok (Some d) in x)) e, goes_to (Ok (production events raw name)) h, is)

      -- a production whose keysyms or text have a fault has that fault
      pub refused_production : (f : ReadFault) → ReadReturns (λ (_ : Unit {0}). row) (Err f) (definition_of names (visit place bytes) events raw name)
          → FindsLine names sources (visit place bytes) row (Err f)
      refused_production faults.NoMemory e = tt
      refused_production f e = given (Ok (production events raw name)) h ∙ ap (λ r. r >>= (λ d. let x : Result (Option Definition) ReadFault = Ok (Some d) in x)) e
