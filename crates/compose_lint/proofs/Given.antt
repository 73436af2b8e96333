-- The definition on a line, by the production on it.
use Rattle.std.proofs.Common.{◌≡◌, ◌+◌, ℕ, List, [], ◌∷◌, Bool, true, false, cond, refl, ◌∙◌, ap, ap₂, length}
use Rattle.std.specs.Prelude.{Option, Some, None, Result, Ok, Err, not, nat_lt, unwrap_or}
use Rattle.std.specs.Option.{option_map, option_and_then, option_map_or}
use Rattle.std.specs.Result.{result_ok}
use Rattle.std.specs.Str.{is_utf8}
use Rattle.compose_text.specs.Results.{◌>>=◌}
use Rattle.keysym_core.specs.Keysym.{is_ignored}
use Rattle.keysym_core.specs.Names.{KeysymNames, value, text}
use Rattle.compose_model.specs.Table.{Definition}
use Rattle.compose_lex.specs.Line.{Reading, blank, include, production}
use Rattle.compose_lex.specs.Fault.{reading_of}
use Rattle.compose_lex.specs.Escape.{text_of}
use Rattle.compose_lex.specs.declared.LexFault.{LexFault}
use Rattle.compose_read.specs.Lines.{Source, Visit, source_named, max_depth}
use Rattle.compose_read.specs.Read.{at_line, event_keysym, sequence_of, string_text, result_text, definition_of, reading_result, line_result}
use Rattle.compose_read.specs.declared.ReadFault.{ReadFault}
use Rattle.compose_read.specs.declared.ReadFault.TheVariants.{NotUtf8, UnknownKeysym, IgnoredKeysym, MissingInclude, IncludeDepth}
use Rattle.compose_lint.specs.Productions.{parts_of, production_of, written_of, comment_of, fed_sequence, string_given, name_given, definition_given}
use Rattle.compose_lint.specs.Lines.{LintLine, definition_in, lint_line, line_read}

module _ (names : KeysymNames) (sources : List Source) (v : Visit) where
  -- the keysyms of the keys
  one_more : (k : ℕ) (r : Result (List ℕ) ReadFault) (o : Option (List ℕ)) → result_ok r ≡ o → result_ok (r >>= (λ s. let x : Result (List ℕ) ReadFault = Ok (k ∷ s) in x)) ≡ option_map (λ s. k ∷ s) o
  one_more k (Ok s) o e = ap (option_map (λ s. k ∷ s)) e
  one_more k (Err f) o e = ap (option_map (λ s. k ∷ s)) e

  -- those of one key and the keysyms of the others
  step_if : (i k : ℕ) (rest : Result (List ℕ) ReadFault) (o : Option (List ℕ)) → result_ok rest ≡ o → (b : Bool)
      → result_ok ((let x : Result ℕ ReadFault = cond b (Err (IgnoredKeysym v.source v.line i)) (Ok k) in x) >>= (λ k. rest >>= (λ s. let x : Result (List ℕ) ReadFault = Ok (k ∷ s) in x)))
      ≡ option_and_then (λ k. option_map (λ s. k ∷ s) o) (cond b None (Some k))
  step_if i k rest o e true = refl
  step_if i k rest o e false = one_more k rest o e

  step : (i : ℕ) (rest : Result (List ℕ) ReadFault) (o : Option (List ℕ)) → result_ok rest ≡ o → (found : Option ℕ)
      → result_ok (event_keysym v i found >>= (λ k. rest >>= (λ s. let x : Result (List ℕ) ReadFault = Ok (k ∷ s) in x)))
      ≡ option_and_then (λ k. option_map (λ s. k ∷ s) o) (option_and_then (λ k. cond (is_ignored k) None (Some k)) found)
  step i rest o e None = refl
  step i rest o e (Some k) = step_if i k rest o e (is_ignored k)

  sequence_is : (i : ℕ) (events : List (List ℕ)) → result_ok (sequence_of names v i events) ≡ fed_sequence names events
  sequence_is i [] = refl
  sequence_is i (event ∷ events) = step i (sequence_of names v (1 + i) events) (fed_sequence names events) (sequence_is (1 + i) events) (value names event)

  -- the text of the string
  string_is : (raw : Option (List ℕ)) → result_ok (string_text v raw) ≡ string_given raw
  string_is None = refl
  string_is (Some raw) = by (text_of raw)
    where
      by : (r : Result (List ℕ) LexFault) → result_ok (at_line v r >>= (λ t. let x : Result (Option (List ℕ)) ReadFault = Ok (Some t) in x)) ≡ option_map (λ t. Some t) (result_ok r)
      by (Ok t) = refl
      by (Err f) = refl

  -- the text of the result keysym
  name_is : (n : ℕ) (name : Option (List ℕ)) → result_ok (result_text names v n name) ≡ name_given names name
  name_is n None = refl
  name_is n (Some name) = by (value names name)
    where
      by : (o : Option ℕ) → result_ok (option_map_or (λ k. let x : Result (List ℕ) ReadFault = Ok (text names k) in x) o (Err (UnknownKeysym v.source v.line n))) ≡ option_map (text names) o
      by None = refl
      by (Some k) = refl

  -- all three in order
  abbrev steps : Result (List ℕ) ReadFault → Result (Option (List ℕ)) ReadFault → Result (List ℕ) ReadFault → Result Definition ReadFault
  steps first second third =
      first >>= (λ s. second >>= (λ string. third >>= (λ other. let x : Result Definition ReadFault = Ok (record { sequence = s; text = option_map_or (λ t. t) string other }) in x)))

  abbrev chained : Option (List ℕ) → Option (Option (List ℕ)) → Option (List ℕ) → Option Definition
  chained first second third =
      option_and_then (λ s. option_map (λ t. let d : Definition = record { sequence = s; text = t } in d) (option_and_then (λ string. option_map (λ other. unwrap_or string other) third) second)) first

  chain_is : (first : Result (List ℕ) ReadFault) (second : Result (Option (List ℕ)) ReadFault) (third : Result (List ℕ) ReadFault)
      → definition_in (steps first second third >>= (λ d. let x : Result (Option Definition) ReadFault = Ok (Some d) in x)) ≡ chained (result_ok first) (result_ok second) (result_ok third)
  chain_is (Err f) second third = refl
  chain_is (Ok s) (Err f) third = refl
  chain_is (Ok s) (Ok string) (Err f) = refl
  chain_is (Ok s) (Ok None) (Ok other) = refl
  chain_is (Ok s) (Ok (Some t)) (Ok other) = refl

  production_is : (events : List (List ℕ)) (raw name : Option (List ℕ))
      → definition_in (definition_of names v events raw name >>= (λ d. let x : Result (Option Definition) ReadFault = Ok (Some d) in x)) ≡ definition_given names (record { events = events; written = record { raw = raw; name = name } })
  production_is events raw name =
      chain_is (sequence_of names v 0 events) (string_text v raw) (result_text names v (length events) name)
      ∙ ap (λ o. chained o (result_ok (string_text v raw)) (result_ok (result_text names v (length events) name))) (sequence_is 0 events)
      ∙ ap₂ (λ o p. chained (fed_sequence names events) o p) (string_is raw) (name_is (length events) name)

  include_is : (a b : Bool) → definition_in (cond a (let x : Result (Option Definition) ReadFault = Err (MissingInclude v.source v.line) in x) (cond b (Ok None) (Err (IncludeDepth v.source v.line)))) ≡ None
  include_is true b = refl
  include_is false true = refl
  include_is false false = refl

  reading_is : (r : Result Reading LexFault) → definition_in (at_line v r >>= reading_result names sources v) ≡ option_and_then (definition_given names) (parts_of r)
  reading_is (Err f) = refl
  reading_is (Ok blank) = refl
  reading_is (Ok (include name)) = include_is (not (nat_lt (source_named sources name) (length sources))) (nat_lt v.depth max_depth)
  reading_is (Ok (production events raw name)) = production_is events raw name

  -- the definition on a line is that of its production
  pub given_is : definition_in (line_result names sources v) ≡ option_and_then (definition_given names) (production_of v.bytes)
  given_is = by (is_utf8 v.bytes)
    where
      by : (b : Bool)
          → definition_in (cond b (at_line v (reading_of v.bytes) >>= reading_result names sources v) (Err (NotUtf8 v.source v.line)))
          ≡ option_and_then (definition_given names) (cond b (parts_of (reading_of v.bytes)) None)
      by true = reading_is (reading_of v.bytes)
      by false = refl

  -- the line is the same by itself
  pub read_is : lint_line names sources v ≡ line_read names v.source v.line v.bytes
  read_is =
      ap (λ (d : Option Definition). let l : LintLine = record { source = v.source; line = v.line; bytes = v.bytes; written = written_of v.bytes; definition = d; comment = comment_of v.bytes } in l) given_is
