-- A production by the names of its keys and the rest.
use Rattle.std.proofs.Common.{◌≡◌, ◌∙◌, List, ℕ, refl, ap}
use Rattle.std.specs.Prelude.{Option, Some, None}
use Rattle.std.specs.Option.{option_map, option_and_then}
use Rattle.keysym_core.specs.Names.{KeysymNames}
use Rattle.compose_model.specs.Table.{Definition}
use Rattle.compose_lint.specs.Lines.{LintLine, line_read}
use Rattle.compose_lint.specs.Productions.{Written, Production, production_with, production_of, written_of, definition_given, comment_beside}

module _ (events : List (List ℕ)) (line : List ℕ) where
  -- the right-hand side of the line
  pub written_is : (o : Option Written) → option_map (production_with events) o ≡ production_of line → o ≡ written_of line
  written_is o e = by o ∙ ap (option_map (λ (p : Production). p.written)) e
    where
      by : (o : Option Written) → o ≡ option_map (λ (p : Production). p.written) (option_map (production_with events) o)
      by None = refl
      by (Some w) = refl

  -- its definition
  pub given_is : (names : KeysymNames) (o : Option Written) → option_map (production_with events) o ≡ production_of line
      → option_and_then (λ w. definition_given names (production_with events w)) o ≡ option_and_then (definition_given names) (production_of line)
  given_is names o e = by o ∙ ap (option_and_then (definition_given names)) e
    where
      by : (o : Option Written) → option_and_then (λ w. definition_given names (production_with events w)) o ≡ option_and_then (definition_given names) (option_map (production_with events) o)
      by None = refl
      by (Some w) = refl

  -- the line with that right-hand side, its definition and its comment
  pub read_as : (names : KeysymNames) (source number : ℕ) (o : Option Written) (d : Option Definition) (comment : Option (List ℕ)) → option_map (production_with events) o ≡ production_of line
      → d ≡ option_and_then (λ w. definition_given names (production_with events w)) o → comment ≡ comment_beside line o
      → (let l : LintLine = record { source = source; line = number; bytes = line; written = o; definition = d; comment = comment } in l) ≡ line_read names source number line
  read_as names source number o d comment e given beside =
      let w = written_is o e in
      ap (λ (w : Option Written). let l : LintLine = record { source = source; line = number; bytes = line; written = w; definition = d; comment = comment } in l) w
      ∙ ap (λ (d : Option Definition). let l : LintLine = record { source = source; line = number; bytes = line; written = written_of line; definition = d; comment = comment } in l) (given ∙ given_is names o e)
      ∙ ap (λ (k : Option (List ℕ)). let l : LintLine = record { source = source; line = number; bytes = line; written = written_of line; definition = option_and_then (definition_given names) (production_of line); comment = k } in l)
      (beside ∙ ap (comment_beside line) w)
