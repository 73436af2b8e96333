-- The parts of `how`, read one after another.
use Rattle.std.proofs.Common.{◌≡◌, ℕ, List, [], refl, sym, ◌∙◌, ap, subst, Option, Some, None}
use Rattle.std.specs.Prelude.{Result, Ok, Err}
use Rattle.compose_text.specs.Results.{◌>>=◌}
use Rattle.compose_model.specs.Certificate.{Repertoire}
use Rattle.compose_cert.specs.Repertoire.{repertoire_of}
use Rattle.compose_migration.specs.Migration.{TableSources, or_because, NoAnswer, no_repertoire}
use Rattle.compose_answer.specs.Parts.{TypedParts, type_parts}
use Rattle.compose_migration.specs.Refused.{IsRefused}
use Rattle.compose_migration.specs.declared.refusal.Refusal.{Refusal}
use Rattle.compose_migration.proofs.Steps.{IsRead, is_read, step_refused}
use Rattle.compose_listing.specs.Answers.{HowParts, given_repertoire, how_parts}

-- a repertoire that is given
module _ (bytes : List ℕ) where
  abbrev pub read_from : Result Repertoire NoAnswer
  read_from = or_because no_repertoire (repertoire_of bytes)

  pub given_refused : (refusal : Refusal) → IsRefused refusal read_from → IsRefused refusal (given_repertoire (Some bytes))
  given_refused refusal h = step_refused refusal read_from (λ r. Ok (Some r)) h

  pub given_read : (r : Repertoire) → IsRead read_from r → IsRead (given_repertoire (Some bytes)) (Some r)
  given_read r h = (Some r, ap (λ q. q >>= (λ r. Ok (Some r))) (is_read read_from r h), refl)

module _ (header : List ℕ) (given : TableSources) (repertoire : Option (List ℕ)) where
  abbrev pub with_typed : TypedParts → Result HowParts NoAnswer
  with_typed p = given_repertoire repertoire >>= (λ r. Ok (record { typed = p; repertoire = r }))

  -- a refusal of the names or the table is the refusal of the command
  pub typed_refused : (refusal : Refusal) → IsRefused refusal (type_parts header [] given) → IsRefused refusal (how_parts header given repertoire)
  typed_refused refusal h = step_refused refusal (type_parts header [] given) with_typed h

  module _ (p : TypedParts) (typed : type_parts header [] given ≡ Ok p) where
    -- and otherwise a refusal of the repertoire
    pub repertoire_refused : (refusal : Refusal) → IsRefused refusal (given_repertoire repertoire) → IsRefused refusal (how_parts header given repertoire)
    repertoire_refused refusal h =
        subst (λ (s : Result HowParts NoAnswer). IsRefused refusal s) (sym (ap (λ r. r >>= with_typed) typed))
        (step_refused refusal (given_repertoire repertoire) (λ r. Ok (record { typed = p; repertoire = r })) h)

    -- if all parts are read, these are the parts
    pub all_read : (r : Option Repertoire) → IsRead (given_repertoire repertoire) r → how_parts header given repertoire ≡ Ok (record { typed = p; repertoire = r })
    all_read r h = ap (λ q. q >>= with_typed) typed ∙ ap (λ q. q >>= (λ r. let x : Result HowParts NoAnswer = Ok (record { typed = p; repertoire = r }) in x)) (is_read (given_repertoire repertoire) r h)
