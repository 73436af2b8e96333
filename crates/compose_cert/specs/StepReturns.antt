-- What a step of a reader returns, unless memory runs out. Definitions for the contracts of private
-- functions.
use Rattle.std.specs.Prelude.{◌≡◌, ◌≢◌, ℕ, List, ◌++◌, Result, Ok, Err, MatchResult}
use Rattle.compose_text.specs.Results.{◌>>=◌}
use Rattle.compose_cert.specs.declared.CertFault.{CertFault}
use Rattle.compose_cert.specs.declared.CertFault.TheVariants.{NoMemory}

-- the view of the result is the specified result
abbrev pub StepReturns : {A B : Type 0} → (A → B) → Result A CertFault → Result B CertFault → Type 0
StepReturns view result expected = MatchResult result (λ x. expected ≡ Ok (view x)) (λ e. e ≢ NoMemory → expected ≡ Err e)

-- these values before those that are read next
abbrev pub behind : {A : Type 0} → List A → Result (List A × List (List ℕ)) CertFault → Result (List A × List (List ℕ)) CertFault
behind xs r = r >>= λ more. Ok (xs ++ more.0, more.1)
