-- The pair of a certificate at which a condition is not met, and the key (this project's profile).
use Rattle.std.specs.Prelude.{ℕ, List, slice_get, Option, Some, None, Result, Ok, Err}
use Rattle.std.specs.Option.{option_map}
use Rattle.compose_model.specs.Certificate.{Certificate}
use Rattle.compose_cert.specs.Reading.{certificate_of}
use Rattle.compose_cert.specs.declared.CertFault.{CertFault}
use Rattle.compose_fresh.specs.declared.fault.CheckFault.{CheckFault}
use Rattle.compose_fresh.specs.declared.fault.CheckFault.TheVariants.{NewStart, Cancels, TextDiffers, PairMissing}
use Rattle.compose_details.specs.declared.pairs.FaultyPair.{FaultyPair}

-- the old node, the new one, and the key
pub record Pair : Type 0 where
  pub old : ℕ
  pub new : ℕ
  pub keysym : ℕ

abbrev pub shown : FaultyPair → Pair
shown pair = record { old = pair.old; new = pair.new; keysym = pair.keysym }

-- the pair with this index
abbrev pub pair_with : List (ℕ × ℕ) → ℕ → ℕ → Option Pair
pair_with pairs index keysym = option_map (λ (pair : ℕ × ℕ). record { old = pair.0; new = pair.1; keysym = keysym }) (slice_get pairs index)

abbrev pub pair_at : Result Certificate CertFault → ℕ → ℕ → Option Pair
pair_at (Ok certificate) index keysym = pair_with certificate.pairs index keysym
pair_at (Err fault) index keysym = None

-- the pair that a fault names: the roots for a new start, none if it concerns no pair
abbrev pub faulty_pair : List ℕ → CheckFault → Option Pair
faulty_pair text (NewStart keysym) = Some (record { old = 0; new = 0; keysym = keysym })
faulty_pair text (Cancels index keysym) = pair_at (certificate_of text) index keysym
faulty_pair text (TextDiffers index keysym) = pair_at (certificate_of text) index keysym
faulty_pair text (PairMissing index keysym) = pair_at (certificate_of text) index keysym
faulty_pair text fault = None
