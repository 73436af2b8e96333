-- What a valid certificate promises of the two tables (this project's profile).
use Rattle.compose_model.specs.Certificate.{IsValid, TypesAll}
use Rattle.compose_model.specs.Follows.{Waits}
use Rattle.compose_check.specs.Input.{Parts}
use Rattle.compose_promise.specs.Promise.{KeepsTyping}

-- the new table changes nobody's typing, no more keys are pending than the bound, and each
-- character of the repertoire is typed by its listed keys
pub record IsKept (p : Parts) : Type 0 where
  pub valid : IsValid p.names p.old p.new p.repertoire p.certificate
  pub keeps : KeepsTyping p.names p.certificate.fresh p.old p.new
  pub waits : Waits p.new p.certificate.bound
  pub types : TypesAll p.names p.new p.repertoire p.certificate.typings
