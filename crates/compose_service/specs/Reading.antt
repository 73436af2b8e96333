-- What a load is read as: its bundle (the one of `IsBundle`: see `law_one_bundle`), the table of
-- its sources, and its certificate.
use Rattle.std.specs.Prelude.{ℕ, List, Option, Some, None, Result, Ok, Err}
use Rattle.keysym_core.specs.Names.{KeysymNames}
use Rattle.compose_model.specs.Table.{Definition}
use Rattle.compose_model.specs.Certificate.{Certificate}
use Rattle.compose_model.specs.declared.Rule.{Rule}
use Rattle.compose_tree.specs.TableReturns.{NoTable, first_table}
use Rattle.compose_cert.specs.Reading.{certificate_of}
use Rattle.compose_cert.specs.declared.CertFault.{CertFault}
use Rattle.compose_machine.specs.Machine.{Parts, not_a_bundle, no_table, no_certificate, parts}
use Rattle.compose_bundle.specs.Bundle.{Bundle}
use Rattle.compose_bundle.specs.Decoded.{bundle_of}

abbrev pub parts_by : Result (List Definition) NoTable → Result Certificate CertFault → Parts
parts_by (Err why) certificate = no_table
parts_by (Ok table) (Err fault) = no_certificate
parts_by (Ok table) (Ok certificate) = parts table certificate

abbrev pub bundle_parts : Rule → KeysymNames → Option Bundle → Parts
bundle_parts rule names None = not_a_bundle
bundle_parts rule names (Some b) = parts_by (first_table names b.sources rule) (certificate_of b.certificate)

-- the first part that cannot be read, or a table and a certificate
abbrev pub reading : Rule → KeysymNames → List ℕ → Parts
reading rule names bytes = bundle_parts rule names (bundle_of bytes)
