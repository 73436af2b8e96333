-- Why the program refuses a request, as a value, and which fault leads to which refusal.
use Rattle.compose_wire.specs.Messages as words
use Rattle.compose_wire.specs.Messages.{Refusal as RefusalValue}
use Rattle.compose_tree.specs.declared.reading.TableFault.{TableFault}
use Rattle.compose_tree.specs.declared.reading.TableFault.TheVariants as table_faults
use Rattle.compose_cert.specs.declared.CertFault.{CertFault}
use Rattle.compose_cert.specs.declared.CertFault.TheVariants as cert_faults
use Rattle.compose_bundle.specs.declared.BundleFault.{BundleFault}
use Rattle.compose_bundle.specs.declared.BundleFault.TheVariants as bundle_faults
use Rattle.compose_service.specs.declared.refusal.RefusalCode.{RefusalCode}
use Rattle.compose_service.specs.declared.refusal.RefusalCode.TheVariants.{SessionTaken, NoSession, Full, BadKeysym, BadBundle, TableRefused, CertificateRefused, VerdictNo, NoMemory}

abbrev pub refusal_of : RefusalCode → RefusalValue
refusal_of SessionTaken = words.session_taken
refusal_of NoSession = words.no_session
refusal_of Full = words.full
refusal_of BadKeysym = words.bad_keysym
refusal_of BadBundle = words.bad_bundle
refusal_of TableRefused = words.table_refused
refusal_of CertificateRefused = words.certificate_refused
refusal_of VerdictNo = words.verdict_no
refusal_of NoMemory = words.no_memory

abbrev pub of_bundle : BundleFault → RefusalCode
of_bundle bundle_faults.Form = BadBundle
of_bundle bundle_faults.TooLarge = BadBundle
of_bundle bundle_faults.NoMemory = NoMemory

abbrev pub of_table : TableFault → RefusalCode
of_table table_faults.NoMemory = NoMemory
of_table fault = TableRefused

abbrev pub of_certificate : CertFault → RefusalCode
of_certificate cert_faults.NoMemory = NoMemory
of_certificate fault = CertificateRefused
