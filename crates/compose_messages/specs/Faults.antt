-- The messages for the faults of files that are not sources (this project's profile), and the line
-- that each fault is in.
use Rattle.std.specs.Prelude.{ℕ, List, Option, Some, None, codes}
use Rattle.keysym_core.specs.declared.fault.NameFault.{NameFault}
use Rattle.keysym_core.specs.declared.fault.NameFault.TheVariants as names
use Rattle.compose_cert.specs.declared.CertFault.{CertFault}
use Rattle.compose_cert.specs.declared.CertFault.TheVariants as certificates
use Rattle.compose_cert.specs.declared.RepertoireFault.{RepertoireFault}
use Rattle.compose_cert.specs.declared.RepertoireFault.TheVariants as repertoires
use Rattle.compose_read.specs.declared.sources.SourceFault.{SourceFault}
use Rattle.compose_read.specs.declared.sources.SourceFault.TheVariants.{NameTaken, TooManySources, NoMemory}
use Rattle.compose_manifest.specs.declared.manifest.ManifestFault.{ManifestFault}
use Rattle.compose_manifest.specs.declared.manifest.ManifestFault.TheVariants as manifests
use Rattle.std.specs.declared.io.ErrorKind.{ErrorKind}
use Rattle.std.specs.declared.io.ErrorKind.TheVariants.{NotFound, PermissionDenied, IsADirectory, ConnectionRefused, AlreadyExists, InvalidInput}

-- ---- a header of names

abbrev pub name_line : NameFault → Option ℕ
name_line (names.NotUtf8 line) = Some line
name_line (names.BadLine line) = Some line
name_line (names.ValueTooLarge line) = Some line
name_line (names.NameConflict line) = Some line
name_line fault = None

abbrev pub name_message : NameFault → List ℕ
name_message (names.NotUtf8 line) = codes "the line is not UTF-8"
name_message (names.BadLine line) = codes "expected \"#define XK_\", a name, and 0x with one to eight hexadecimal digits"
name_message (names.ValueTooLarge line) = codes "the number is above 0x1fffffff, the greatest keysym"
name_message (names.NameConflict line) = codes "the name is that of another keysym already"
name_message names.TooManyNames = codes "more than 16,384 names"
name_message names.NoMemory = codes "out of memory"

-- ---- a certificate

abbrev pub certificate_line : CertFault → Option ℕ
certificate_line (certificates.NotText line) = Some line
certificate_line fault = None

abbrev pub certificate_message : CertFault → List ℕ
certificate_message (certificates.NotText line) = codes "the line is missing, or not of the form of a certificate"
certificate_message certificates.TooLarge = codes "a count is above 1,048,576"
certificate_message certificates.NoMemory = codes "out of memory"

-- ---- a repertoire

abbrev pub repertoire_line : RepertoireFault → Option ℕ
repertoire_line (repertoires.BadLine line) = Some line
repertoire_line (repertoires.NotRising line) = Some line
repertoire_line fault = None

abbrev pub repertoire_message : RepertoireFault → List ℕ
repertoire_message (repertoires.BadLine line) = codes "expected a character as U+00E9, or before all characters the word keys and two keysyms as 0x20 0x7e"
repertoire_message (repertoires.NotRising line) = codes "the line is not above the one before it"
repertoire_message repertoires.TooMany = codes "more than 65,536 characters, or ranges of keys"
repertoire_message repertoires.NoMemory = codes "out of memory"

-- ---- a manifest, and the files that it lists

abbrev pub manifest_line : ManifestFault → Option ℕ
manifest_line (manifests.BadLine line) = Some line
manifest_line fault = None

abbrev pub manifest_message : ManifestFault → List ℕ
manifest_message (manifests.BadLine line) = codes "expected a name, a tab and a path, or once before these `overlap longest` or `overlap refuse`"
manifest_message manifests.Empty = codes "the manifest lists no file"
manifest_message manifests.NoMemory = codes "out of memory"

abbrev pub source_message : SourceFault → List ℕ
source_message NameTaken = codes "two entries have the same name"
source_message TooManySources = codes "more than 64 entries"
source_message NoMemory = codes "out of memory"

-- ---- a file that can't be opened

abbrev pub open_message : ErrorKind → List ℕ
open_message NotFound = codes "no such file"
open_message PermissionDenied = codes "permission denied"
open_message IsADirectory = codes "is a directory"
open_message kind = codes "can't be read"

-- ---- a socket that can't be bound or connected to

abbrev pub socket_message : ErrorKind → List ℕ
socket_message NotFound = codes "no such file"
socket_message PermissionDenied = codes "permission denied"
socket_message ConnectionRefused = codes "nobody listens there"
socket_message AlreadyExists = codes "a file is there already"
socket_message InvalidInput = codes "the path is too long for a socket"
socket_message kind = codes "can't be used as a socket"
