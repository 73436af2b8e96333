-- The hint for each refusal (this project's profile).
use Rattle.std.specs.Prelude.{ℕ, Bool, true, false, not, ◌-◌, ◌==◌, ◌&&◌, ◌||◌, nat_eq, if◌then◌else◌, List, [], ◌∷◌, ◌++◌, drop, Option, Some, None, Result, Ok, get_or, codes, bytes_eq}
use Rattle.std.specs.List.{list_any, starts_with, ends_with}
use Rattle.compose_text.specs.Bytes.{begins, is_blank}
use Rattle.compose_text.specs.Lines.{lines_of}
use Rattle.compose_text.specs.Numbers.{is_hexadecimal}
use Rattle.keysym_core.specs.declared.fault.NameFault.{NameFault}
use Rattle.keysym_core.specs.declared.fault.NameFault.TheVariants as names
use Rattle.compose_cert.specs.declared.CertFault.{CertFault}
use Rattle.compose_cert.specs.declared.CertFault.TheVariants.{NotText}
use Rattle.compose_cert.specs.declared.RepertoireFault.{RepertoireFault}
use Rattle.compose_cert.specs.declared.RepertoireFault.TheVariants as repertoires
use Rattle.compose_lex.specs.Line.{Reading, include, production}
use Rattle.compose_lex.specs.Fault.{reading_of}
use Rattle.compose_lex.specs.declared.LexFault.{LexFault}
use Rattle.compose_lex.specs.declared.LexFault.TheVariants.{TextNotUtf8}
use Rattle.compose_read.specs.Lines.{Source}
use Rattle.compose_read.specs.declared.ReadFault.TheVariants.{UnknownKeysym, Lex, NotUtf8, MissingInclude}
use Rattle.compose_read.specs.declared.settling.SettleFault.TheVariants.{Overlap}
use Rattle.compose_tree.specs.declared.reading.TableFault.{TableFault}
use Rattle.compose_tree.specs.declared.reading.TableFault.TheVariants.{Read, Settle}
use Rattle.compose_shown.specs.Shown.{shown_text}
use Rattle.compose_manifest.specs.declared.manifest.ManifestFault.{ManifestFault}
use Rattle.compose_manifest.specs.declared.manifest.ManifestFault.TheVariants.{BadLine}
use Rattle.compose_messages.specs.Beginning.{begins_as_table}
use Rattle.compose_messages.specs.Places.{line_at, text_or_nothing}
use Rattle.compose_messages.specs.Tokens.{named}
use Rattle.compose_messages.specs.declared.hints.Hint.{Hint}
use Rattle.compose_messages.specs.declared.hints.Hint.TheVariants.{BuiltinNames, OwnNames, UnicodeName, ComposeKey, Encoding, Utf16, Certificate, Repertoire, Manifest, OverlapLongest, Fresh, Table, NoCertificate, NoRepertoire, NamesEncoding, HomeFolder}

abbrev pub hint_text : Hint → List ℕ
hint_text BuiltinNames = codes "composecheck: hint: `--names builtin` has the names of keysymdef.h"
hint_text OwnNames = codes "composecheck: hint: `--names builtin --names FILE` adds the names of a header of your own"
hint_text UnicodeName = codes "composecheck: hint: four to six hexadecimal digits follow the U, as in U00E9"
hint_text ComposeKey = codes "composecheck: hint: the Compose key is Multi_key"
hint_text Encoding = codes "composecheck: hint: a Compose file is in UTF-8; `iconv -f ENCODING -t UTF-8` converts another one"
hint_text Utf16 = codes "composecheck: hint: the file is in UTF-16; `iconv -f UTF-16 -t UTF-8` converts it"
hint_text Certificate = codes "composecheck: hint: this is a certificate, and no Compose file"
hint_text Repertoire = codes "composecheck: hint: this is a repertoire, and no Compose file"
hint_text Manifest = codes "composecheck: hint: this is a manifest, which lists Compose files, and none itself"
hint_text OverlapLongest = codes "composecheck: hint: with the line `overlap longest` before the entries of the manifest, or `diff --overlap longest`, the longer sequence counts"
hint_text Fresh = codes "composecheck: hint: `--fresh` takes the keysyms for which nothing has to be promised"
hint_text Table = codes "composecheck: hint: this is a Compose file: use --files, or the manifest that `composecheck manifest FILE` prints"
hint_text NoCertificate = codes "composecheck: hint: this is a Compose file, and no certificate"
hint_text NoRepertoire = codes "composecheck: hint: this is a Compose file, and no repertoire"
hint_text NamesEncoding = codes "composecheck: hint: a header of names is in UTF-8; `iconv -f ENCODING -t UTF-8` converts another one"
hint_text HomeFolder = codes "composecheck: hint: an include says the home folder as %H, and not as ~"

-- the form of Unicode's names with too few digits: `U` (code 85) and one to three
abbrev pub is_short_unicode_name : List ℕ → Bool
is_short_unicode_name name = begins (λ b. b == 85) name && is_hexadecimal 1 3 (drop 1 name)

-- other names that people use for the Compose key
abbrev pub is_compose_key : List ℕ → Bool
is_compose_key name =
    bytes_eq name (codes "Compose") || bytes_eq name (codes "compose") || bytes_eq name (codes "Multi") || bytes_eq name (codes "multi_key") ||
    bytes_eq name (codes "Multi_Key") || bytes_eq name (codes "MULTI_KEY")

-- the names that may be missing; `are_given` is true if files of names were given
abbrev pub names_to_add : Bool → Hint
names_to_add are_given = if are_given then OwnNames else BuiltinNames

-- for a name that no keysym has; `are_given` is true if files of names were given
abbrev pub name_hint : Bool → List ℕ → Hint
name_hint are_given name =
    if is_compose_key name then ComposeKey else
    if is_short_unicode_name name then UnicodeName else
    names_to_add are_given

-- for a line of a header of names that is not UTF-8
abbrev pub header_hint : NameFault → Option Hint
header_hint (names.NotUtf8 line) = Some NamesEncoding
header_hint fault = None

-- for an include of this path that does not exist: it names the home folder as a shell does
abbrev pub include_hint : List ℕ → Option Hint
include_hint path = if starts_with nat_eq path (codes "~/") then Some HomeFolder else None

-- for a line that is not UTF-8, by the first line of its file: the marks of UTF-16
abbrev pub encoding_hint : List ℕ → Hint
encoding_hint first = if starts_with nat_eq first (0xff ∷ 0xfe ∷ []) || starts_with nat_eq first (0xfe ∷ 0xff ∷ []) then Utf16 else Encoding

-- an entry of a manifest: a name, a tab (code 9) and a path; not a line of a Compose file, which
-- has `<` (code 60) or begins with `include`
abbrev pub is_entry : List ℕ → Bool
is_entry line = list_any (λ b. b == 9) line && not (begins is_blank line || list_any (λ b. b == 60) line || starts_with nat_eq line (codes "include"))

-- for a line that no Compose file has: the file is of another kind
abbrev pub file_hint : List ℕ → Option Hint
file_hint line =
    if starts_with nat_eq line (codes "compose-certificate ") then Some Certificate else
    if starts_with nat_eq line (codes "U+") || starts_with nat_eq line (codes "keys 0x") then Some Repertoire else
    if is_entry line then Some Manifest else None

-- a line that can't be read, a name that is unknown, a line that is not UTF-8, a file that is not
-- listed, or an overlap
abbrev pub table_hint : List Source → Bool → TableFault → Option Hint
table_hint sources are_given (Read (UnknownKeysym source line index)) = Some (name_hint are_given (named (line_at sources source line) index))
table_hint sources are_given (Read (Lex source line fault)) = file_hint (line_at sources source line)
table_hint sources are_given (Read (NotUtf8 source line)) = Some (encoding_hint (line_at sources source 1))
table_hint sources are_given (Read (MissingInclude source line)) = include_hint (named (line_at sources source line) 0)
table_hint sources are_given (Settle (Overlap short long)) = Some OverlapLongest
table_hint sources are_given fault = None

-- the hint for a locale whose table is not in UTF-8, with the locale's name
abbrev pub locale_hint : List ℕ → List ℕ
locale_hint locale = codes "composecheck: hint: this is the table of the locale " ++ (shown_text locale ++ codes "; `--locale en_US.UTF-8` takes that of another one")

-- the source in which a line or a string is not UTF-8
abbrev pub source_not_utf8 : TableFault → Option ℕ
source_not_utf8 (Read (NotUtf8 source line)) = Some source
source_not_utf8 (Read (Lex source line TextNotUtf8)) = Some source
source_not_utf8 fault = None

-- the line is a production or an include
abbrev pub is_of_table : Result Reading LexFault → Bool
is_of_table (Ok (production events raw name)) = true
is_of_table (Ok (include raw)) = true
is_of_table reading = false

abbrev pub is_table_line : List ℕ → Bool
is_table_line line = is_of_table (reading_of (text_or_nothing line))

abbrev pub has_table_line : List ℕ → Bool
has_table_line bytes = list_any is_table_line (lines_of bytes)

-- the file is a Compose table, not a certificate
abbrev pub certificate_hint : List ℕ → CertFault → Option Hint
certificate_hint bytes (NotText n) = if has_table_line bytes then Some NoCertificate else None
certificate_hint bytes fault = None

-- the file is a Compose table, not a repertoire
abbrev pub repertoire_hint : List ℕ → RepertoireFault → Option Hint
repertoire_hint bytes (repertoires.BadLine n) = if has_table_line bytes then Some NoRepertoire else None
repertoire_hint bytes fault = None

-- the file is a Compose table: its faulty line is one of a table, it begins like a table, or its
-- path ends in `Compose`
abbrev pub manifest_hint : List ℕ → List ℕ → ManifestFault → Option Hint
manifest_hint path bytes (BadLine n) = if ends_with nat_eq path (codes "Compose") || is_table_line (get_or (lines_of bytes) (n - 1) []) || begins_as_table bytes then Some Table else None
manifest_hint path bytes fault = None
