-- The findings in the lines of a file, by kind.
use Rattle.std.specs.Prelude.{ℕ, Bool, ◌&&◌, nat_lt, bytes_eq, if◌then◌else◌, List, [], ◌∷◌, ◌++◌, length, map, flat_map, Option, Some, false}
use Rattle.std.specs.Option.{option_map_or, option_and_then}
use Rattle.keysym_core.specs.Names.{KeysymNames}
use Rattle.compose_model.specs.Table.{Definition}
use Rattle.compose_lint.specs.Productions.{Written}
use Rattle.compose_read.specs.Lines.{Source}
use Rattle.compose_read.specs.declared.ReadFault.{ReadFault}
use Rattle.compose_lint.specs.Faults.{fault_kinds}
use Rattle.compose_lint.specs.FileLines.{is_after_mark, is_without_newline, is_joined, has_return, has_return_in_include, has_spaced_name}
use Rattle.compose_lint.specs.Lines.{LintLine, SourceLines, all_lines, all_sources}
use Rattle.compose_lint.specs.Counting.{last_defining}
use Rattle.compose_lint.specs.Longer.{longer_place, place_of}
use Rattle.compose_lint.specs.Alike.{alike_place}
use Rattle.compose_lint.specs.Comments.{has_misplaced_comment}
use Rattle.compose_lint.specs.Texts.{repeats_mark, is_normal, has_other_character}
use Rattle.compose_lint.specs.Readers.{has_ten_keysyms, has_eleven_keysyms, has_no_symbol, has_longest_text, has_nul, has_wide_keysym, has_digit_name, has_no_string, has_letter_escape}
use Rattle.compose_lint.specs.declared.finding.Finding.{Finding}
use Rattle.compose_lint.specs.declared.finding.FindingKind.{FindingKind}
use Rattle.compose_lint.specs.declared.finding.FindingKind.TheVariants.{Overridden, Repeated, Prefix, Keysym, Mark, Form, Alike, Comment, Redundant, Reader}
use Rattle.compose_lint.specs.declared.reader.Readers.{Readers}
use Rattle.compose_lint.specs.declared.reader.Reader.TheVariants.{LibX11, Libxkbcommon, Gtk3, Gtk4}
use Rattle.compose_lint.specs.declared.reader.Class.TheVariants.{ByteOrderMark, NoNewline, Joined, CarriageReturn, SpacedName, ManyKeysyms, NoSymbol, LongestText, Nul, WideKeysym, DigitName, NoString, LetterEscape}

abbrev pub when : Bool → FindingKind → List FindingKind
when b kind = if b then kind ∷ [] else []

-- ---- other lines of the file

abbrev pub has_own_text : List ℕ → LintLine → Bool
has_own_text text m = option_map_or (λ d. bytes_eq text d.text) m.definition false

-- how the definition compares with that of the line that counts: nothing, if it is the one that
-- counts; otherwise repeated or overridden
abbrev pub beside : LintLine → Definition → LintLine → List FindingKind
beside l d m = if nat_lt l.line m.line then (if has_own_text d.text m then Repeated m.line else Overridden m.line) ∷ [] else []

-- a later line of the file defines the sequence again
abbrev pub defined_again : List LintLine → LintLine → Definition → List FindingKind
defined_again lines l d = option_map_or (beside l d) (last_defining lines d.sequence) []

-- ---- the line alone

abbrev pub text_kinds : KeysymNames → Written → Definition → List FindingKind
text_kinds names p d = when (has_other_character names p d) Keysym ++ when (repeats_mark d.text) Mark

-- ---- the wanted readers

abbrev pub libx11_kinds : Readers → Definition → List FindingKind
libx11_kinds readers d =
    when (readers.libx11 && has_ten_keysyms d) (Reader LibX11 ManyKeysyms)
    ++ when (readers.libx11 && has_no_symbol d) (Reader LibX11 NoSymbol)
    ++ when (readers.libx11 && has_nul d) (Reader LibX11 Nul)

abbrev pub libxkbcommon_kinds : Readers → Written → Definition → List FindingKind
libxkbcommon_kinds readers p d =
    when (readers.libxkbcommon && has_eleven_keysyms d) (Reader Libxkbcommon ManyKeysyms)
    ++ when (readers.libxkbcommon && has_no_symbol d) (Reader Libxkbcommon NoSymbol)
    ++ when (readers.libxkbcommon && has_longest_text d) (Reader Libxkbcommon LongestText)
    ++ when (readers.libxkbcommon && has_nul d) (Reader Libxkbcommon Nul)
    ++ when (readers.libxkbcommon && has_digit_name p) (Reader Libxkbcommon DigitName)
    ++ when (readers.libxkbcommon && has_letter_escape p) (Reader Libxkbcommon LetterEscape)

abbrev pub gtk_kinds : Readers → Written → Definition → List FindingKind
gtk_kinds readers p d =
    when (readers.gtk3 && has_no_string p) (Reader Gtk3 NoString)
    ++ when (readers.gtk4 && has_wide_keysym d) (Reader Gtk4 WideKeysym)
    ++ when (readers.gtk4 && has_no_string p) (Reader Gtk4 NoString)

-- the form of the file
abbrev pub file_kinds : Readers → List ℕ → List LintLine → LintLine → List FindingKind
file_kinds readers bytes lines l =
    when (readers.libx11 && is_after_mark bytes l) (Reader LibX11 ByteOrderMark)
    ++ when (readers.libxkbcommon && is_after_mark bytes l) (Reader Libxkbcommon ByteOrderMark)
    ++ when (readers.libxkbcommon && is_without_newline bytes (length lines) l) (Reader Libxkbcommon NoNewline)
    ++ when (readers.libx11 && is_joined lines l) (Reader LibX11 Joined)
    ++ when (readers.libx11 && has_return_in_include l.bytes) (Reader LibX11 CarriageReturn)

-- blanks in a production
abbrev pub blank_kinds : Readers → List ℕ → Written → List FindingKind
blank_kinds readers line p = when (readers.libx11 && has_return line p) (Reader LibX11 CarriageReturn) ++ when (readers.libxkbcommon && has_spaced_name line) (Reader Libxkbcommon SpacedName)

-- ---- all kinds

-- of a line with this definition and this string and result name
abbrev pub kinds_of : KeysymNames → Readers → List LintLine → LintLine → Written → Definition → List FindingKind
kinds_of names readers lines l p d =
    defined_again lines l d ++ text_kinds names p d ++ blank_kinds readers l.bytes p ++ libx11_kinds readers d ++ libxkbcommon_kinds readers p d ++ gtk_kinds readers p d

abbrev pub kinds_if : KeysymNames → Readers → List LintLine → LintLine → Option Written → Option Definition → List FindingKind
kinds_if names readers lines l (Some p) (Some d) = kinds_of names readers lines l p d
kinds_if names readers lines l _ _ = []

-- the findings in a line of the file that depend on this file alone: its first fault, its form,
-- and, if it has a definition, those in the definition
abbrev pub own_kinds : KeysymNames → Readers → List ReadFault → List ℕ → List LintLine → LintLine → List FindingKind
own_kinds names readers faults bytes lines l =
    fault_kinds faults l ++ file_kinds readers bytes lines l ++ kinds_if names readers lines l l.written l.definition

-- ---- the lines of all files

-- the text is not in normal form C; or it is, and a line of any file produces another text with
-- this normal form C
abbrev pub form_of : List LintLine → List ℕ → List FindingKind
form_of all text = if is_normal text then option_map_or (λ place. Alike place ∷ []) (alike_place all text) [] else Form ∷ []

abbrev pub form_kinds : List LintLine → LintLine → List FindingKind
form_kinds all l = option_map_or (λ d. form_of all d.text) l.definition []

-- a line of any file defines a longer sequence that begins with the one of the line
abbrev pub prefix_kinds : List LintLine → LintLine → List FindingKind
prefix_kinds all l = option_map_or (λ place. Prefix place ∷ []) (option_and_then (λ d. longer_place all d.sequence) l.definition) []

-- the comment of the line belongs to another text
abbrev pub comment_kinds : List LintLine → LintLine → List FindingKind
comment_kinds all l = when (has_misplaced_comment all l) Comment

-- this line of an included file, which counts for the sequence, has the same text
abbrev pub again : Definition → LintLine → List FindingKind
again d m = if has_own_text d.text m then Redundant (place_of m) ∷ [] else []

-- the included files define the sequence with the same text, by the last of their lines that
-- defines it
abbrev pub redundant_kinds : List LintLine → LintLine → List FindingKind
redundant_kinds included l = option_map_or (λ d. option_map_or (again d) (last_defining included d.sequence) []) l.definition []

-- the findings in a line of the file, if these are the lines of all files
abbrev pub line_kinds : KeysymNames → Readers → List ReadFault → List LintLine → SourceLines → LintLine → List FindingKind
line_kinds names readers faults all f l = own_kinds names readers faults f.bytes f.lines l ++ form_kinds all l ++ prefix_kinds all l ++ comment_kinds all l ++ redundant_kinds f.included l

abbrev pub line_findings : KeysymNames → Readers → List ReadFault → List LintLine → SourceLines → LintLine → List Finding
line_findings names readers faults all f l = map (λ k. record { source = l.source; line = l.line; kind = k }) (line_kinds names readers faults all f l)

-- the findings in the lines of a file, in order
abbrev pub findings_in : KeysymNames → Readers → List ReadFault → List LintLine → SourceLines → List Finding
findings_in names readers faults all f = flat_map (line_findings names readers faults all f) f.lines

-- the findings in the lines of these files
abbrev pub findings_of : KeysymNames → Readers → List ReadFault → List SourceLines → List Finding
findings_of names readers faults files = flat_map (findings_in names readers faults (all_lines files)) files

-- the findings in the lines of all sources, each line once, in order, if these are the faults of
-- the sources; redundant lines only if `is_all`
abbrev pub findings : KeysymNames → Readers → Bool → List ReadFault → List Source → List Finding
findings names readers is_all faults sources = findings_of names readers faults (all_sources names sources is_all)
