-- Values of the definitions, from keysymdef.h and the examples of the documents.
use Rattle.std.proofs.Common.{◌≡◌, [], ◌∷◌, refl, true, false, inl, inr}
use Rattle.std.specs.Prelude.{Some, None, codes}
use Rattle.std.specs.Char.{encode_utf8}
use Rattle.keysym_core.specs.Keysym.{is_ignored}
use Rattle.keysym_core.specs.Names.{KeysymNames, text, value, character_of}
use Rattle.keysym_core.specs.Header.{HeaderEntry, entry_of, with_line}
use Rattle.keysym_core.specs.HeaderLine.{DefinesEntry, NotesCharacter}
use Rattle.keysym_core.proofs.HeaderComments.{character_sound}
use Rattle.keysym_core.proofs.HeaderRead.{line_read}
use Rattle.keysym_core.specs.Printed.{printed}
use Rattle.keysym_core.specs.declared.fault.NameFault.TheVariants.{BadLine, ValueTooLarge, NameConflict}
use Rattle.std.specs.Prelude.{Err}
use Rattle.std.specs.Fmt.{digits}
use Rattle.std.specs.Str.{is_utf8, chars}

abbrev none : KeysymNames
none = record { names = []; characters = [] }

abbrev few : KeysymNames
few = record {
  names = record { name = codes "Greek_alpha"; value = 0x7e1 } ∷ record { name = codes "space"; value = 0x20 } ∷ [];
  characters = record { value = 0x7e1; character = 0x3b1 } ∷ record { value = 0x7e1; character = 0x41 } ∷ [];
}

letter : character_of none 0x61 ≡ Some 0x61
letter = refl

dead_key : character_of none 0xfe51 ≡ None
dead_key = refl

unicode_keysym : character_of none 0x1000101 ≡ Some 0x101
unicode_keysym = refl

surrogate : character_of none 0x100d800 ≡ None
surrogate = refl

keypad : character_of none 0xffb9 ≡ Some 0x39
keypad = refl

first_given : character_of few 0x7e1 ≡ Some 0x3b1
first_given = refl

text_of_eacute : text none 0xe9 ≡ 0xc3 ∷ 0xa9 ∷ []
unfolding encode_utf8
text_of_eacute = refl

shift : is_ignored 0xffe1 ≡ true
shift = refl

letter_is_fed : is_ignored 0x61 ≡ false
letter_is_fed = refl

greek : value few (codes "Greek_alpha") ≡ Some 0x7e1
greek = refl

eacute : value none (codes "U00E9") ≡ Some 0xe9
eacute = refl

amacron : value none (codes "U0101") ≡ Some 0x1000101
amacron = refl

smile : value none (codes "U1F600") ≡ Some 0x101f600
smile = refl

control : value none (codes "U007F") ≡ None
control = refl

surrogate_form : value none (codes "UD800") ≡ None
surrogate_form = refl

too_high : value none (codes "U110000") ≡ None
too_high = refl

too_short : value none (codes "U41") ≡ None
too_short = refl

too_large : value none (codes "0x20000000") ≡ None
too_large = refl

largest : value none (codes "0x1fffffff") ≡ Some 0x1fffffff
largest = refl

alpha : entry_of (codes "Greek_alpha 0x07e1  /* U+03B1 GREEK SMALL LETTER ALPHA */") ≡ Some (record { name = codes "Greek_alpha"; value = 0x7e1; character = Some 0x3b1 })
alpha = refl

not_quite_one : entry_of (codes "topleftsummation 0x08b1 /*(U+250C BOX DRAWINGS LIGHT DOWN AND RIGHT)*/") ≡ Some (record { name = codes "topleftsummation"; value = 0x8b1; character = Some 0x250c })
not_quite_one = refl

blank_after_parenthesis : entry_of (codes "b 0x62 /*( U+0062 */") ≡ Some (record { name = codes "b"; value = 0x62; character = None })
blank_after_parenthesis = refl

seven_digits : entry_of (codes "b 0x62 /* U+0000062 */") ≡ Some (record { name = codes "b"; value = 0x62; character = None })
seven_digits = refl

decimal_value : entry_of (codes "odd 12") ≡ None
decimal_value = refl

-- ---- the grammar of a header's line

with_character : DefinesEntry (codes "#define XK_Greek_alpha 0x07e1  /* U+03B1 GREEK SMALL LETTER ALPHA */") (record { name = codes "Greek_alpha"; value = 0x7e1; character = Some 0x3b1 })
with_character = record {
  blanks = codes " ";
  digits = codes "07e1";
  more_blanks = codes "  ";
  comment = Some (codes " U+03B1 GREEK SMALL LETTER ALPHA */");
  bytes = refl;
  is_name = refl;
  are_blanks = refl;
  are_digits = refl;
  is_value = refl;
  are_more_blanks = refl;
  is_character = (
    record {
      blanks = codes " ";
      opening = [];
      digits = codes "03B1";
      others = codes " GREEK SMALL LETTER ALPHA */";
      bytes = refl;
      are_blanks = refl;
      is_opening = inl refl;
      are_digits = refl;
      are_all_digits = refl;
      is_number = refl;
    },
    refl,
  );
}

parenthesized : NotesCharacter (codes "(U+250C BOX DRAWINGS LIGHT DOWN AND RIGHT)*/") (Some 0x250c)
parenthesized = (
  record {
    blanks = [];
    opening = codes "(";
    digits = codes "250C";
    others = codes " BOX DRAWINGS LIGHT DOWN AND RIGHT)*/";
    bytes = refl;
    are_blanks = refl;
    is_opening = inr refl;
    are_digits = refl;
    are_all_digits = refl;
    is_number = refl;
  },
  refl,
)

without_comment : DefinesEntry (codes "#define XK_space 0x0020") (record { name = codes "space"; value = 0x20; character = None })
without_comment = record {
  blanks = codes " ";
  digits = codes "0020";
  more_blanks = [];
  comment = None;
  bytes = refl;
  is_name = refl;
  are_blanks = refl;
  are_digits = refl;
  is_value = refl;
  are_more_blanks = refl;
  is_character = refl;
}

no_definition : (entry : HeaderEntry) → DefinesEntry (codes "#define XK_odd 12") entry → ⊥
no_definition entry d = let e = line_read (codes "#define XK_odd 12") entry d in cc

no_parenthesis_before_a_blank : NotesCharacter (codes "( U+0062 */") None
no_parenthesis_before_a_blank = character_sound (codes "( U+0062 */")

too_many_digits : NotesCharacter (codes " U+0000062 */") None
too_many_digits = character_sound (codes " U+0000062 */")

control_is_no_character : NotesCharacter (codes " U+007F */") None
control_is_no_character = character_sound (codes " U+007F */")

-- ---- lines in order

conflict : with_line few 1 (codes "#define XK_space 0x0021") ≡ Err (NameConflict 1)
unfolding is_utf8 chars encode_utf8
conflict = refl

conflict_with_form : with_line few 1 (codes "#define XK_U0101 0x5") ≡ Err (NameConflict 1)
unfolding is_utf8 chars encode_utf8
conflict_with_form = refl

large : with_line few 1 (codes "#define XK_big 0x20000000") ≡ Err (ValueTooLarge 1)
unfolding is_utf8 chars encode_utf8
large = refl

bad : with_line few 1 (codes "#define XK_odd 12") ≡ Err (BadLine 1)
unfolding is_utf8 chars encode_utf8
bad = refl

printed_amacron : printed few 0x1000101 ≡ codes "U0101"
unfolding digits
printed_amacron = refl

printed_surrogate : printed few 0x100d800 ≡ codes "0x100d800"
unfolding digits
printed_surrogate = refl

printed_space : printed few 0x20 ≡ codes "space"
printed_space = refl
