-- The core names (keysymdef.h; the choice of core names among its names is this project's profile).
use Rattle.std.specs.Prelude.{ℕ, ◌+◌, List, [], ◌∷◌, ◌++◌, codes}
use Prim.Native.String.{String}
use Rattle.compose_text.specs.Lines.{divide}
use Rattle.keysym_core.specs.Names.{NameRow, KeysymNames}

-- each name has a value one greater than that of the name before it
abbrev pub rising_names : ℕ → List (List ℕ) → List NameRow
rising_names value [] = []
rising_names value (name ∷ names) = record { name = name; value = value } ∷ rising_names (value + 1) names

-- names with a blank (code 32) between them, for rising values from the first one on
abbrev pub from : ℕ → String → List NameRow
from first names = rising_names first (divide 32 (codes names))

-- Latin-1: printable ASCII
abbrev pub ascii_names : List NameRow
ascii_names =
    from 0x20 "space exclam quotedbl numbersign dollar percent ampersand apostrophe parenleft parenright asterisk plus comma minus period slash"
    ++ from 0x30 "0 1 2 3 4 5 6 7 8 9"
    ++ from 0x3a "colon semicolon less equal greater question at"
    ++ from 0x41 "A B C D E F G H I J K L M N O P Q R S T U V W X Y Z"
    ++ from 0x5b "bracketleft backslash bracketright asciicircum underscore grave"
    ++ from 0x61 "a b c d e f g h i j k l m n o p q r s t u v w x y z"
    ++ from 0x7b "braceleft bar braceright asciitilde"

-- Latin-1: from the no-break space on
abbrev pub upper_latin1_names : List NameRow
upper_latin1_names =
    from 0xa0 "nobreakspace exclamdown cent sterling currency yen brokenbar section diaeresis copyright ordfeminine guillemotleft notsign hyphen registered macron"
    ++ from 0xb0 "degree plusminus twosuperior threesuperior acute mu paragraph periodcentered cedilla onesuperior masculine guillemotright onequarter onehalf threequarters questiondown"
    ++ from 0xc0 "Agrave Aacute Acircumflex Atilde Adiaeresis Aring AE Ccedilla Egrave Eacute Ecircumflex Ediaeresis Igrave Iacute Icircumflex Idiaeresis"
    ++ from 0xd0 "ETH Ntilde Ograve Oacute Ocircumflex Otilde Odiaeresis multiply Oslash Ugrave Uacute Ucircumflex Udiaeresis Yacute THORN ssharp"
    ++ from 0xe0 "agrave aacute acircumflex atilde adiaeresis aring ae ccedilla egrave eacute ecircumflex ediaeresis igrave iacute icircumflex idiaeresis"
    ++ from 0xf0 "eth ntilde ograve oacute ocircumflex otilde odiaeresis division oslash ugrave uacute ucircumflex udiaeresis yacute thorn ydiaeresis"

-- dead keys, TTY function keys, keypad digits, and the keysyms that a compose state ignores
abbrev pub function_names : List NameRow
function_names =
    from 0x0 "NoSymbol"
    ++ from 0xfe50 "dead_grave dead_acute dead_circumflex dead_tilde dead_macron dead_breve dead_abovedot dead_diaeresis dead_abovering dead_doubleacute dead_caron dead_cedilla dead_ogonek"
    ++ from 0xff08 "BackSpace Tab"
    ++ from 0xff0d "Return"
    ++ from 0xff1b "Escape"
    ++ from 0xff20 "Multi_key"
    ++ from 0xffff "Delete"
    ++ from 0xff7e "Mode_switch Num_Lock"
    ++ from 0xffb0 "KP_0 KP_1 KP_2 KP_3 KP_4 KP_5 KP_6 KP_7 KP_8 KP_9"
    ++ from 0xffe1 "Shift_L Shift_R Control_L Control_R Caps_Lock Shift_Lock Meta_L Meta_R Alt_L Alt_R Super_L Super_R Hyper_L Hyper_R"

-- second names of some keysyms above
abbrev pub second_names : List NameRow
second_names =
    from 0x27 "quoteright"
    ++ from 0x60 "quoteleft"
    ++ from 0xd0 "Eth"
    ++ from 0xd8 "Ooblique"
    ++ from 0xde "Thorn"
    ++ from 0xf8 "ooblique"

-- the core names, and no characters
abbrev pub core_names : KeysymNames
core_names = record { names = ascii_names ++ upper_latin1_names ++ function_names ++ second_names; characters = [] }
