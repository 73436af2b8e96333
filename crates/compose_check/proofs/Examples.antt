-- Certificates with their faults, worked out.
use Rattle.std.proofs.Common.{◌≡◌, ℕ, List, [], ◌∷◌, ◌++◌, refl}
use Rattle.std.specs.Prelude.{Option, Some, None, codes}
use Rattle.std.specs.Char.{encode_utf8}
use Rattle.keysym_core.specs.Names.{KeysymNames}
use Rattle.compose_model.specs.Table.{Definition}
use Rattle.compose_model.specs.Certificate.{Certificate, Repertoire, Typing}
use Rattle.compose_fresh.specs.declared.fault.CheckFault.{CheckFault}
use Rattle.compose_fresh.specs.declared.fault.CheckFault.TheVariants.{PairsNotRising, NodeOutOfRange, RootPairMissing, RestBroken, NewStart, Cancels, TextDiffers, PairMissing, BoundExceeded, TypingMissing, TypingWrong, TypingUnasked, FreshNotRising, FreshIgnored, FreshUsed}
use Rattle.compose_check.specs.Conditions.{fault_of}

abbrev core : KeysymNames
core = record { names = []; characters = [] }

abbrev nothing : Repertoire
nothing = record { characters = []; keys = [] }

abbrev acute_e : List ℕ
acute_e = 0xc3 ∷ 0xa9 ∷ []

abbrev plain : ℕ → List (ℕ × ℕ) → Certificate
plain bound pairs = record { bound = bound; pairs = pairs; typings = []; fresh = [] }

-- ---- a table with one more sequence

-- <Multi_key> <apostrophe> <e> : "é"
abbrev one_line : List Definition
one_line = record { sequence = 0xff20 ∷ 0x27 ∷ 0x65 ∷ []; text = acute_e } ∷ []

-- and <dead_acute> <e> : "é"
abbrev two_lines : List Definition
two_lines = one_line ++ record { sequence = 0xfe51 ∷ 0x65 ∷ []; text = acute_e } ∷ []

-- and <Multi_key> <apostrophe> <a> : "á"
abbrev three_lines : List Definition
three_lines = two_lines ++ record { sequence = 0xff20 ∷ 0x27 ∷ 0x61 ∷ []; text = 0xc3 ∷ 0xa1 ∷ [] } ∷ []

abbrev accents : Repertoire
accents = record { characters = 0xe1 ∷ 0xe9 ∷ []; keys = (0x20, 0x7e) ∷ (0xfe51, 0xfe51) ∷ (0xff20, 0xff20) ∷ [] }

abbrev all_pairs : List (ℕ × ℕ)
all_pairs = (0, 0) ∷ (1, 1) ∷ (2, 2) ∷ (3, 3) ∷ []

abbrev typing_a : Typing
typing_a = record { character = 0xe1; keys = 0xff20 ∷ 0x27 ∷ 0x61 ∷ [] }

abbrev typing_e : Typing
typing_e = record { character = 0xe9; keys = 0xfe51 ∷ 0x65 ∷ [] }

abbrev grown : ℕ → List (ℕ × ℕ) → List Typing → Option CheckFault
grown bound pairs typings = fault_of core two_lines three_lines accents (record { bound = bound; pairs = pairs; typings = typings; fresh = [] })

grown_is_valid : grown 2 all_pairs (typing_a ∷ typing_e ∷ []) ≡ None
unfolding encode_utf8
grown_is_valid = refl

not_closed : grown 2 ((0, 0) ∷ (1, 1) ∷ (2, 2) ∷ []) (typing_a ∷ typing_e ∷ []) ≡ Some (PairMissing 2 0x27)
unfolding encode_utf8
not_closed = refl

not_rising : grown 2 ((0, 0) ∷ (2, 2) ∷ (1, 1) ∷ (3, 3) ∷ []) (typing_a ∷ typing_e ∷ []) ≡ Some PairsNotRising
unfolding encode_utf8
not_rising = refl

no_node : grown 2 ((0, 0) ∷ (1, 1) ∷ (2, 2) ∷ (3, 4) ∷ []) (typing_a ∷ typing_e ∷ []) ≡ Some NodeOutOfRange
unfolding encode_utf8
no_node = refl

no_roots : grown 2 ((1, 1) ∷ (2, 2) ∷ (3, 3) ∷ []) (typing_a ∷ typing_e ∷ []) ≡ Some RootPairMissing
unfolding encode_utf8
no_roots = refl

root_with_another : grown 2 ((0, 0) ∷ (0, 1) ∷ (1, 1) ∷ (2, 2) ∷ (3, 3) ∷ []) (typing_a ∷ typing_e ∷ []) ≡ Some RestBroken
unfolding encode_utf8
root_with_another = refl

too_long : grown 1 all_pairs (typing_a ∷ typing_e ∷ []) ≡ Some (BoundExceeded 3)
unfolding encode_utf8
too_long = refl

-- the text before the character does not count as typing it
another_text_before : grown 2 all_pairs (typing_a ∷ record { character = 0xe9; keys = 0x78 ∷ 0xfe51 ∷ 0x65 ∷ [] } ∷ []) ≡ Some (TypingWrong 0xe9)
unfolding encode_utf8
another_text_before = refl

-- keys that are not the repertoire's don't count either
another_key : grown 2 all_pairs (typing_a ∷ record { character = 0xe9; keys = 0xffe1 ∷ 0xfe51 ∷ 0x65 ∷ [] } ∷ []) ≡ Some (TypingWrong 0xe9)
unfolding encode_utf8
another_key = refl

no_typing : grown 2 all_pairs (typing_e ∷ []) ≡ Some (TypingMissing 0xe1)
unfolding encode_utf8
no_typing = refl

one_too_few : grown 2 all_pairs (typing_a ∷ []) ≡ Some (TypingMissing 0xe9)
unfolding encode_utf8
one_too_few = refl

one_too_many : grown 2 all_pairs (typing_a ∷ typing_e ∷ record { character = 0xea; keys = 0x61 ∷ [] } ∷ []) ≡ Some (TypingUnasked 0xea)
unfolding encode_utf8
one_too_many = refl

-- ---- a sequence is lost

-- <Multi_key> <apostrophe> <e> : "é" and <Multi_key> <apostrophe> <a> : "á"
abbrev without_dead : List Definition
without_dead = one_line ++ record { sequence = 0xff20 ∷ 0x27 ∷ 0x61 ∷ []; text = 0xc3 ∷ 0xa1 ∷ [] } ∷ []

text_differs : fault_of core two_lines without_dead nothing (plain 2 ((0, 0) ∷ (1, 0) ∷ (2, 1) ∷ (3, 2) ∷ [])) ≡ Some (TextDiffers 1 0x65)
unfolding encode_utf8
text_differs = refl

-- ---- a new start

-- <Multi_key> <apostrophe> <e> : "é" and <dead_caron> <c> : "č"
abbrev caron : List Definition
caron = one_line ++ record { sequence = 0xfe5a ∷ 0x63 ∷ []; text = 0xc4 ∷ 0x8d ∷ [] } ∷ []

abbrev caron_pairs : List (ℕ × ℕ)
caron_pairs = (0, 0) ∷ (1, 2) ∷ (2, 3) ∷ []

new_start : fault_of core one_line caron nothing (plain 2 caron_pairs) ≡ Some (NewStart 0xfe5a)
new_start = refl

abbrev with_fresh : List ℕ → Option CheckFault
with_fresh fresh = fault_of core one_line caron nothing (record { bound = 2; pairs = caron_pairs; typings = []; fresh = fresh })

fresh_start : with_fresh (0xfe5a ∷ []) ≡ None
fresh_start = refl

fresh_twice : with_fresh (0xfe5a ∷ 0xfe5a ∷ []) ≡ Some FreshNotRising
fresh_twice = refl

fresh_ignored : with_fresh (0xffe1 ∷ []) ≡ Some (FreshIgnored 0xffe1)
fresh_ignored = refl

fresh_used : with_fresh (0xff20 ∷ []) ≡ Some (FreshUsed 0xff20)
fresh_used = refl

-- also if it comes only after the first keysym of a sequence
fresh_used_later : with_fresh (0x27 ∷ []) ≡ Some (FreshUsed 0x27)
fresh_used_later = refl

-- ---- unequal paths, a silent cancel, and a key that gave itself before

-- <dead_grave> <dead_acute> <e> : "x" and <dead_acute> <e> : "x"
abbrev long_way : List Definition
long_way = record { sequence = 0xfe50 ∷ 0xfe51 ∷ 0x65 ∷ []; text = codes "x" } ∷ record { sequence = 0xfe51 ∷ 0x65 ∷ []; text = codes "x" } ∷ []

abbrev short_way : List Definition
short_way = record { sequence = 0xfe51 ∷ 0x65 ∷ []; text = codes "x" } ∷ []

unequal_paths : fault_of core long_way short_way nothing (plain 1 ((0, 0) ∷ (1, 0) ∷ (2, 1) ∷ (3, 1) ∷ [])) ≡ None
unequal_paths = refl

-- <dead_grave> <dead_acute> <c> : "c" and <dead_grave> <d> : "y"
abbrev grave_acute : List Definition
grave_acute = record { sequence = 0xfe50 ∷ 0xfe51 ∷ 0x63 ∷ []; text = codes "c" } ∷ []

abbrev grave_d : List Definition
grave_d = record { sequence = 0xfe50 ∷ 0x64 ∷ []; text = codes "y" } ∷ []

cancels_silently : fault_of core grave_acute grave_d nothing (plain 1 ((0, 0) ∷ (1, 1) ∷ [])) ≡ Some (Cancels 1 0xfe51)
cancels_silently = refl

-- <a> : "a"
abbrev a_is_a : List Definition
a_is_a = record { sequence = 0x61 ∷ []; text = codes "a" } ∷ []

nothing_is_left : fault_of core a_is_a [] nothing (plain 0 ((0, 0) ∷ [])) ≡ None
unfolding encode_utf8
nothing_is_left = refl

-- <b> <c> : "x"
abbrev b_c : List Definition
b_c = record { sequence = 0x62 ∷ 0x63 ∷ []; text = codes "x" } ∷ []

another_start : fault_of core a_is_a b_c nothing (plain 0 ((0, 0) ∷ [])) ≡ Some (NewStart 0x62)
unfolding encode_utf8
another_start = refl
