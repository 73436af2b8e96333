-- Small pairs of tables, worked out.
use Rattle.std.proofs.Common.{◌≡◌, ℕ, List, [], ◌∷◌, ◌++◌, refl, true, false}
use Rattle.std.specs.Prelude.{codes, Option, Some, None}
use Rattle.std.specs.Char.{encode_utf8}
use Rattle.keysym_core.specs.Names.{KeysymNames}
use Rattle.compose_model.specs.Table.{Definition, is_sequence}
use Rattle.compose_compare.specs.declared.Change.{Change}
use Rattle.compose_compare.specs.declared.Change.TheVariants.{Kept, Changed, Waiting, Removed, Added, NewStart}
use Rattle.compose_compare.specs.Change.{change, loses_nothing, old_changes, new_changes}

abbrev core : KeysymNames
core = record { names = []; characters = [] }

abbrev line : List ℕ → List ℕ → List Definition
line s t = record { sequence = s; text = t } ∷ []

-- <Multi_key> <apostrophe> <e>
abbrev multi_e : List ℕ
multi_e = 0xff20 ∷ 0x27 ∷ 0x65 ∷ []

abbrev old : List Definition
old = line multi_e (0xc3 ∷ 0xa9 ∷ [])

-- ---- what is lost

-- the new table has nothing for it: the keys type themselves
removed : change core [] old [] multi_e ≡ Removed
unfolding encode_utf8
removed = refl

-- the new table breaks it off and commits nothing more
cancelled : change core [] old (line (0xff20 ∷ 0x78 ∷ []) (codes "x")) multi_e ≡ Removed
cancelled = refl

-- the new table commits before its last key
too_early : change core [] old (line (0xff20 ∷ 0x27 ∷ []) (codes "x")) multi_e ≡ Removed
too_early = refl

changed : change core [] old (line multi_e (codes "e")) multi_e ≡ Changed
changed = refl

waits : change core [] old (line (multi_e ++ 0x65 ∷ []) (codes "e")) multi_e ≡ Waiting
waits = refl

-- ---- what is kept, though the new table lacks the sequence

-- <dead_grave> gives no text by itself, and the rest is a sequence
abbrev long_way : List Definition
long_way = line (0xfe50 ∷ 0xfe51 ∷ 0x65 ∷ []) (codes "x") ++ line (0xfe51 ∷ 0x65 ∷ []) (codes "x")

abbrev short_way : List Definition
short_way = line (0xfe51 ∷ 0x65 ∷ []) (codes "x")

kept : change core [] long_way short_way (0xfe50 ∷ 0xfe51 ∷ 0x65 ∷ []) ≡ Kept
kept = refl

lacking : is_sequence short_way (0xfe50 ∷ 0xfe51 ∷ 0x65 ∷ []) ≡ false
lacking = refl

nothing_lost : loses_nothing core [] long_way short_way ≡ true
nothing_lost = refl

-- a key that gave its own text still does
plain_kept : change core [] (line (0x61 ∷ []) (codes "a")) [] (0x61 ∷ []) ≡ Kept
unfolding encode_utf8
plain_kept = refl

-- one that gave another text does not
plain_removed : change core [] (line (0x61 ∷ []) (codes "z")) [] (0x61 ∷ []) ≡ Removed
unfolding encode_utf8
plain_removed = refl

-- a shorter sequence with no text, and then a key that gives its own
empty_text : change core [] (line (0xfe50 ∷ 0x65 ∷ []) (codes "e")) (line (0xfe50 ∷ []) []) (0xfe50 ∷ 0x65 ∷ []) ≡ Kept
unfolding encode_utf8
empty_text = refl

-- ---- what is added

-- <Multi_key> <apostrophe> <a>, <dead_caron> <c>, and <a>, which gives its own text
abbrev multi_a : List ℕ
multi_a = 0xff20 ∷ 0x27 ∷ 0x61 ∷ []

abbrev caron_c : List ℕ
caron_c = 0xfe5a ∷ 0x63 ∷ []

added : change core [] old (old ++ line multi_a (codes "a")) multi_a ≡ Added
added = refl

new_start : change core [] old (old ++ line caron_c (codes "c")) caron_c ≡ NewStart
new_start = refl

-- the same with <dead_caron> fresh
fresh_start : change core (0xfe5a ∷ []) old (old ++ line caron_c (codes "c")) caron_c ≡ Added
fresh_start = refl

itself : change core [] old (old ++ line (0x61 ∷ []) (codes "a")) (0x61 ∷ []) ≡ Added
unfolding encode_utf8
itself = refl

not_itself : change core [] old (old ++ line (0x61 ∷ []) (codes "z")) (0x61 ∷ []) ≡ NewStart
unfolding encode_utf8
not_itself = refl

-- ---- both tables whole, each sequence once

abbrev before : List Definition
before = old ++ line (0xfe51 ∷ 0x65 ∷ []) (codes "x")

abbrev after : List Definition
after = line multi_e (codes "e") ++ line caron_c (codes "c") ++ line (0xfe51 ∷ 0x65 ∷ []) (codes "x")

abbrev lists_of_both : List Change × List (Option Change)
lists_of_both = (Kept ∷ Changed ∷ [], None ∷ Some NewStart ∷ None ∷ [])

by_table : (old_changes core [] before after, new_changes core [] before after) ≡ lists_of_both
by_table = refl

-- ---- why the premises are there

-- a sequence with an ignored keysym is never typed to its end, so it is not kept although nothing
-- changed
abbrev with_shift_inside : List Definition
with_shift_inside = line (0xfe50 ∷ 0xffe1 ∷ 0x65 ∷ []) (codes "x")

shift_inside : change core [] with_shift_inside with_shift_inside (0xfe50 ∷ 0xffe1 ∷ 0x65 ∷ []) ≡ Changed
shift_inside = refl

-- a sequence that begins with an ignored keysym counts as a new start, although nobody can type it
shift_first : change core [] [] (line (0xffe1 ∷ 0x65 ∷ []) (codes "x")) (0xffe1 ∷ 0x65 ∷ []) ≡ NewStart
shift_first = refl

-- a sequence with a fresh keysym is not covered by what following promises
fresh_used : change core (0xfe50 ∷ []) (line (0xfe50 ∷ 0x65 ∷ []) (codes "x")) (line (0xfe50 ∷ 0x65 ∷ []) (codes "z")) (0xfe50 ∷ 0x65 ∷ []) ≡ Changed
fresh_used = refl
