-- Small tables, walked by the definitions.
use Rattle.std.proofs.Common.{◌≡◌, ℕ, zero, suc, List, [], ◌∷◌, ◌++◌, map, refl, sym, subst, arith, true, false}
use Rattle.std.specs.Prelude.{Some, codes}
use Rattle.std.specs.Char.{encode_utf8}
use Rattle.std.specs.Fmt.{digits}
use Rattle.std.specs.List.Sorted.{IsPermutation, IsSortedBy}
use Rattle.std.proofs.lemmas.List.Sorted.{IsPermutation-refl}
use Rattle.keysym_core.specs.Names.{KeysymNames}
use Rattle.compose_model.specs.Table.{Definition}
use Rattle.compose_model.specs.Follows.{cancelled, text_differs, waiting}
use Rattle.compose_model.specs.Nodes.{nodes}
use Rattle.compose_model.specs.Certificate.{AreFresh}
use Rattle.compose_walk.specs.Evidence.{Evidence, AreDifferences, comes_first}
use Rattle.compose_walk.specs.Explained.{explained, all_explained}
use Rattle.compose_walk.specs.Pass.{difference_at, agrees, differing_edges, differing_starts}
use Rattle.compose_walk.specs.Stands.{all_found, comes_sooner, evidence_found}
use Rattle.compose_walk.specs.declared.pass.Found.{Found}
use Rattle.compose_walk.proofs.Order.{all_differences}

abbrev core : KeysymNames
core = record { names = record { name = codes "dead_acute"; value = 0xfe51 } ∷ record { name = codes "e"; value = 0x65 } ∷ []; characters = [] }

abbrev acute_e : List ℕ
acute_e = 0xc3 ∷ 0xa9 ∷ []

-- <Multi_key> <apostrophe> <e> : "é"
abbrev one_line : List Definition
one_line = record { sequence = 0xff20 ∷ 0x27 ∷ 0x65 ∷ []; text = acute_e } ∷ []

-- and <dead_acute> <e> : "é"
abbrev two_lines : List Definition
two_lines = record { sequence = 0xfe51 ∷ 0x65 ∷ []; text = acute_e } ∷ one_line

-- <Multi_key> <apostrophe> <e> : "é" and <Multi_key> <apostrophe> <a> : "á"
abbrev without_dead : List Definition
without_dead = record { sequence = 0xff20 ∷ 0x27 ∷ 0x61 ∷ []; text = 0xc3 ∷ 0xa1 ∷ [] } ∷ one_line

-- ---- a sequence that is gone

gone_kind : difference_at core two_lines without_dead (0xfe51 ∷ []) 0x65 ≡ Some text_differs
unfolding encode_utf8
gone_kind = refl

gone_text : explained core (record { keys = 0xfe51 ∷ 0x65 ∷ []; kind = text_differs; old_text = acute_e; new_text = codes "e" })
    ≡ codes "keys dead_acute e" ++ 10 ∷ codes "kind text" ++ 10 ∷ codes "old " ++ 34 ∷ acute_e ++ 34 ∷ 10 ∷ codes "new " ++ 34 ∷ 101 ∷ 34 ∷ 10 ∷ []
gone_text = refl

-- ---- a new start, unless it is fresh

-- one_line and <dead_caron> <c> : "č"
abbrev caron : List Definition
caron = record { sequence = 0xfe5a ∷ 0x63 ∷ []; text = 0xc4 ∷ 0x8d ∷ [] } ∷ one_line

caron_starts : differing_starts core [] one_line caron ≡ 0xfe5a ∷ []
caron_starts = refl

caron_kind : difference_at core one_line caron [] 0xfe5a ≡ Some waiting
caron_kind = refl

caron_fresh : differing_starts core (0xfe5a ∷ []) one_line caron ≡ []
caron_fresh = refl

-- ---- a shorter way round follows

-- <dead_grave> <dead_acute> <e> : "x" and <dead_acute> <e> : "x", and the second line alone
abbrev short_way : List Definition
short_way = record { sequence = 0xfe51 ∷ 0x65 ∷ []; text = codes "x" } ∷ []

abbrev long_way : List Definition
long_way = record { sequence = 0xfe50 ∷ 0xfe51 ∷ 0x65 ∷ []; text = codes "x" } ∷ short_way

agrees_all_along : agrees core long_way short_way (0xfe50 ∷ 0xfe51 ∷ []) ≡ true
agrees_all_along = refl

nothing_after : differing_edges core long_way short_way (0xfe50 ∷ 0xfe51 ∷ []) ≡ []
nothing_after = refl

-- ---- a sequence that the new table breaks off

-- <dead_grave> <dead_acute> <c> : "c" and <dead_grave> <d> : "y"
abbrev grave_acute : List Definition
grave_acute = record { sequence = 0xfe50 ∷ 0xfe51 ∷ 0x63 ∷ []; text = codes "c" } ∷ []

abbrev grave_d : List Definition
grave_d = record { sequence = 0xfe50 ∷ 0x64 ∷ []; text = codes "y" } ∷ []

breaks_off : differing_edges core grave_acute grave_d (0xfe50 ∷ []) ≡ 0xfe51 ∷ []
breaks_off = refl

breaks_kind : difference_at core grave_acute grave_d (0xfe50 ∷ []) 0xfe51 ≡ Some cancelled
breaks_kind = refl

-- nothing is checked after it
not_after : agrees core grave_acute grave_d (0xfe50 ∷ 0xfe51 ∷ []) ≡ false
not_after = refl

-- ---- a sequence of one keysym with that keysym's own text may be removed

itself_goes : differing_edges core (record { sequence = 0x61 ∷ []; text = codes "a" } ∷ []) [] [] ≡ []
unfolding encode_utf8
itself_goes = refl

-- ---- the shortest first, and the first of the shortest

-- <dead_grave> <a> : "x", <dead_circumflex> : "z" and <dead_acute> : "y"
abbrev three : List Definition
three = record { sequence = 0xfe50 ∷ 0x61 ∷ []; text = codes "x" } ∷ record { sequence = 0xfe52 ∷ []; text = codes "z" } ∷ record { sequence = 0xfe51 ∷ []; text = codes "y" } ∷ []

at_root : differing_edges core three [] [] ≡ 0xfe51 ∷ 0xfe52 ∷ []
at_root = refl

after_grave : differing_edges core three [] (0xfe50 ∷ []) ≡ 0x61 ∷ []
unfolding encode_utf8
after_grave = refl

acute_before_circumflex : comes_first (0xfe51 ∷ []) (0xfe52 ∷ []) ≡ true
acute_before_circumflex = refl

shorter_before : comes_first (0xfe52 ∷ []) (0xfe50 ∷ 0x61 ∷ []) ≡ true
shorter_before = refl

not_deep_first : comes_first (0xfe50 ∷ 0x61 ∷ []) (0xfe51 ∷ []) ≡ false
not_deep_first = refl

-- ---- all differences of two tables

abbrev named : KeysymNames
named = record { names = record { name = codes "dead_grave"; value = 0xfe50 } ∷ record { name = codes "dead_acute"; value = 0xfe51 } ∷ record { name = codes "a"; value = 0x61 } ∷ []; characters = [] }

-- <dead_grave> <a> : "x", and <dead_acute> <e> : "y" in its place
abbrev grave_a : List Definition
grave_a = record { sequence = 0xfe50 ∷ 0x61 ∷ []; text = codes "x" } ∷ []

abbrev acute_e_line : List Definition
acute_e_line = record { sequence = 0xfe51 ∷ 0x65 ∷ []; text = codes "y" } ∷ []

-- the new table waits after dead_acute, and types no "x"
abbrev both : List Evidence
both = record { keys = 0xfe51 ∷ []; kind = waiting; old_text = []; new_text = [] } ∷ record { keys = 0xfe50 ∷ 0x61 ∷ []; kind = text_differs; old_text = codes "x"; new_text = codes "a" } ∷ []

abbrev both_found : List Found
both_found = record { depth = 0; node = 0; keysym = 0xfe51 } ∷ record { depth = 1; node = 1; keysym = 0x61 } ∷ []

found_are : all_found named [] grave_a acute_e_line (nodes grave_a) ≡ both_found
unfolding encode_utf8
found_are = refl

in_order : IsSortedBy comes_sooner both_found
in_order zero d low high = refl
in_order (suc k) d low high = absurd (omega arith)

none_fresh : AreFresh [] grave_a
none_fresh = record { rise = refl; none_ignored = refl; none_used = refl }

reported : map (evidence_found named grave_a acute_e_line) both_found ≡ both
unfolding encode_utf8
reported = refl

these_two : AreDifferences named [] grave_a acute_e_line both
these_two =
    subst (AreDifferences named [] grave_a acute_e_line) reported
    (all_differences named [] grave_a acute_e_line refl refl none_fresh both_found (subst (λ (xs : List Found). IsPermutation xs both_found) (sym found_are) (IsPermutation-refl both_found)) in_order)

these_two_text : all_explained named both
    ≡ codes "keys dead_acute" ++ 10 ∷ codes "kind waiting" ++ 10 ∷ codes "old " ++ 34 ∷ 34 ∷ 10 ∷ codes "new " ++ 34 ∷ 34 ∷ 10
    ∷ 10 ∷ codes "keys dead_grave a" ++ 10 ∷ codes "kind text" ++ 10 ∷ codes "old " ++ 34 ∷ codes "x" ++ 34 ∷ 10 ∷ codes "new "
    ++ 34 ∷ codes "a" ++ 34 ∷ 10 ∷ 10 ∷ codes "2 differences: 1 text, 0 cancelled, 1 waiting" ++ 10 ∷ []
unfolding digits
these_two_text = refl

one_alone : all_explained named (record { keys = 0xfe51 ∷ []; kind = waiting; old_text = []; new_text = [] } ∷ [])
    ≡ codes "keys dead_acute" ++ 10 ∷ codes "kind waiting" ++ 10 ∷ codes "old " ++ 34 ∷ 34 ∷ 10 ∷ codes "new " ++ 34 ∷ 34 ∷ 10 ∷ 10 ∷ codes "1 difference: 0 text, 0 cancelled, 1 waiting" ++ 10 ∷ []
unfolding digits
one_alone = refl

none_text : all_explained named [] ≡ codes "follows" ++ 10 ∷ []
none_text = refl
