-- Small sources and tables, worked out.
use Rattle.std.proofs.Common.{◌≡◌, ℕ, List, [], ◌∷◌, ◌++◌, refl, map}
use Rattle.std.specs.Prelude.{Ok, Err, codes, ◌+◌, suc, zero}
use Rattle.std.specs.Str.{is_utf8, chars}
use Rattle.std.specs.Char.{encode_utf8}
use Rattle.keysym_core.specs.Names.{KeysymNames}
use Rattle.compose_model.specs.Table.{Definition}
use Rattle.compose_lex.specs.Fault.{events_at}
use Rattle.compose_lex.specs.declared.LexFault.TheVariants.{ModifierList, EmptyText}
use Rattle.compose_read.specs.Lines.{Source, Visit, source_lines, visits}
use Rattle.compose_read.specs.Read.{definitions_of}
use Rattle.compose_read.specs.Settle.{settled}
use Rattle.compose_read.specs.declared.ReadFault.TheVariants.{MissingRoot, NotUtf8, Lex, UnknownKeysym, IgnoredKeysym, MissingInclude, IncludeDepth}
use Rattle.compose_model.specs.declared.Rule.TheVariants.{Refuse, Longest}

abbrev string : List ℕ → List ℕ
string raw = 34 ∷ raw ++ 34 ∷ []

abbrev source : List ℕ → List ℕ → Source
source name bytes = record { name = name; bytes = bytes }

abbrev row : List ℕ → List ℕ → Definition
row sequence text = record { sequence = sequence; text = text }

-- the names that the examples use
abbrev few : KeysymNames
few = record {
  names = record { name = codes "a"; value = 0x61 } ∷ record { name = codes "b"; value = 0x62 }
      ∷ record { name = codes "Shift_L"; value = 0xffe1 } ∷ record { name = codes "eacute"; value = 0xe9 } ∷ [];
  characters = [];
}

-- a line with one event
abbrev defines : List ℕ → List ℕ → List ℕ
defines event text = 60 ∷ event ++ codes "> : " ++ string text ++ 10 ∷ []

abbrev includes : List ℕ → List ℕ
includes name = codes "include " ++ string name ++ 10 ∷ []

-- ---- lines

no_line : source_lines [] ≡ []
no_line = refl

marked : source_lines (0xef ∷ 0xbb ∷ 0xbf ∷ 97 ∷ []) ≡ (97 ∷ []) ∷ []
marked = refl

mark_alone : source_lines (0xef ∷ 0xbb ∷ 0xbf ∷ []) ≡ []
mark_alone = refl

last_newline : source_lines (97 ∷ 10 ∷ 10 ∷ 98 ∷ 10 ∷ []) ≡ (97 ∷ []) ∷ [] ∷ (98 ∷ []) ∷ []
last_newline = refl

-- ---- faults of one line

abbrev alone : List ℕ → List Source
alone bytes = source (codes "r") bytes ∷ []

modifier_list : definitions_of few (alone (codes "Ctrl<a> : " ++ string (codes "x"))) (codes "r") ≡ Err (Lex 0 1 (ModifierList 0))
unfolding is_utf8 chars encode_utf8 events_at
modifier_list = refl

ignored : definitions_of few (alone (defines (codes "a") (codes "x") ++ defines (codes "Shift_L") (codes "x"))) (codes "r") ≡ Err (IgnoredKeysym 0 2 0)
unfolding is_utf8 chars encode_utf8 events_at
ignored = refl

unknown : definitions_of few (alone (defines (codes "nosuch") (codes "x"))) (codes "r") ≡ Err (UnknownKeysym 0 1 0)
unfolding is_utf8 chars encode_utf8 events_at
unknown = refl

unknown_result : definitions_of few (alone (codes "<a> <b> : nosuch")) (codes "r") ≡ Err (UnknownKeysym 0 1 2)
unfolding is_utf8 chars encode_utf8 events_at
unknown_result = refl

empty_text : definitions_of few (alone (codes "<a> : " ++ string [])) (codes "r") ≡ Err (Lex 0 1 EmptyText)
unfolding is_utf8 chars encode_utf8 events_at
empty_text = refl

no_text : definitions_of few (alone (0xff ∷ [])) (codes "r") ≡ Err (NotUtf8 0 1)
unfolding is_utf8 chars encode_utf8 events_at
no_text = refl

text_of_keysym : definitions_of few (alone (codes "<a> : eacute")) (codes "r") ≡ Ok (row (0x61 ∷ []) (0xc3 ∷ 0xa9 ∷ []) ∷ [])
unfolding is_utf8 chars encode_utf8 events_at
text_of_keysym = refl

missing_root : definitions_of few (alone []) (codes "s") ≡ Err MissingRoot
missing_root = refl

-- ---- includes

missing_include : definitions_of few (alone (includes (codes "none"))) (codes "r") ≡ Err (MissingInclude 0 1)
unfolding is_utf8 chars encode_utf8
missing_include = refl

includes_itself : definitions_of few (alone (includes (codes "r"))) (codes "r") ≡ Err (IncludeDepth 0 1)
unfolding is_utf8 chars encode_utf8
includes_itself = refl

-- the root's definition, and after it that of the included source
abbrev two_sources : List Source
two_sources = source (codes "r") (defines (codes "a") (codes "x") ++ includes (codes "%L") ++ defines (codes "b") (codes "y")) ∷ source (codes "%L") (defines (codes "a") (codes "z")) ∷ []

in_place : definitions_of few two_sources (codes "r") ≡ Ok (row (0x61 ∷ []) (codes "x") ∷ row (0x61 ∷ []) (codes "z") ∷ row (0x62 ∷ []) (codes "y") ∷ [])
unfolding is_utf8 chars encode_utf8 events_at
in_place = refl

abbrev place : Visit → ℕ × ℕ × ℕ
place v = (v.source, v.line, v.depth)

visited : map place (visits two_sources 0) ≡ (0, 1, 0) ∷ (0, 2, 0) ∷ (1, 1, 1) ∷ (0, 3, 0) ∷ []
unfolding is_utf8 chars encode_utf8 events_at
visited = refl

-- sources `i` to `9`, each of which includes the next one, and the last one empty: `left` of them
-- include
abbrev chain_from : ℕ → ℕ → List Source
chain_from zero i = source (i ∷ []) [] ∷ []
chain_from (suc left) i = source (i ∷ []) (includes ((1 + i) ∷ [])) ∷ chain_from left (1 + i)

eight_includes : definitions_of few (chain_from 8 48) (48 ∷ []) ≡ Ok []
unfolding is_utf8 chars encode_utf8
eight_includes = refl

nine_includes : definitions_of few (chain_from 9 48) (48 ∷ []) ≡ Err (IncludeDepth 8 1)
unfolding is_utf8 chars encode_utf8
nine_includes = refl

-- ---- settling

overlap_refused : settled Refuse (row (0x61 ∷ 0x62 ∷ []) (codes "x") ∷ row (0x61 ∷ []) (codes "y") ∷ []) ≡ Err (record { short = 0x61 ∷ []; long = 0x61 ∷ 0x62 ∷ [] })
overlap_refused = refl

last_counts : settled Refuse (row (0x62 ∷ []) (codes "w") ∷ row (0x61 ∷ []) (codes "x") ∷ row (0x62 ∷ []) (codes "z") ∷ []) ≡ Ok (row (0x61 ∷ []) (codes "x") ∷ row (0x62 ∷ []) (codes "z") ∷ [])
last_counts = refl

-- <a> : "1", <a> <b> <c> : "2", <a> <b> : "3", <a> <b> <c> : "4"
longest_stays : settled Longest (row (0x61 ∷ []) (codes "1") ∷ row (0x61 ∷ 0x62 ∷ 0x63 ∷ []) (codes "2") ∷ row (0x61 ∷ 0x62 ∷ []) (codes "3") ∷ row (0x61 ∷ 0x62 ∷ 0x63 ∷ []) (codes "4") ∷ [])
    ≡ Ok (row (0x61 ∷ 0x62 ∷ 0x63 ∷ []) (codes "4") ∷ [])
longest_stays = refl
