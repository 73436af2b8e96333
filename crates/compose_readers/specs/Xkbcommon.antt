-- A file as libxkbcommon opens it (src/compose/parser.c; since version 1.6 src/scanner-utils.h),
-- and the size of its tables.
use Rattle.std.specs.Prelude.{ℕ, Bool, true, not, nat_eq, ◌==◌, ◌&&◌, ◌||◌, nat_lt, if◌then◌else◌, List, [], ◌∷◌, drop, Option, Some, None}
use Rattle.std.specs.List.{starts_with}
use Rattle.compose_readers.specs.declared.walking.Refusal.{Refusal}
use Rattle.compose_readers.specs.declared.walking.Refusal.TheVariants.{Empty, Encoding}
use Rattle.compose_readers.specs.declared.xkbcommon.Version.{Version}
use Rattle.compose_readers.specs.declared.xkbcommon.Version.TheVariants.{V1_5, V1_7}

-- the byte order mark of UTF-8
abbrev pub mark : List ℕ
mark = 0xef ∷ 0xbb ∷ 0xbf ∷ []

-- the bytes that are read
abbrev pub behind_mark : Version → List ℕ → List ℕ
behind_mark V1_5 bytes = bytes
behind_mark V1_7 bytes = if starts_with nat_eq bytes mark then drop 3 bytes else bytes

-- the first byte is in ASCII, and of two bytes none is 0
abbrev pub begins_text : List ℕ → Bool
begins_text [] = true
begins_text (a ∷ []) = true
begins_text (a ∷ b ∷ bytes) = not (a == 0) && not (b == 0) && nat_lt a 128

-- why a file with these bytes makes a table refused
abbrev pub refusal_of : Version → List ℕ → Option Refusal
refusal_of version [] = Some Empty
refusal_of V1_5 (b ∷ bytes) = None
refusal_of V1_7 (b ∷ bytes) = if starts_with nat_eq (b ∷ bytes) mark || begins_text (b ∷ bytes) then None else Some Encoding

-- a table of 1.5 has at most 65,535 nodes, one of 1.7 two to the power of 23, each less one; the
-- root is one of them
abbrev pub most_nodes : Version → ℕ
most_nodes V1_5 = 65534
most_nodes V1_7 = 8388607
