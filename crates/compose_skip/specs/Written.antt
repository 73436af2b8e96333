-- Lines as they are written. Definitions for private functions.
use Rattle.std.specs.Prelude.{ℕ, List, [], ◌∷◌, ◌++◌, flat_map}
use Rattle.keysym_core.specs.Names.{KeysymNames}
use Rattle.compose_read.specs.Lines.{Visit}
use Rattle.compose_skip.specs.Faulty.{kept_line}

-- a byte order mark
abbrev pub mark : List ℕ
mark = 0xef ∷ 0xbb ∷ 0xbf ∷ []

-- each line as it is kept, and its newline (code 10)
abbrev pub written : KeysymNames → List Visit → List ℕ
written names vs = flat_map (λ v. kept_line names v ++ 10 ∷ []) vs
