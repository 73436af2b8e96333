-- What the functions that read a line of libxkbcommon return. Definitions for private functions.
use Rattle.std.specs.Prelude.{ℕ, List, ◌++◌, map, Option, option_map, option_copied}
use Rattle.std.proofs.Common.{Bor}
use Rattle.compose_xkbcommon.specs.Grammar as grammar
use Rattle.compose_xkbcommon.specs.Grammar.{Read}
use Rattle.compose_xkbcommon.specs.declared.grammar.Parts.{Parts}

-- a slice that was read, and the rest
abbrev pub read : Option (Bor (List ℕ) × Bor (List ℕ)) → Read (List ℕ)
read found = option_map (λ x. (x.0.now, x.1.now)) found

-- the rest
abbrev pub left : Option (Bor (List ℕ)) → Option (List ℕ)
left found = option_copied found

-- the same with these keys before those that were read
abbrev pub with_keys : List (List ℕ) → Read (List (List ℕ)) → Read (List (List ℕ))
with_keys before found = option_map (λ x. (before ++ x.0, x.1)) found

abbrev pub parts : Parts → grammar.Parts
parts p = record { keys = map (λ key. key.now) p.keys.items; string = option_copied p.string; name = option_copied p.name }
