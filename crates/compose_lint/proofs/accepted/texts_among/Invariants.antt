use Rattle.std.proofs.Common.{◌≡◌, ℕ, List, map, take, string_bytes}
use Rattle.std.specs.Prelude.{bytes_eq, is_some}
use Rattle.std.specs.List.{list_any}
use Rattle.indexmap.specs.IndexMap.{get_by}
use Rattle.compose_lint.proofs.accepted.texts_among.Given as goal

-- the texts so far are in the set
abbrev pub invariant-loop-text : goal.invariant-loop-text
invariant-loop-text l = (q : List ℕ) → is_some (get_by (λ k. bytes_eq q k.now) l.among) ≡ list_any (bytes_eq q) (map (λ text. string_bytes text) (take l.text-index l.texts))
