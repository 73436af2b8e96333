use Rattle.std.proofs.Common.{◌≡◌, ℕ, List, Bor, map, take}
use Rattle.std.specs.Prelude.{bytes_eq}
use Rattle.indexmap.specs.IndexSet.{contains_by}
use Rattle.compose_lookup.specs.TextIndex.{is_among}
use Rattle.compose_lookup.proofs.text_index.set_of.Given as goal

-- the set has the texts so far
abbrev pub invariant-loop-text : goal.invariant-loop-text
invariant-loop-text l = (q : Bor (List ℕ)) → contains_by (λ k. bytes_eq q.now k.now) l.set ≡ is_among (map (λ t. t.now) (take l.text-index l.texts)) q.now
