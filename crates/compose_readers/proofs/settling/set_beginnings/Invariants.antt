use Rattle.std.proofs.Common.{◌≡◌, ℕ, List, cond, take}
use Rattle.std.specs.Prelude.{Some, bytes_eq}
use Rattle.indexmap.specs.IndexMap.{get_by}
use Rattle.compose_model.specs.Table.{is_proper_prefix}
use Rattle.compose_readers.proofs.settling.set_beginnings.Given as goal

-- the shorter beginnings have the index
abbrev pub invariant-loop-len : goal.invariant-loop-len
invariant-loop-len l = (q : List ℕ) → get_by (λ k. bytes_eq q k.now) l.first ≡ cond (is_proper_prefix q (take l.len l.keys)) (Some l.index) (get_by (λ k. bytes_eq q k.now) l.fn.first)
