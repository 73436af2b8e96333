use Rattle.std.proofs.Common.{◌≡◌, ◌≤◌, ℕ, List, Bor, cond, length}
use Rattle.std.specs.Prelude.{Some, None, bytes_eq}
use Rattle.std.specs.Option.{option_or}
use Rattle.indexmap.specs.IndexMap.{get_by}
use Rattle.compose_lint.proofs.PrefixOnes.{is_from}
use Rattle.compose_lint.proofs.longer.add_prefixes.Given as goal

-- the proper prefixes of at least this length have a place
abbrev pub invariant-loop-len : goal.invariant-loop-len
invariant-loop-len l = record {
  within : l.len ≤ length l.sequence;
  longer : (q : Bor (List ℕ)) → get_by (λ k. bytes_eq q.now k.now) l.places ≡ option_or (get_by (λ k. bytes_eq q.now k.now) l.fn.places) (cond (is_from l.sequence l.len q.now) (Some l.place) None);
}

abbrev pub decreases-loop-len : goal.decreases-loop-len
decreases-loop-len l = l.len
