use Rattle.std.proofs.Common.{◌≡◌, ◌-◌, ℕ, ap, ◌∙◌, arith, rules}
use Rattle.std.specs.Prelude.{flat_map}
use Rattle.std.specs.List.{range_with_len}
use Rattle.compose_lookup.specs.Lookup.{key_counts}
use Rattle.compose_lookup.specs.TextIndex.{of_length}
use Rattle.compose_lookup.proofs.Shortest.{up_to}
use Rattle.compose_lookup.proofs.text_index.leaves_by_length.Goals as goal

pub loop-keys-preserved : goal.loop-keys-preserved
loop-keys-preserved c = up_to (of_length c.args.lengths.now c.args.these.now) c.loop-keys.keys _ _ (omega arith) c.loop-keys.invariant (search rules)

pub returns : goal.returns
unfolding key_counts
returns c =
    let all : c.loop-keys.keys - 1 ≡ 32 = omega arith in
    c.loop-keys.invariant ∙ ap (λ (n : ℕ). flat_map (of_length c.args.lengths.now c.args.these.now) (range_with_len 1 n)) all
