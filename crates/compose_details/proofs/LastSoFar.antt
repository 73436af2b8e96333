-- The last definition of a sequence, one definition further back.
use Rattle.std.proofs.Common.{◌≡◌, ℕ, ◌+◌, List, Bool, true, false, cond, drop, refl, ap, ◌∙◌, arith}
use Rattle.std.specs.Prelude.{Option, Some, None, option_map, slice_get}
use Rattle.std.specs.Option.{option_or}
use Rattle.std.proofs.lemmas.Option.{same_Some}
use Rattle.compose_model.specs.Table.{Definition, same}
use Rattle.compose_fresh.proofs.Unmet.{drop_at}
use Rattle.compose_places.specs.Last.{last_from}

-- the last of those from index i on, or else an earlier one, is the last of those after i, with the
-- one at i among the earlier ones
pub one_back : (table : List Definition) (v : List ℕ) (i : ℕ) (s : List ℕ) (last : Option ℕ) → option_map (λ (d : Definition). d.sequence) (slice_get table i) ≡ Some s
    → option_or (last_from i (drop i table) v) last ≡ option_or (last_from (i + 1) (drop (i + 1) table) v) (cond (same v s) (Some i) last)
one_back table v i s last h = go (slice_get table i) refl h
  where
    both : (o : Option ℕ) (b : Bool) → option_or (option_or o (cond b (Some i) None)) last ≡ option_or o (cond b (Some i) last)
    both None true = refl
    both None false = refl
    both (Some x) b = refl

    go : (o : Option Definition) → slice_get table i ≡ o → option_map (λ (d : Definition). d.sequence) o ≡ Some s
        → option_or (last_from i (drop i table) v) last ≡ option_or (last_from (i + 1) (drop (i + 1) table) v) (cond (same v s) (Some i) last)
    go None e h = cc
    go (Some d) e h =
        let one : 1 + i ≡ i + 1 = omega arith in
        ap (λ ds. option_or (last_from i ds v) last) (drop_at table i d e)
        ∙ ap (λ n. option_or (option_or (last_from n (drop (i + 1) table) v) (cond (same v d.sequence) (Some i) None)) last) one
        ∙ both (last_from (i + 1) (drop (i + 1) table) v) (same v d.sequence)
        ∙ ap (λ x. option_or (last_from (i + 1) (drop (i + 1) table) v) (cond (same v x) (Some i) last)) (same_Some d.sequence s h)
