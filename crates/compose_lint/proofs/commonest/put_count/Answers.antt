use Rattle.std.proofs.Common.{◌∙◌, ap}
use Rattle.std.specs.Prelude.{unwrap_or, bytes_eq, ◌&&◌}
use Rattle.indexmap.specs.IndexMap.{get_by}
use Rattle.compose_lint.proofs.Tallies.{put}
use Rattle.compose_lint.proofs.commonest.put_count.Goals as goal

pub returns : goal.returns
returns c = λ k v.
    ap (λ o. unwrap_or o 0) (c.in_ok-insert.ensures.updates.0 (k, v))
    ∙ put (bytes_eq c.args.key.now k.now && bytes_eq c.args.value.now v.now) c.args.count (get_by (λ p. bytes_eq k.now p.0.now && bytes_eq v.now p.1.now) c.args.others.now)
