use Rattle.std.proofs.Common.{◌∙◌, cond, sym, ap, ap₂}
use Rattle.std.specs.Prelude.{bytes_eq, ◌&&◌, unwrap_or}
use Rattle.std.proofs.lemmas.Bool.{not-true}
use Rattle.indexmap.specs.IndexMap.{get_by}
use Rattle.compose_lint.proofs.Tallies.{kept_apart}
use Rattle.compose_lint.proofs.commonest.keep_others.Goals as goal

pub returns-in_ok-put_count-2 : goal.returns-in_ok-put_count-2
returns-in_ok-put_count-2 c = λ k v.
    (let key = c.args.key.now in let first = unwrap_or (get_by (λ p. bytes_eq k.now p.0.now && bytes_eq v.now p.1.now) c.put_count.new.others) 0 in
    kept_apart c.args.leader.now key c.args.value.now c.args.count k.now v.now _ first _
    (ap (bytes_eq c.args.value.now) (sym c.value.ensures) ∙ not-true _ (sym c.ne.ensures ∙ c.if-ne.true)) (c.in_ok-put_count.ensures k v)
    (c.in_ok-put_count-2.ensures k v ∙ ap₂ (λ w n. cond (bytes_eq key k.now && bytes_eq w v.now) n first) c.value-then-ne.ensures c.count.ensures))
