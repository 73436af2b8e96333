use Rattle.std.proofs.Common.{◌∙◌, sym, below_more}
use Rattle.std.proofs.lemmas.Bool.{eqb-false}
use Rattle.compose_tree.proofs.Lookups.{keysym_at}
use Rattle.compose_tree.proofs.list_table.index_in.Goals as goal

pub loop-index-preserved : goal.loop-index-preserved
loop-index-preserved c =
    below_more _ _ c.loop-index.invariant
    (λ same. eqb-false _ c.args.keysym (sym c.eq.ensures ∙ c.if-eq.false)
    (sym (keysym_at c.args.edges.now c.loop-index.index c.index-edges-index.result c.loop-index-test.true c.index-edges-index.is) ∙ same))
