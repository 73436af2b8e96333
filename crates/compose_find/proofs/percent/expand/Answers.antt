use Rattle.std.proofs.Common.{◌∙◌, ap, rules}
use Rattle.compose_find.specs.FindReturns.{words, onto}
use Rattle.compose_find.specs.Expand.{path_of}
use Rattle.compose_find.proofs.Percents.{onto-none, piece_more}
use Rattle.compose_find.proofs.percent.expand.Goals as goal

pub loop-rest-init : goal.loop-rest-init
loop-rest-init c = (c.utf8.text, ap (λ p. onto p (path_of (words c.args.meanings) c.args.text.now)) c.new-path.ensures.bytes ∙ onto-none (path_of (words c.args.meanings) c.args.text.now))

pub loop-rest-preserved : goal.loop-rest-preserved
loop-rest-preserved c = (
  search rules,
  piece_more
      (words c.args.meanings) c.loop-rest.rest.now _ c.in_ok-piece.piece.now c.in_ok-piece.behind.now c.args.text.now _ c.in_ok-push_str.ensures.bytes c.in_ok-piece.ensures.0 c.loop-rest.invariant.1,
)
