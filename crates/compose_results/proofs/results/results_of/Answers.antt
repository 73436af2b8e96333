use Rattle.std.proofs.Common.{◌≡◌, ◌<◌, ◌∙◌, [], sym, subst, length, get_or, true, arith}
use Rattle.std.specs.Prelude.{Option, None, unwrap_or}
use Rattle.std.proofs.lemmas.List.Elements.{All-get_or}
use Rattle.compose_places.specs.Counting.{WrittenLine}
use Rattle.compose_tree.specs.Targets.{leaf_text}
use Rattle.compose_results.specs.Results.{IsResult, named_by}
use Rattle.compose_results.specs.SourceLines.{stands}
use Rattle.compose_results.proofs.OneMore.{line_at, one_result}
use Rattle.compose_results.proofs.results.results_of.Goals as goal

pub loop-leaf-preserved : goal.loop-leaf-preserved
loop-leaf-preserved g c =
    let names = c.args.names.now in let sources = c.args.sources.now in let lines = c.args.lines.now in
    let table = g.T.ComposeTable.definitions c.args.table.now in let leaf = c.loop-leaf.leaf in let keysym = c.leaf_result-keysym.result in
    let within : leaf < length lines = omega (arith, c.loop-leaf-test.true, c.leaf_count-leaf-end.ensures, c.requires.as_many) in
    let at : get_or lines leaf None ≡ c.index-lines-leaf.result = line_at lines leaf c.index-lines-leaf.result within c.index-lines-leaf.is in
    let stand : stands sources c.index-lines-leaf.result ≡ true =
    subst (λ line. stands sources line ≡ true) at (All-get_or (λ line. stands sources line ≡ true) lines leaf None within c.requires.stand) in
    one_result names sources lines table leaf c.loop-leaf.results.items c.push.new.self.items keysym c.loop-leaf.invariant
    (subst (λ (line : Option WrittenLine). IsResult names (named_by names sources line) (unwrap_or (leaf_text table leaf) []) keysym) (sym at)
    (c.leaf_result-keysym.ensures sources (c.deref.ensures.value ∙ c.in_ok-all.ensures) stand))
    c.in_ok-push.ensures.items
