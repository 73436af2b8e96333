use Rattle.std.proofs.Common.{◌∙◌, ◌++◌, sym, ap}
use Rattle.std.proofs.lemmas.List.{append-nil}
use Rattle.compose_lint.proofs.LastOnes.{not_again}
use Rattle.compose_lint.proofs.kinds.push_defined_again.Goals as goal

pub returns-then-is_once : goal.returns-then-is_once
returns-then-is_once c =
    let kinds = c.args.kinds.now.items in
    sym (ap (λ ks. kinds ++ ks) (not_again c.args.lines.now c.args.line.now c.args.definition.now (c.requires.once c.if-is_once.true)) ∙ append-nil kinds)
