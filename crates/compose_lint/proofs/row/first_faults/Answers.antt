use Rattle.std.proofs.Common.{◌∙◌, ap, sym}
use Rattle.compose_lint.specs.Faults.{is_surely_faultless}
use Rattle.compose_lint.proofs.NoFaults.{no_faults}
use Rattle.compose_lint.proofs.row.first_faults.Goals as goal

pub returns-then-is_surely_faultless : goal.returns-then-is_surely_faultless
returns-then-is_surely_faultless c =
    let sources = c.args.sources.now in
    c.new.ensures.items
    ∙ sym (no_faults c.args.names.now sources c.args._is_all (ap (is_surely_faultless sources) (sym c.requires) ∙ sym c.is_surely_faultless.ensures ∙ c.if-is_surely_faultless.true))
