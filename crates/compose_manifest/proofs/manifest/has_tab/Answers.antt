use Rattle.std.proofs.Common.{sym, ◌∙◌, ap, arith, get_or, length}
use Rattle.std.proofs.lemmas.Bool.{eq-eqb}
use Rattle.compose_manifest.proofs.Tabs.{no_tab}
use Rattle.compose_manifest.proofs.manifest.has_tab.Goals as goal

pub returns-in-None : goal.returns-in-None
returns-in-None c =
    sym
    (no_tab c.args.text.now
    (λ i less is. c.in-None.ensures i (omega arith) (omega (arith, ap length c.as_bytes.ensures.value)) (eq-eqb _ 9 (ap (λ xs. get_or xs i 0) c.as_bytes.ensures.value ∙ is)))).1
