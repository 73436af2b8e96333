use Rattle.std.proofs.Common.{◌∙◌, List, ap, subst}
use Rattle.std.specs.Prelude.{codes}
use Rattle.compose_model.specs.Table.{Definition}
use Rattle.compose_model.specs.declared.Rule.TheVariants.{Refuse}
use Rattle.compose_read.specs.Lines.{Source}
use Rattle.compose_tree.specs.TableReturns.{TableReturns}
use Rattle.compose_merging.specs.Printed.{source_of}
use Rattle.compose_merging.specs.Settled.{rows_of}
use Rattle.compose_merging.proofs.Back.{read_are, unread}
use Rattle.compose_merging.proofs.printed.read_back.Goals as goal

pub returns-clause-read : goal.returns-clause-read
returns-clause-read c =
    read_are c.args.names.now c.args.text.now c.read_settled.result
    (subst (λ (sources : List Source). TableReturns (λ (rows : List Definition). rows) c.read_settled.result (rows_of c.args.names.now sources (codes "merged") Refuse)) (c.in-Ok.ensures ∙ ap source_of c.as_bytes.ensures.value) c.read_settled.ensures)

pub returns-clause-fault : goal.returns-clause-fault
returns-clause-fault c =
    unread c.args.names.now c.args.text.now c.read_settled.result
    (subst (λ (sources : List Source). TableReturns (λ (rows : List Definition). rows) c.read_settled.result (rows_of c.args.names.now sources (codes "merged") Refuse)) (c.in-Ok.ensures ∙ ap source_of c.as_bytes.ensures.value) c.read_settled.ensures)
