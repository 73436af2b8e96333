use Rattle.std.proofs.Common.{◌≡◌, ◌∙◌, List, sym, ap, subst, rules}
use Rattle.std.specs.Prelude.{Result, Ok, Err}
use Rattle.compose_model.specs.Table.{Definition}
use Rattle.compose_read.specs.Read.{definitions_of}
use Rattle.compose_read.specs.ReadReturns.{ReadReturns}
use Rattle.compose_read.proofs.ReadLines.{all_read, root_refused}
use Rattle.compose_read.proofs.KeptSources.{none_kept}
use Rattle.compose_read.specs.declared.ReadFault.{ReadFault}
use Rattle.compose_read.proofs.reading.read_definitions.Goals as goal

pub returns-in_err-read_source-clause-exact : goal.returns-in_err-read_source-clause-exact
returns-in_err-read_source-clause-exact c =
    let fault = c.in_err-read_source.field-0.0 in
    let is : c.from_residual.result ≡ Err fault = search rules in
    subst (λ r. ReadReturns (λ (table : List Definition). table) r (definitions_of c.args.names.now c.args.sources.now c.args.root.now)) (sym is)
    (root_refused c.args.names.now c.args.sources.now c.args.root.now c.in-Some.source (sym c.index_of.ensures.index ∙ c.in-Some.is)
    (λ (table : List Definition). table) c.new.result c.read_source.new.progress fault c.new.ensures c.in_err-read_source.ensures.reads)

pub returns-clause-exact : goal.returns-clause-exact
returns-clause-exact c =
    all_read c.args.names.now c.args.sources.now c.args.root.now c.in-Some.source
    (sym c.index_of.ensures.index ∙ c.in-Some.is) c.new.result c.read_source.new.progress c.new.ensures c.in_ok-read_source.ensures.reads
    ∙ ap (λ table. let r : Result (List Definition) ReadFault = Ok table in r) (sym c.into_definitions.ensures.same)

pub read_source-requires-clause-kept : goal.read_source-requires-clause-kept
read_source-requires-clause-kept c = none_kept c.args.names.now c.args.sources.now c.new.result.table c.new-kept.result.by_source c.new-kept.ensures
