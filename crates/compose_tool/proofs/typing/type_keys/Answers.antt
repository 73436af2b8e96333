use Rattle.std.proofs.Common.{rules, map, ◌∙◌, ap}
use Rattle.compose_migration.specs.Values.{named_parts, table_given}
use Rattle.compose_answer.specs.Parts.{type_parts}
use Rattle.compose_answer.specs.declared.answer.Answer.TheVariants.{Yes}
use Rattle.compose_tool.specs.Typed.{typed_lines}
use Rattle.compose_tool.specs.Answers.{IsTyped}
use Rattle.compose_tool.proofs.AsRead.{typed_as_read}
use Rattle.compose_migration.proofs.Steps.{refusal_gives}
use Rattle.compose_tool.proofs.Steps.{named_refused, table_refused, typed_read}
use Rattle.compose_tool.proofs.typing.type_keys.Goals as goal

pub returns-in_err-named-clause-exact : goal.returns-in_err-named-clause-exact
returns-in_err-named-clause-exact g c =
    let header = c.args.header.now in
    let key_names = map (λ word. word.now) c.args.key_names.now in
    let given = table_given c.args.table.now in
    refusal_gives IsTyped c.from_residual.result c.in_err-named.field-0.0 (type_parts header key_names given) (search rules)
    (named_refused header key_names given c.in_err-named.field-0.0 c.in_err-named.ensures)

pub returns-in_err-table-clause-exact : goal.returns-in_err-table-clause-exact
returns-in_err-table-clause-exact g c =
    let header = c.args.header.now in
    let key_names = map (λ word. word.now) c.args.key_names.now in
    let given = table_given c.args.table.now in
    let n = named_parts c.in_ok-named.named in
    refusal_gives IsTyped c.from_residual-in_err-table.result c.in_err-table.field-0.0 (type_parts header key_names given) (search rules)
    (table_refused header key_names given n c.in_ok-named.ensures c.in_err-table.field-0.0 c.in_err-table.ensures.table)

pub returns-clause-exact : goal.returns-clause-exact
returns-clause-exact g c =
    let header = c.args.header.now in
    let key_names = map (λ word. word.now) c.args.key_names.now in
    let given = table_given c.args.table.now in
    let n = named_parts c.in_ok-named.named in
    let table = g.T.ComposeTable.definitions c.in_ok-table.table in
    (_, typed_read header key_names given n c.in_ok-named.ensures table c.in_ok-table.ensures.table, c.in_ok-lines.ensures ∙ ap (typed_lines n.names table) c.deref.ensures.value)

pub returns-clause-as_read : goal.returns-clause-as_read
returns-clause-as_read g c =
    let header = c.args.header.now in
    let key_names = map (λ word. word.now) c.args.key_names.now in
    let given = table_given c.args.table.now in
    let n = named_parts c.in_ok-named.named in
    let table = g.T.ComposeTable.definitions c.in_ok-table.table in
    typed_as_read c.law_settle.ensures.runs header key_names given _ (typed_read header key_names given n c.in_ok-named.ensures table c.in_ok-table.ensures.table) (Yes c.in_ok-lines.lines)
    (c.in_ok-lines.ensures ∙ ap (typed_lines n.names table) c.deref.ensures.value)
