use Rattle.std.proofs.Common.{◌∙◌, ap, map}
use Rattle.std.specs.Prelude.{Option, option_copied}
use Rattle.std.specs.Option.{option_and_then}
use Rattle.compose_lint.specs.Productions.{Written, comment_beside, definition_given, production_with}
use Rattle.compose_lint.proofs.OneWritten.{read_as}
use Rattle.compose_lint.proofs.lines.line_read.Goals as goal

pub returns : goal.returns
returns c =
    let names = c.args.names.now in let bytes = c.args.bytes.now in let events = map (λ e. e.now) c.written_on-written.new.events.items in
    read_as events bytes names c.args.source c.args.line c.written_on-written.result c.in_ok-definition.definition (option_copied c.comment_beside-comment.result)
    c.written_on-written.ensures
    (c.in_ok-definition.ensures
    ∙ ap (λ (o : Option Written). option_and_then (λ w. definition_given names (production_with (map (λ e. e.now) c.as_slice.result.now) w)) o) c.as_ref.ensures.value
    ∙ ap (λ es. option_and_then (λ w. definition_given names (production_with (map (λ e. e.now) es) w)) c.written_on-written.result) c.as_slice.ensures.value)
    (c.comment_beside-comment.ensures ∙ ap (comment_beside bytes) c.as_ref-2.ensures.value)
