use Rattle.std.proofs.Common.{◌≡◌, ◌∙◌, sym, ap, ap₂}
use Rattle.std.specs.Prelude.{Some}
use Rattle.std.specs.Option.{option_and_then}
use Rattle.keysym_core.specs.Names.{value}
use Rattle.compose_results.specs.Results.{named_by, result_name}
use Rattle.compose_results.specs.SourceLines.{line_in, stands}
use Rattle.compose_results.proofs.StandingLines.{same_line, written_at}
use Rattle.compose_results.proofs.results.named_by.Goals as goal

pub returns-in-Some : goal.returns-in-Some
returns-in-Some c sources all stand =
    let names = c.args.names.now in let place = c.in-Some.line.place in
    let written = written_at sources place (ap (stands sources) (sym c.in-Some.is) ∙ stand) in
    let at : line_in c.args.all.now c.place.result ≡ Some written.line = ap₂ line_in all c.place.ensures ∙ same_line sources place ∙ written.at in
    c.named_at.ensures written.line written.events at written.are
    ∙ sym (ap (named_by names sources) c.in-Some.is ∙ ap (λ line. option_and_then (value names) (option_and_then result_name line)) written.at)
