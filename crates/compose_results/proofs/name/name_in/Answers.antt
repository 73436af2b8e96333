use Rattle.std.proofs.Common.{◌≡◌, ◌∙◌, ◌∷◌, false, drop, sym, ap}
use Rattle.std.proofs.lemmas.List.{take_rest}
use Rattle.compose_lex.specs.Fault.{skip_blanks, name_if, result_at, inside_from}
use Rattle.compose_results.proofs.NameLines.{after_string, first_quote}
use Rattle.compose_results.proofs.name.name_in.Goals as goal

pub returns-in-Some-eq34 : goal.returns-in-Some-eq34
returns-in-Some-eq34 c n raw name left is =
    let outcome = c.args.outcome.now in
    let quote : outcome ≡ 34 ∷ drop 1 outcome = first_quote outcome c.in-Some-eq34.field-0.now c.in-Some-eq34.ensures.value c.in-Some-eq34.field-0-test in
    let found = after_string n raw name left (drop 1 outcome) (ap (result_at n) (sym quote) ∙ is) in
    let behind = c.after_string.ensures found.inside found.behind_it (ap (inside_from false) (take_rest outcome 1) ∙ found.closed) in
    c.leading_name.ensures ∙ ap (λ rest. (name_if rest).0) (c.skip_blanks.ensures ∙ ap skip_blanks behind) ∙ found.is
