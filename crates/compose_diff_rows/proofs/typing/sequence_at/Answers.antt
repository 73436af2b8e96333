use Rattle.std.proofs.Common.{◌≡◌, ◌∙◌, [], get_or, sym, ap, rules}
use Rattle.std.specs.Prelude.{None}
use Rattle.std.specs.Option.{option_map}
use Rattle.compose_diff_rows.specs.Rows.{written, named_sequence}
use Rattle.compose_diff_rows.proofs.RowsSoFar.{sequence_without, sequence_with}
use Rattle.compose_diff_rows.proofs.typing.sequence_at.Goals as goal

pub returns-in_err-line : goal.returns-in_err-line
returns-in_err-line g c =
    let none : c.from_residual.result ≡ None = search rules in
    ap (option_map named_sequence) none ∙ sequence_without (written g.T.ComposeTable.definitions c.args.written.now) c.args.leaf.0 c.requires c.in_err-line.ensures

pub returns : goal.returns
returns g c =
    let w = written g.T.ComposeTable.definitions c.args.written.now in
    let place = c.place-place.ensures in
    let path = c.path_at.ensures ∙ ap (λ p. get_or w.paths p.source []) place in
    sequence_with w c.args.leaf.0 c.requires c.in_ok-line.line.now _ c.in_ok-line.ensures
    (λ i. record { keys = c.keys.ensures i; path = path i; line = (ap (λ p. p.line) place) i })
