use Rattle.std.proofs.Common.{map, sym, ◌∙◌, ap, string_bytes}
use Rattle.std.specs.Prelude.{Some}
use Rattle.std.specs.Option.{option_map}
use Rattle.compose_diff.specs.Accepted.{Line, is_stale}
use Rattle.compose_diff.proofs.Found.{find_here, find_later}
use Rattle.compose_diff.proofs.accepted.first_stale.Goals as goal

pub returns-in-None : goal.returns-in-None
returns-in-None c =
    ap (λ (x : Line). Some x.number) c.line.view_is
    ∙ sym
    (ap (option_map (λ (x : Line). x.number))
    (find_here (is_stale (map (λ text. string_bytes text) c.args.texts.now)) c.args.lines.now c.loop-line.line-index c.line-item.result c.loop-line-test.true c.line-item.is
    (sym c.in-None.ensures.reported) c.loop-line.invariant))

pub loop-line-preserved : goal.loop-line-preserved
loop-line-preserved c =
    find_later (is_stale (map (λ text. string_bytes text) c.args.texts.now)) c.args.lines.now c.loop-line.line-index c.line-item.result c.loop-line-test.true c.line-item.is
    (sym c.in-Some.ensures.reported) c.loop-line.invariant
