use Rattle.std.proofs.Common.{◌+◌, sym, ◌∙◌, ap, arith}
use Rattle.std.specs.Prelude.{Ok}
use Rattle.compose_text.specs.Lines.{lines_of}
use Rattle.compose_manifest.specs.Manifest.{lines_on}
use Rattle.compose_manifest.proofs.OneLine.{line_message, line_stops}
use Rattle.compose_manifest.proofs.manifest.read_manifest.Goals as goal

pub returns-in-Err : goal.returns-in-Err
returns-in-Err c =
    let lines = lines_of c.in-Some.behind.now in
    line_stops c.loop-line.number c.loop-line.manifest c.add_line.new.self c.in-Some.line.now lines _ c.in-Err.fault c.in-Err.ensures
    (ap (λ xs. lines_on (1 + c.loop-line.number) xs (Ok c.loop-line.manifest)) (sym c.in-Some.ensures.lines) ∙ c.loop-line.invariant.0)

pub loop-line-preserved : goal.loop-line-preserved
loop-line-preserved c =
    let lines = lines_of c.in-Some.behind.now in (
      sym (line_message c.loop-line.number c.loop-line.manifest c.in-Some.line.now lines (Ok c.add_line.new.self) c.in_default-add_line.ensures)
          ∙ ap (λ xs. lines_on (1 + c.loop-line.number) xs (Ok c.loop-line.manifest)) (sym c.in-Some.ensures.lines) ∙ c.loop-line.invariant.0,
      omega (arith, c.loop-line.invariant.1, c.in-Some.ensures.shorter),
    )
