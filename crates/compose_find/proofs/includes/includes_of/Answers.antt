use Rattle.std.proofs.Common.{◌≡◌, ◌+◌, ◌∙◌, ap, arith, string_bytes}
use Rattle.std.specs.Prelude.{Some}
use Rattle.compose_text.specs.Lines.{lines_of}
use Rattle.compose_read.specs.Visits.{raw_include}
use Rattle.compose_find.proofs.IncludeLines.{include_more}
use Rattle.compose_find.proofs.includes.includes_of.Goals as goal

pub loop-bytes-preserved-in_ok-push : goal.loop-bytes-preserved-in_ok-push
loop-bytes-preserved-in_ok-push c =
    let n = c.loop-bytes.line in
    let next : n + 1 ≡ 1 + n = omega arith in
    let is : Some (string_bytes c.in_ok-from_str.field-0) ≡ raw_include c.in-Some.bytes.now = ap Some c.in_ok-from_str.ensures.ok ∙ c.in-Some-raw_include.ensures in (
      include_more (1 + n) (n + 1) c.in-Some.bytes.now (string_bytes c.in_ok-from_str.field-0) (lines_of c.in-Some.behind.now)
          (lines_of c.loop-bytes.rest.now) c.loop-bytes.found.items c.push.new.self.items _ is next c.in-Some.ensures.lines
          c.in_ok-push.ensures.items c.loop-bytes.invariant.0,
      omega (arith, c.loop-bytes.invariant.1, c.in-Some.ensures.shorter),
    )
