use Rattle.std.proofs.Common.{◌∙◌, ◌++◌, ◌+◌, map, sym, ap, rules, arith}
use Rattle.std.proofs.lemmas.List.{append-nil}
use Rattle.compose_text.specs.Lines.{lines_of}
use Rattle.compose_read.specs.Lines.{numbered}
use Rattle.compose_lint.specs.Lines.{lint_line}
use Rattle.compose_lint.proofs.NextLine.{lines_at_first, next_line}
use Rattle.compose_lint.proofs.lines.lines_in.Goals as goal

pub loop-bytes-init : goal.loop-bytes-init
loop-bytes-init c =
    let names = c.args.names.now in let sources = c.args.sources.now in let source = c.args.source in let rest = c.without_mark-rest.result.now in record {
      read = ap (λ ls. ls ++ map (lint_line names sources) (numbered source 0 1 (lines_of rest))) c.new-lines.ensures.items
          ∙ lines_at_first names sources source c.bytes.result.now rest c.requires c.bytes.ensures c.without_mark-rest.ensures;
      counted = first_of (omega arith, search rules);
    }

pub loop-bytes-preserved : goal.loop-bytes-preserved
loop-bytes-preserved c =
    record {
      read = next_line c.args.names.now c.args.sources.now c.args.source c.loop-bytes.line c.in-Some.bytes.now c.loop-bytes.rest.now c.in-Some.behind.now c.in_ok-read.read c.loop-bytes.lines.items
          c.push.new.self.items _ c.in-Some.ensures.lines c.in_ok-read.ensures c.in_ok-push.ensures.items c.loop-bytes.invariant.read;
      counted = omega (arith, c.in-Some.ensures.shorter, c.loop-bytes.invariant.counted);
    }

pub returns : goal.returns
returns c =
    let found = c.loop-bytes.lines.items in
    sym (append-nil found)
    ∙ ap (λ ls. found ++ map (lint_line c.args.names.now c.args.sources.now) (numbered c.args.source 0 (1 + c.loop-bytes.line) ls)) (sym c.in_default.ensures.lines)
    ∙ c.loop-bytes.invariant.read
