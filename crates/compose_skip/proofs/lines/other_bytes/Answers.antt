use Rattle.std.proofs.Common.{◌≡◌, ◌∙◌, ◌+◌, ◌++◌, ◌∷◌, [], sym, ap, arith}
use Rattle.std.specs.Prelude.{Option, option_to_list}
use Rattle.std.specs.List.{filter_map}
use Rattle.std.proofs.lemmas.List.{append-nil}
use Rattle.compose_text.specs.Lines.{lines_of}
use Rattle.compose_read.specs.Lines.{Visit, numbered}
use Rattle.compose_read.specs.declared.ReadFault.{ReadFault}
use Rattle.compose_skip.specs.Faulty.{fault_left, left_fault, line_without}
use Rattle.compose_skip.specs.Written.{written}
use Rattle.compose_skip.proofs.WrittenLines.{found_more, numbered_more, source_written, written_more}
use Rattle.compose_skip.proofs.lines.other_bytes.Goals as goal

pub loop-own-preserved : goal.loop-own-preserved
loop-own-preserved c =
    let names = c.args.names.now in let source = c.args.source in let n = c.loop-own.line in let own = c.in-Some.own.now in let behind = lines_of c.in-Some.behind.now in
    let v : Visit = record { source = source; line = n + 1; bytes = own; depth = 0 } in
    let vs = numbered source 0 (1 + (n + 1)) behind in
    let one : n + 1 ≡ 1 + n = omega arith in
    let next : (v ∷ vs) ≡ numbered source 0 (1 + n) (lines_of c.loop-own.rest.now) = numbered_more source (1 + n) (n + 1) own behind (lines_of c.loop-own.rest.now) one c.in-Some.ensures.lines in
    let kept = c.loop-own.kept.items in let faults = c.loop-own.faults.items in let fault = c.in_ok-fault.ensures in
    record {
      kept = written_more names v vs kept c.push_line.new.kept.items _ (ap (λ ws. kept ++ written names ws) next ∙ c.loop-own.invariant.kept)
          (c.in_ok-push_line.ensures.line ∙ ap (λ (f : Option ReadFault). kept ++ (line_without names own f ++ 10 ∷ [])) fault);
      faults = found_more (left_fault names) v vs faults c.push_line.new.faults.items _ (ap (λ ws. faults ++ filter_map (left_fault names) ws) next ∙ c.loop-own.invariant.faults)
          (c.in_ok-push_line.ensures.fault ∙ ap (λ (f : Option ReadFault). faults ++ option_to_list (fault_left names own f)) fault);
      within = (let w = c.loop-own.invariant.within in let s = c.in-Some.ensures.shorter in omega arith);
    }

pub returns-clause-lines : goal.returns-clause-lines
returns-clause-lines c =
    let names = c.args.names.now in let source = c.args.source in let kept = c.loop-own.kept.items in
    source_written names source c.args.bytes.now kept
    (sym (ap (λ ls. kept ++ written names (numbered source 0 (1 + c.loop-own.line) ls)) c.in_default.ensures.lines ∙ append-nil kept) ∙ c.loop-own.invariant.kept)
