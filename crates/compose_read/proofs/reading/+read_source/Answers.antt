use Rattle.std.proofs.Common.{◌≡◌, ◌∙◌, ◌-◌, ◌+◌, ◌<◌, length, [], ◌∷◌, ◌++◌, refl, sym, ap, subst, rules, arith}
use Rattle.std.specs.Prelude.{Err, IfSome}
use Rattle.compose_read.specs.Lines.{Visit, visits_below}
use Rattle.compose_read.specs.Progress.{read_so_far, reading_on, ReadsOn}
use Rattle.compose_read.proofs.TextLines.{text_lines, next_text}
use Rattle.compose_read.specs.Rows.{DraftRows}
use Rattle.compose_read.specs.Kept.{AreKept}
use Rattle.compose_read.specs.declared.kept.KeptSource.{KeptSource}
use Rattle.compose_read.specs.Visits.{left_to_visit}
use Rattle.compose_read.proofs.ReadLines.{visits_are, none_left, whole_read, plain_counted, include_counted, plain_turn, line_refused, include_turn, include_refused}
use Rattle.compose_read.proofs.KeptSources.{found_kept, kept_stay, kept_on, put_kept, source_kept, table_grew, as_many, read_again}
use Rattle.compose_read.proofs.reading.+read_source.Goals as goal

pub loop-bytes-init : goal.loop-bytes-init
loop-bytes-init t c =
    let names = c.args.names.now in let sources = c.args.sources.now in let left = c.args.left in let source = c.args.source in record {
      reads = λ ws. ap (λ d. reading_on names sources (read_so_far c.args.progress.now.lines d) (left_to_visit sources left source (8 - left) 0 c.without_mark-rest.result.now ++ ws)) c.reserve.ensures
          ∙ ap (λ vs. reading_on names sources c.args.progress.now (vs ++ ws))
          (ap (left_to_visit sources left source (8 - left) 0) c.without_mark-rest.ensures ∙ sym (visits_are sources left source c.bytes.result.now c.requires.within.0 c.bytes.ensures));
      kept = subst (λ (d : DraftRows). AreKept names sources d.table c.args.kept.now.by_source) (sym c.reserve.ensures) c.requires.kept;
      read =
          ap (λ vs. c.args.progress.now.lines + length vs)
          (ap (left_to_visit sources left source (8 - left) 0) c.without_mark-rest.ensures ∙ sym (visits_are sources left source c.bytes.result.now c.requires.within.0 c.bytes.ensures));
      texts = λ is. text_lines c.without_mark-rest.result.now (c.is_utf8-is_text.ensures.0 is);
      counted = omega arith;
    }

pub take_line-requires : goal.take_line-requires
take_line-requires t c = λ is. (next_text c.loop-bytes.rest.now c.in-Some-first_line.bytes.now c.in-Some-first_line.behind.now c.in-Some-first_line.ensures.lines (c.loop-bytes.invariant.texts is)).0

pub returns-in_err-included-clause-reads : goal.returns-in_err-included-clause-reads
returns-in_err-included-clause-reads t c =
    let names = c.args.names.now in let sources = c.args.sources.now in let left = c.args.left in let source = c.args.source in let fault = c.in_err-included.field-0.0 in
    let is : c.from_residual-in_err-included.result ≡ Err fault = search rules in
    subst (ReadsOn names sources (visits_below sources left source) c.args.progress.now c.take_line.new.progress) (sym is)
    (line_refused names sources left source
    (8 - left) c.loop-bytes.line c.loop-bytes.rest.now c.in-Some-first_line.bytes.now c.in-Some-first_line.behind.now c.in-Some-first_line.ensures.lines c.loop-bytes.progress c.args.progress.now
    (visits_below sources left source)
    c.loop-bytes.invariant.reads c.take_line.new.progress c.take_line.new.progress fault c.in_err-included.ensures.reads)

pub loop-bytes-preserved : goal.loop-bytes-preserved
loop-bytes-preserved t c =
    let names = c.args.names.now in let sources = c.args.sources.now in let left = c.args.left in let source = c.args.source in record {
      reads =
          plain_turn names sources left source
          (8 - left) c.loop-bytes.line c.loop-bytes.rest.now c.in-Some-first_line.bytes.now c.in-Some-first_line.behind.now c.in-Some-first_line.ensures.lines c.loop-bytes.progress c.args.progress.now
          (visits_below sources left source)
          c.loop-bytes.invariant.reads c.take_line.new.progress (c.in_ok-included.ensures.source ∙ c.in_default-included.is) c.in_ok-included.ensures.reads;
      kept =
          kept_on names sources
          ((let v : Visit = record { source = source; line = c.loop-bytes.line + 1; bytes = c.in-Some-first_line.bytes.now; depth = 8 - left } in v)
          ∷ []) c.loop-bytes.progress c.take_line.new.progress c.loop-bytes.kept.by_source c.in_ok-included.ensures.reads c.loop-bytes.invariant.kept;
      read =
          plain_counted sources left source
          (8 - left) c.loop-bytes.line c.loop-bytes.rest.now c.in-Some-first_line.bytes.now c.in-Some-first_line.behind.now c.in-Some-first_line.ensures.lines c.loop-bytes.progress.lines _
          c.loop-bytes.invariant.read c.take_line.new.progress.lines (c.in_ok-included.ensures.source ∙ c.in_default-included.is) c.in_ok-included.ensures.counted;
      texts = λ t. (next_text c.loop-bytes.rest.now c.in-Some-first_line.bytes.now c.in-Some-first_line.behind.now c.in-Some-first_line.ensures.lines (c.loop-bytes.invariant.texts t)).1;
      counted = omega (arith, c.in-Some-first_line.ensures.shorter, c.loop-bytes.invariant.counted);
    }

pub loop-bytes-preserved-in-Continue-branch-3 : goal.loop-bytes-preserved-in-Continue-branch-3
loop-bytes-preserved-in-Continue-branch-3 t c =
    let names = c.args.names.now in let sources = c.args.sources.now in let left = c.args.left in let source = c.args.source in
    let deep = subst (λ o. IfSome o (λ s. (8 - left < 8) × (s < length sources))) c.in-Some-included.is c.in_ok-included.ensures.within in record {
      reads =
          include_turn names sources left source
          (8 - left) c.loop-bytes.line c.loop-bytes.rest.now c.in-Some-first_line.bytes.now c.in-Some-first_line.behind.now c.in-Some-first_line.ensures.lines c.loop-bytes.progress c.args.progress.now
          (visits_below sources left source)
          c.loop-bytes.invariant.reads c.take_line.new.progress c.in-Some-included.included (omega (arith, deep.0))
          (c.in_ok-included.ensures.source ∙ c.in-Some-included.is) c.in_ok-included.ensures.reads c.read_source.new.progress c.in_ok-read_source.ensures.reads;
      kept = c.in_ok-read_source.ensures.kept;
      read =
          include_counted sources left source
          (8 - left) c.loop-bytes.line c.loop-bytes.rest.now c.in-Some-first_line.bytes.now c.in-Some-first_line.behind.now c.in-Some-first_line.ensures.lines c.loop-bytes.progress.lines _
          c.loop-bytes.invariant.read c.take_line.new.progress.lines c.read_source.new.progress.lines c.in-Some-included.included (omega (arith, deep.0))
          (c.in_ok-included.ensures.source ∙ c.in-Some-included.is) c.in_ok-included.ensures.counted c.in_ok-read_source.ensures.counted;
      texts = λ t. (next_text c.loop-bytes.rest.now c.in-Some-first_line.bytes.now c.in-Some-first_line.behind.now c.in-Some-first_line.ensures.lines (c.loop-bytes.invariant.texts t)).1;
      counted = omega (arith, c.in-Some-first_line.ensures.shorter, c.loop-bytes.invariant.counted);
    }

pub returns-in_err-read_source-clause-reads : goal.returns-in_err-read_source-clause-reads
returns-in_err-read_source-clause-reads t c =
    let names = c.args.names.now in let sources = c.args.sources.now in let left = c.args.left in let source = c.args.source in let fault = c.in_err-read_source.field-0.0 in
    let deep = subst (λ o. IfSome o (λ s. (8 - left < 8) × (s < length sources))) c.in-Some-included.is c.in_ok-included.ensures.within in
    let is : c.from_residual-in_err-read_source.result ≡ Err fault = search rules in
    subst (ReadsOn names sources (visits_below sources left source) c.args.progress.now c.read_source.new.progress) (sym is)
    (include_refused names sources left source
    (8 - left) c.loop-bytes.line c.loop-bytes.rest.now c.in-Some-first_line.bytes.now c.in-Some-first_line.behind.now c.in-Some-first_line.ensures.lines c.loop-bytes.progress c.args.progress.now
    (visits_below sources left source)
    c.loop-bytes.invariant.reads c.take_line.new.progress c.in-Some-included.included (omega (arith, deep.0))
    (c.in_ok-included.ensures.source ∙ c.in-Some-included.is) c.in_ok-included.ensures.reads c.read_source.new.progress c.read_source.new.progress fault c.in_err-read_source.ensures.reads)

pub read_source-requires : goal.read_source-requires
read_source-requires t c =
    let names = c.args.names.now in let sources = c.args.sources.now in let left = c.args.left in let source = c.args.source in
    let deep = subst (λ o. IfSome o (λ s. (8 - left < 8) × (s < length sources))) c.in-Some-included.is c.in_ok-included.ensures.within in (
      omega (arith, deep.0, c.decreases),
      (
        (deep.1, c.requires.within.1),
        (
          omega (arith, c.requires.levels),
          kept_on names sources
              ((let v : Visit = record { source = source; line = c.loop-bytes.line + 1; bytes = c.in-Some-first_line.bytes.now; depth = 8 - left } in v)
              ∷ []) c.loop-bytes.progress c.take_line.new.progress c.loop-bytes.kept.by_source
              c.in_ok-included.ensures.reads c.loop-bytes.invariant.kept,
        ),
      ),
    )

pub repeat-requires : goal.repeat-requires
repeat-requires t c = record {
  within = (found_kept c.args.names.now c.args.sources.now c.args.progress.now.draft.table c.args.kept.now.by_source c.args.source c.in-Some.again c.in-Some.ensures.found.0 c.requires.kept).within;
  room = c.in-Some.ensures.fits.1;
}

pub returns-in-Some-clause-reads : goal.returns-in-Some-clause-reads
returns-in-Some-clause-reads t c =
    let names = c.args.names.now in let sources = c.args.sources.now in let p = c.args.progress.now in let again = c.in-Some.again in
    read_again names sources c.args.left c.args.source p again
    (found_kept names sources p.draft.table c.args.kept.now.by_source c.args.source again c.in-Some.ensures.found.0 c.requires.kept) c.in-Some.ensures.found.1 c.requires.levels
    c.repeat.new.self _ refl c.in-Some.ensures.fits.0 c.in-Some.ensures.fits.1 c.in_ok-repeat.ensures.repeated

pub returns-in-Some-clause-kept : goal.returns-in-Some-clause-kept
returns-in-Some-clause-kept t c =
    kept_stay c.args.names.now c.args.sources.now c.args.progress.now.draft.table _ c.repeat.new.self.table c.args.kept.now.by_source c.in_ok-repeat.ensures.repeated c.requires.kept

pub returns-in-Some-clause-counted : goal.returns-in-Some-clause-counted
returns-in-Some-clause-counted t c =
    let names = c.args.names.now in let sources = c.args.sources.now in let p = c.args.progress.now in let again = c.in-Some.again in
    ap (λ n. p.lines + n)
    (as_many names sources c.args.left c.args.source p again
    (found_kept names sources p.draft.table c.args.kept.now.by_source c.args.source again c.in-Some.ensures.found.0 c.requires.kept) c.in-Some.ensures.found.1 c.requires.levels)

pub overflow_sub-len : goal.overflow_sub-len
overflow_sub-len t c =
    let names = c.args.names.now in let sources = c.args.sources.now in let left = c.args.left in let source = c.args.source in
    let done =
    whole_read names sources left source (8 - left) c.loop-bytes.line c.loop-bytes.rest.now c.in_default-first_line.ensures.lines c.loop-bytes.progress c.args.progress.now
    (visits_below sources left source) c.loop-bytes.invariant.reads in
    let grew = table_grew names sources left source c.args.progress.now c.loop-bytes.progress done in
    omega (arith, grew)

pub returns-clause-kept : goal.returns-clause-kept
returns-clause-kept t c =
    let names = c.args.names.now in let sources = c.args.sources.now in let left = c.args.left in let source = c.args.source in let p = c.args.progress.now in let q = c.loop-bytes.progress in
    let lines = c.in_default-first_line.ensures.lines in
    let done = whole_read names sources left source (8 - left) c.loop-bytes.line c.loop-bytes.rest.now lines q p (visits_below sources left source) c.loop-bytes.invariant.reads in
    let none = none_left names sources left source (8 - left) c.loop-bytes.line c.loop-bytes.rest.now lines in
    let read = c.loop-bytes.invariant.read in
    let k : KeptSource = record { left = left; lines = q.lines - p.lines; first = c.len-first.result; count = c.len.result - c.len-first.result } in
    subst (AreKept names sources q.draft.table) (sym c.put.ensures)
    (put_kept names sources q.draft.table c.loop-bytes.kept.by_source source k c.loop-bytes.invariant.kept
    (source_kept names sources left source p q done k refl (omega (arith, read, none)) (omega (arith, read, none)) c.len-first.ensures (omega (arith, c.len-first.ensures, c.len.ensures))))
