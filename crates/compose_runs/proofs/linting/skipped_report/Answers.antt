use Rattle.std.proofs.Common.{◌≡◌, ◌∙◌, ap, string_bytes}
use Rattle.std.proofs.lemmas.List.{take_all}
use Rattle.compose_report.proofs.Results.{ok_map}
use Rattle.compose_skipped.specs.Kept.{skipped_faults}
use Rattle.compose_skipped.specs.Reported.{Reported, report_of, with_faults}
use Rattle.compose_runs.specs.Linting.{report_in}
use Rattle.compose_runs.proofs.LeftOutOfAll.{report_all, reported_in, reported_more}
use Rattle.compose_runs.proofs.linting.skipped_report.Goals as goal

pub loop-read-preserved : goal.loop-read-preserved
loop-read-preserved c =
    let header = c.args.header.now in let read = c.read-item.result in
    c.in_ok-push.ensures
    ∙ (ap (λ (r : Reported). with_faults r read.table (skipped_faults header read.table)) c.loop-read.invariant
    ∙ reported_more header c.args.tables.now c.loop-read.read-index read c.loop-read-test.true c.read-item.is)

pub returns : goal.returns
returns c =
    let header = c.args.header.now in let tables = c.args.tables.now in
    let all : c.loop-read.report ≡ reported_in header tables = c.loop-read.invariant ∙ ap (reported_in header) (take_all c.loop-read.read-index tables c.loop-read-test.false) in
    ok_map (λ text. string_bytes text ≡ report_of c.loop-read.report) (λ text. string_bytes text ≡ report_in header tables) c.into_text.result
    (λ text is. is ∙ (ap report_of all ∙ report_all header tables)) c.into_text.ensures
