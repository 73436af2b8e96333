use Rattle.std.proofs.Common.{◌≡◌, ◌∙◌, ◌++◌, ℕ, List, Bor, length, flat_map, sym, ap, ap₂, string_bytes}
use Rattle.std.proofs.lemmas.List.{length-map}
use Rattle.compose_listed_as.specs.Judged.{Judged, others, taken_count}
use Rattle.compose_listed_as.specs.Report.{end_text, other_line}
use Rattle.compose_listed_as.proofs.Reporting.{lines_first}
use Rattle.compose_listed_as.proofs.report.report_of.Goals as goal

pub returns : goal.returns
returns c =
    let read = c.args.files.now in let all = c.args.all.now in let js = c.args.others.now in let files = length read in
    let now : Bor Judged → Judged = λ j. j.now in
    let line : Bor Judged → List ℕ = λ j. other_line read all j.now in
    let count : length js ≡ length (others all) = sym (length-map js now) ∙ ap length c.requires in
    c.in_ok-push_end.ensures
    ∙ ap (λ (n : ℕ). string_bytes c.push_others.new.text ++ end_text c.args.version n (length js) files) c.taken_count.ensures
    ∙ ap₂ (λ (t : List ℕ) (n : ℕ). t ++ end_text c.args.version (taken_count all) n files)
    (c.in_ok-push_others.ensures ∙ ap₂ (λ (t u : List ℕ). t ++ u) c.new-text.ensures.bytes (ap (flat_map line) c.first_of.ensures ∙ lines_first read all js c.requires)) count
