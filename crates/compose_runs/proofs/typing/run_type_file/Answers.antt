use Rattle.std.proofs.Common.{rules, ◌≡◌, refl, inl, inr, map, string_bytes, subst}
use Rattle.std.specs.Prelude.{Err, option_map}
use Rattle.compose_runs.specs.Faults.{FailsLines, FailsTypeFile}
use Rattle.compose_runs.specs.Typing.{AreGivenLines}
use Rattle.compose_given.proofs.Failing.{fails, memory}
use Rattle.compose_runs.proofs.typing.run_type_file.Goals as goal

pub returns-clause-outcome : goal.returns-clause-outcome
returns-clause-outcome g c =
    let words = map (λ word. word.now) c.args.words.now in let text = option_map string_bytes c.in_ok-lines.lines in
    record {
      found = c.in_ok-read.read;
      is_read = c.in_ok-read.ensures.read;
      text = text;
      is_text = subst (λ f. AreGivenLines f words text) c.in_ok-read.ensures.kept c.in_ok-lines.ensures.read;
      is = c.in_ok-kept_type_outcome.ensures;
    }

pub returns-in_err-read-clause-fault : goal.returns-in_err-read-clause-fault
returns-in_err-read-clause-fault g c =
    let fault = c.in_err-read.field-0.0 in
    let is : c.from_residual.result ≡ Err fault = search rules in
    fails (FailsTypeFile c.args.files.now.holds c.args.environment.now (map (λ name. name.now) c.args.names.now) c.args.arguments.now (map (λ word. word.now) c.args.words.now)) c.from_residual.result
    fault is (inr (inl c.in_err-read.ensures.fault))

pub returns-in_err-lines-clause-fault : goal.returns-in_err-lines-clause-fault
returns-in_err-lines-clause-fault g c =
    let fault = c.in_err-lines.field-0.0 in let words = map (λ word. word.now) c.args.words.now in
    let is : c.from_residual-in_err-lines.result ≡ Err fault = search rules in
    fails (FailsTypeFile c.args.files.now.holds c.args.environment.now (map (λ name. name.now) c.args.names.now) c.args.arguments.now words) c.from_residual-in_err-lines.result fault is
    (inr (inr ((c.in_ok-read.read, c.in_ok-read.ensures.read), subst (λ f. FailsLines f words fault) c.in_ok-read.ensures.kept c.in_err-lines.ensures.fault)))

pub returns-in_err-kept_type_outcome-clause-fault : goal.returns-in_err-kept_type_outcome-clause-fault
returns-in_err-kept_type_outcome-clause-fault g c =
    let folder = c.args.files.now.holds in let environment = c.args.environment.now in let names = map (λ name. name.now) c.args.names.now in let arguments = c.args.arguments.now in
    let words = map (λ word. word.now) c.args.words.now in
    memory (FailsTypeFile folder environment names arguments words) c.from_residual-in_err-kept_type_outcome.result c.from_residual-in_err-kept_type_outcome.ensures.1 (inl refl)
