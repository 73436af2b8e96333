use Rattle.std.proofs.Common.{map, string_bytes, subst, sym, ap, [], ◌≡◌, ◌∙◌}
use Rattle.std.specs.Prelude.{false}
use Rattle.keysym_core.specs.Header.{names_of}
use Rattle.compose_migration.specs.Values.{table_given}
use Rattle.compose_answer.specs.Parts.{type_parts}
use Rattle.compose_migration.specs.Refused.{Returns}
use Rattle.compose_tool.specs.Answers.{IsTyped}
use Rattle.compose_report.proofs.Results.{ok_map}
use Rattle.compose_runs.specs.OneTable.{IsTableOutcome}
use Rattle.compose_runs.specs.Typing.{IsTypeFileOutcome}
use Rattle.compose_runs.specs.WrittenKeys.{AreWritten}
use Rattle.compose_runs.proofs.WrittenKeys.{now_of}
use Rattle.compose_runs.proofs.typing.type_file_outcome.Goals as goal

pub returns : goal.returns
returns g c =
    let read = c.args.read in let lines = read.names.lines.items in let words = map (λ word. word.now) c.args.words.now in
    let written = map string_bytes c.in_ok-written.written.items in let keys = map now_of c.in_ok-keys.keys.items in
    let same : keys ≡ written = c.in_ok-keys.ensures ∙ ap (map string_bytes) c.deref-2.ensures.value in
    let answered = c.type_keys-answered.result in
    ok_map (IsTableOutcome false read (map now_of c.deref-5.result.now) [] [] answered) (IsTypeFileOutcome read words) c.outcome.result
    (λ outcome reported. record {
      keys = keys;
      are_keys = subst (AreWritten (names_of lines) words) (sym same) (subst (λ h. AreWritten (names_of h) words written) c.deref.ensures.value c.in_ok-written.ensures);
      answered = answered;
      is = subst (λ s. Returns IsTyped answered (type_parts lines keys s)) c.input.ensures
          (subst (λ k. Returns IsTyped answered (type_parts lines (map now_of k) (table_given c.input.result))) c.deref-4.ensures.value
          (subst (λ h. Returns IsTyped answered (type_parts h (map now_of c.deref-4.result.now) (table_given c.input.result))) c.deref-3.ensures.value c.type_keys-answered.ensures.exact));
      reported = subst (λ k. IsTableOutcome false read (map now_of k) [] [] answered outcome) c.deref-5.ensures.value reported;
    }) c.outcome.ensures
