use Rattle.std.proofs.Common.{false, map, string_bytes, subst, sym, ap, [], ◌≡◌, ◌∙◌, length}
use Rattle.std.specs.Prelude.{flat_map}
use Rattle.std.specs.Str.Lines.{lines}
use Rattle.keysym_core.specs.Header.{names_of}
use Rattle.compose_answer.specs.Parts.{type_parts}
use Rattle.compose_migration.specs.Refused.{Returns}
use Rattle.compose_migration.specs.Values.{table_given}
use Rattle.compose_report.proofs.Results.{ok_map}
use Rattle.compose_tool.specs.Answers.{AreListsTyped}
use Rattle.compose_keys.specs.Keys.{keys_in}
use Rattle.compose_key_lists.specs.Lists.{refused_line}
use Rattle.compose_runs.specs.OneTable.{IsTableOutcome}
use Rattle.compose_runs.specs.Skipping.{IsFollowed}
use Rattle.compose_runs.specs.Typing.{IsTypeLinesOutcome}
use Rattle.compose_runs.specs.WrittenKeys.{AreWritten}
use Rattle.compose_runs.proofs.WrittenKeys.{now_of}
use Rattle.compose_runs.proofs.typing.type_lines_outcome.Goals as goal

pub returns : goal.returns
returns g c =
    let read = c.args.read in let header = read.names.lines.items in let text = c.args.lines.now in
    let words = flat_map keys_in (lines text) in let counts = map (λ line. length (keys_in line)) (lines text) in
    let given : map now_of c.deref-2.result.now ≡ words = ap (map now_of) c.deref-2.ensures.value ∙ c.in_ok-lists.ensures.keys in
    let written = map string_bytes c.in_ok-written.written.items in let keys = map now_of c.in_ok-keys.keys.items in
    let same : keys ≡ written = c.in_ok-keys.ensures ∙ ap (map string_bytes) c.deref-3.ensures.value in
    let answered = c.type_lists-answered.result in let printed = c.in_ok-printed.printed in
    ok_map (IsFollowed c.deref-9.result.now printed) (IsTypeLinesOutcome read text) c.followed.result
    (λ outcome after. record {
      keys = keys;
      are_keys = subst (AreWritten (names_of header) words) (sym same)
          (subst (λ ws. AreWritten (names_of header) ws written) given (subst (λ h. AreWritten (names_of h) (map now_of c.deref-2.result.now) written) c.deref.ensures.value c.in_ok-written.ensures));
      answered = answered;
      is = subst (λ s. Returns (AreListsTyped counts) answered (type_parts header keys s)) c.input-table.ensures
          (subst (λ ns. Returns (AreListsTyped ns) answered (type_parts header keys (table_given c.input-table.result))) (c.deref-6.ensures.value ∙ c.in_ok-lists.ensures.counts)
          (subst (λ k. Returns (AreListsTyped c.deref-6.result.now) answered (type_parts header (map now_of k) (table_given c.input-table.result))) c.deref-5.ensures.value
          (subst (λ h. Returns (AreListsTyped c.deref-6.result.now) answered (type_parts h (map now_of c.deref-5.result.now) (table_given c.input-table.result))) c.deref-4.ensures.value
          c.type_lists-answered.ensures)));
      printed = printed;
      reported = subst (λ k. IsTableOutcome false read (map now_of k) [] [] answered printed) c.deref-8.ensures.value c.in_ok-printed.ensures;
      followed = subst (λ t. IsFollowed t printed outcome)
          (c.deref-9.ensures ∙ c.in_ok-line.ensures ∙ ap (λ ns. refused_line ns answered) (c.deref-7.ensures.value ∙ c.in_ok-lists.ensures.counts)) after;
    }) c.followed.ensures
