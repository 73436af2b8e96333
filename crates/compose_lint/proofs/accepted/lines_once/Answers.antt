use Rattle.std.proofs.Common.{◌∙◌, ap, string_bytes, ◌++◌}
use Rattle.std.specs.Prelude.{is_some}
use Rattle.compose_lint.specs.Accepted.{as_line}
use Rattle.compose_lint.proofs.Among.{one_more, line_more, line_same}
use Rattle.compose_lint.proofs.accepted.lines_once.Goals as goal
use Rattle.compose_lint.proofs.accepted.lines_once.Goals.{then-not-contains_key+in_ok-push_text, else-not-contains_key}

pub loop-text-preserved : goal.loop-text-preserved
loop-text-preserved c =
    let texts = c.args.texts.now in let i = c.loop-text.text-index in let text = c.text-item.result in let within = c.loop-text-test.true in let is = c.text-item.is in
    let there = c.contains_key.ensures ∙ c.loop-text.invariant.there c.as_bytes.result.now in record {
      there = λ q. (ap is_some (c.in_ok-insert.ensures.updates.0 (record c.as_bytes-in-loop-text.result { now = q }))
          ∙ one_more (λ t. string_bytes t) texts i text q c.as_bytes-in-loop-text.result.now _ _ within is c.as_bytes-in-loop-text.ensures.value (c.loop-text.invariant.there q));
      each = elim c.if-not-contains_key.branch [
        | then-not-contains_key+in_ok-push_text w ↦ line_more (λ t. string_bytes t) texts i text c.as_bytes.result.now (string_bytes c.loop-text.lines) (string_bytes c.if-not-contains_key.lines) c.contains_key.result within is
            c.as_bytes.ensures.value there w.if-not-contains_key.true c.loop-text.invariant.each
            (ap string_bytes w.lines-is ∙ w.in_ok-push_text.ensures ∙ ap (λ t. string_bytes c.loop-text.lines ++ as_line t) w.deref.ensures)
        | else-not-contains_key w ↦ ap string_bytes w.lines-is
            ∙ line_same (λ t. string_bytes t) texts i text c.as_bytes.result.now (string_bytes c.loop-text.lines) c.contains_key.result within is c.as_bytes.ensures.value there w.if-not-contains_key.false c.loop-text.invariant.each
      ];
    }
