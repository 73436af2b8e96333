use Rattle.std.proofs.Common.{◌≡◌, ◌<◌, ◌++◌, ap, sym, ◌∙◌, get_or, length, string_bytes, arith}
use Rattle.compose_lex.specs.Escape.{quote_byte}
use Rattle.compose_lex.proofs.QuoteRuns.{quoted_none, quoted_plain, quoted_special, special_ascii}
use Rattle.compose_lex.proofs.quotes.push_inside.Goals as goal
use Rattle.compose_lex.proofs.quotes.push_inside.Goals.{then-not-is_plain+in_ok-push_str+in_ok-push_escape, else-not-is_plain}

pub loop-at-init : goal.loop-at-init
loop-at-init c = quoted_none c.args.text.now (string_bytes c.args.quoted.now) c.utf8.text

pub loop-at-preserved : goal.loop-at-preserved
loop-at-preserved c =
    let text = c.args.text.now in
    let at = c.loop-at.at in
    let byte = get_or c.as_bytes-byte-items.result.now at 0 in
    let same : byte ≡ get_or text at 0 = ap (λ xs. get_or xs at 0) c.as_bytes-byte-items.ensures.value in
    let within : at < length text = omega (arith, c.as_bytes-byte-items.ensures.len) in
    let text_now = string_bytes c.loop-at.quoted in
    elim c.if-not-is_plain.branch [
      | then-not-is_plain+in_ok-push_str+in_ok-push_escape w ↦ (
          let special = sym c.is_plain.ensures ∙ w.if-not-is_plain.true in
          let more = w.in_ok-push_escape.ensures ∙ ap (λ x. x ++ quote_byte byte) (w.in_ok-push_str.ensures.bytes ∙ ap (λ x. text_now ++ x) w.range.ensures.value) in
          let next =
          quoted_special text (string_bytes c.args.quoted.now) text_now (string_bytes w.push_escape.new.quoted) c.loop-at.done at byte c.utf8.text within same
          (special_ascii byte special) more c.loop-at.invariant in
          rw (w.quoted-is, w.done-is) next)
      | else-not-is_plain w ↦ (
          let plain = sym c.is_plain.ensures ∙ w.if-not-is_plain.false in
          let next = quoted_plain text (string_bytes c.args.quoted.now) text_now c.loop-at.done at byte within same plain c.loop-at.invariant in
          rw (w.quoted-is, w.done-is) next)
    ]
