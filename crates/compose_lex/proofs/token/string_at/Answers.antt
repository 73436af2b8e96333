use Rattle.std.proofs.Common.{◌≡◌, ◌<◌, sym, ◌∙◌, ap, subst, get_or, length, false, arith}
use Rattle.std.specs.List.{prefix_len}
use Rattle.std.proofs.lemmas.Str.{IsCharBoundary-after_ascii}
use Rattle.compose_lex.specs.Steps.{is_plain}
use Rattle.compose_lex.proofs.Strings.{Inside, inside_plain, inside_taken, inside_free}
use Rattle.compose_lex.proofs.token.string_at.Goals as goal
use Rattle.compose_lex.proofs.token.string_at.Goals.{then-taken, else-taken+else-bytes-at-eq34}

pub loop-at-init : goal.loop-at-init
loop-at-init c =
    let text = c.args.rest.now in
    let len = c.plain_len-at.ensures ∙ ap (prefix_len is_plain) c.as_bytes-bytes.ensures.value in
    subst (Inside text false) (sym len) (inside_plain text)

pub range_from-requires : goal.range_from-requires
range_from-requires c =
    let at = c.loop-at.at in
    let same = ap (λ xs. get_or xs at 0) c.as_bytes-bytes.ensures.value in
    λ _. IsCharBoundary-after_ascii c.args.rest.now at c.utf8.rest (omega (arith, c.as_bytes-bytes.ensures.len)) (omega (arith, same))

pub loop-at-preserved : goal.loop-at-preserved
loop-at-preserved c =
    let text = c.args.rest.now in
    let at = c.loop-at.at in
    let byte = get_or c.as_bytes-bytes.result.now at 0 in
    let same : byte ≡ get_or text at 0 = ap (λ xs. get_or xs at 0) c.as_bytes-bytes.ensures.value in
    let within : at < length text = omega (arith, c.as_bytes-bytes.ensures.len) in
    elim c.if-taken.branch [
      | then-taken w ↦ inside_taken text c.loop-at.taken c.if-taken.taken at byte within same w.if-taken.true w.taken-is c.loop-at.invariant
      | else-taken+else-bytes-at-eq34 w ↦ inside_free text c.loop-at.taken c.if-taken.taken at byte within same w.if-taken.false w.if-bytes-at-eq34.false w.taken-is c.loop-at.invariant
    ]
