use Rattle.std.proofs.Common.{◌≡◌, ◌-◌, take, drop, sym, ap, ◌∙◌, subst, arith}
use Rattle.std.specs.List.{prefix_len}
use Rattle.std.specs.Str.{IsCharBoundary}
use Rattle.compose_text.specs.Bytes.{is_name_byte}
use Rattle.compose_lex.proofs.Scans.{prefix_taken, after_left, cut_after_name}
use Rattle.compose_lex.proofs.token.split_name.Goals as goal

pub range-requires-clause-end_boundary : goal.range-requires-clause-end_boundary
range-requires-clause-end_boundary c =
    let text = c.args.text.now in
    let len = c.name_len-len.ensures ∙ ap (prefix_len is_name_byte) c.as_bytes.ensures.value in
    subst (IsCharBoundary text) (sym len) (cut_after_name text c.utf8.text)

pub range_from-requires : goal.range_from-requires
range_from-requires c =
    let text = c.args.text.now in
    let len = c.name_len-len.ensures ∙ ap (prefix_len is_name_byte) c.as_bytes.ensures.value in
    λ _. subst (IsCharBoundary text) (sym len) (cut_after_name text c.utf8.text)

pub returns-clause-name : goal.returns-clause-name
returns-clause-name c =
    let text = c.args.text.now in
    let len = c.name_len-len.ensures ∙ ap (prefix_len is_name_byte) c.as_bytes.ensures.value in
    let whole : c.name_len-len.result - 0 ≡ c.name_len-len.result = omega arith in
    c.range.ensures.value ∙ ap (λ n. take n text) (whole ∙ len) ∙ sym (prefix_taken is_name_byte text)

pub returns-clause-rest : goal.returns-clause-rest
returns-clause-rest c =
    let text = c.args.text.now in
    let len = c.name_len-len.ensures ∙ ap (prefix_len is_name_byte) c.as_bytes.ensures.value in
    c.range_from.ensures.value ∙ ap (λ n. drop n text) len ∙ sym (after_left is_name_byte text)
