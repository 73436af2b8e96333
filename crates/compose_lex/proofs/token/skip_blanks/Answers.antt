use Rattle.std.proofs.Common.{drop, sym, ap, ◌∙◌, subst}
use Rattle.std.specs.List.{prefix_len}
use Rattle.std.specs.Str.{IsCharBoundary}
use Rattle.compose_text.specs.Bytes.{is_blank}
use Rattle.compose_lex.proofs.Scans.{after_left, cut_after_blanks}
use Rattle.compose_lex.proofs.token.skip_blanks.Goals as goal

pub range_from-requires : goal.range_from-requires
range_from-requires c =
    let text = c.args.text.now in
    let len = c.blank_len.ensures ∙ ap (prefix_len is_blank) c.as_bytes.ensures.value in
    λ _. subst (IsCharBoundary text) (sym len) (cut_after_blanks text c.utf8.text)

pub returns : goal.returns
returns c =
    let text = c.args.text.now in
    let len = c.blank_len.ensures ∙ ap (prefix_len is_blank) c.as_bytes.ensures.value in
    c.range_from.ensures.value ∙ ap (λ n. drop n text) len ∙ sym (after_left is_blank text)
