use Rattle.std.proofs.Common.{◌≡◌, ◌∙◌, length, take, sym, ap, subst}
use Rattle.std.specs.Prelude.{◌==◌, Some}
use Rattle.std.specs.Str.{IsUtf8}
use Rattle.compose_text.specs.Bytes.{is_name_byte, leading}
use Rattle.compose_lex.proofs.Scans.{prefix_taken}
use Rattle.compose_results.proofs.NameLines.{name_text, name_there}
use Rattle.compose_results.proofs.name.leading_name.Goals as goal

pub returns-in-Ok : goal.returns-in-Ok
returns-in-Ok c =
    let rest = c.args.rest.now in
    let same : take c.name_len.result rest ≡ leading is_name_byte rest = ap (λ n. take n rest) c.name_len.ensures ∙ sym (prefix_taken is_name_byte rest) in
    ap Some (c.in-Ok.ensures.cases.0 ∙ same) ∙ sym (name_there rest (c.if-is_empty.ensures ∙ ap (λ name. length name == 0) same))

pub returns-in-Err : goal.returns-in-Err
returns-in-Err c =
    let rest = c.args.rest.now in
    let same : leading is_name_byte rest ≡ take c.name_len.result rest = prefix_taken is_name_byte rest ∙ ap (λ n. take n rest) (sym c.name_len.ensures) in
    absurd (c.in-Err.ensures.cases.0 (subst IsUtf8 same (name_text rest)))
