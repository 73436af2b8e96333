use Rattle.std.proofs.Common.{◌≡◌, ◌∙◌, ◌++◌, ℕ, List, ap, subst, flat_map, string_bytes, OnOk}
use Rattle.compose_lex.specs.Escape.{octal_escape}
use Rattle.compose_lex.specs.Line.{quoted}
use Rattle.compose_listed_as.specs.Line.{utf8_result}
use Rattle.compose_listed_as.proofs.Texts.{no_text, text_is}
use Rattle.compose_listed_as.proofs.line.push_result.Goals as goal

pub returns-in-Ok : goal.returns-in-Ok
returns-in-Ok c =
    let bytes = c.args.text.now in let is = c.in-Ok.ensures.cases in
    subst (λ (x : List ℕ). OnOk c.push_text.result (string_bytes c.push_text.new.lines ≡ string_bytes c.args.lines.now ++ x))
    (ap utf8_result is.0 ∙ text_is bytes (utf8_result bytes) (quoted (flat_map octal_escape bytes)) is.1) c.push_text.ensures

pub returns-in-Err : goal.returns-in-Err
returns-in-Err c =
    let bytes = c.args.text.now in
    subst (λ (x : List ℕ). OnOk c.push_codes.result (string_bytes c.push_codes.new.lines ≡ string_bytes c.args.lines.now ++ x))
    (no_text bytes (utf8_result bytes) (quoted (flat_map octal_escape bytes)) c.in-Err.ensures.cases.0) c.push_codes.ensures
