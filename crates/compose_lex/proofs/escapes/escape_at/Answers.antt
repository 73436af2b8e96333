use Rattle.std.proofs.Common.{◌+◌, ap, sym, ◌∙◌, length, take, arith}
use Rattle.std.specs.Str.Parse.{digits_value}
use Rattle.compose_text.specs.Bytes.{leading}
use Rattle.compose_lex.specs.Escape.{is_octal, byte_of}
use Rattle.compose_lex.specs.declared.LexFault.TheVariants.{BadCode}
use Rattle.compose_lex.proofs.EscapeRead.{EscapeIs, hexadecimal_is, octal_is, escape_found}
use Rattle.compose_lex.proofs.escapes.escape_at.Goals as goal

pub returns-then-begins_hexadecimal : goal.returns-then-begins_hexadecimal
returns-then-begins_hexadecimal c =
    let at = c.args.at in
    let rest = c.args.rest.now in
    let code = c.code_at-code.result in
    let is = hexadecimal_is at c.in-Some.first.now c.in-Some.digits.now (sym c.begins_hexadecimal.ensures ∙ c.if-begins_hexadecimal.true) in
    let same : EscapeIs at rest (byte_of code.0) (1 + code.1) (BadCode at) = rw (c.in-Some.ensures.cases.0, c.code_at-code.ensures.value, c.code_at-code.ensures.len) is in
    escape_found at rest (byte_of code.0) (1 + code.1) (BadCode at) c.byte_of.result same c.byte_of.ensures

pub returns-then-len-gt0 : goal.returns-then-len-gt0
returns-then-len-gt0 c =
    let at = c.args.at in
    let rest = c.args.rest.now in
    let code = c.code_at-code-2.result in
    let whole = c.in-Some.ensures.cases.0 in
    let value = c.code_at-code-2.ensures.value ∙ ap (λ x. digits_value 8 (leading is_octal (take 3 x))) whole in
    let len = c.code_at-code-2.ensures.len ∙ ap (λ x. length (leading is_octal (take 3 x))) whole in
    let is = octal_is at c.in-Some.first.now c.in-Some.digits.now (sym c.begins_hexadecimal.ensures ∙ c.if-begins_hexadecimal.false) (omega (arith, len)) in
    let same : EscapeIs at rest (byte_of code.0) code.1 (BadCode at) = rw (whole, value, len) is in
    escape_found at rest (byte_of code.0) code.1 (BadCode at) c.byte_of-then-len-gt0.result same c.byte_of-then-len-gt0.ensures
