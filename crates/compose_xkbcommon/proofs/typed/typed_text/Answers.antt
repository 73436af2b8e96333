use Rattle.std.proofs.Common.{◌≡◌, ◌≤◌, ◌==◌, ap, sym, ◌∙◌, false, true, length, string_bytes, arith}
use Rattle.std.specs.List.{list_any}
use Rattle.std.proofs.lemmas.Str.{IsUtf8-string_bytes}
use Rattle.compose_xkbcommon.specs.Text.{typed}
use Rattle.compose_xkbcommon.proofs.Escapes.{text_given, text_none}
use Rattle.compose_xkbcommon.proofs.typed.typed_text.Goals as goal

pub returns-in-Ok : goal.returns-in-Ok
returns-in-Ok c =
    let bytes = c.in_ok-bytes.bytes.items in
    let same : string_bytes c.in-Ok.text ≡ bytes = ap (λ v. v.items) c.in-Ok.ensures.ok in
    let few : length bytes ≤ 255 = (let l = c.len.ensures in let t = c.if-len-gt255.false in omega (arith, l, t)) in
    let none : list_any (λ b. b == 0) bytes ≡ false = ap (list_any (λ b. b == 0)) (sym c.deref.ensures.value) ∙ sym c.has_zero.ensures ∙ c.if-has_zero.false in
    text_given (string_bytes c.in-Ok.text) bytes (typed c.args.raw.now) same c.in_ok-bytes.ensures few (IsUtf8-string_bytes c.in-Ok.text) none

pub returns : goal.returns
returns c = text_none c.in_ok-bytes.bytes.items (typed c.args.raw.now) c.in_ok-bytes.ensures (λ u. let clash : false ≡ true = c.in-Err.ensures.succeeds u in cc)
