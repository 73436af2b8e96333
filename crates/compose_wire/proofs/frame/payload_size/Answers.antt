use Rattle.std.proofs.Common.{◌≡◌, sym, ◌∙◌, true, get_or, ap, arith, rules}
use Rattle.std.specs.Prelude.{option_map, None}
use Rattle.compose_text.specs.Numbers.{is_between}
use Rattle.compose_wire.specs.Frames.{length_fault}
use Rattle.compose_wire.specs.Feeding.{wire_fault}
use Rattle.compose_wire.proofs.Sizes.{are_bytes, has_whole_frame}
use Rattle.compose_wire.proofs.frame.payload_size.Goals as goal

pub returns : goal.returns
returns c =
    let h = c.args.held.now in
    let size = c.from_be_bytes-size.result in
    let kind : c.in-Some.field-0.now ≡ get_or h 0 0 = search rules in
    let known : is_between 1 7 (get_or h 0 0) ≡ true = ap (is_between 1 7) (sym kind) ∙ sym c.is_kind.ensures ∙ c.if-not-is_kind.false in
    let right : option_map wire_fault (length_fault (get_or h 0 0) size) ≡ None =
    ap (λ k. option_map wire_fault (length_fault k size)) (sym kind) ∙ sym c.length_fault.ensures ∙ c.in_default-length_fault.is in
    has_whole_frame h (are_bytes h c.type_inv.held) known (omega arith) size c.from_be_bytes-size.ensures right c.if-held-size.false
