use Rattle.std.proofs.Common.{◌≡◌, ◌∙◌, length, sym, ap, arith}
use Rattle.compose_model.specs.Certificate.{Certificate}
use Rattle.compose_cert.proofs.Spelled.{certificate_from_parts, parts_are_text}
use Rattle.compose_cert.proofs.certificate.Certificate.write_text.Goals as goal

pub returns-clause-ok : goal.returns-clause-ok
returns-clause-ok c =
    let fields = c.self.inside in
    let whole : Certificate = record { bound = fields.bound; pairs = fields.pairs; typings = fields.typings.items; fresh = fields.fresh.items } in
    let count : c.pair_count.result ≡ length fields.pairs = c.pair_count.ensures ∙ ap (λ (x : Certificate). length x.pairs) (sym c.self.view_is) in
    let own : c.pairs.result.now ≡ fields.pairs = c.pairs.ensures ∙ ap (λ (x : Certificate). x.pairs) (sym c.self.view_is) in
    let head = rw (c.new-text.ensures.bytes, c.deref.ensures.value, count) at c.in_ok-add_head.ensures in
    let pairs = rw own at c.in_ok-add_pairs.ensures.text in
    let numbers = rw own at c.in_ok-add_pairs.ensures.numbers in
    let typings = rw c.deref-2.ensures.value at c.in_ok-add_typings.ensures.text in
    let spelled = rw c.deref-2.ensures.value at c.in_ok-add_typings.ensures.spelled in
    let fresh = rw c.deref-3.ensures.value at c.in_ok-add_fresh.ensures.text in
    let keysyms = rw c.deref-3.ensures.value at c.in_ok-add_fresh.ensures.keysyms in
    rw (← c.self.view_is) (record {
      fits = certificate_from_parts whole c.self.invariant (omega arith) numbers spelled keysyms;
      is = parts_are_text _ _ _ _ whole head pairs typings fresh;
    })
