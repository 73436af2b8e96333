use Rattle.std.proofs.Common.{◌≡◌, ◌∙◌, ◌+◌, ◌*◌, ◌-◌, ℕ, arith, sym, ap, get_or, take, drop, length}
use Rattle.std.proofs.lemmas.Slice.Eq.{bytes_eq-Decides}
use Rattle.compose_c.proofs.Entries.{long_is}
use Rattle.compose_c.proofs.packed.is_long_entry.Goals as goal

pub returns-in-Some-clause-same : goal.returns-in-Some-clause-same
returns-in-Some-clause-same c same =
    let entry = c.args.entry.now in
    let text = c.args.text.now in
    let long = c.args.long_texts.now in
    let x : c.from.result ≡ get_or entry 0 0 = c.from.ensures in
    let y : c.from-2.result ≡ get_or entry 1 0 = c.from-2.ensures in
    let z : c.from-3.result ≡ get_or entry 2 0 = c.from-3.ensures in
    let place : ℕ = 2 * (c.from.result + 256 * c.from-2.result + 65536 * c.from-3.result) in
    let at : place ≡ 2 * (get_or entry 0 0 + 256 * get_or entry 1 0 + 65536 * get_or entry 2 0) = omega (arith, x, y, z) in
    let found = c.in-Some.ensures.lookup.0 in
    let size : place + length text - place ≡ length text = omega arith in
    let there : take (length text) (drop place long) ≡ text = ap (λ n. take n (drop place long)) (sym size) ∙ sym found.2 ∙ (bytes_eq-Decides c.in-Some.there.now text).0 (sym c.eq.ensures ∙ same) in
    long_is entry text long c.requires.four c.requires.count c.requires.long (omega arith) (omega arith) (omega (arith, at, found.1)) (ap (λ n. take (length text) (drop n long)) (sym at) ∙ there)
