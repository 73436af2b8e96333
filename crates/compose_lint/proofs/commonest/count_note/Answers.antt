use Rattle.std.proofs.Common.{◌≡◌, ◌∙◌, ◌+◌, ◌<◌, take, length, sym, ap, arith}
use Rattle.std.specs.Prelude.{Some, unwrap_or, bytes_eq, ◌&&◌}
use Rattle.std.proofs.lemmas.List.{length-take-le}
use Rattle.std.proofs.lemmas.List.Sums.{count_by-le-length}
use Rattle.std.proofs.lemmas.Slice.Eq.{bytes_eq-Decides}
use Rattle.indexmap.specs.IndexMap.{get_by}
use Rattle.compose_lint.specs.Commonest.{times, count_of}
use Rattle.compose_lint.proofs.Leading.{is_pair}
use Rattle.compose_lint.proofs.Tallies.{first_note, next_note}
use Rattle.compose_lint.proofs.commonest.count_note.Goals as goal

pub returns-in_default : goal.returns-in_default
returns-in_default c = λ k.
    (let key = c.key-key.result.now in let old = c.args.leaders.now in
    first_note c.args.notes.now c.args.index c.index-notes-index.result c.requires.within c.index-notes-index.is k.now key c.value-value.result.now c.key-key.ensures c.value-value.ensures
    c.first_leader.result (get_by (λ p. bytes_eq k.now p.now) old) _ (c.in_ok-insert.ensures.updates.0 k) _ c.first_leader.ensures
    (λ e. ap (λ q. get_by (λ p. bytes_eq q p.now) old) (sym ((bytes_eq-Decides key k.now).0 e)) ∙ sym c.in_default.ensures.value)
    (c.requires.before k))

pub overflow_add-count : goal.overflow_add-count
overflow_add-count c =
    let notes = c.args.notes.now in let i = c.args.index in let key = c.key-key.result in let value = c.value-value.result.now in
    let is : c.count_beside-count.result ≡ times (take i notes) key.now value =
    c.count_beside-count.ensures
    ∙ ap (λ o. count_of o value (unwrap_or (get_by (λ p. bytes_eq key.now p.0.now && bytes_eq value p.1.now) c.args.others.now) 0)) c.in-Some.ensures.value
    ∙ (c.requires.before key).counts value in
    let few = count_by-le-length (is_pair key.now value) (take i notes) in
    let within : i < length notes = c.requires.within in
    let long = length-take-le i notes (omega arith) in
    omega (arith, is, few, long, within)

pub returns : goal.returns
returns c = λ k.
    (let key = c.key-key.result.now in let value = c.value-value.result.now in let old = c.args.leaders.now in let others = c.args.others.now in
    next_note c.args.notes.now c.args.index c.index-notes-index.result c.requires.within c.index-notes-index.is k.now key value c.key-key.ensures c.value-value.ensures
    c.next_leader-next.result (get_by (λ p. bytes_eq k.now p.now) old) _ (c.in_ok-insert-2.ensures.updates.0 k)
    c.in-Some.leader.now (λ v. unwrap_or (get_by (λ p. bytes_eq k.now p.0.now && bytes_eq v p.1.now) others) 0) _ _ c.next_leader-next.ensures
    (λ e. ap (λ q. get_by (λ p. bytes_eq q p.now) old) (sym ((bytes_eq-Decides key k.now).0 e)) ∙ sym c.in-Some.ensures.value)
    (λ e. ap (λ m. m + 1) (c.count_beside-count.ensures ∙ ap (λ q. count_of (Some c.in-Some.leader.now) value (unwrap_or (get_by (λ p. bytes_eq q p.0.now && bytes_eq value p.1.now) others) 0)) ((bytes_eq-Decides key k.now).0 e)))
    (λ v. c.in_ok-keep_others.ensures k (record { ref_ptr = k.ref_ptr; now = v }))
    (c.requires.before k))
