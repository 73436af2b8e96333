use Rattle.std.proofs.Common.{◌≡◌, ◌<◌, ◌++◌, ℕ, List, [], length, take, drop, subst, ap, ◌∙◌, append_assoc, arith, length-take-le}
use Rattle.std.proofs.lemmas.List.{take-append-drop, drop_all}
use Rattle.compose_client.specs.Giving.{Returns}
use Rattle.compose_client.proofs.Exactly.{gives_reply, gives_fault, gives_bad_payload, gives_none}
use Rattle.compose_client.proofs.Widened.{widened}
use Rattle.compose_client.proofs.window.ReplyWindow.next_reply.Goals as goal

pub returns-clause-so : goal.returns-clause-so
returns-clause-so c =
    let n : ℕ = c.min-used.result in
    let old : List ℕ = c.args.self.now in
    let piece : List ℕ = c.args.piece.now in
    let held : List ℕ = c.try_extend_from_slice.new.self.items in
    let extended : held ≡ old ++ take n piece = let e = rw c.unwrap.ensures at c.try_extend_from_slice.ensures.ok in let v = c.self.view_is in cc in
    let full : length held < 266 → drop n piece ≡ [] = λ l.
    let m = c.min-used.ensures in
    let size = c.len.ensures in
    let grown = rw c.unwrap.ensures at c.try_extend_from_slice.ensures.len in
    let taken : length (take n piece) ≡ n = length-take-le n piece (omega (arith, m)) in
    drop_all n piece (omega (arith, l, m, size, grown, taken)) in
    let all : held ++ drop n piece ≡ old ++ piece =
    ap (λ (bytes : List ℕ). bytes ++ drop n piece) extended ∙ append_assoc old (take n piece) (drop n piece) ∙ ap (λ (bytes : List ℕ). old ++ bytes) (take-append-drop n piece) in
    subst (λ (bytes : List ℕ). Returns c.take_first.result bytes (c.take_first.new.self ++ drop n piece)) all (widened c.take_first.result held c.take_first.new.self (drop n piece) full c.take_first.ensures)

pub returns-clause-reply : goal.returns-clause-reply
returns-clause-reply c = gives_reply _ _ _ (returns-clause-so c)

pub returns-clause-fault : goal.returns-clause-fault
returns-clause-fault c = gives_fault _ _ _ (returns-clause-so c)

pub returns-clause-bad_payload : goal.returns-clause-bad_payload
returns-clause-bad_payload c = gives_bad_payload _ _ _ (returns-clause-so c)

pub returns-clause-none : goal.returns-clause-none
returns-clause-none c = gives_none _ _ _ (returns-clause-so c)
