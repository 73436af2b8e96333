use Rattle.std.proofs.Common.{◌≡◌, ◌∙◌, ◌++◌, ◌∷◌, [], length, ap, ap₂, arith}
use Rattle.compose_places.specs.SequenceList.{sequences_at}
use Rattle.compose_places.proofs.FlatSequences.{pushed}
use Rattle.compose_places.proofs.sequence_list.SequenceList.push.Goals as goal

pub returns : goal.returns
returns c =
    let keysyms = c.self.inside.keysyms.items in
    let sequence = c.args.sequence.now in
    let spans = c.self.inside.spans.items in
    let first : c.in_ok-short.field-0 ≡ length keysyms = omega (arith, c.in_ok-short.ensures, c.len.ensures) in
    let count : c.in_ok-short-2.field-0 ≡ length sequence = c.in_ok-short-2.ensures in
    ap₂ sequences_at c.in_ok-extend_from_slice.ensures.items
    (c.in_ok-push.ensures.items ∙ ap₂ (λ n m. spans ++ record { first = n; count = m } ∷ []) first count)
    ∙ pushed keysyms sequence spans c.self.invariant ∙ ap (λ ss. ss ++ sequence ∷ []) c.self.view_is
