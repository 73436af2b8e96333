use Rattle.std.proofs.Common.{◌≡◌, ◌≤◌, nat_eq, ◌++◌, ◌∷◌, List, length, rules, sym, ◌∙◌, ap₂, subst}
use Rattle.std.specs.Prelude.{Option, option_to_list}
use Rattle.std.specs.List.{All, starts_with}
use Rattle.std.proofs.lemmas.List.Elements.{All-push}
use Rattle.compose_read.specs.Rows.{definition_at, IsPlaced}
use Rattle.compose_read.specs.declared.rows.RowSpan.{RowSpan}
use Rattle.compose_read.proofs.Prefixes.{stays_apart}
use Rattle.compose_read.proofs.Spans.{PassesOn, pass_kept, pass_left, both_few, first_of}
use Rattle.compose_read.proofs.settling.settle_sorted.Goals as goal
use Rattle.compose_read.proofs.settling.settle_sorted.Goals.{in-Some-last-2+in_ok-push-2, in_default-last}

abbrev after : Option RowSpan → List RowSpan → List RowSpan
after last left = option_to_list last ++ left

pub leave_out-requires : goal.leave_out-requires
leave_out-requires c =
    let ks = c.args.keysyms.now in let before = c.in-Some-last.before in let next = c.in-Some.span in
    let left : c.loop-span.span-iterator.rest.items ≡ next ∷ c.next.new.self.rest.items = search rules in
    let pass = subst (PassesOn ks c.args.rule c.args.spans.items c.loop-span.kept.items) (ap₂ after c.in-Some-last.is left) c.loop-span.invariant.2 in
    let few = both_few ks c.args.rule c.args.spans.items c.loop-span.kept.items c.next.new.self.rest.items before next pass in
    record {
      few = (subst (λ s. length s ≤ 32) (sym c.keysyms_at-short.ensures) few.0, subst (λ s. length s ≤ 32) (sym c.keysyms_at-long.ensures) few.1);
      is_prefix = sym c.is_prefix.ensures ∙ c.if-is_prefix.true;
    }

pub loop-span-preserved-in_ok-leave_out : goal.loop-span-preserved-in_ok-leave_out
loop-span-preserved-in_ok-leave_out c =
    let ks = c.args.keysyms.now in let before = c.in-Some-last.before in let next = c.in-Some.span in
    let left : c.loop-span.span-iterator.rest.items ≡ next ∷ c.next.new.self.rest.items = search rules in
    let pass = subst (PassesOn ks c.args.rule c.args.spans.items c.loop-span.kept.items) (ap₂ after c.in-Some-last.is left) c.loop-span.invariant.2 in (
      tt,
      tt,
      pass_left ks c.args.rule c.args.spans.items c.loop-span.kept.items c.next.new.self.rest.items before next pass
          (λ texts. c.in_ok-leave_out.ensures (definition_at ks texts before) (definition_at ks texts next) (sym c.keysyms_at-short.ensures) (sym c.keysyms_at-long.ensures)),
    )

pub loop-span-preserved-in_ok-push : goal.loop-span-preserved-in_ok-push
loop-span-preserved-in_ok-push c =
    let ks = c.args.keysyms.now in let before = c.in-Some-last.before in let next = c.in-Some.span in
    let left : c.loop-span.span-iterator.rest.items ≡ next ∷ c.next.new.self.rest.items = search rules in
    let pass = subst (PassesOn ks c.args.rule c.args.spans.items c.loop-span.kept.items) (ap₂ after c.in-Some-last.is left) c.loop-span.invariant.2 in (
      tt,
      tt,
      pass_kept ks c.args.rule c.args.spans.items c.loop-span.kept.items c.next.new.self.rest.items before next pass c.push.new.self.items c.in_ok-push.ensures.items
          (λ texts. stays_apart c.args.rule (definition_at ks texts before) (definition_at ks texts next)
          (ap₂ (λ s p. starts_with nat_eq s p) (sym c.keysyms_at-long.ensures) (sym c.keysyms_at-short.ensures) ∙ sym c.is_prefix.ensures ∙ c.if-is_prefix.false)),
    )

pub loop-span-preserved : goal.loop-span-preserved
loop-span-preserved c =
    let left : after c.loop-span.last c.loop-span.span-iterator.rest.items ≡ c.in-Some.span ∷ c.next.new.self.rest.items = search rules in
    (tt, tt, subst (PassesOn c.args.keysyms.now c.args.rule c.args.spans.items c.loop-span.kept.items) left c.loop-span.invariant.2)

pub returns-clause-placed : goal.returns-clause-placed
returns-clause-placed c = λ texts h.
    let placed = IsPlaced c.args.keysyms.now texts in let all = c.loop-span.invariant.2.2 texts h in let left = c.loop-span.span-iterator.rest.items in
    elim c.match-last-2.branch [
      | in-Some-last-2+in_ok-push-2 w ↦
          (let last = w.in-Some-last-2.span in
          subst (λ k. All placed k.items) (sym w.kept-is)
          (subst (All placed) (sym w.in_ok-push-2.ensures.items)
          (All-push placed c.loop-span.kept.items last all.0 (first_of placed last left (subst (λ o. All placed (after o left)) w.in-Some-last-2.is all.1)))))
      | in_default-last w ↦ subst (λ k. All placed k.items) (sym w.kept-is) all.0
    ]
