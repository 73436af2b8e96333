-- Whatever is lost, and every new start, begins with a counterexample.
use Rattle.std.proofs.Common.{◌≡◌, ℕ, List, [], ◌∷◌, ◌++◌, Bool, true, false, cond, not, ◌&&◌, ◌||◌, refl, sym, ◌∙◌, ap, inl, inr, append_assoc}
use Rattle.std.specs.Prelude.{Some, None}
use Rattle.std.proofs.lemmas.Bool.{and_parts, and_from, not-true, cases_Bool}
use Rattle.std.proofs.lemmas.List.Folds.{list_all-append}
use Rattle.keysym_core.specs.Names.{KeysymNames}
use Rattle.compose_model.specs.Table.{Definition, same, has_key, avoids, is_sequence, is_table}
use Rattle.compose_model.specs.Step.{effect, is_cancel, is_empty, Step, step, pending, pending_after, uncancelled, uncancelled_from}
use Rattle.compose_model.specs.Follows.{AgreeAlong, Kind, cancelled, text_differs, waiting, difference}
use Rattle.compose_model.specs.Nodes.{has_edge}
use Rattle.compose_model.specs.Certificate.{AreFresh, types_itself}
use Rattle.compose_model.proofs.Reached.{uncancelled_from-append, agree_joined}
use Rattle.compose_model.proofs.Steps.{pending_from-append}
use Rattle.compose_compare.specs.Change.{IsKept, is_new_start, agrees, agree_along, Evidence}
use Rattle.compose_compare.proofs.Sequences.{sequence_goes_on, sequence_avoids}
use Rattle.compose_compare.proofs.OneKind.{agrees_from, along_from}
use Rattle.compose_compare.proofs.Needed.{passes_there, start_alone}

-- a step that does not agree differs in some way
some_difference : (old new : Step) → agrees old new ≡ false → (kind : Kind) × (difference old new ≡ Some kind)
some_difference old new h = go (is_cancel new.effect) (same new.text old.text) (is_empty old.pending) (is_empty new.pending) h
  where
    go : (a b c d : Bool) → not a && (b && (not c || d)) ≡ false → (kind : Kind) × (cond a (Some cancelled) (cond (not b) (Some text_differs) (cond (c && not d) (Some waiting) None)) ≡ Some kind)
    go true b c d h = (cancelled, refl)
    go false false c d h = (text_differs, refl)
    go false true true false h = (waiting, refl)
    go false true true true h = cc
    go false true false d h = cc

module _ (names : KeysymNames) (fresh : List ℕ) (old new : List Definition) where
  -- the tables agree on p, and not on w after it
  first_part : (s p w : List ℕ) → s ≡ p ++ w → avoids fresh s ≡ true → uncancelled old s ≡ true → AgreeAlong names old new [] [] p → agree_along names old new (pending old p) (pending new p) w ≡ false
      → Evidence names fresh old new s
  first_part s p [] e a g r h = cc
  first_part s p (k ∷ w) e a g r h = elim (cases_Bool (agrees (step names old (pending old p) k) (step names new (pending new p) k))) [
    | inl y ↦ first_part s (p ++ k ∷ []) w (e ∙ sym more) a g
        (agree_joined names old new [] [] p (k ∷ []) r (agrees_from (step names old (pending old p) k) (step names new (pending new p) k) y, tt))
        (ap (λ z. agree_along names old new z (pending new (p ++ k ∷ [])) w) (pending_from-append old [] p (k ∷ []))
        ∙ ap (λ z. agree_along names old new (pending_after old (pending old p) k) z w) (pending_from-append new [] p (k ∷ []))
        ∙ ap (λ b. b && agree_along names old new (pending_after old (pending old p) k) (pending_after new (pending new p) k) w) (sym y) ∙ h)
    | inr n ↦ (let d = some_difference (step names old (pending old p) k) (step names new (pending new p) k) n in
        let split : s ≡ (p ++ k ∷ []) ++ w = e ∙ sym more in
        record {
          keys = p ++ k ∷ [];
          rest = w;
          kind = d.0;
          old_text = (step names old (pending old p) k).text;
          new_text = (step names new (pending new p) k).text;
          begin = split;
          part = record {
            earlier = p;
            last = k;
            keys_are = refl;
            none_fresh = (and_parts (avoids fresh (p ++ k ∷ [])) (avoids fresh w) (sym (list_all-append (λ j. not (has_key fresh j)) (p ++ k ∷ []) w) ∙ ap (avoids fresh) (sym split) ∙ a)).0;
            old_goes_on =
                (and_parts (uncancelled old (p ++ k ∷ [])) (uncancelled_from old (pending old (p ++ k ∷ [])) w)
                (sym (uncancelled_from-append old [] (p ++ k ∷ []) w) ∙ ap (uncancelled old) (sym split) ∙ g)).0;
            agree = r;
            differ = d.1;
            old_commits = refl;
            new_commits = refl;
          };
        })
  ]
    where
      more : (p ++ k ∷ []) ++ w ≡ p ++ k ∷ w
      more = append_assoc p (k ∷ []) w

  -- a sequence of the old table that is not kept begins with a counterexample
  pub lost_evident : (s : List ℕ) → is_table old ≡ true → AreFresh fresh old → is_sequence old s ≡ true → (IsKept names old new s → ⊥) → Evidence names fresh old new s
  lost_evident s t a h n = first_part s [] s refl (sequence_avoids fresh old s a h) (sequence_goes_on old s t h) tt
      (elim (cases_Bool (agree_along names old new [] [] s)) [ inl e ↦ absurd (n (along_from names old new [] [] s e)) | inr e ↦ e ])

  -- the evidence of a list is evidence of a longer one
  one_more : (s r : List ℕ) → Evidence names fresh old new s → Evidence names fresh old new (s ++ r)
  one_more s r x =
      record { keys = x.keys; rest = x.rest ++ r; kind = x.kind; old_text = x.old_text; new_text = x.new_text; begin = ap (λ y. y ++ r) x.begin ∙ append_assoc x.keys x.rest r; part = x.part }

  -- a sequence of the new table that is a new start begins with a counterexample
  pub start_evident : (s : List ℕ) → is_table new ≡ true → is_sequence new s ≡ true → is_new_start names fresh old new s ≡ true → Evidence names fresh old new s
  start_evident [] t h n = cc
  start_evident (k ∷ s) t h n =
      let first = and_parts (not (has_edge old [] k)) (not (has_key fresh k) && not (is_empty s && types_itself names new k)) n in
      let second = and_parts (not (has_key fresh k)) (not (is_empty s && types_itself names new k)) first.1 in
      let no_edge : has_edge old [] k ≡ false = not-true (has_edge old [] k) first.0 in
      let not_alone : is_empty s && types_itself names new k ≡ false = not-true (is_empty s && types_itself names new k) second.1 in
      let old_passes = passes_there names old new t k s h no_edge in
      let differs : agrees (step names old [] k) (step names new [] k) ≡ false = elim (cases_Bool (agrees (step names old [] k) (step names new [] k))) [
        | inl e ↦ absurd (let f : true ≡ false = sym (start_alone names old new t k s h no_edge (agrees_from (step names old [] k) (step names new [] k) e)) ∙ not_alone in cc)
        | inr e ↦ e
      ] in
      one_more (k ∷ []) s (first_part (k ∷ []) [] (k ∷ []) refl (and_from (not (has_key fresh k)) true second.0 refl)
      (and_from (not (is_cancel (effect old [] k))) true (ap (λ y. not (is_cancel y)) old_passes) refl) tt
      (ap (λ b. b && true) differs))
