-- One pass over the nodes of the old table: the new table's position follows from its position one
-- key earlier.
use Rattle.std.proofs.Common.{◌≡◌, ℕ, List, [], ◌∷◌, ◌++◌, Bool, true, false, cond, ◌&&◌, refl, sym, ◌∙◌, ap, eq-eqb}
use Rattle.std.specs.Prelude.{◌==◌, Option, Some, None, is_some}
use Rattle.std.proofs.Math.Bool.{and_assoc}
use Rattle.std.proofs.lemmas.Bool.{and_from, or_left}
use Rattle.keysym_core.specs.Names.{KeysymNames}
use Rattle.compose_model.specs.Table.{Definition, same, is_proper_prefix, is_sequence, is_extended, is_table, is_prefix_free}
use Rattle.compose_model.specs.Step.{step, pending, pending_after, pending_from}
use Rattle.compose_model.specs.Nodes.{is_node}
use Rattle.compose_model.proofs.Steps.{pending_from-append}
use Rattle.compose_model.proofs.Tests.{list_any-weaker}
use Rattle.compose_model.proofs.NodeLemmas.{same_is, node_means, extended_is_node}
use Rattle.compose_model.proofs.Reached.{node_reached, agree-append, shorter_prefix}
use Rattle.compose_compare.specs.declared.Change.TheVariants.{Removed}
use Rattle.compose_compare.specs.Change.{agrees, agree_along, change, stands, position_after}
use Rattle.compose_compare.proofs.OneKind.{along_test, both_wait, one_kind}

-- agreement along two lists in a row
pub agree_along-append : (names : KeysymNames) (old new : List Definition) (u v p w : List ℕ)
    → agree_along names old new u v (p ++ w) ≡ agree_along names old new u v p && agree_along names old new (pending_from old u p) (pending_from new v p) w
agree_along-append names old new u v [] w = refl
agree_along-append names old new u v (k ∷ p) w =
    ap (λ b. agrees (step names old u k) (step names new v k) && b) (agree_along-append names old new (pending_after old u k) (pending_after new v k) p w)
    ∙ sym
    (and_assoc (agrees (step names old u k) (step names new v k)) (agree_along names old new (pending_after old u k) (pending_after new v k) p)
    (agree_along names old new (pending_from old u (k ∷ p)) (pending_from new v (k ∷ p)) w))

-- one key on from a node
pub position_on : (names : KeysymNames) (old new : List Definition) (p : List ℕ) (k : ℕ) → is_table old ≡ true → is_node old p ≡ true
    → stands names old new (p ++ k ∷ []) ≡ position_after names old new p k (stands names old new p)
position_on names old new p k t h =
    let r = node_reached old p t h in
    let both : agree_along names old new [] [] (p ++ k ∷ []) ≡ agree_along names old new [] [] p && (agrees (step names old p k) (step names new (pending new p) k) && true) =
    agree_along-append names old new [] [] p (k ∷ []) ∙ ap (λ y. agree_along names old new [] [] p && (agrees (step names old y k) (step names new (pending new p) k) && true)) r.again in
    ap (λ b. cond b (Some (pending new (p ++ k ∷ []))) None) both
    ∙ ap (λ v. cond (agree_along names old new [] [] p && (agrees (step names old p k) (step names new (pending new p) k) && true)) (Some v) None) (pending_from-append new [] p (k ∷ []))
    ∙ go (agree_along names old new [] [] p)
  where
    alone : (b : Bool) (x : Option (List ℕ)) → cond (b && true) x None ≡ cond b x None
    alone true x = refl
    alone false x = refl

    go : (a : Bool)
        → cond (a && (agrees (step names old p k) (step names new (pending new p) k) && true)) (Some (pending_after new (pending new p) k)) None
        ≡ position_after names old new p k (cond a (Some (pending new p)) None)
    go true = alone (agrees (step names old p k) (step names new (pending new p) k)) (Some (pending_after new (pending new p) k))
    go false = refl

-- a sequence is kept if the new table still has a position after it
pub position_when_kept : (names : KeysymNames) (old new : List Definition) (s : List ℕ) → is_some (stands names old new s) ≡ agree_along names old new [] [] s
position_when_kept names old new s = go (agree_along names old new [] [] s)
  where
    go : (b : Bool) → is_some (cond b (Some (pending new s)) None) ≡ b
    go true = refl
    go false = refl

-- ---- nodes of both tables, and nodes after which the tables no longer agree

node_extended : (table : List Definition) (k : ℕ) (p : List ℕ) → is_node table (k ∷ p) ≡ true → is_extended table (k ∷ p) ≡ true
node_extended table k p h = sym (node_means table (k ∷ p)) ∙ h

-- at a node of both tables, that node is the new table's position
pub position_there : (names : KeysymNames) (old new : List Definition) (p : List ℕ) → is_table old ≡ true → is_table new ≡ true → is_node old p ≡ true → is_node new p ≡ true
    → stands names old new p ≡ Some p
position_there names old new [] t n h g = refl
position_there names old new (k ∷ p) t n h g =
    ap (λ b. cond b (Some (pending new (k ∷ p))) None) (along_test names old new [] [] (k ∷ p) (both_wait names old new [] (k ∷ p) t n (node_extended old k p h) (node_extended new k p g)))
    ∙ ap Some (node_reached new (k ∷ p) n g).again

begins_more : (p : List ℕ) (k : ℕ) (w : List ℕ) → is_proper_prefix p (p ++ k ∷ w) ≡ true
begins_more [] k w = refl
begins_more (j ∷ p) k w = and_from (j == j) (is_proper_prefix p (p ++ k ∷ w)) (eq-eqb j j refl) (begins_more p k w)

-- every sequence that goes on from a node after which the tables no longer agree is removed
pub lost_after : (names : KeysymNames) (fresh : List ℕ) (old new : List Definition) (p : List ℕ) (k : ℕ) (w : List ℕ) → is_table old ≡ true → is_table new ≡ true → is_prefix_free old ≡ true
    → is_prefix_free new ≡ true
    → stands names old new p ≡ None → is_sequence old (p ++ k ∷ w) ≡ true → change names fresh old new (p ++ k ∷ w) ≡ Removed
lost_after names fresh old new p k w t n free_old free_new lost h =
    (one_kind names fresh old new t n free_old free_new (p ++ k ∷ w) (or_left (is_sequence old (p ++ k ∷ w)) (is_sequence new (p ++ k ∷ w)) h) Removed).0 (
      h,
      record {
        not_kept =
            λ kept. let some : Some (pending new p) ≡ None = ap (λ b. cond b (Some (pending new p)) None) (sym (along_test names old new [] [] p (agree-append names old new [] [] p (k ∷ w) kept).0))
            ∙ lost in cc;
        not_changed = λ x. not_extended_there (list_any-weaker (λ (d : Definition). same (p ++ k ∷ w) d.sequence) (λ d. is_proper_prefix p d.sequence) (λ d e. begun d e) new x.in_new);
        not_waiting =
            λ x. not_extended_there
            (list_any-weaker (λ (d : Definition). is_proper_prefix (p ++ k ∷ w) d.sequence) (λ d. is_proper_prefix p d.sequence) (λ d. shorter_prefix p (k ∷ w) d.sequence) new x);
      },
    )
  where
    begun : (d : Definition) → same (p ++ k ∷ w) d.sequence ≡ true → is_proper_prefix p d.sequence ≡ true
    begun d e = ap (is_proper_prefix p) (sym (same_is (p ++ k ∷ w) d.sequence e)) ∙ begins_more p k w

    old_node : is_node old p ≡ true
    old_node = extended_is_node old p (list_any-weaker (λ (d : Definition). same (p ++ k ∷ w) d.sequence) (λ d. is_proper_prefix p d.sequence) begun old h)

    not_extended_there : is_extended new p ≡ true → ⊥
    not_extended_there e = let some : Some p ≡ None = sym (position_there names old new p t n old_node (extended_is_node new p e)) ∙ lost in cc
