-- New starts: what begins in the new table alone.
use Rattle.std.proofs.Common.{◌≡◌, ℕ, zero, suc, ◌+◌, ◌<◌, ◌≤◌, List, [], ◌∷◌, ◌++◌, Bool, true, false, not, ◌&&◌, length, append-nil, cond, map, take, refl, sym, ◌∙◌, ap, subst, arith, Option, Some, None}
use Rattle.std.specs.Prelude.{is_some, slice_get}
use Rattle.std.specs.List.{filter}
use Rattle.std.proofs.lemmas.List.{take_all}
use Rattle.std.proofs.lemmas.Bool.{or_from}
use Rattle.keysym_core.specs.Names.{KeysymNames}
use Rattle.compose_model.specs.Table.{Definition, has_key, is_extended, is_sequence}
use Rattle.compose_model.specs.Step.{pending}
use Rattle.compose_model.specs.Nodes.{nodes, node, is_node, has_edge, edges}
use Rattle.compose_model.proofs.NodeLemmas.{root_first, root_number, node_zero, root_is_node, edge_extends}
use Rattle.compose_tree.specs.declared.table.Target.{Target}
use Rattle.compose_tree.specs.Targets.{target_of}
use Rattle.compose_tree.proofs.Steps.{Leads, leads, edge_target}
use Rattle.compose_walk.specs.Pass.{differs_at, is_differing_start, differing_starts}
use Rattle.compose_walk.specs.Stands.{found_at}
use Rattle.compose_walk.specs.declared.pass.Found.{Found}
use Rattle.compose_walk.specs.Steps.{IsStep, difference_of}
use Rattle.compose_walk.specs.declared.step.KeyStep.{KeyStep}
use Rattle.compose_walk.proofs.Standing.{differs_alike}
use Rattle.compose_walk.proofs.Nodes.{found_more}

-- ---- the roots

-- a table has at least one node
pub root_below : (table : List Definition) → 0 < length (nodes table)
root_below table = let r = root_first table in let n : length (nodes table) ≡ suc (length r.0) = ap length r.1 in omega arith

module _ (names : KeysymNames) (fresh : List ℕ) (old new : List Definition) (k : ℕ) where
  -- a key that has a target at the old root is not a differing start
  pub known_start : (t : Option Target) → t ≡ target_of old (node old 0) k → is_some t ≡ true → false ≡ is_differing_start names fresh old new k
  known_start None e s = cc
  known_start (Some t) e s =
      let h = edge_target old (node old 0) k t (sym e) in
      ap (λ b. not b && (not (has_key fresh k) && differs_at names old new [] k)) (sym (ap (λ p. has_edge old p k) (sym (node_zero old)) ∙ h))

  no_edge : target_of old (node old 0) k ≡ None → has_edge old [] k ≡ false
  no_edge e = go (leads_of)
    where
      leads_of : Leads old (node old 0) k None
      leads_of = subst (λ (t : Option Target). Leads old (node old 0) k t) e (leads old (node old 0) k)

      go : Leads old (node old 0) k None → has_edge old [] k ≡ false
      go l =
          ap (λ p. has_edge old p k) (sym (node_zero old)) ∙ edge_extends old (node old 0) k
          ∙ or_from (is_extended old (node old 0 ++ k ∷ [])) (is_sequence old (node old 0 ++ k ∷ [])) l.extended l.sequence

  -- a fresh keysym is not a differing start
  pub fresh_start : has_key fresh k ≡ true → false ≡ is_differing_start names fresh old new k
  fresh_start h = sym (ap (λ b. not (has_edge old [] k) && (not b && differs_at names old new [] k)) h ∙ and_none (not (has_edge old [] k)))
    where
      and_none : (c : Bool) → c && false ≡ false
      and_none true = refl
      and_none false = refl

  -- a keysym that is not fresh and has no target at the old root is a differing start exactly if
  -- the steps at rest differ
  pub other_start : target_of old (node old 0) k ≡ None → has_key fresh k ≡ false → (a b : KeyStep) → IsStep names old (node old 0) k a → IsStep names new (node new 0) k b
      → is_some (difference_of a b) ≡ is_differing_start names fresh old new k
  other_start e f a b sa sb =
      differs_alike names old new (node old 0) (node new 0) k a b (ap (is_node old) (node_zero old) ∙ root_is_node old) (ap (is_node new) (node_zero new) ∙ root_is_node new)
      (node_zero new ∙ sym (ap (pending new) (node_zero old))) sa sb
      ∙ ap (λ p. differs_at names old new p k) (node_zero old)
      ∙ sym (ap (λ x. not x && (not (has_key fresh k) && differs_at names old new [] k)) (no_edge e) ∙ ap (λ x. not x && differs_at names old new [] k) f)

-- an option that tests as holding nothing is none
pub none_of : {X : Type 0} (o : Option X) → is_some o ≡ false → o ≡ None
none_of None h = refl
none_of (Some x) h = cc

-- ---- the new starts one by one

module _ (names : KeysymNames) (fresh : List ℕ) (old new : List Definition) (index k : ℕ) (before : List Found) (at : slice_get (edges new (node new 0)) index ≡ Some k)
    (found : before ≡ map (found_at old []) (filter (is_differing_start names fresh old new) (take index (edges new [])))) where
  at_root : slice_get (edges new []) index ≡ Some k
  at_root = ap (λ p. slice_get (edges new p) index) (sym (node_zero new)) ∙ at

  -- a differing start is added to those found so far, as the key at the root
  pub start_found : is_differing_start names fresh old new k ≡ true → (f : Found) → f.depth ≡ 0 → f.node ≡ 0 → f.keysym ≡ k → (after : List Found) → after ≡ before ++ f ∷ []
      → after ≡ map (found_at old []) (filter (is_differing_start names fresh old new) (take (index + 1) (edges new [])))
  start_found d f ed en ek after a =
      found_more (found_at old []) (is_differing_start names fresh old new) (edges new []) index k [] before after at_root found
      (a ∙ ap (λ g. before ++ g ∷ []) is ∙ ap (λ b. before ++ map (found_at old []) (cond b (k ∷ []) [])) (sym d))
    where
      is : f ≡ found_at old [] k
      is i = record { depth = ed i; node = (en ∙ sym (root_number old)) i; keysym = ek i }

  -- an edge of the new root that is not a differing start adds nothing to those found so far
  pub start_passed : is_differing_start names fresh old new k ≡ false → before ≡ map (found_at old []) (filter (is_differing_start names fresh old new) (take (index + 1) (edges new [])))
  start_passed d =
      found_more (found_at old []) (is_differing_start names fresh old new) (edges new []) index k [] before before at_root found
      (sym (append-nil before) ∙ ap (λ b. before ++ map (found_at old []) (cond b (k ∷ []) [])) (sym d))

-- past the last edge of the new root, all differing starts are found
pub starts_all : (names : KeysymNames) (fresh : List ℕ) (old new : List Definition) (index : ℕ) → length (edges new (node new 0)) ≤ index
    → map (found_at old []) (filter (is_differing_start names fresh old new) (take index (edges new []))) ≡ map (found_at old []) (differing_starts names fresh old new)
starts_all names fresh old new index h =
    ap (λ ks. map (found_at old []) (filter (is_differing_start names fresh old new) ks))
    (take_all index (edges new []) (let n : length (edges new (node new 0)) ≡ length (edges new []) = ap (λ p. length (edges new p)) (node_zero new) in omega arith))
