-- The conditions at an edge, by the targets of its key in both tables.
use Rattle.std.proofs.Common.{◌≡◌, ℕ, ◌+◌, ◌<◌, add_comm, length, drop, List, [], ◌∷◌, ◌++◌, Bool, true, false, not, refl, sym, ◌∙◌, ap, ap₂}
use Rattle.std.specs.Prelude.{◌==◌, flat_map, slice_get, Option, Some, None}
use Rattle.std.proofs.lemmas.Bool.{not_from_false, not_from_true}
use Rattle.keysym_core.specs.Keysym.{is_ignored}
use Rattle.keysym_core.specs.Names.{KeysymNames}
use Rattle.compose_model.specs.Table.{Definition, same, is_table}
use Rattle.compose_model.specs.Step.{step, effect, is_cancel, is_empty}
use Rattle.compose_model.specs.Nodes.{nodes, node, edges, number_of}
use Rattle.compose_model.specs.Certificate.{has_pair}
use Rattle.compose_tree.specs.declared.table.Target.{Target}
use Rattle.compose_tree.specs.declared.table.Target.TheVariants.{Node, Leaf}
use Rattle.compose_tree.specs.Targets.{target_of}
use Rattle.compose_tree.proofs.Steps.{effect_at, effect_by_target, target_fed}
use Rattle.compose_fresh.specs.declared.fault.CheckFault.{CheckFault}
use Rattle.compose_fresh.specs.declared.fault.CheckFault.TheVariants.{Cancels, TextDiffers, PairMissing}
use Rattle.compose_fresh.specs.Conditions.{Condition, condition, first_unmet}
use Rattle.compose_check.specs.Conditions.{one_edge_conditions, edge_conditions_from}
use Rattle.compose_check.specs.Landing.{target_text, landing_text, landing_cancels, landing_number}
use Rattle.compose_fresh.proofs.Unmet.{drop_at, first_unmet-met, first_unmet-fault, unmet_before, met_before}
use Rattle.compose_check.proofs.Landed.{root_alone, lands_cancelled, lands_text, lands_number}

-- the key leads from the old node u to the target, and from the new node with the number n to the
-- landing
pub record AtEdge (old new : List Definition) (u : List ℕ) (n k : ℕ) (target : Target) (landing : Option Target) : Type 0 where
  pub from : target_of old u k ≡ Some target
  pub to : target_of new (node new n) k ≡ landing
  pub fed : is_ignored k ≡ false
  pub root : is_empty (node new n) ≡ (n == 0)

-- a key that leads on from an old node and lands from a new one is not ignored, and the new node is
-- the root exactly if its number is 0
pub at_edge : (old new : List Definition) (u : List ℕ) (n k : ℕ) (target : Target) (landing : Option Target) → target_of old u k ≡ Some target → target_of new (node new n) k ≡ landing
    → is_table old ≡ true → n < length (nodes new) → AtEdge old new u n k target landing
at_edge old new u n k target landing from to sound in_range = record { from = from; to = to; fed = target_fed old u k target sound from; root = root_alone new n in_range }

module _ (names : KeysymNames) (pairs : List (ℕ × ℕ)) (index : ℕ) (old new : List Definition) (u : List ℕ) (n k : ℕ) (target : Target) (landing : Option Target)
    (e : AtEdge old new u n k target landing) where
  abbrev v : List ℕ
  v = node new n

  abbrev texts : Condition
  texts = condition (same (step names new v k).text (step names old u k).text) (TextDiffers index k)

  abbrev lands : Condition
  lands = condition (has_pair pairs (number_of old (step names old u k).pending) (number_of new (step names new v k).pending)) (PairMissing index k)

  -- the old step does not cancel
  goes_on : is_cancel (effect old u k) ≡ false
  goes_on = ap is_cancel (effect_by_target old u k e.fed ∙ ap (effect_at (is_empty u)) e.from) ∙ at_edge (is_empty u) target
    where
      at_edge : (b : Bool) (t : Target) → is_cancel (effect_at b (Some t)) ≡ false
      at_edge b (Node m) = refl
      at_edge b (Leaf m) = refl

  cancels_is : is_cancel (effect new v k) ≡ landing_cancels n landing
  cancels_is = lands_cancelled names new v k landing e.to e.fed n e.root

  texts_are : landing_cancels n landing ≡ false → same (step names new v k).text (step names old u k).text ≡ same (landing_text names new k landing) (target_text old target)
  texts_are on = ap₂ same (lands_text names new v k landing e.to e.fed (cancels_is ∙ on)) (lands_text names old u k (Some target) e.from e.fed goes_on)

  pairs_are : has_pair pairs (number_of old (step names old u k).pending) (number_of new (step names new v k).pending) ≡ has_pair pairs (landing_number (Some target)) (landing_number landing)
  pairs_are = ap₂ (has_pair pairs) (lands_number names old u k (Some target) e.from e.fed) (lands_number names new v k landing e.to e.fed)

  -- the new step cancels
  pub edge_cancels : landing_cancels n landing ≡ true → Some (Cancels index k) ≡ first_unmet (one_edge_conditions names old new pairs index u v k)
  edge_cancels h = sym (first_unmet-fault (not (is_cancel (effect new v k))) (Cancels index k) (texts ∷ lands ∷ []) (not_from_true (is_cancel (effect new v k)) (cancels_is ∙ h)))

  module _ (on : landing_cancels n landing ≡ false) where
    first : first_unmet (one_edge_conditions names old new pairs index u v k) ≡ first_unmet (texts ∷ lands ∷ [])
    first = first_unmet-met (not (is_cancel (effect new v k))) (Cancels index k) (texts ∷ lands ∷ []) (not_from_false (is_cancel (effect new v k)) (cancels_is ∙ on))

    -- the texts differ
    pub edge_differs : same (landing_text names new k landing) (target_text old target) ≡ false → Some (TextDiffers index k) ≡ first_unmet (one_edge_conditions names old new pairs index u v k)
    edge_differs h = sym (first ∙ first_unmet-fault texts.met (TextDiffers index k) (lands ∷ []) (texts_are on ∙ h))

    module _ (agree : same (landing_text names new k landing) (target_text old target) ≡ true) where
      second : first_unmet (one_edge_conditions names old new pairs index u v k) ≡ first_unmet (lands ∷ [])
      second = first ∙ first_unmet-met texts.met (TextDiffers index k) (lands ∷ []) (texts_are on ∙ agree)

      -- the nodes are not a pair
      pub edge_missing : has_pair pairs (landing_number (Some target)) (landing_number landing) ≡ false → Some (PairMissing index k) ≡ first_unmet (one_edge_conditions names old new pairs index u v k)
      edge_missing h = sym (second ∙ first_unmet-fault lands.met (PairMissing index k) [] (pairs_are ∙ h))

      -- the edge is kept
      pub edge_is_met : has_pair pairs (landing_number (Some target)) (landing_number landing) ≡ true → None ≡ first_unmet (one_edge_conditions names old new pairs index u v k)
      edge_is_met h = sym (second ∙ first_unmet-met lands.met (PairMissing index k) [] (pairs_are ∙ h))

-- ---- pair by pair

module _ (names : KeysymNames) (old new : List Definition) (pairs : List (ℕ × ℕ)) (ps : List (ℕ × ℕ)) (i : ℕ) (p : ℕ × ℕ) (e : slice_get ps i ≡ Some p) where
  abbrev here : List Condition
  here = flat_map (one_edge_conditions names old new pairs i (node old p.0) (node new p.1)) (edges old (node old p.0))

  from_here : first_unmet (edge_conditions_from names old new pairs i (drop i ps)) ≡ first_unmet (here ++ edge_conditions_from names old new pairs (i + 1) (drop (i + 1) ps))
  from_here =
      ap (λ qs. first_unmet (edge_conditions_from names old new pairs i qs)) (drop_at ps i p e)
      ∙ ap (λ n. first_unmet (here ++ edge_conditions_from names old new pairs n (drop (i + 1) ps))) (add_comm 1 i)

  -- the first condition from this pair on is this pair's
  pub pair_unmet : (fault : CheckFault) → first_unmet here ≡ Some fault → first_unmet (edge_conditions_from names old new pairs i (drop i ps)) ≡ Some fault
  pair_unmet fault h = from_here ∙ unmet_before here (edge_conditions_from names old new pairs (i + 1) (drop (i + 1) ps)) fault h

  -- or one of those that follow
  pub pair_met : first_unmet here ≡ None → first_unmet (edge_conditions_from names old new pairs (i + 1) (drop (i + 1) ps)) ≡ first_unmet (edge_conditions_from names old new pairs i (drop i ps))
  pair_met h = sym (from_here ∙ met_before here (edge_conditions_from names old new pairs (i + 1) (drop (i + 1) ps)) h)
