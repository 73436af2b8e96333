-- From a node that the pass found back to its keys.
use Rattle.std.proofs.Common.{◌≡◌, ℕ, ◌+◌, ◌<◌, ◌≤◌, List, [], ◌∷◌, ◌++◌, true, false, cond, not, ◌&&◌, length, get_or, map, take, refl, sym, ◌∙◌, ap, ap₂, inl, inr, arith, append_assoc, length-append, Option, Some, None}
use Rattle.std.specs.Prelude.{◌==◌, nat_lt, nat_le, is_some, unwrap_or}
use Rattle.std.specs.List.{list_all}
use Rattle.std.proofs.lemmas.Bool.{and_parts, or_cases, leb-true}
use Rattle.std.proofs.lemmas.List.{get_or-map, map-append, take_more}
use Rattle.keysym_core.specs.Keysym.{is_keysym, is_ignored}
use Rattle.keysym_core.specs.Names.{KeysymNames}
use Rattle.compose_model.specs.Table.{Definition, same, is_proper_prefix, is_extended, is_table, is_definition}
use Rattle.std.specs.Option.{option_map}
use Rattle.compose_model.specs.Step.{is_empty, pending, step}
use Rattle.compose_model.specs.Follows.{Kind, text_differs, difference}
use Rattle.compose_model.specs.Nodes.{nodes, is_node, node, number_of}
use Rattle.compose_model.proofs.Tests.{both_at}
use Rattle.compose_model.proofs.NodeLemmas.{same_is, node_means, node_at_number}
use Rattle.compose_walk.specs.Evidence.{Evidence}
use Rattle.compose_walk.specs.Kinds.{kind_of}
use Rattle.compose_walk.specs.Steps.{text_bytes, IsStep, difference_of}
use Rattle.compose_walk.specs.declared.evidence.Kind.{Kind as Found_kind}
use Rattle.compose_walk.specs.declared.step.KeyStep.{KeyStep}
use Rattle.compose_walk.specs.Pass.{agrees, differs_at, difference_at, evidence}
use Rattle.compose_walk.specs.Stands.{without_last, last_key, stand, IsPlace, evidence_found}
use Rattle.compose_walk.specs.declared.pass.Partner.{Partner}
use Rattle.compose_walk.specs.declared.pass.Found.{Found}
use Rattle.compose_walk.proofs.NodeNumbers.{number_at_node, node_is_node, not_root, parent_before}
use Rattle.compose_walk.proofs.Standing.{differ_alike, differs_alike, agrees_push, pushed, prefix_node}
use Rattle.compose_walk.proofs.Nodes.{Standing, standing}

-- ---- a node has at most 31 keys

shorter : (p s : List ℕ) → is_proper_prefix p s ≡ true → length p < length s
shorter p [] h = cc
shorter [] (x ∷ s) h = omega arith
shorter (j ∷ p) (x ∷ s) h = let l = shorter p s (and_parts (j == x) (is_proper_prefix p s) h).1 in omega arith

pub node_short : (table : List Definition) (p : List ℕ) → is_table table ≡ true → is_node table p ≡ true → length p ≤ 31
node_short table p t h = elim (or_cases (same p []) (is_extended table p) (sym (node_means table p) ∙ h)) [
  | inl e ↦ (let n : length p ≡ 0 = ap length (same_is p [] e) in omega arith)
  | inr e ↦ (
      let d = both_at is_definition (λ (d : Definition). is_proper_prefix p d.sequence) table t e in
      let parts = and_parts (nat_lt 0 (length d.0.sequence) && nat_le (length d.0.sequence) 32 && list_all (λ k. is_keysym k && not (is_ignored k)) d.0.sequence) (nat_le (length d.0.text) 255) d.1 in
      let lengths = and_parts (nat_lt 0 (length d.0.sequence) && nat_le (length d.0.sequence) 32) (list_all (λ k. is_keysym k && not (is_ignored k)) d.0.sequence) parts.0 in
      let most = leb-true (length d.0.sequence) 32 (and_parts (nat_lt 0 (length d.0.sequence)) (nat_le (length d.0.sequence) 32) lengths.0).1 in
      let less = shorter p d.0.sequence d.2 in omega arith)
]

-- ---- one key back

module _ (names : KeysymNames) (old new : List Definition) (sound : is_table old ≡ true) (i : ℕ) (in_range : i < length (nodes old)) (agree : agrees names old new (node old i) ≡ true) where
  -- its partner is there
  pub some_partner : (xs : List (Option Partner)) → xs ≡ map (stand names old new) (nodes old) → (o : Option Partner) → o ≡ get_or xs i o → o ≡ stand names old new (node old i)
  some_partner xs e o r =
      r ∙ ap (λ ys. get_or ys i o) e ∙ get_or-map (stand names old new) (nodes old) i [] o in_range

  -- a node up to which the tables agree has a partner
  pub is_there : is_some (stand names old new (node old i)) ≡ true
  is_there =
      ap
      (λ b. is_some
      (cond {A = Option Partner} b
      (Some
      (record {
        new_node = record { 0 = number_of new (pending new (node old i)) };
        parent = record { 0 = number_of old (without_last (node old i)) };
        keysym =
            last_key (node old i);
      })) None)) agree

  module _ (s : Partner) (at : stand names old new (node old i) ≡ Some s) (other : i == 0 ≡ false) where
    here : is_node old (node old i) ≡ true
    here = node_is_node old i in_range

    some_key : is_empty (node old i) ≡ false
    some_key = not_root old i in_range other

    expected : Standing names old new sound (node old i) s
    expected = standing names old new sound (node old i) s at

    before_is : node old s.parent.0 ≡ without_last (node old i)
    before_is = ap (node old) expected.parent ∙ node_at_number old (without_last (node old i)) (prefix_node old (node old i) here)

    -- the node that leads to a node has the lesser number
    pub parent_below : s.parent.0 < i
    parent_below =
        let less = parent_before old (without_last (node old i)) (last_key (node old i)) (prefix_node old (node old i) here) (ap (is_node old) (sym (pushed (node old i) some_key)) ∙ here) in
        let at_i : number_of old (without_last (node old i) ++ last_key (node old i) ∷ []) ≡ i = ap (number_of old) (sym (pushed (node old i) some_key)) ∙ number_at_node old i in_range in
        let from : s.parent.0 ≡ number_of old (without_last (node old i)) = expected.parent in omega arith

    -- the number of the node that leads to a node is below the count of nodes
    pub parent_in_range : s.parent.0 < length (nodes old)
    parent_in_range = let less = parent_below in omega arith

    -- the tables agree up to the node that leads to one up to which they agree
    pub parent_agrees : agrees names old new (node old s.parent.0) ≡ true
    parent_agrees =
        ap (agrees names old new) before_is
        ∙ (and_parts (agrees names old new (without_last (node old i))) (not (differs_at names old new (without_last (node old i)) (last_key (node old i))))
        (sym (agrees_push names old new sound (without_last (node old i)) (last_key (node old i)) (prefix_node old (node old i) here)) ∙ ap (agrees names old new) (sym (pushed (node old i) some_key))
        ∙ agree)).0

    -- keys that begin with a node begin with the node that leads to it, and go on with the key by
    -- which it does
    pub one_back : (whole keys : List ℕ) → whole ≡ node old i ++ keys → whole ≡ node old s.parent.0 ++ s.keysym ∷ keys
    one_back whole keys e =
        e ∙ ap (λ p. p ++ keys) (pushed (node old i) some_key) ∙ append_assoc (without_last (node old i)) (last_key (node old i) ∷ []) keys
        ∙ ap (λ p. p ++ last_key (node old i) ∷ keys) (sym before_is) ∙ ap (λ k. node old s.parent.0 ++ k ∷ keys) (sym expected.keysym)

    -- there is room for one key more
    pub room : (p : List ℕ) (k : ℕ) (keys : List ℕ) → is_node old p ≡ true → p ++ k ∷ [] ≡ node old i ++ keys → length keys < 32
    room p k keys hp e =
        let short = node_short old p sound hp in
        let a : length (p ++ k ∷ []) ≡ length p + 1 = length-append p (k ∷ []) in
        let b : length (node old i ++ keys) ≡ length (node old i) + length keys = length-append (node old i) keys in
        let c : length (p ++ k ∷ []) ≡ length (node old i ++ keys) = ap length e in
        let d : 0 < length (node old i) = nonempty (node old i) some_key in omega arith
      where
        nonempty : (q : List ℕ) → is_empty q ≡ false → 0 < length q
        nonempty [] h = cc
        nonempty (x ∷ q) h = omega arith

-- ---- the evidence

module _ (names : KeysymNames) (old new : List Definition) (p v : List ℕ) (k : ℕ) (hp : is_node old p ≡ true) (hv : is_node new v ≡ true) (together : v ≡ pending new p) (a b : KeyStep)
    (old_step : IsStep names old p k a) (new_step : IsStep names new v k b) where
  -- if the tables differ at a key, the two steps of the program differ
  pub some_difference : differs_at names old new p k ≡ true → is_some (difference_of a b) ≡ true
  some_difference d = differs_alike names old new p v k a b hp hv together old_step new_step ∙ d

  -- evidence with the node and the key as its keys, the kind in which the steps differ, and their
  -- texts is that of this place
  pub evidence_is : (x : Evidence) → x.keys ≡ p ++ k ∷ [] → ((found : Found_kind) → difference_of a b ≡ Some found → x.kind ≡ kind_of found) → x.old_text ≡ text_bytes a.text
      → x.new_text ≡ text_bytes b.text
      → (kind : Kind) → difference_at names old new p k ≡ Some kind → x ≡ evidence names old new p k kind
  evidence_is x keys kinds old_text new_text kind d =
      go (difference_of a b) refl (differ_alike names old new p v k a b hp hv old_step new_step ∙ ap (λ y. difference (step names old p k) (step names new y k)) together ∙ d)
    where
      go : (o : Option Found_kind) → difference_of a b ≡ o → option_map kind_of o ≡ Some kind → x ≡ evidence names old new p k kind
      go None e h = cc
      go (Some found) e h =
          let kind_is : kind_of found ≡ kind = cc in λ i. record {
            keys = keys i;
            kind = (kinds found e ∙ kind_is) i;
            old_text = (old_text ∙ old_step.text) i;
            new_text = (new_text ∙ new_step.text ∙ ap (λ y. (step names new y k).text) together) i;
          }

-- ---- all evidence

module _ (names : KeysymNames) (old new : List Definition) where
  -- evidence that is right for the kind in which the tables differ at a place is the evidence of
  -- what was found there
  pub reported : (f : Found) → IsPlace names old new f → (x : Evidence)
      → ((kind : Kind) → difference_at names old new (node old f.node) f.keysym ≡ Some kind → x ≡ evidence names old new (node old f.node) f.keysym kind) → x ≡ evidence_found names old new f
  reported f place x e = go (difference_at names old new (node old f.node) f.keysym) refl place.differ
    where
      go : (o : Option Kind) → difference_at names old new (node old f.node) f.keysym ≡ o → is_some o ≡ true → x ≡ evidence_found names old new f
      go None d h = cc
      go (Some kind) d h = e kind d ∙ ap (λ o. evidence names old new (node old f.node) f.keysym (unwrap_or o text_differs)) (sym d)

  -- one more
  pub reported_more : (xs : List Found) (i : ℕ) (f : Found) (before after : List Evidence) (x : Evidence) → i < length xs → f ≡ get_or xs i f → before ≡ map (evidence_found names old new) (take i xs)
      → x ≡ evidence_found names old new f
      → after ≡ before ++ x ∷ [] → after ≡ map (evidence_found names old new) (take (i + 1) xs)
  reported_more xs i f before after x h at b is a =
      a ∙ ap₂ (λ ys y. ys ++ y ∷ []) b (is ∙ ap (evidence_found names old new) at)
      ∙ sym (map-append (evidence_found names old new) (take i xs) (get_or xs i f ∷ [])) ∙ ap (map (evidence_found names old new)) (sym (take_more xs i f h))
