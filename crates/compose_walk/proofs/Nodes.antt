-- How the partners of the old nodes change from node to node.
use Rattle.std.proofs.Common.{◌≡◌, ℕ, zero, suc, ◌+◌, ◌<◌, ◌≤◌, List, [], ◌∷◌, ◌++◌, Bool, true, false, cond, not, ◌&&◌, ◌||◌, length, get_or, set, map, take, replicate, refl, sym, ◌∙◌, ap, inl, inr, arith, append_assoc, append-nil, ◌-◌, eqb-true, eq-eqb, lt-ltb, Option, Some, None}
use Rattle.std.specs.Prelude.{◌==◌, nat_lt, slice_get}
use Rattle.std.specs.List.{filter}
use Rattle.std.proofs.lemmas.Bool.{or_left, or_right, cases_Bool, ltb-true, ltb-false, le-ltb}
use Rattle.std.proofs.lemmas.List.{get_or-map, map-append, flat_map_more, take_more, take_all, get_or_default, length-map}
use Rattle.keysym_core.specs.Names.{KeysymNames}
use Rattle.compose_model.specs.Table.{Definition, same, has_key, is_table, is_sequence}
use Rattle.compose_model.specs.Step.{is_empty, pending}
use Rattle.compose_model.specs.Nodes.{nodes, is_node, node, number_of, has_edge, edges}
use Rattle.compose_model.proofs.NodeLemmas.{root_is_node, root_number, node_at_number, number_below, pending_is_node, edge_listed}
use Rattle.compose_walk.specs.Pass.{differs_at, agrees, differing_starts}
use Rattle.compose_walk.specs.Stands.{without_last, last_key, stand, is_done, partners_at, found_at, found_behind, all_found}
use Rattle.compose_walk.specs.declared.pass.Partner.{Partner}
use Rattle.compose_walk.specs.declared.pass.Found.{Found}
use Rattle.compose_walk.proofs.NodeNumbers.{number_at_node, node_is_node, parent_before, on_nodes, set_node}
use Rattle.compose_walk.proofs.Standing.{agrees_push, pushed, prefix_node}
use Rattle.compose_walk.proofs.Edges.{taken_more}

-- ---- one key more

filter-append : {X : Type 0} (q : X → Bool) (xs ys : List X) → filter q (xs ++ ys) ≡ filter q xs ++ filter q ys
filter-append q [] ys = refl
filter-append q (x ∷ xs) ys = go (q x) (filter-append q xs ys)
  where
    go : (b : Bool) → filter q (xs ++ ys) ≡ filter q xs ++ filter q ys → cond b (x ∷ filter q (xs ++ ys)) (filter q (xs ++ ys)) ≡ cond b (x ∷ filter q xs) (filter q xs) ++ filter q ys
    go true e = ap (λ zs. x ∷ zs) e
    go false e = e

-- what a pass over a list finds, one element later
pub found_more : {X Y : Type 0} (f : X → Y) (q : X → Bool) (xs : List X) (i : ℕ) (x : X) (start before after : List Y) → slice_get xs i ≡ Some x
    → before ≡ start ++ map f (filter q (take i xs)) → after ≡ before ++ map f (filter q (x ∷ [])) → after ≡ start ++ map f (filter q (take (i + 1) xs))
found_more f q xs i x start before after h b a =
    a ∙ ap (λ ys. ys ++ map f (filter q (x ∷ []))) b ∙ append_assoc start (map f (filter q (take i xs))) (map f (filter q (x ∷ [])))
    ∙ ap (λ ys. start ++ ys) (sym (map-append f (filter q (take i xs)) (filter q (x ∷ []))) ∙ ap (map f) (sym (filter-append q (take i xs) (x ∷ [])) ∙ ap (filter q) (sym (taken_more xs i x h))))

-- what is read at an index within a list is the element there
pub slice_get_at : (xs : List ℕ) (i : ℕ) → i < length xs → slice_get xs i ≡ Some (get_or xs i 0)
slice_get_at [] i h = absurd (omega arith)
slice_get_at (x ∷ xs) zero h = refl
slice_get_at (x ∷ xs) (suc i) h = slice_get_at xs i (omega arith)

map_const : {X Y : Type 0} (y : Y) (xs : List X) → map (λ x. y) xs ≡ replicate (length xs) y
map_const y [] = refl
map_const y (x ∷ xs) = ap (λ ys. y ∷ ys) (map_const y xs)

-- an edge leads to a node from the keys before its last one
behind_prefix : (table : List Definition) (q : List ℕ) → is_node table q ≡ true → is_empty q ≡ false → has_edge table (without_last q) (last_key q) ≡ true
behind_prefix table q h e = or_left (is_node table (without_last q ++ last_key q ∷ [])) (is_sequence table (without_last q ++ last_key q ∷ [])) (ap (is_node table) (sym (pushed q e)) ∙ h)

module _ (names : KeysymNames) (old new : List Definition) (sound : is_table old ≡ true) where
  prefix_is : (i : ℕ) (q : List ℕ) → i < length (nodes old) → is_node old q ≡ true → number_of old (without_last q) == i ≡ true → without_last q ≡ node old i
  prefix_is i q h hq e = sym (node_at_number old (without_last q) (prefix_node old q hq)) ∙ ap (node old) (eqb-true (number_of old (without_last q)) i e)

  -- the edges of one node are those of the next nodes' prefixes
  tests_move : (f i : ℕ) (b : Bool) → (f == i ≡ true → b ≡ true) → nat_lt f i || (f == i && b) ≡ nat_lt f (i + 1) || (f == (i + 1) && false)
  tests_move f i b at = go (nat_lt f i) refl (f == i) refl
    where
      above : i < f → nat_lt f (i + 1) || (f == (i + 1) && false) ≡ false
      above h = ap (λ c. c || (f == (i + 1) && false)) (le-ltb f (i + 1) (omega arith)) ∙ and_none (f == (i + 1))
        where
          and_none : (c : Bool) → c && false ≡ false
          and_none true = refl
          and_none false = refl

      go : (c : Bool) → nat_lt f i ≡ c → (d : Bool) → f == i ≡ d → c || (d && b) ≡ nat_lt f (i + 1) || (f == (i + 1) && false)
      go true e d x = let l = ltb-true f i e in sym (or_left (nat_lt f (i + 1)) (f == (i + 1) && false) (lt-ltb f (i + 1) (omega arith)))
      go false e true x = let l = eqb-true f i x in at x ∙ sym (or_left (nat_lt f (i + 1)) (f == (i + 1) && false) (lt-ltb f (i + 1) (omega arith)))
      go false e false x = sym (above (between (ltb-false f i e)))
        where
          between : i ≤ f → i < f
          between h = elim (cases_Bool (nat_lt i f)) [
            | inl l ↦ ltb-true i f l
            | inr l ↦ absurd (let m = ltb-false i f l in let clash : true ≡ false = sym (eq-eqb f i (omega arith)) ∙ x in cc)
          ]

  -- once each edge of a node was visited, the next node comes
  pub node_done : (i : ℕ) → i < length (nodes old) → partners_at names old new i (edges old (node old i)) ≡ partners_at names old new (i + 1) []
  node_done i h = on_nodes old _ _ (λ q hq. ap (λ b. cond b (stand names old new q) None) (at q hq (is_empty q) refl))
    where
      at : (q : List ℕ) → is_node old q ≡ true → (e : Bool) → is_empty q ≡ e
          → e || (nat_lt (number_of old (without_last q)) i || (number_of old (without_last q) == i && has_key (edges old (node old i)) (last_key q))) ≡ e
          || (nat_lt (number_of old (without_last q)) (i + 1) || (number_of old (without_last q) == (i + 1) && false))
      at q hq true e = refl
      at q hq false e = tests_move (number_of old (without_last q)) i (has_key (edges old (node old i)) (last_key q))
          (λ m. edge_listed old (node old i) (last_key q) (ap (λ p. has_edge old p (last_key q)) (sym (prefix_is i q h hq m)) ∙ behind_prefix old q hq e))

  -- a node up to which the tables do not agree is passed over
  pub node_skipped : (i : ℕ) → i < length (nodes old) → agrees names old new (node old i) ≡ false → partners_at names old new i [] ≡ partners_at names old new (i + 1) []
  node_skipped i h dark = on_nodes old _ _ (λ q hq. at q hq (is_empty q) refl (number_of old (without_last q) == i) refl)
    where
      none : (q : List ℕ) → agrees names old new q ≡ false → (b : Bool) → cond b (stand names old new q) None ≡ None
      none q d true = ap (λ b. cond b (Some (record { new_node = record { 0 = number_of new (pending new q) }; parent = record { 0 = number_of old (without_last q) }; keysym = last_key q })) None) d
      none q d false = refl

      at : (q : List ℕ) → is_node old q ≡ true → (e : Bool) → is_empty q ≡ e → (m : Bool) → number_of old (without_last q) == i ≡ m
          → cond (is_done old i [] q) (stand names old new q) None ≡ cond (is_done old (i + 1) [] q) (stand names old new q) None
      at q hq true e m em = ap (λ b. cond (b || (nat_lt (number_of old (without_last q)) i || (number_of old (without_last q) == i && false))) (stand names old new q) None) e
          ∙ sym (ap (λ b. cond (b || (nat_lt (number_of old (without_last q)) (i + 1) || (number_of old (without_last q) == (i + 1) && false))) (stand names old new q) None) e)
      at q hq false e true em =
          let d : agrees names old new q ≡ false =
          ap (agrees names old new) (pushed q e) ∙ agrees_push names old new sound (without_last q) (last_key q) (prefix_node old q hq)
          ∙ ap (λ p. agrees names old new p && not (differs_at names old new (without_last q) (last_key q))) (prefix_is i q h hq em)
          ∙ ap (λ b. b && not (differs_at names old new (without_last q) (last_key q))) dark in
          none q d (is_done old i [] q) ∙ sym (none q d (is_done old (i + 1) [] q))
      at q hq false e false em =
          ap (λ b. cond (is_empty q || b) (stand names old new q) None) (tests_move (number_of old (without_last q)) i false (λ x. (let clash : true ≡ false = sym x ∙ em in cc)))

  -- after the last node each has its partner
  pub nodes_done : partners_at names old new (length (nodes old)) [] ≡ map (stand names old new) (nodes old)
  nodes_done = on_nodes old _ _ (λ q hq. ap (λ b. cond b (stand names old new q) None)
      (or_right (is_empty q) (nat_lt (number_of old (without_last q)) (length (nodes old)) || (number_of old (without_last q) == length (nodes old) && false))
      (or_left (nat_lt (number_of old (without_last q)) (length (nodes old))) (number_of old (without_last q) == length (nodes old) && false)
      (lt-ltb (number_of old (without_last q)) (length (nodes old)) (number_below old (without_last q) (prefix_node old q hq))))))

  -- before the first one the root alone has its partner
  pub nodes_begun : (s : Partner) → s.new_node.0 ≡ 0 → s.parent.0 ≡ 0 → s.keysym ≡ 0 → set (replicate (length (nodes old)) None) 0 (Some s) ≡ partners_at names old new 0 []
  nodes_begun s en ep ek =
      ap (λ xs. set xs 0 (Some s)) (sym (map_const None (nodes old))) ∙ ap (λ n. set (map (λ q. None) (nodes old)) n (Some s)) (sym (root_number old))
      ∙ ap (set (map (λ q. None) (nodes old)) (number_of old [])) is_s
      ∙ set_node old (λ q. None) (λ q. cond (is_done old 0 [] q) (stand names old new q) None) [] (root_is_node old) other
    where
      is_s : Some s ≡ Some (record { new_node = record { 0 = number_of new [] }; parent = record { 0 = number_of old [] }; keysym = 0 })
      is_s i = Some (record { new_node = record { 0 = (en ∙ sym (root_number new)) i }; parent = record { 0 = (ep ∙ sym (root_number old)) i }; keysym = ek i })

      other : (r : List ℕ) → is_node old r ≡ true → same r [] ≡ false → None ≡ cond (is_done old 0 [] r) (stand names old new r) None
      other [] h n = cc
      other (k ∷ r) h n = go (nat_lt (number_of old (without_last (k ∷ r))) 0) (number_of old (without_last (k ∷ r)) == 0) (le-ltb (number_of old (without_last (k ∷ r))) 0 (omega arith))
        where
          go : (c d : Bool) → c ≡ false → None ≡ cond (c || (d && false)) (stand names old new (k ∷ r)) None
          go true d e = cc
          go false true e = refl
          go false false e = refl

  -- a node's partner is known when the node comes
  pub partner_there : (i : ℕ) → i < length (nodes old) → get_or (partners_at names old new i []) i None ≡ stand names old new (node old i)
  partner_there i h =
      get_or-map (λ q. cond (is_done old i [] q) (stand names old new q) None) (nodes old) i [] None h ∙ ap (λ b. cond b (stand names old new (node old i)) None) (done (is_empty (node old i)) refl)
    where
      done : (e : Bool) → is_empty (node old i) ≡ e → is_done old i [] (node old i) ≡ true
      done true e = or_left (is_empty (node old i)) (nat_lt (number_of old (without_last (node old i))) i || (number_of old (without_last (node old i)) == i && false)) e
      done false e =
          let here = node_is_node old i h in
          let before = parent_before old (without_last (node old i)) (last_key (node old i)) (prefix_node old (node old i) here) (ap (is_node old) (sym (pushed (node old i) e)) ∙ here) in
          let at : number_of old (without_last (node old i) ++ last_key (node old i) ∷ []) ≡ i = ap (number_of old) (sym (pushed (node old i) e)) ∙ number_at_node old i h in
          or_right (is_empty (node old i)) (nat_lt (number_of old (without_last (node old i))) i || (number_of old (without_last (node old i)) == i && false))
          (or_left (nat_lt (number_of old (without_last (node old i))) i) (number_of old (without_last (node old i)) == i && false)
          (lt-ltb (number_of old (without_last (node old i))) i (omega arith)))

  -- what a partner implies for its node
  pub record Standing (p : List ℕ) (s : Partner) : Type 0 where
    pub agree : agrees names old new p ≡ true
    pub new_number : s.new_node.0 ≡ number_of new (pending new p)
    pub in_range : s.new_node.0 < length (nodes new)
    pub together : node new s.new_node.0 ≡ pending new p
    pub parent : s.parent.0 ≡ number_of old (without_last p)
    pub keysym : s.keysym ≡ last_key p

  -- the partner of an old node has what is pending in the new table after it, and the node and the
  -- key that lead to it
  pub standing : (p : List ℕ) (s : Partner) → stand names old new p ≡ Some s → Standing p s
  standing p s e = go (agrees names old new p) refl e
    where
      pending_node : is_node new (pending new p) ≡ true
      pending_node = pending_is_node new [] p (root_is_node new)

      go : (b : Bool) → agrees names old new p ≡ b
          → cond b (Some (record { new_node = record { 0 = number_of new (pending new p) }; parent = record { 0 = number_of old (without_last p) }; keysym = last_key p })) None ≡ Some s → Standing p s
      go true a h =
          let is : record { new_node = record { 0 = number_of new (pending new p) }; parent = record { 0 = number_of old (without_last p) }; keysym = last_key p } ≡ s = cc in
          let number : s.new_node.0 ≡ number_of new (pending new p) = sym (ap (λ (z : Partner). z.new_node.0) is) in
          let below = number_below new (pending new p) pending_node in
          record {
            agree = a;
            new_number = number;
            in_range = omega arith;
            together = ap (node new) number ∙ node_at_number new (pending new p) pending_node;
            parent = sym (ap (λ (z : Partner). z.parent.0) is);
            keysym = sym (ap (λ (z : Partner). z.keysym) is);
          }
      go false a h = cc

  -- an old node without a partner is one up to which the tables do not agree
  pub dark : (p : List ℕ) → stand names old new p ≡ None → agrees names old new p ≡ false
  dark p e = go (agrees names old new p) e
    where
      go : (b : Bool)
          → cond {A = Option Partner} b (Some (record { new_node = record { 0 = number_of new (pending new p) }; parent = record { 0 = number_of old (without_last p) }; keysym = last_key p })) None
          ≡ None → b ≡ false
      go true h = cc
      go false h = refl

-- what is found, one node later
pub found_next : (names : KeysymNames) (fresh : List ℕ) (old new : List Definition) (i : ℕ) (before after : List Found) → i < length (nodes old)
    → before ≡ all_found names fresh old new (take i (nodes old))
    → after ≡ before ++ found_behind names old new (node old i) → after ≡ all_found names fresh old new (take (i + 1) (nodes old))
found_next names fresh old new i before after h b a =
    a ∙ ap (λ xs. xs ++ found_behind names old new (node old i)) b
    ∙ flat_map_more (found_behind names old new) (map (found_at old []) (differing_starts names fresh old new)) (take i (nodes old)) (node old i)
    ∙ ap (all_found names fresh old new) (sym (take_more (nodes old) i [] h))

-- nothing is found at a node up to which the tables do not agree
pub found_dark : (names : KeysymNames) (old new : List Definition) (p : List ℕ) (xs : List Found) → agrees names old new p ≡ false → xs ≡ xs ++ found_behind names old new p
found_dark names old new p xs d = sym (append-nil xs) ∙ ap (λ b. xs ++ map (found_at old p) (cond b (filter (differs_at names old new p) (edges old p)) [])) (sym d)

-- a list that was filled up from nothing
pub filled : {X : Type 0} (x : X) (xs before : List X) (n m len : ℕ) → xs ≡ take n before ++ replicate (n - len) x → before ≡ [] → len ≡ 0 → n ≡ m → xs ≡ replicate m x
filled x xs before n m len e b l h = e ∙ ap (λ ys. take n ys ++ replicate (n - len) x) b ∙ ap (λ ys. ys ++ replicate (n - len) x) (take_all n [] (omega arith)) ∙ ap (λ k. replicate k x) (omega arith)

-- the partner that is read when a node comes
pub partner_read : (names : KeysymNames) (old new : List Definition) (sound : is_table old ≡ true) (i : ℕ) → i < length (nodes old) → (xs : List (Option Partner)) → xs ≡ partners_at names old new i []
    → (o : Option Partner) → o ≡ get_or xs i o → stand names old new (node old i) ≡ o
partner_read names old new sound i h xs e o r =
    sym (partner_there names old new sound i h) ∙ ap (λ ys. get_or ys i None) (sym e)
    ∙ get_or_default xs i None o (let n : length xs ≡ length (nodes old) = ap length e ∙ length-map (nodes old) _ in omega arith) ∙ sym r
