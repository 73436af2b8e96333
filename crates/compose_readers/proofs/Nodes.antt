-- The nodes of a table, one after another.
use Rattle.std.proofs.Common.{◌≡◌, ◌∙◌, ℕ, ◌+◌, ◌<◌, List, [], ◌∷◌, ◌++◌, Bool, true, false, ◌||◌, cond, Bor, length, map, take, get_or, refl, sym, ap, append_assoc, arith}
use Rattle.std.specs.Prelude.{bytes_eq}
use Rattle.std.specs.List.{list_any}
use Rattle.std.proofs.lemmas.List.{take_more, map_push}
use Rattle.indexmap.specs.IndexSet.{insert_key}
use Rattle.compose_readers.specs.Entries.{with_node, with_nodes, with_nodes_from}

nodes_append : (nodes : List (List ℕ)) (begun keys : List ℕ) (k : ℕ) → with_nodes_from nodes begun (keys ++ k ∷ []) ≡ with_node (with_nodes_from nodes begun keys) (begun ++ (keys ++ k ∷ []))
nodes_append nodes begun [] k = refl
nodes_append nodes begun (j ∷ keys) k =
    nodes_append (with_node nodes (begun ++ j ∷ [])) (begun ++ j ∷ []) keys k
    ∙ ap (with_node (with_nodes_from (with_node nodes (begun ++ j ∷ [])) (begun ++ j ∷ []) keys)) (append_assoc begun (j ∷ []) (keys ++ k ∷ []))

-- the beginning with one key more
pub nodes_more : (nodes : List (List ℕ)) (keys : List ℕ) (at d : ℕ) → at < length keys → with_nodes nodes (take (at + 1) keys) ≡ with_node (with_nodes nodes (take at keys)) (take (at + 1) keys)
nodes_more nodes keys at d within =
    let more = take_more keys at d within in
    ap (with_nodes nodes) more ∙ nodes_append nodes [] (take at keys) (get_or keys at d) ∙ ap (with_node (with_nodes nodes (take at keys))) (sym more)

any_now : (node : Bor (List ℕ)) (ks : List (Bor (List ℕ))) → list_any (λ (k : Bor (List ℕ)). bytes_eq node.now k.now) ks ≡ list_any (bytes_eq node.now) (map (λ k. k.now) ks)
any_now node [] = refl
any_now node (k ∷ ks) = by (bytes_eq node.now k.now) (any_now node ks)
  where
    by : (b : Bool) {x y : Bool} → x ≡ y → (b || x) ≡ (b || y)
    by true e = refl
    by false e = e

-- a set of nodes with one more
pub node_inserted : (ks : List (Bor (List ℕ))) (node : Bor (List ℕ)) → map (λ k. k.now) (insert_key (λ (a b : Bor (List ℕ)). bytes_eq a.now b.now) ks node) ≡ with_node (map (λ k. k.now) ks) node.now
node_inserted ks node = by (list_any (λ (k : Bor (List ℕ)). bytes_eq node.now k.now) ks) ∙ ap (λ b. cond b (map (λ k. k.now) ks) (map (λ k. k.now) ks ++ node.now ∷ [])) (any_now node ks)
  where
    by : (b : Bool) → map (λ (k : Bor (List ℕ)). k.now) (cond b ks (ks ++ node ∷ [])) ≡ cond b (map (λ k. k.now) ks) (map (λ k. k.now) ks ++ node.now ∷ [])
    by true = refl
    by false = map_push (λ (k : Bor (List ℕ)). k.now) ks node
