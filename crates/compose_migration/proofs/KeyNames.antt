-- Looking up the keysyms of key names, one by one.
use Rattle.std.proofs.Common.{◌≡◌, ◌≤◌, ℕ, suc, ◌+◌, ◌<◌, List, [], ◌∷◌, ◌++◌, true, length, get_or, drop, map, refl, sym, ◌∙◌, ap, subst, arith, Bor, cond}
use Rattle.std.specs.Prelude.{Option, Some, None, is_none, position, Ok, Err, nat_lt}
use Rattle.std.specs.Option.{option_map_or, option_to_list}
use Rattle.std.specs.List.{flat_map, position_or_len}
use Rattle.std.proofs.lemmas.Bool.{lt-ltb, le-ltb}
use Rattle.std.proofs.lemmas.List.{drop_more, drop_all, map_push, append_assoc, append-nil, get_or-map, length-map, length-append}
use Rattle.keysym_core.specs.Names.{KeysymNames, value}
use Rattle.compose_migration.specs.Keys.{all_there}

-- the bytes of a borrowed key name
abbrev pub now_of : Bor (List ℕ) → List ℕ
now_of key_name = key_name.now

-- the remaining key names, and the first of them
left : (key_names : List (Bor (List ℕ))) (i : ℕ) (d : Bor (List ℕ)) → i < length key_names → drop i (map now_of key_names) ≡ now_of (get_or key_names i d) ∷ drop (i + 1) (map now_of key_names)
left key_names i d less =
    let some : i < length (map now_of key_names) = subst (λ n. i < n) (sym (length-map key_names now_of)) less in
    drop_more (map now_of key_names) i (now_of d) some ∙ ap (λ w. w ∷ drop (i + 1) (map now_of key_names)) (get_or-map now_of key_names i d (now_of d) less)

-- one more key name that has a keysym
pub keys_more : (names : KeysymNames) (key_names : List (Bor (List ℕ))) (i : ℕ) (d : Bor (List ℕ)) (keys : List ℕ) (k : ℕ) (all : List (Option ℕ)) → i < length key_names
    → Some k ≡ value names (now_of (get_or key_names i d))
    → map (λ k. Some k) keys ++ map (value names) (drop i (map now_of key_names)) ≡ all → map (λ k. Some k) (keys ++ k ∷ []) ++ map (value names) (drop (i + 1) (map now_of key_names)) ≡ all
keys_more names key_names i d keys k all less is e =
    let rest = map (value names) (drop (i + 1) (map now_of key_names)) in
    ap (λ ks. ks ++ rest) (map_push (λ (k : ℕ). Some k) keys k) ∙ append_assoc (map (λ k. Some k) keys) (Some k ∷ []) rest
    ∙ ap (λ v. map (λ k. Some k) keys ++ v ∷ rest) is ∙ ap (λ ws. map (λ k. Some k) keys ++ map (value names) ws) (sym (left key_names i d less)) ∙ e

next : (n : ℕ) → 1 + n ≡ suc n
next n = omega arith

-- a value that is none is the first one after values that are some
first_none : (keys : List ℕ) (rest : List (Option ℕ)) → position_or_len is_none (map (λ k. Some k) keys ++ None ∷ rest) ≡ length keys
first_none [] rest = refl
first_none (k ∷ keys) rest = ap (λ n. 1 + n) (first_none keys rest) ∙ next (length keys)

is_shorter : (keys : List ℕ) (rest : List (Option ℕ)) → nat_lt (length keys) (length (map (λ k. Some k) keys ++ None ∷ rest)) ≡ true
is_shorter keys rest =
    lt-ltb (length keys) (length (map (λ k. Some k) keys ++ None ∷ rest)) (omega (arith, length-append (map (λ (k : ℕ). Some k) keys) (None ∷ rest), length-map keys (λ (k : ℕ). Some k)))

-- the first key name that has none
pub keys_stop : (names : KeysymNames) (key_names : List (Bor (List ℕ))) (i : ℕ) (d : Bor (List ℕ)) (keys : List ℕ) (all : List (Option ℕ)) → i < length key_names
    → None ≡ value names (now_of (get_or key_names i d))
    → length keys ≡ i → map (λ k. Some k) keys ++ map (value names) (drop i (map now_of key_names)) ≡ all → all_there all ≡ Err i
keys_stop names key_names i d keys all less is count e =
    let rest = map (value names) (drop (i + 1) (map now_of key_names)) in
    let here : map (λ k. Some k) keys ++ None ∷ rest ≡ all =
    ap (λ v. map (λ k. Some k) keys ++ v ∷ rest) is ∙ ap (λ ws. map (λ k. Some k) keys ++ map (value names) ws) (sym (left key_names i d less)) ∙ e in
    let found : position is_none all ≡ Some i = ap (position is_none) (sym here)
    ∙ ap (λ n. cond (nat_lt n (length (map (λ k. Some k) keys ++ None ∷ rest))) (Some n) None) (first_none keys rest)
    ∙ ap (λ b. cond b (Some (length keys)) None) (is_shorter keys rest) ∙ ap (λ n. Some n) count in
    ap (λ o. option_map_or (λ i. Err i) o (Ok (flat_map option_to_list all))) found

-- none of the values that are some is none
no_none : (keys : List ℕ) → position_or_len is_none (map (λ k. Some k) keys) ≡ length keys
no_none [] = refl
no_none (k ∷ keys) = ap (λ n. 1 + n) (no_none keys) ∙ next (length keys)

not_found : (keys : List ℕ) → position is_none (map (λ k. Some k) keys) ≡ None
not_found keys =
    ap (λ n. cond (nat_lt n (length (map (λ k. Some k) keys))) (Some n) None) (no_none keys)
    ∙ ap (λ b. cond b (Some (length keys)) None) (le-ltb (length keys) (length (map (λ k. Some k) keys)) (omega (arith, length-map keys (λ (k : ℕ). Some k))))

all_some : (keys : List ℕ) → flat_map option_to_list (map (λ k. Some k) keys) ≡ keys
all_some [] = refl
all_some (k ∷ keys) = ap (λ ks. k ∷ ks) (all_some keys)

known : (keys : List ℕ) → all_there (map (λ k. Some k) keys) ≡ Ok keys
known keys = ap (λ o. option_map_or (λ i. Err i) o (Ok (flat_map option_to_list (map (λ k. Some k) keys)))) (not_found keys) ∙ ap (λ ks. Ok ks) (all_some keys)

-- no key name is left
pub keys_end : (names : KeysymNames) (key_names : List (Bor (List ℕ))) (i : ℕ) (keys : List ℕ) (all : List (Option ℕ)) → length key_names ≤ i
    → map (λ k. Some k) keys ++ map (value names) (drop i (map now_of key_names)) ≡ all → all_there all ≡ Ok keys
keys_end names key_names i keys all end e =
    let none : drop i (map now_of key_names) ≡ [] = drop_all i (map now_of key_names) (omega (arith, end, length-map key_names now_of)) in
    let here : map (λ k. Some k) keys ≡ all = sym (append-nil (map (λ k. Some k) keys)) ∙ ap (λ ws. map (λ k. Some k) keys ++ map (value names) ws) (sym none) ∙ e in
    ap all_there (sym here) ∙ known keys
