-- The modifiers and the keys of a line, one after another.
use Rattle.std.proofs.Common.{◌≡◌, ℕ, zero, suc, ◌+◌, ◌-◌, ◌<◌, true, false, List, [], ◌∷◌, ◌++◌, length, map, drop, Bor, cond, refl, sym, ◌∙◌, ap, arith}
use Rattle.std.specs.Prelude.{◌==◌, Option, Some, None}
use Rattle.std.proofs.lemmas.List.{append_assoc, append-nil, length_push, map_push}
use Rattle.compose_xkbcommon.specs.Grammar.{Read, ◌>>=◌, is_next, skip_spaces, begins_modifier, behind_modifier, behind_modifiers, key_at, keys_at, result_at, parts_of}
use Rattle.compose_xkbcommon.specs.Scanned.{with_keys}

-- ---- modifiers

-- one modifier more, of those that are left
pub modifier_more : (left next : ℕ) (rest more : List ℕ) (whole : Option (List ℕ)) → left ≡ suc next → begins_modifier rest ≡ true → behind_modifier rest ≡ Some more
    → behind_modifiers left rest ≡ whole → behind_modifiers next (skip_spaces more) ≡ whole
modifier_more left next rest more whole e b m h =
    sym (ap (λ n. behind_modifiers n rest) e ∙ ap (λ c. cond c (behind_modifier rest >>= (λ r. behind_modifiers next (skip_spaces r))) (Some rest)) b
    ∙ ap (λ o. o >>= (λ r. behind_modifiers next (skip_spaces r))) m) ∙ h

-- no further modifier
pub modifiers_end : (left : ℕ) (rest : List ℕ) (whole : Option (List ℕ)) → begins_modifier rest ≡ false → behind_modifiers left rest ≡ whole → Some rest ≡ whole
modifiers_end zero rest whole b h = h
modifiers_end (suc left) rest whole b h = sym (ap (λ c. cond c (behind_modifier rest >>= (λ r. behind_modifiers left (skip_spaces r))) (Some rest)) b) ∙ h

-- another word
pub modifier_none : (left next : ℕ) (rest : List ℕ) (whole : Option (List ℕ)) → left ≡ suc next → begins_modifier rest ≡ true → behind_modifier rest ≡ None
    → behind_modifiers left rest ≡ whole → None ≡ whole
modifier_none left next rest whole e b m h =
    sym (ap (λ n. behind_modifiers n rest) e ∙ ap (λ c. cond c (behind_modifier rest >>= (λ r. behind_modifiers next (skip_spaces r))) (Some rest)) b
    ∙ ap (λ o. o >>= (λ r. behind_modifiers next (skip_spaces r))) m) ∙ h

-- as many modifiers as there may be
pub modifiers_done : (left : ℕ) (rest : List ℕ) (whole : Option (List ℕ)) → left ≡ 0 → behind_modifiers left rest ≡ whole → Some rest ≡ whole
modifiers_done left rest whole e h = sym (ap (λ n. behind_modifiers n rest) e) ∙ h

-- ---- keys

-- the colon
pub keys_end : (left : ℕ) (rest : List ℕ) → is_next 58 rest ≡ true → keys_at left rest ≡ Some ([], drop 1 rest)
keys_end zero rest e = rw e refl
keys_end (suc left) rest e = rw e refl

-- no colon after as many keys as there may be
pub keys_full : (rest : List ℕ) → is_next 58 rest ≡ false → keys_at 0 rest ≡ None
keys_full rest e = rw e refl

-- no key where one has to be
pub keys_broken : (left : ℕ) (rest : List ℕ) → is_next 58 rest ≡ false → key_at rest ≡ None → keys_at left rest ≡ None
keys_broken zero rest e k = rw e refl
keys_broken (suc left) rest e k = rw (e, k) refl

put_twice : (before : List (List ℕ)) (key : List ℕ) (o : Read (List (List ℕ)))
    → with_keys before (o >>= (λ more. Some (key ∷ more.0, more.1))) ≡ with_keys (before ++ key ∷ []) o
put_twice before key None = refl
put_twice before key (Some x) = ap (λ ks. let o : Read (List (List ℕ)) = Some (ks, x.1) in o) (sym (append_assoc before (key ∷ []) x.0))

-- one key more
pub keys_more : (left : ℕ) (before : List (List ℕ)) (rest key more : List ℕ) → is_next 58 rest ≡ false → key_at rest ≡ Some (key, more)
    → with_keys before (keys_at (suc left) rest) ≡ with_keys (before ++ key ∷ []) (keys_at left (skip_spaces more))
keys_more left before rest key more e k = rw (e, k) (put_twice before key (keys_at left (skip_spaces more)))

pub with_none : (o : Read (List (List ℕ))) → with_keys [] o ≡ o
with_none None = refl
with_none (Some x) = refl

pub keys_done : (left : ℕ) (before : List (List ℕ)) (rest more : List ℕ) (whole : Read (List (List ℕ))) → is_next 58 rest ≡ true → more ≡ drop 1 rest
    → with_keys before (keys_at left rest) ≡ whole → Some (before, more) ≡ whole
keys_done left before rest more whole e m h =
    ap (λ r. let o : Read (List (List ℕ)) = Some (before, r) in o) m ∙ ap (λ ks. let o : Read (List (List ℕ)) = Some (ks, drop 1 rest) in o) (sym (append-nil before))
    ∙ sym (ap (with_keys before) (keys_end left rest e)) ∙ h

pub keys_none : (left : ℕ) (before : List (List ℕ)) (rest : List ℕ) (whole : Read (List (List ℕ))) → is_next 58 rest ≡ false → key_at rest ≡ None
    → with_keys before (keys_at left rest) ≡ whole → None ≡ whole
keys_none left before rest whole e k h = sym (ap (with_keys before) (keys_broken left rest e k)) ∙ h

pub keys_next : (items news : List (Bor (List ℕ))) (key : Bor (List ℕ)) (rest more next : List ℕ) (whole : Read (List (List ℕ))) → news ≡ items ++ key ∷ [] → length items < 10
    → is_next 58 rest ≡ false → key_at rest ≡ Some (key.now, more) → next ≡ skip_spaces more → with_keys (map (λ k. k.now) items) (keys_at (10 - length items) rest) ≡ whole
    → with_keys (map (λ k. k.now) news) (keys_at (10 - length news) next) ≡ whole
keys_next items news key rest more next whole is few e k n h =
    let now : Bor (List ℕ) → List ℕ = λ k. k.now in
    let long : length news ≡ length items + 1 = ap length is ∙ length_push items key in
    let one : 10 - length items ≡ suc (10 - length news) = omega (arith, long) in
    ap (λ r. with_keys (map now news) (keys_at (10 - length news) r)) n
    ∙ ap (λ ks. with_keys ks (keys_at (10 - length news) (skip_spaces more))) (ap (map now) is ∙ map_push now items key)
    ∙ sym (keys_more (10 - length news) (map now items) rest key.now more e k) ∙ ap (λ m. with_keys (map now items) (keys_at m rest)) (sym one) ∙ h

-- ---- the parts

pub parts_made : (line behind : List ℕ) (keys : List (List ℕ)) (string name : Option (List ℕ)) → keys_at 10 (skip_spaces line) ≡ Some (keys, behind) → result_at (skip_spaces behind) ≡ Some (string, name)
    → (length keys == 0) ≡ false → parts_of line ≡ Some (record { keys = keys; string = string; name = name })
parts_made line behind keys string name k r some = rw (k, r, some) refl
