-- The names in the parts of a line are names, and a line has keys and a result.
use Rattle.std.proofs.Common.{◌≡◌, ℕ, zero, suc, ◌≤◌, Bool, true, false, List, [], ◌∷◌, length, drop, cond, nat_lt, ◌&&◌, ◌||◌, refl, sym, ◌∙◌, ap, ap₂, subst, arith, lt-ltb}
use Rattle.std.specs.Prelude.{◌==◌, Option, Some, None, is_some}
use Rattle.std.specs.List.{list_all}
use Rattle.std.specs.Option.{option_map_or}
use Rattle.std.proofs.lemmas.Bool.{and_parts, and_from, ne_eqb}
use Rattle.std.proofs.lemmas.Bool.Decides.{nat_tests}
use Rattle.std.proofs.lemmas.Option.{same_Some}
use Rattle.compose_text.specs.Bytes.{is_name_byte, begins, leading, behind}
use Rattle.compose_lex.specs.Line.{is_name, is_comment}
use Rattle.compose_lex.specs.Fault.{inside_from}
use Rattle.compose_lex.proofs.Runs.{prefix_passes}
use Rattle.compose_xkbcommon.specs.Grammar.{Parts, Read, ◌>>=◌, is_next, is_word_first, skip_spaces, word_at, behind_list, named_key_at, key_at, keys_at, name_or_end, result_at, parts_of}
use Rattle.compose_xkbcommon.specs.Right.{AreParts}

pair_is : {A B : Type 0} (a c : A) (b d : B) → ◌≡◌ {A = A × B} (a, b) (c, d) → (a ≡ c) × (b ≡ d)
pair_is a c b d e = (ap (λ x. x.0) e, ap (λ x. x.1) e)

some_pair : {A B : Type 0} (a c : A) (b d : B) → ◌≡◌ {A = Option (A × B)} (Some (a, b)) (Some (c, d)) → (a ≡ c) × (b ≡ d)
some_pair a c b d e = pair_is a c b d (same_Some (a, b) (c, d) e)

-- what was read before a step
after : {A B P : Type 0} (o : Option A) (f : A → Option B) (y : B) → (o >>= f) ≡ Some y → ((x : A) → o ≡ Some x → f x ≡ Some y → P) → P
after None f y e k = cc
after (Some x) f y e k = k x refl e

chosen : {A : Type 0} (b : Bool) (x y : A) → cond b (Some x) None ≡ Some y → (b ≡ true) × (x ≡ y)
chosen true x y e = (refl, same_Some x y e)
chosen false x y e = cc

-- ---- names

key_right : (rest name more : List ℕ) → named_key_at rest ≡ Some (name, more) → is_name name ≡ true
key_right rest name more e =
    let own = leading is_name_byte (drop 1 rest) in
    let behind_it = behind is_name_byte (drop 1 rest) in
    let c = chosen (is_next 60 rest && nat_lt 0 (length own) && is_next 62 behind_it) (own, drop 1 behind_it) (name, more) e in
    let some = and_parts _ _ (and_parts _ _ c.0).0 in
    let is = pair_is own name (drop 1 behind_it) more c.1 in
    ap is_name (sym is.0) ∙ and_from _ _ some.1 (prefix_passes is_name_byte (drop 1 rest))

word_first : (b : ℕ) → is_word_first b ≡ true → is_name_byte b ≡ true
word_first b h = grind (arith, nat_tests)

begun : (rest : List ℕ) → begins is_word_first rest ≡ true → nat_lt 0 (length (leading is_name_byte rest)) ≡ true
begun [] h = cc
begun (b ∷ rest) h = rw (word_first b h) (lt-ltb 0 (length (b ∷ leading is_name_byte rest)) (omega arith))

word_right : (rest word more : List ℕ) → word_at rest ≡ Some (word, more) → is_name word ≡ true
word_right rest word more e =
    let c = chosen (begins is_word_first rest) (leading is_name_byte rest, behind is_name_byte rest) (word, more) e in
    let is = pair_is (leading is_name_byte rest) word (behind is_name_byte rest) more c.1 in
    ap is_name (sym is.0) ∙ and_from _ _ (begun rest c.0) (prefix_passes is_name_byte rest)

-- ---- keys

pub record AreKeys (most : ℕ) (keys : List (List ℕ)) : Type 0 where
  pub few : length keys ≤ most
  pub names : list_all is_name keys ≡ true

no_keys : (most : ℕ) (keys : List (List ℕ)) → [] ≡ keys → AreKeys most keys
no_keys most keys e = record { few = (let n : 0 ≡ length keys = ap length e in omega (arith, n)); names = ap (list_all is_name) (sym e) }

abbrev put_key : List ℕ → List (List ℕ) × List ℕ → Read (List (List ℕ))
put_key key others = Some (key ∷ others.0, others.1)

abbrev behind_key : ℕ → List ℕ × List ℕ → Read (List (List ℕ))
behind_key most key = keys_at most (skip_spaces key.1) >>= put_key key.0

first_right : (rest : List ℕ) (key : List ℕ × List ℕ) → key_at rest ≡ Some key → is_name key.0 ≡ true
first_right rest key e = after (behind_list rest) named_key_at key e (λ at i j. key_right at key.0 key.1 j)

keys_more : (most : ℕ) → ((rest : List ℕ) (keys : List (List ℕ)) (more : List ℕ) → keys_at most rest ≡ Some (keys, more) → AreKeys most keys) → (rest : List ℕ) (keys : List (List ℕ)) (more : List ℕ)
    → (key_at rest >>= behind_key most) ≡ Some (keys, more) → AreKeys (suc most) keys
keys_more most again rest keys more f =
    after (key_at rest) (behind_key most) (keys, more) f (λ key is g.
    after (keys_at most (skip_spaces key.1)) (put_key key.0) (keys, more) g (λ others are h.
    let later = again (skip_spaces key.1) others.0 others.1 are in
    let whole : key.0 ∷ others.0 ≡ keys = (some_pair (key.0 ∷ others.0) keys others.1 more h).0 in
    record {
      few = (let n : length (key.0 ∷ others.0) ≡ length keys = ap length whole in let l = later.few in omega (arith, n, l));
      names = ap (list_all is_name) (sym whole) ∙ and_from _ _ (first_right rest key is) later.names;
    }))

keys_right : (most : ℕ) (rest : List ℕ) (keys : List (List ℕ)) (more : List ℕ) → keys_at most rest ≡ Some (keys, more) → AreKeys most keys
keys_right zero rest keys more e = go (is_next 58 rest) e
  where
    go : (b : Bool) → (let o : Read (List (List ℕ)) = cond b (Some ([], drop 1 rest)) None in o) ≡ Some (keys, more) → AreKeys 0 keys
    go true f = no_keys 0 keys (some_pair [] keys (drop 1 rest) more f).0
    go false f = cc
keys_right (suc most) rest keys more e = go (is_next 58 rest) (keys_more most (keys_right most) rest keys more) e
  where
    go : (b : Bool) → ((key_at rest >>= behind_key most) ≡ Some (keys, more) → AreKeys (suc most) keys)
        → (let o : Read (List (List ℕ)) = cond b (Some ([], drop 1 rest)) (key_at rest >>= behind_key most) in o) ≡ Some (keys, more) → AreKeys (suc most) keys
    go true k f = no_keys (suc most) keys (some_pair [] keys (drop 1 rest) more f).0
    go false k f = k f

-- ---- the result

pub record IsResult (string name : Option (List ℕ)) : Type 0 where
  pub named : option_map_or is_name name true ≡ true
  pub some : (is_some string || is_some name) ≡ true

abbrev Result : Type 0
Result = Option (List ℕ) × Option (List ℕ)

abbrev put_word : List ℕ × List ℕ → Option (Option (List ℕ))
put_word word = Some (Some word.0)

abbrev put_name : List ℕ → Option (List ℕ) → Option Result
put_name raw name = Some (Some raw, name)

abbrev behind_string : List ℕ × List ℕ → Option Result
behind_string raw = name_or_end (skip_spaces raw.1) >>= put_name raw.0

abbrev put_alone : List ℕ × List ℕ → Option Result
put_alone word = Some (None, Some word.0)

abbrev named : Option (List ℕ) → Bool
named name = option_map_or is_name name true

end_right : (rest : List ℕ) (name : Option (List ℕ)) → name_or_end rest ≡ Some name → named name ≡ true
end_right rest name e = go (is_comment rest) e
  where
    go : (b : Bool) → (let o : Option (Option (List ℕ)) = cond b (Some None) (word_at rest >>= put_word) in o) ≡ Some name → named name ≡ true
    go true f = ap named (sym (same_Some None name f))
    go false f = after (word_at rest) put_word name f (λ word is g. ap named (sym (same_Some (Some word.0) name g)) ∙ word_right rest word.0 word.1 is)

result_right : (rest : List ℕ) (string name : Option (List ℕ)) → result_at rest ≡ Some (string, name) → IsResult string name
result_right rest string name e = go (is_next 34 rest) e
  where
    go : (b : Bool) → (let o : Option Result = cond b (inside_from false (drop 1 rest) >>= behind_string) (word_at rest >>= put_alone) in o) ≡ Some (string, name) → IsResult string name
    go true f =
        after (inside_from false (drop 1 rest)) behind_string (string, name) f (λ raw is g.
        after (name_or_end (skip_spaces raw.1)) (put_name raw.0) (string, name) g (λ n at h.
        let same = some_pair (Some raw.0) string n name h in
        record {
          named = ap named (sym same.1) ∙ end_right (skip_spaces raw.1) n at;
          some = ap (λ (s : Option (List ℕ)). is_some s || is_some name) (sym same.0);
        }))
    go false f =
        after (word_at rest) put_alone (string, name) f (λ word is g.
        let same = some_pair None string (Some word.0) name g in
        record {
          named = ap named (sym same.1) ∙ word_right rest word.0 word.1 is;
          some = ap₂ (λ (s n : Option (List ℕ)). is_some s || is_some n) (sym same.0) (sym same.1);
        })

-- ---- the parts

abbrev put_parts : List (List ℕ) → Result → Option Parts
put_parts keys result = cond (length keys == 0) None (Some (record { keys = keys; string = result.0; name = result.1 }))

abbrev behind_keys : List (List ℕ) × List ℕ → Option Parts
behind_keys keys = result_at (skip_spaces keys.1) >>= put_parts keys.0

pub parts_right : (line : List ℕ) (p : Parts) → parts_of line ≡ Some p → AreParts p
parts_right line p e =
    after (keys_at 10 (skip_spaces line)) behind_keys p e (λ keys are f.
    after (result_at (skip_spaces keys.1)) (put_parts keys.0) p f (λ result is g.
    made keys.0 result.0 result.1 (keys_right 10 (skip_spaces line) keys.0 keys.1 are) (result_right (skip_spaces keys.1) result.0 result.1 is) g))
  where
    eq-suc : (keys : List (List ℕ)) → (suc (length keys) == 0) ≡ false
    eq-suc keys = ne_eqb (suc (length keys)) 0 (omega arith)

    made : (keys : List (List ℕ)) (string name : Option (List ℕ)) → AreKeys 10 keys → IsResult string name → put_parts keys (string, name) ≡ Some p → AreParts p
    made [] string name k r h = cc
    made (key ∷ keys) string name k r h =
        let one : (length (key ∷ keys) == 0) ≡ false = eq-suc keys in
        subst AreParts (same_Some (record { keys = key ∷ keys; string = string; name = name }) p
        (sym (ap (λ b. let o : Option Parts = cond b None (Some (record { keys = key ∷ keys; string = string; name = name })) in o) one) ∙ h))
        (record { some = omega arith; few = k.few; names = k.names; named = r.named; result = r.some })
