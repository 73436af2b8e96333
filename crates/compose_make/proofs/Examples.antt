-- A small table with several ways to one character: which typing is the least, and which are not.
use Rattle.std.proofs.Common.{◌≡◌, ◌⊎◌, ℕ, List, [], ◌∷◌, true, false, map, get_or, refl, sym, ◌∙◌, ap, subst, inl, inr, arith, eqb-true}
use Rattle.std.specs.Prelude.{Some, None, ◌==◌, nat_le}
use Rattle.std.specs.Char.{encode_utf8}
use Rattle.std.specs.List.{list_any, AllByRecursion}
use Rattle.std.proofs.lemmas.Bool.{and_parts, or_cases, leb-true}
use Rattle.compose_text.specs.Numbers.{is_between}
use Rattle.keysym_core.specs.Names.{KeysymNames}
use Rattle.compose_model.specs.Table.{Definition, same, is_sequence}
use Rattle.compose_model.specs.Certificate.{Repertoire, is_bound}
use Rattle.compose_model.specs.Follows.{Types}
use Rattle.compose_model.proofs.NodeLemmas.{same_is}
use Rattle.compose_walk.specs.Evidence.{comes_first}
use Rattle.compose_make.specs.Least.{are_keys, IsLeastTyping, IsUnreachable}
use Rattle.compose_make.specs.Candidates.{is_plain, is_plain_key, is_whole, IsLeastOf}
use Rattle.compose_make.proofs.Reduction.{is_candidate, least_typing, untyped, whole_parts}
use Rattle.compose_make.specs.Depth.{IsGreatestDepth}

abbrev core : KeysymNames
core = record { names = []; characters = [] }

abbrev acute_e : List ℕ
acute_e = 0xc3 ∷ 0xa9 ∷ []

-- <dead_acute> <e>, <dead_acute> <c> and <Multi_key> <apostrophe> <e> : "é"
abbrev ways : List Definition
ways =
    record { sequence = 0xfe51 ∷ 0x65 ∷ []; text = acute_e } ∷ record { sequence = 0xfe51 ∷ 0x63 ∷ []; text = acute_e }
    ∷ record { sequence = 0xff20 ∷ 0x27 ∷ 0x65 ∷ []; text = acute_e } ∷ []

-- people who need the character and have these keys
abbrev with_keys : List ℕ → Repertoire
with_keys keys = record { characters = 0xe9 ∷ []; keys = map (λ k. (k, k)) keys }

abbrev five_keys : List ℕ
five_keys = 0x27 ∷ 0x63 ∷ 0x65 ∷ 0xfe51 ∷ 0xff20 ∷ []

-- ---- one by one

-- what holds of each key, holds of a key
only : (a k : ℕ) → is_between a a k ≡ true → a ≡ k
only a k h =
    let parts = and_parts (nat_le a k) (nat_le k a) h in
    let low = leb-true a k parts.0 in
    let high = leb-true k a parts.1 in
    omega arith

of_keys : (P : ℕ → Type 0) (keys : List ℕ) (k : ℕ) → list_any (λ (r : ℕ × ℕ). is_between r.0 r.1 k) (map (λ k. (k, k)) keys) ≡ true → AllByRecursion P keys → P k
of_keys P [] k h a = cc
of_keys P (j ∷ keys) k h a =
    elim (or_cases (is_between j j k) (list_any (λ (r : ℕ × ℕ). is_between r.0 r.1 k) (map (λ k. (k, k)) keys)) h) [ inl e ↦ subst P (only j k e) a.0 | inr e ↦ of_keys P keys k e a.1 ]

-- and what holds of each sequence, of a sequence
of_sequences : (P : List ℕ → Type 0) (table : List Definition) (v : List ℕ) → is_sequence table v ≡ true → AllByRecursion (λ d. P d.sequence) table → P v
of_sequences P [] v h a = cc
of_sequences P (d ∷ table) v h a = elim (or_cases (same v d.sequence) (is_sequence table v) h) [ inl e ↦ subst P (sym (same_is v d.sequence e)) a.0 | inr e ↦ of_sequences P table v e a.1 ]

-- ---- the least typing

acute_c_types : Types core ways (0xfe51 ∷ 0x63 ∷ []) 0xe9
unfolding encode_utf8
acute_c_types = record { texts = refl; nothing_pending = refl }

acute_c : is_candidate core ways (with_keys five_keys) 0xe9 (0xfe51 ∷ 0x63 ∷ []) ≡ true
unfolding encode_utf8
acute_c = refl

-- no key types the character by itself
no_plain_key : AllByRecursion (λ k. is_plain_key core ways (with_keys five_keys) 0xe9 k ≡ false) five_keys
unfolding encode_utf8
no_plain_key = (refl, (refl, (refl, (refl, (refl, tt)))))

none_plain : (v : List ℕ) → is_plain core ways (with_keys five_keys) 0xe9 v ≡ true → ⊥
none_plain [] h = cc
none_plain (k ∷ j ∷ v) h = cc
none_plain (k ∷ []) h =
    let key = (and_parts _ _ (and_parts _ _ (and_parts _ _ h).0).0).0 in
    let not = of_keys (λ j. is_plain_key core ways (with_keys five_keys) 0xe9 j ≡ false) five_keys k key no_plain_key in
    let clash : true ≡ false = sym h ∙ not in cc

-- of the two that are shorter the first in the order of sequences
least : IsLeastOf (is_candidate core ways (with_keys five_keys) 0xe9) (Some (0xfe51 ∷ 0x63 ∷ []))
least = (
  acute_c,
  λ v h. elim (or_cases (is_plain core ways (with_keys five_keys) 0xe9 v) (is_whole ways (with_keys five_keys) 0xe9 v) h) [
    | inl e ↦ absurd (none_plain v e)
    | inr e ↦ of_sequences (λ w. ((0xfe51 ∷ 0x63 ∷ []) ≡ w) ⊎ (comes_first (0xfe51 ∷ 0x63 ∷ []) w ≡ true)) ways v (whole_parts core ways (with_keys five_keys) 0xe9 v e).sequence
        (inr refl, (inl refl, (inr refl, tt)))
  ],
)

is_least : IsLeastTyping core ways (with_keys five_keys) 0xe9 (0xfe51 ∷ 0x63 ∷ [])
is_least = least_typing core ways (with_keys five_keys) refl refl 0xe9 (0xfe51 ∷ 0x63 ∷ []) least

-- a longer one is not, nor is one of as many keys that comes later
another : (v w : List ℕ) (i : ℕ) → (get_or v i 0 ≡ get_or w i 0 → ⊥) → comes_first v w ≡ false → (v ≡ w) ⊎ (comes_first v w ≡ true) → ⊥
another v w i apart late (inl e) = apart (ap (λ xs. get_or xs i 0) e)
another v w i apart late (inr e) = let clash : true ≡ false = sym e ∙ late in cc

longer_is_not : IsLeastTyping core ways (with_keys five_keys) 0xe9 (0xff20 ∷ 0x27 ∷ 0x65 ∷ []) → ⊥
longer_is_not h = another (0xff20 ∷ 0x27 ∷ 0x65 ∷ []) (0xfe51 ∷ 0x63 ∷ []) 0 (λ (e : 0xff20 ≡ 0xfe51). absurd (omega arith)) refl (h.least (0xfe51 ∷ 0x63 ∷ []) refl acute_c_types)

later_is_not : IsLeastTyping core ways (with_keys five_keys) 0xe9 (0xfe51 ∷ 0x65 ∷ []) → ⊥
later_is_not h = another (0xfe51 ∷ 0x65 ∷ []) (0xfe51 ∷ 0x63 ∷ []) 1 (λ (e : 0x65 ≡ 0x63). absurd (omega arith)) refl (h.least (0xfe51 ∷ 0x63 ∷ []) refl acute_c_types)

-- ---- a character that cannot be typed

-- without the first keys of the sequences
abbrev three_keys : List ℕ
three_keys = 0x27 ∷ 0x63 ∷ 0x65 ∷ []

no_key_of_three : AllByRecursion (λ k. is_plain_key core ways (with_keys three_keys) 0xe9 k ≡ false) three_keys
unfolding encode_utf8
no_key_of_three = (refl, (refl, (refl, tt)))

none_of_three : (v : List ℕ) → is_plain core ways (with_keys three_keys) 0xe9 v ≡ true → ⊥
none_of_three [] h = cc
none_of_three (k ∷ j ∷ v) h = cc
none_of_three (k ∷ []) h =
    let key = (and_parts _ _ (and_parts _ _ (and_parts _ _ h).0).0).0 in
    let not = of_keys (λ j. is_plain_key core ways (with_keys three_keys) 0xe9 j ≡ false) three_keys k key no_key_of_three in
    let clash : true ≡ false = sym h ∙ not in cc

none : IsLeastOf (is_candidate core ways (with_keys three_keys) 0xe9) None
none v h = elim (or_cases (is_plain core ways (with_keys three_keys) 0xe9 v) (is_whole ways (with_keys three_keys) 0xe9 v) h) [
  | inl e ↦ none_of_three v e
  | inr e ↦
      let whole = whole_parts core ways (with_keys three_keys) 0xe9 v e in
      let not = of_sequences (λ w. are_keys (with_keys three_keys) w ≡ false) ways v whole.sequence (refl, (refl, (refl, tt))) in
      let clash : true ≡ false = sym whole.by_keys ∙ not in cc
]

is_unreachable : IsUnreachable core ways (with_keys three_keys) 0xe9
is_unreachable = record {
  wanted = refl;
  untyped = untyped core ways (with_keys three_keys) 0xe9 none;
  earlier_typed = λ d h l. absurd (elim (or_cases (d == 0xe9) false h) [ inl e ↦ (let is : d ≡ 0xe9 = eqb-true d 0xe9 e in omega arith) | inr e ↦ cc ]);
}

-- ---- the bound

depth : IsGreatestDepth ways 2
depth = record { bounds = refl; met = (0xff20 ∷ 0x27 ∷ [], refl, refl) }

one_less : is_bound ways 1 ≡ false
one_less = refl
