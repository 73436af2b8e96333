-- The conditions on typings, index by index.
use Rattle.std.proofs.Common.{◌≡◌, ℕ, suc, ◌+◌, ◌-◌, ◌<◌, ◌≤◌, List, [], ◌∷◌, ◌++◌, Bool, true, false, cond, ◌&&◌, length, get_or, drop, map, replicate, refl, sym, ◌∙◌, ap, arith}
use Rattle.std.specs.Prelude.{nat_lt, slice_get, Option, Some, None, encode_utf8}
use Rattle.std.specs.Option.{option_or}
use Rattle.std.specs.Cmp.Lexicographic.{pointwise}
use Rattle.std.proofs.Math.Bool.{and_assoc}
use Rattle.std.proofs.lemmas.List.{drop_all, drop_more, length-append}
use Rattle.std.proofs.lemmas.Str.{length-encode, len_utf8_bounds}
use Rattle.keysym_core.specs.Names.{KeysymNames}
use Rattle.compose_model.specs.Table.{Definition, same}
use Rattle.compose_model.specs.Step.{is_empty, step, steps_from, pending_after, pending_from}
use Rattle.compose_model.specs.Certificate.{Repertoire, Typing}
use Rattle.compose_fresh.specs.declared.fault.CheckFault.{CheckFault}
use Rattle.compose_fresh.specs.declared.fault.CheckFault.TheVariants.{TypingMissing, TypingWrong, TypingUnasked}
use Rattle.compose_fresh.specs.Conditions.{first_unmet}
use Rattle.compose_fresh.proofs.Unmet.{drop_at}
use Rattle.compose_check.specs.Conditions.{typing_conditions, is_right}
use Rattle.compose_check.specs.Typings.{typing_fault}

module _ (names : KeysymNames) (new : List Definition) (repertoire : Repertoire) where
  -- side by side the first fault is that of the first typing, or of those that follow
  side_by_side : (c : ℕ) (t : Typing) (cs : List ℕ) (ts : List Typing)
      → first_unmet (typing_conditions names new repertoire (c ∷ cs) (t ∷ ts)) ≡ option_or (typing_fault names new repertoire c t) (first_unmet (typing_conditions names new repertoire cs ts))
  side_by_side c t cs ts = go (nat_lt t.character c) (nat_lt c t.character) (is_right names new repertoire t)
    where
      go : (low high right : Bool)
          → first_unmet
          (cond low (typing_conditions names new repertoire [] (t ∷ ts))
          (cond high (typing_conditions names new repertoire (c ∷ cs) []) (record { met = right; fault = TypingWrong c } ∷ typing_conditions names new repertoire cs ts)))
          ≡ option_or (cond low (Some (TypingUnasked t.character)) (cond high (Some (TypingMissing c)) (cond right None (Some (TypingWrong c)))))
          (first_unmet (typing_conditions names new repertoire cs ts))
      go true high right = refl
      go false true right = refl
      go false false true = refl
      go false false false = refl

  module _ (chars : List ℕ) (ts : List Typing) (i : ℕ) where
    abbrev left : ℕ → Option CheckFault
    left n = first_unmet (typing_conditions names new repertoire (drop n chars) (drop n ts))

    module _ (c : ℕ) (t : Typing) (at_c : slice_get chars i ≡ Some c) (at_t : slice_get ts i ≡ Some t) where
      both_left : left i ≡ option_or (typing_fault names new repertoire c t) (left (i + 1))
      both_left =
          ap (λ cs. first_unmet (typing_conditions names new repertoire cs (drop i ts))) (drop_at chars i c at_c)
          ∙ ap (λ us. first_unmet (typing_conditions names new repertoire (c ∷ drop (i + 1) chars) us)) (drop_at ts i t at_t)
          ∙ side_by_side c t (drop (i + 1) chars) (drop (i + 1) ts)

      -- a typing that has a fault is the first fault from its index on
      pub typing_unmet : (fault : CheckFault) → typing_fault names new repertoire c t ≡ Some fault → left i ≡ Some fault
      typing_unmet fault h = both_left ∙ ap (λ o. option_or o (left (i + 1))) h

      -- after a typing that has no fault, the first fault is that of the typings after it
      pub typing_met : typing_fault names new repertoire c t ≡ None → left (i + 1) ≡ left i
      typing_met h = sym (both_left ∙ ap (λ o. option_or o (left (i + 1))) h)

    -- a character after the last typing
    pub character_left : (c : ℕ) → slice_get chars i ≡ Some c → length ts ≤ i → left i ≡ Some (TypingMissing c)
    character_left c at_c over =
        ap (λ cs. first_unmet (typing_conditions names new repertoire cs (drop i ts))) (drop_at chars i c at_c)
        ∙ ap (λ us. first_unmet (typing_conditions names new repertoire (c ∷ drop (i + 1) chars) us)) (drop_all i ts over)

    -- a typing after the last character
    pub typing_left : (t : Typing) → slice_get ts i ≡ Some t → length chars ≤ i → left i ≡ Some (TypingUnasked t.character)
    typing_left t at_t over =
        ap (λ cs. first_unmet (typing_conditions names new repertoire cs (drop i ts))) (drop_all i chars over)
        ∙ ap (λ us. first_unmet (typing_conditions names new repertoire [] us)) (drop_at ts i t at_t)

-- ---- one typing, key by key

same_as_none : (s : List ℕ) → same s [] ≡ is_empty s
same_as_none [] = refl
same_as_none (k ∷ s) = refl

-- if u is pending, w commits the character c at its last key and nothing before, and leaves nothing
-- pending
abbrev pub types_from : KeysymNames → List Definition → List ℕ → List ℕ → ℕ → Bool
types_from names table u w c = pointwise same (map (λ s. s.text) (steps_from names table u w)) (replicate (length w - 1) [] ++ encode_utf8 c ∷ []) && is_empty (pending_from table u w)

-- before the last key, a key commits nothing, and the later ones type the character from there
pub types_later : (names : KeysymNames) (table : List Definition) (u : List ℕ) (k : ℕ) (w : List ℕ) (last c : ℕ)
    → types_from names table u (k ∷ (w ++ last ∷ [])) c ≡ is_empty (step names table u k).text && types_from names table (pending_after table u k) (w ++ last ∷ []) c
types_later names table u k w last c =
    ap (λ n. pointwise same (map (λ s. s.text) (steps_from names table u (k ∷ (w ++ last ∷ [])))) (replicate n [] ++ encode_utf8 c ∷ []) && rest) count
    ∙ ap (λ b. (b && texts) && rest) (same_as_none (step names table u k).text)
    ∙ and_assoc (is_empty (step names table u k).text) texts rest
  where
    later : List ℕ
    later = w ++ last ∷ []

    rest : Bool
    rest = is_empty (pending_from table (pending_after table u k) (w ++ last ∷ []))

    texts : Bool
    texts = pointwise same (map (λ s. s.text) (steps_from names table (pending_after table u k) (w ++ last ∷ []))) (replicate (length (w ++ last ∷ []) - 1) [] ++ encode_utf8 c ∷ [])

    count : length (k ∷ (w ++ last ∷ [])) - 1 ≡ suc (length (w ++ last ∷ []) - 1)
    count = omega (arith, length-append w (last ∷ []))

-- a character has at least one byte
pub character_not_empty : (c : ℕ) → is_empty (encode_utf8 c) ≡ false
character_not_empty c = go (encode_utf8 c) (omega (arith, length-encode c, len_utf8_bounds c))
  where
    go : (s : List ℕ) → 1 ≤ length s → is_empty s ≡ false
    go [] h = absurd (omega arith)
    go (b ∷ s) h = refl

-- the text of a character is never empty
pub character_not_none : (c : ℕ) → same [] (encode_utf8 c) ≡ false
character_not_none c = go (encode_utf8 c) (omega (arith, length-encode c, len_utf8_bounds c))
  where
    go : (s : List ℕ) → 1 ≤ length s → same [] s ≡ false
    go [] h = absurd (omega arith)
    go (b ∷ s) h = refl

-- at an index before the last key
pub types_at : (names : KeysymNames) (table : List Definition) (u earlier : List ℕ) (i k last c : ℕ) → i < length earlier → k ≡ get_or earlier i k
    → types_from names table u (drop i earlier ++ last ∷ []) c ≡ is_empty (step names table u k).text && types_from names table (pending_after table u k) (drop (i + 1) earlier ++ last ∷ []) c
types_at names table u earlier i k last c h at =
    ap (λ w. types_from names table u (w ++ last ∷ []) c) (drop_more earlier i k h ∙ ap (λ x. x ∷ drop (i + 1) earlier) (sym at))
    ∙ types_later names table u k (drop (i + 1) earlier) last c
