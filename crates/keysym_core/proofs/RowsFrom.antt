-- The rows of names that are parts of one text.
use Rattle.std.proofs.Common.{◌≡◌, ◌≤◌, ◌-◌, ℕ, zero, suc, Bool, true, ◌&&◌, List, [], ◌∷◌, length, take, drop, Option, Some, None, refl, ap, ◌∙◌, arith, slice_get, nat_le, option_map}
use Rattle.std.proofs.lemmas.Bool.{and_parts, leb-true}
use Rattle.std.proofs.lemmas.List.{drop-drop}
use Rattle.keysym_core.specs.Names.{NameRow}
use Rattle.keysym_core.specs.BuiltIn.{rows_from}

-- each number is at most the next, and the last at most `most`
abbrev pub rises : ℕ → List ℕ → ℕ → Bool
rises start [] most = nat_le start most
rises start (next ∷ starts) most = nat_le start next && rises next starts most

-- the text between two starts, if both are given
abbrev pub between : Option ℕ → Option ℕ → List ℕ → Option (List ℕ)
between None next text = None
between (Some start) None text = None
between (Some start) (Some next) text = Some (take (next - start) (drop start text))

pub none_is_not_some : {X : Type 0} {x : X} → None ≡ Some x → ⊥
none_is_not_some e = cc

pub same_of_some : {X : Type 0} {x y : X} → Some x ≡ Some y → x ≡ y
same_of_some e = cc

-- bytes without the first ones, and then without more
drop-further : (n m : ℕ) (xs : List ℕ) → n ≤ m → drop (m - n) (drop n xs) ≡ drop m xs
drop-further n m xs h = drop-drop (m - n) n xs ∙ ap (λ k. drop k xs) (omega (arith, h))

-- the name of the row at an index
pub names_between : (starts keysyms text : List ℕ) (start most i : ℕ) → rises start starts most ≡ true → length starts ≡ length keysyms
    → option_map (λ (r : NameRow). r.name) (slice_get (rows_from (start ∷ starts) keysyms (drop start text)) i) ≡ between (slice_get (start ∷ starts) i) (slice_get starts i) text
names_between [] [] text start most zero h e = refl
names_between [] [] text start most (suc i) h e = refl
names_between [] (k ∷ keysyms) text start most i h e = absurd (omega (arith, e))
names_between (next ∷ starts) [] text start most i h e = absurd (omega (arith, e))
names_between (next ∷ starts) (k ∷ keysyms) text start most zero h e = refl
names_between (next ∷ starts) (k ∷ keysyms) text start most (suc i) h e =
    let parts = and_parts (nat_le start next) (rises next starts most) h in
    ap (λ t. option_map (λ (r : NameRow). r.name) (slice_get (rows_from (next ∷ starts) keysyms t) i)) (drop-further start next text (leb-true start next parts.0))
    ∙ names_between starts keysyms text next most i parts.1 (omega (arith, e))

-- the keysym of the row at an index
pub keysyms_of_rows : (starts keysyms text : List ℕ) (start i : ℕ) → length starts ≡ length keysyms
    → option_map (λ (r : NameRow). r.value) (slice_get (rows_from (start ∷ starts) keysyms text) i) ≡ slice_get keysyms i
keysyms_of_rows [] [] text start i e = refl
keysyms_of_rows [] (k ∷ keysyms) text start i e = absurd (omega (arith, e))
keysyms_of_rows (next ∷ starts) [] text start i e = absurd (omega (arith, e))
keysyms_of_rows (next ∷ starts) (k ∷ keysyms) text start zero e = refl
keysyms_of_rows (next ∷ starts) (k ∷ keysyms) text start (suc i) e = keysyms_of_rows starts keysyms (drop (next - start) text) next i (omega (arith, e))

-- one after another, the starts rise
pub rising : (starts : List ℕ) (start most i a b : ℕ) → rises start starts most ≡ true → slice_get (start ∷ starts) i ≡ Some a → slice_get starts i ≡ Some b → (a ≤ b) × (b ≤ most)
rising [] start most i a b h first second = absurd (none_is_not_some second)
rising (next ∷ starts) start most zero a b h first second =
    let parts = and_parts (nat_le start next) (rises next starts most) h in
    let here : start ≡ a = same_of_some first in
    let there : next ≡ b = same_of_some second in
    let more = leb-true start next parts.0 in
    let rest = below next starts parts.1 in
    (omega (arith, here, there, more), omega (arith, there, rest))
  where
    below : (start : ℕ) (starts : List ℕ) → rises start starts most ≡ true → start ≤ most
    below start [] h = leb-true start most h
    below start (next ∷ starts) h =
        let parts = and_parts (nat_le start next) (rises next starts most) h in
        let rest = below next starts parts.1 in
        let first = leb-true start next parts.0 in
        omega (arith, rest, first)
rising (next ∷ starts) start most (suc i) a b h first second =
    rising starts next most i a b (and_parts (nat_le start next) (rises next starts most) h).1 first second
