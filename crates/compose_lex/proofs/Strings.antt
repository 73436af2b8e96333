-- A loop that reads a string up to its closing quote: what was read comes before the raw text of
-- the rest.
use Rattle.std.proofs.Common.{◌≡◌, ℕ, suc, ◌+◌, ◌<◌, ◌≤◌, List, [], ◌∷◌, ◌++◌, length, take, drop, get_or, Bool, true, false, not, cond, ◌||◌, refl, sym, ◌∙◌, ap, subst, arith, ◌≢◌, ne_eqb}
use Rattle.std.specs.Prelude.{◌==◌, Option, Some, None}
use Rattle.std.specs.Option.{option_map}
use Rattle.std.specs.List.{prefix_len}
use Rattle.std.proofs.lemmas.List.{append_assoc, append-nil, take_more, drop_more, drop_all}
use Rattle.compose_lex.specs.Fault.{inside_from}
use Rattle.compose_lex.specs.Steps.{is_plain}

-- bytes put before those that are read
abbrev pub put_before : List ℕ → List ℕ × List ℕ → List ℕ × List ℕ
put_before read x = (read ++ x.0, x.1)

-- the first bytes are read, and the next one is taken by a backslash or not
pub record Inside (text : List ℕ) (taken : Bool) (i : ℕ) : Type 0 where
  pub kept : inside_from false text ≡ option_map (put_before (take i text)) (inside_from taken (drop i text))

put_nothing : (o : Option (List ℕ × List ℕ)) → o ≡ option_map (put_before []) o
put_nothing None = refl
put_nothing (Some x) = refl

-- before the first byte nothing was read
pub inside_none : (text : List ℕ) → Inside text false 0
inside_none text = record { kept = put_nothing (inside_from false text) }

put_more : (b : ℕ) (read : List ℕ) (o : Option (List ℕ × List ℕ))
    → option_map (λ x. let y : List ℕ × List ℕ = (b ∷ x.0, x.1) in y) (option_map (put_before read) o) ≡ option_map (put_before (b ∷ read)) o
put_more b read None = refl
put_more b read (Some x) = refl

-- the bytes before the first quote or backslash
pub inside_plain : (text : List ℕ) → Inside text false (prefix_len is_plain text)
inside_plain [] = inside_none []
inside_plain (b ∷ rest) = go (b == 34) refl (b == 92) refl (inside_plain rest)
  where
    go : (x : Bool) → (b == 34) ≡ x → (y : Bool) → (b == 92) ≡ y → Inside rest false (prefix_len is_plain rest) → Inside (b ∷ rest) false (cond (not (x || y)) (1 + prefix_len is_plain rest) 0)
    go true e y f s = inside_none (b ∷ rest)
    go false e true f s = inside_none (b ∷ rest)
    go false e false f s =
        let n = prefix_len is_plain rest in
        let one : 1 + n ≡ suc n = omega arith in
        subst (Inside (b ∷ rest) false) (sym one) (record {
          kept = rw (e, f) (ap (option_map (λ x. let y : List ℕ × List ℕ = (b ∷ x.0, x.1) in y)) s.kept ∙ put_more b (take n rest) (inside_from false (drop n rest)));
        })

put_twice : (read : List ℕ) (b : ℕ) (o : Option (List ℕ × List ℕ))
    → option_map (put_before read) (option_map (λ x. let y : List ℕ × List ℕ = (b ∷ x.0, x.1) in y) o) ≡ option_map (put_before (read ++ b ∷ [])) o
put_twice read b None = refl
put_twice read b (Some x) = ap (λ t. let o : Option (List ℕ × List ℕ) = Some (t, x.1) in o) (sym (append_assoc read (b ∷ []) x.0))

-- a byte that is not the closing quote
inside_step : (text : List ℕ) (taken next : Bool) (i b : ℕ) → i < length text → b ≡ get_or text i 0
    → inside_from taken (b ∷ drop (i + 1) text) ≡ option_map (λ x. let y : List ℕ × List ℕ = (b ∷ x.0, x.1) in y) (inside_from next (drop (i + 1) text)) → Inside text taken i
    → Inside text next (i + 1)
inside_step text taken next i b l is step s =
    let here : drop i text ≡ b ∷ drop (i + 1) text = drop_more text i 0 l ∙ ap (λ x. x ∷ drop (i + 1) text) (sym is) in
    let more : take (i + 1) text ≡ take i text ++ b ∷ [] = take_more text i 0 l ∙ ap (λ x. take i text ++ x ∷ []) (sym is) in
    let rest = inside_from next (drop (i + 1) text) in
    record {
      kept = s.kept ∙ ap (λ x. option_map (put_before (take i text)) (inside_from taken x)) here ∙ ap (option_map (put_before (take i text))) step
          ∙ put_twice (take i text) b rest ∙ ap (λ x. option_map (put_before x) rest) (sym more);
    }

-- a byte that a backslash takes
pub inside_taken : (text : List ℕ) (taken next : Bool) (i b : ℕ) → i < length text → b ≡ get_or text i 0 → taken ≡ true → next ≡ false → Inside text taken i → Inside text next (i + 1)
inside_taken text taken next i b l is was now s = inside_step text taken next i b l is (rw (was, now) refl) s

-- a byte that no backslash takes
pub inside_free : (text : List ℕ) (taken next : Bool) (i b : ℕ) → i < length text → b ≡ get_or text i 0 → taken ≡ false → b ≢ 34 → next ≡ (b == 92) → Inside text taken i → Inside text next (i + 1)
inside_free text taken next i b l is was differs now s = let other : (b == 34) ≡ false = ne_eqb b 34 differs in inside_step text taken next i b l is (rw (was, now, other) refl) s

-- the closing quote
pub inside_closed : (text : List ℕ) (taken : Bool) (i b : ℕ) → i < length text → b ≡ get_or text i 0 → taken ≡ false → b ≡ 34 → Inside text taken i
    → inside_from false text ≡ Some (take i text, drop (i + 1) text)
inside_closed text taken i b l is free quote s =
    let here : drop i text ≡ 34 ∷ drop (i + 1) text = drop_more text i 0 l ∙ ap (λ x. x ∷ drop (i + 1) text) (sym is ∙ quote) in
    s.kept ∙ ap (λ x. option_map (put_before (take i text)) (inside_from taken x)) here
    ∙ ap (λ x. option_map (put_before (take i text)) (inside_from x (34 ∷ drop (i + 1) text))) free
    ∙ ap (λ t. let o : Option (List ℕ × List ℕ) = Some (t, drop (i + 1) text) in o) (append-nil (take i text))

-- no closing quote
pub inside_all : (text : List ℕ) (taken : Bool) (i : ℕ) → length text ≤ i → Inside text taken i → inside_from false text ≡ None
inside_all text taken i l s = s.kept ∙ ap (λ x. option_map (put_before (take i text)) (inside_from taken x)) (drop_all i text l) ∙ ap (option_map (put_before (take i text))) (none taken)
  where
    none : (taken : Bool) → inside_from taken [] ≡ None
    none true = refl
    none false = refl
