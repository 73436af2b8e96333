-- A loop that quotes a text run by run: what was appended is the quoted prefix, and the bytes since
-- then stand for themselves.
use Rattle.std.proofs.Common.{◌≡◌, ℕ, ◌+◌, ◌-◌, ◌<◌, ◌≤◌, List, [], ◌∷◌, ◌++◌, length, take, drop, get_or, Bool, true, false, not, ◌||◌, nat_lt, refl, sym, ◌∙◌, ap, arith}
use Rattle.std.specs.Prelude.{◌==◌}
use Rattle.std.specs.Str.{IsUtf8, IsCharBoundary}
use Rattle.std.proofs.lemmas.Bool.{or_parts, not-true}
use Rattle.std.proofs.lemmas.Str.{IsCharBoundary-start, IsCharBoundary-after_ascii}
use Rattle.std.proofs.lemmas.List.{append_assoc, append-nil, take_more, get_or-drop, length-drop}
use Rattle.std.proofs.lemmas.Bool.Decides.{nat_tests}
use Rattle.std.proofs.lemmas.List.Concat.{flat_map-append}
use Rattle.compose_lex.specs.Escape.{quote_byte, quote_inside}

-- a byte that quoting leaves as it is: not a backslash, a quote or a control
abbrev pub stands : ℕ → Bool
stands b = not (b == 92 || b == 34 || (nat_lt b 32 || b == 127))

-- the text up to the index `done` was appended quoted, and from there to the index `at` each byte
-- stands for itself
pub record Quoted (text start pushed : List ℕ) (done at : ℕ) : Type 0 where
  pub order : done ≤ at
  pub cut : IsCharBoundary text done
  pub so_far : pushed ≡ start ++ quote_inside (take done text)
  pub since : quote_inside (take at text) ≡ quote_inside (take done text) ++ take (at - done) (drop done text)

-- before the first byte nothing was appended
pub quoted_none : (text start : List ℕ) → IsUtf8 text → Quoted text start start 0 0
quoted_none text start u = record { order = omega arith; cut = IsCharBoundary-start text u; so_far = sym (append-nil start); since = refl }

quote_plain : (b : ℕ) → stands b ≡ true → quote_byte b ≡ b ∷ []
quote_plain b h =
    let special = or_parts (b == 92 || b == 34) (nat_lt b 32 || b == 127) (not-true (b == 92 || b == 34 || (nat_lt b 32 || b == 127)) h) in
    rw (special.0, special.1) refl

-- a byte that does not stand for itself in quotes is ASCII
pub special_ascii : (b : ℕ) → stands b ≡ false → b < 128
special_ascii b h = grind (arith, nat_tests)

quote_more : (text : List ℕ) (at b : ℕ) → at < length text → b ≡ get_or text at 0 → quote_inside (take (at + 1) text) ≡ quote_inside (take at text) ++ quote_byte b
quote_more text at b l is =
    ap quote_inside (take_more text at 0 l ∙ ap (λ x. take at text ++ x ∷ []) (sym is)) ∙ flat_map-append quote_byte (take at text) (b ∷ [])
    ∙ ap (λ x. quote_inside (take at text) ++ x) (append-nil (quote_byte b))

-- a byte that stands for itself is left for later
pub quoted_plain : (text start pushed : List ℕ) (done at b : ℕ) → at < length text → b ≡ get_or text at 0 → stands b ≡ true → Quoted text start pushed done at → Quoted text start pushed done (at + 1)
quoted_plain text start pushed done at b l is h s =
    let order = s.order in
    let long : at - done < length (drop done text) = omega (arith, length-drop done text) in
    let next : at + 1 - done ≡ at - done + 1 = omega arith in
    let place : done + (at - done) ≡ at = omega arith in
    let here : get_or (drop done text) (at - done) 0 ≡ b = get_or-drop done text (at - done) 0 ∙ ap (λ n. get_or text n 0) place ∙ sym is in
    let run : take (at + 1 - done) (drop done text) ≡ take (at - done) (drop done text) ++ b ∷ [] =
    ap (λ n. take n (drop done text)) next ∙ take_more (drop done text) (at - done) 0 long ∙ ap (λ x. take (at - done) (drop done text) ++ x ∷ []) here in
    record {
      order = (let o : done ≤ at + 1 = omega arith in o);
      cut = s.cut;
      so_far = s.so_far;
      since = quote_more text at b l is ∙ ap (λ x. quote_inside (take at text) ++ x) (quote_plain b h) ∙ ap (λ x. x ++ b ∷ []) s.since
          ∙ append_assoc (quote_inside (take done text)) (take (at - done) (drop done text)) (b ∷ []) ∙ ap (λ x. quote_inside (take done text) ++ x) (sym run);
    }

-- any other is appended as its escape, after the bytes since then
pub quoted_special : (text start pushed more : List ℕ) (done at b : ℕ) → IsUtf8 text → at < length text → b ≡ get_or text at 0 → b < 128
    → more ≡ pushed ++ take (at - done) (drop done text) ++ quote_byte b → Quoted text start pushed done at → Quoted text start more (at + 1) (at + 1)
quoted_special text start pushed more done at b u l is ascii now s =
    let whole : quote_inside (take done text) ++ take (at - done) (drop done text) ++ quote_byte b ≡ quote_inside (take (at + 1) text) =
    ap (λ x. x ++ quote_byte b) (sym s.since) ∙ sym (quote_more text at b l is) in
    let none : at + 1 - (at + 1) ≡ 0 = omega arith in
    record {
      order = omega arith;
      cut = IsCharBoundary-after_ascii text at u l (omega (arith, is));
      so_far = now ∙ ap (λ x. x ++ take (at - done) (drop done text) ++ quote_byte b) s.so_far ∙ simp append_assoc (ap (λ x. start ++ x) (simp append_assoc at whole));
      since = sym (ap (λ n. quote_inside (take (at + 1) text) ++ take n (drop (at + 1) text)) none ∙ append-nil (quote_inside (take (at + 1) text)));
    }
