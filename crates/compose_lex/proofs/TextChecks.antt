-- The bytes that a raw text stands for, checked for being a text.
use Rattle.std.proofs.Common.{◌≡◌, ℕ, ◌+◌, ◌≤◌, List, [], ◌∷◌, ◌++◌, length, Bool, true, false, cond, nat_lt, refl, sym, ◌∙◌, ap, subst, arith}
use Rattle.std.specs.Prelude.{◌==◌, Result, Ok, Err, OnOk}
use Rattle.std.specs.List.{list_any}
use Rattle.std.specs.Str.{IsUtf8, is_utf8}
use Rattle.std.proofs.lemmas.Bool.{or_parts, false_from_ne_true}
use Rattle.std.proofs.lemmas.Str.{is_utf8-from_IsUtf8, IsUtf8-from_is_utf8}
use Rattle.std.proofs.lemmas.List.{take_all}
use Rattle.compose_lex.specs.Escape.{bytes_from, text_or, text_of, Unescapes, IsText}
use Rattle.compose_lex.specs.Lexed.{PushReturns}
use Rattle.compose_lex.specs.Steps.{len_check, IsDecoded}
use Rattle.compose_lex.specs.declared.LexFault.{LexFault}
use Rattle.compose_lex.specs.declared.LexFault.TheVariants.{EmptyText, TextTooLong, TextNotUtf8}
use Rattle.compose_lex.proofs.TextRead.{text_sound}

-- bytes without a backslash stand for themselves
pub no_escape : (at : ℕ) (raw : List ℕ) → list_any (λ b. b == 92) raw ≡ false → bytes_from at 0 raw ≡ Ok raw
no_escape at [] h = refl
no_escape at (b ∷ rest) h =
    let parts = or_parts (b == 92) (list_any (λ b. b == 92) rest) h in
    rw (parts.0, no_escape (1 + at) rest parts.1) refl

-- a raw text without a backslash stands for itself, if its length and bytes are those of a text
pub text_without_escapes : (raw : List ℕ) → list_any (λ b. b == 92) raw ≡ false → text_of raw ≡ text_or (Ok raw)
text_without_escapes raw none = ap text_or (no_escape 0 raw none)

-- ---- the length is checked first, and UTF-8 then

by_length : (bytes : List ℕ) (r : Result (Unit {0}) LexFault) → len_check (length bytes) ≡ r
    → text_or (Ok bytes) ≡ (elim r as (λ _. Result (List ℕ) LexFault) [ Ok x ↦ cond (is_utf8 bytes) (Ok bytes) (Err TextNotUtf8) | Err e ↦ Err e ])
by_length bytes r h = go (length bytes == 0) (nat_lt 255 (length bytes)) r h
  where
    go : (x y : Bool) (r : Result (Unit {0}) LexFault) → cond {A = Result (Unit {0}) LexFault} x (Err EmptyText) (cond {A = Result (Unit {0}) LexFault} y (Err TextTooLong) (Ok tt)) ≡ r
        → cond {A = Result (List ℕ) LexFault} x (Err EmptyText) (cond {A = Result (List ℕ) LexFault} y (Err TextTooLong) (cond (is_utf8 bytes) (Ok bytes) (Err TextNotUtf8)))
        ≡ (elim r as (λ _. Result (List ℕ) LexFault) [ Ok x ↦ cond (is_utf8 bytes) (Ok bytes) (Err TextNotUtf8) | Err e ↦ Err e ])
    go true y (Ok u) h = cc
    go true y (Err e) h = let same : EmptyText ≡ e = cc in ap (λ f. let r : Result (List ℕ) LexFault = Err f in r) same
    go false true (Ok u) h = cc
    go false true (Err e) h = let same : TextTooLong ≡ e = cc in ap (λ f. let r : Result (List ℕ) LexFault = Err f in r) same
    go false false (Ok u) h = refl
    go false false (Err e) h = cc

-- bytes whose number does not pass the check have its fault
pub bad_length : (bytes : List ℕ) (e : LexFault) → len_check (length bytes) ≡ Err e → text_or (Ok bytes) ≡ Err e
bad_length bytes e h = by_length bytes (Err e) h

-- bytes that are UTF-8, and whose number passes the check, are a text
pub right_text : (bytes : List ℕ) (u : Unit {0}) → len_check (length bytes) ≡ Ok u → IsUtf8 bytes → text_or (Ok bytes) ≡ Ok bytes
right_text bytes u h t = by_length bytes (Ok u) h ∙ ap (λ b. cond {A = Result (List ℕ) LexFault} b (Ok bytes) (Err TextNotUtf8)) (is_utf8-from_IsUtf8 bytes t)

-- bytes that are not UTF-8, and whose number passes the check, have that fault
pub not_text : (bytes : List ℕ) (u : Unit {0}) → len_check (length bytes) ≡ Ok u → (IsUtf8 bytes → ⊥) → text_or (Ok bytes) ≡ Err TextNotUtf8
not_text bytes u h t =
    by_length bytes (Ok u) h ∙ ap (λ b. cond {A = Result (List ℕ) LexFault} b (Ok bytes) (Err TextNotUtf8)) (false_from_ne_true (is_utf8 bytes) (λ e. t (IsUtf8-from_is_utf8 bytes e)))

-- ---- what was decoded

all_kept : (kept bytes : List ℕ) (len : ℕ) → IsDecoded kept len bytes → len ≤ 255 → kept ≡ bytes
all_kept kept bytes len d few = d.0 ∙ take_all 255 bytes (let l = d.1 in omega arith)

-- the bytes of a decoded text are those that were kept, if their number passes the check and they
-- are UTF-8
pub decoded_right : (kept bytes : List ℕ) (len : ℕ) (u : Unit {0}) → IsDecoded kept len bytes → len_check len ≡ Ok u → len ≤ 255 → IsUtf8 kept → text_or (Ok bytes) ≡ Ok kept
decoded_right kept bytes len u d h few t =
    let all = all_kept kept bytes len d few in
    right_text bytes u (ap len_check (sym d.1) ∙ h) (subst IsUtf8 all t) ∙ ap (λ x. let r : Result (List ℕ) LexFault = Ok x in r) (sym all)

-- the bytes of a decoded text are not UTF-8, if their number passes the check and those that were
-- kept are not
pub decoded_other : (kept bytes : List ℕ) (len : ℕ) (u : Unit {0}) → IsDecoded kept len bytes → len_check len ≡ Ok u → len ≤ 255 → (IsUtf8 kept → ⊥) → text_or (Ok bytes) ≡ Err TextNotUtf8
decoded_other kept bytes len u d h few t = not_text bytes u (ap len_check (sym d.1) ∙ h) (λ v. t (subst IsUtf8 (sym (all_kept kept bytes len d few)) v))

-- ---- a text after another

-- what is appended is what the raw text stands for
pub found_pushed : (old new raw : List ℕ) (r : Result (Unit {0}) LexFault) → PushReturns old new r (text_of raw) → OnOk r ((bytes : List ℕ) × (new ≡ old ++ bytes) × Unescapes raw bytes × IsText bytes)
found_pushed old new raw (Ok u) p = let t = text_sound raw p.0 p.1 in (p.0, p.2, t.0, t.1)
found_pushed old new raw (Err e) p = tt
