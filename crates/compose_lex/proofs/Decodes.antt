-- A loop that decodes piece by piece: the bytes so far come before those of the rest.
use Rattle.std.proofs.Common.{◌≡◌, ℕ, suc, zero, ◌+◌, ◌-◌, ◌≤◌, List, [], ◌∷◌, ◌++◌, length, take, drop, Bool, true, false, cond, refl, sym, ◌∙◌, ap, arith}
use Rattle.std.specs.Prelude.{◌==◌, Some, Result, Ok, Err}
use Rattle.std.proofs.Math.Numerals.{one-add}
use Rattle.std.proofs.lemmas.List.{append_assoc, drop-drop, length-drop, length_push}
use Rattle.compose_lex.specs.Escape.{piece, first_len, escape_len, escape_fault, with_byte, bytes_from}
use Rattle.compose_lex.specs.Steps.{with_bytes, piece_byte, IsDecoded}
use Rattle.compose_lex.specs.declared.LexFault.{LexFault}
use Rattle.compose_lex.proofs.EscapeRead.{escape_fits}

-- the bytes so far, of which the first 255 are kept, come before those of the rest
pub record Decodes (raw : List ℕ) (at : ℕ) (kept : List ℕ) (len : ℕ) : Type 0 where
  pub within : at ≤ length raw
  pub few : len ≤ at
  pub done : List ℕ
  pub decoded : IsDecoded kept len done
  pub read : bytes_from 0 0 raw ≡ with_bytes done (bytes_from at 0 (drop at raw))

-- bytes that still belong to the piece before are skipped
pub skipped_to : (at left : ℕ) (rest : List ℕ) → bytes_from at left rest ≡ bytes_from (at + left) 0 (drop left rest)
skipped_to at zero rest = let e : at ≡ at + 0 = omega arith in ap (λ x. bytes_from x 0 rest) e
skipped_to at (suc left) [] = refl
skipped_to at (suc left) (b ∷ rest) = let e : 1 + at + left ≡ at + suc left = omega arith in skipped_to (1 + at) left rest ∙ ap (λ x. bytes_from x 0 (drop left rest)) e

-- one byte, whose piece has `len` bytes after the first
read_one : (at b byte len : ℕ) (rest : List ℕ) → (first_len : ℕ) → first_len ≡ len → piece (b ∷ take len rest) (drop len rest) ≡ Some byte
    → with_byte (piece (b ∷ take first_len rest) (drop first_len rest)) (escape_fault at rest) (bytes_from (1 + at) first_len rest)
    ≡ with_bytes (byte ∷ []) (bytes_from (at + (1 + len)) 0 (drop len rest))
read_one at b byte len rest first_len is h =
    ap (λ l. with_byte (piece (b ∷ take l rest) (drop l rest)) (escape_fault at rest) (bytes_from (1 + at) l rest)) is
    ∙ ap (λ o. with_byte o (escape_fault at rest) (bytes_from (1 + at) len rest)) h ∙ byte_before (bytes_from (1 + at) len rest)
    ∙ ap (with_bytes (byte ∷ [])) (skipped_to (1 + at) len rest ∙ (let e : 1 + at + len ≡ at + (1 + len) = omega arith in ap (λ x. bytes_from x 0 (drop len rest)) e))
  where
    byte_before : (r : Result (List ℕ) LexFault) → with_byte (Some byte) (escape_fault at rest) r ≡ with_bytes (byte ∷ []) r
    byte_before (Ok bytes) = refl
    byte_before (Err e) = refl

put_twice : (done : List ℕ) (byte : ℕ) (r : Result (List ℕ) LexFault) → with_bytes done (with_bytes (byte ∷ []) r) ≡ with_bytes (done ++ byte ∷ []) r
put_twice done byte (Ok bytes) = ap (λ x. let r : Result (List ℕ) LexFault = Ok x in r) (sym (append_assoc done (byte ∷ []) bytes))
put_twice done byte (Err e) = refl

-- what is kept does not depend on what was dropped before
kept_again : (n : ℕ) (done : List ℕ) (byte : ℕ) → take n (take n done ++ byte ∷ []) ≡ take n (done ++ byte ∷ [])
kept_again zero done byte = refl
kept_again (suc n) [] byte = refl
kept_again (suc n) (d ∷ done) byte = ap (λ t. d ∷ t) (kept_again n done byte)

-- a piece has no more bytes than there are
pub piece_fits : (b : ℕ) (rest : List ℕ) → first_len (b ∷ rest) ≤ length rest
piece_fits b rest = go (b == 92)
  where
    go : (x : Bool) → cond x (escape_len rest) 0 ≤ length rest
    go true = escape_fits rest
    go false = omega arith

-- one more piece is decoded to its byte, and the first 255 bytes are kept
pub decodes_more : (raw : List ℕ) (at len b byte taken : ℕ) (kept more behind : List ℕ) → drop at raw ≡ b ∷ behind → piece_byte b behind ≡ Some byte → taken ≡ first_len (b ∷ behind)
    → more ≡ take 255 (kept ++ byte ∷ [])
    → Decodes raw at kept len → Decodes raw (at + (1 + taken)) more (len + 1)
decodes_more raw at len b byte taken kept more behind here stands takes keeps s =
    let fits : taken ≤ length behind = let f = piece_fits b behind in omega arith in
    let left : length raw - at ≡ suc (length behind) = sym (length-drop at raw) ∙ ap length here in
    let after_here : drop taken behind ≡ drop (at + (1 + taken)) raw = sym (sym (drop-drop (1 + taken) at raw) ∙ ap (drop (1 + taken)) here ∙ ap (λ n. drop n (b ∷ behind)) (one-add taken)) in
    record {
      within = (let w = s.within in omega arith);
      few = (let f = s.few in omega arith);
      done = s.done ++ byte ∷ [];
      decoded = (keeps ∙ ap (λ x. take 255 (x ++ byte ∷ [])) s.decoded.0 ∙ kept_again 255 s.done byte, (let l = s.decoded.1 in omega (arith, length_push s.done byte)));
      read = s.read ∙ ap (λ x. with_bytes s.done (bytes_from at 0 x)) here
          ∙ ap (with_bytes s.done) (read_one at b byte taken behind (first_len (b ∷ behind)) (sym takes) (ap (λ l. piece (b ∷ take l behind) (drop l behind)) takes ∙ stands))
          ∙ put_twice s.done byte (bytes_from (at + (1 + taken)) 0 (drop taken behind))
          ∙ ap (λ x. with_bytes (s.done ++ byte ∷ []) (bytes_from (at + (1 + taken)) 0 x)) after_here;
    }
