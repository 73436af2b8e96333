-- The reader finds a fault in a raw text exactly if it is its fault by the definition.
use Rattle.std.proofs.Common.{◌≡◌, ℕ, suc, zero, ◌+◌, ◌<◌, ◌≤◌, List, [], ◌∷◌, ◌++◌, length, take, drop, Bool, true, false, cond, not, refl, sym, ◌∙◌, ap, subst, arith, eqb-true, take-append-drop, length-take, append_assoc, lt-ltb, ne_eqb}
use Rattle.std.specs.Prelude.{◌==◌, Option, Some, None, Result, Ok, Err, nat_lt}
use Rattle.std.specs.Str.{IsUtf8, is_utf8}
use Rattle.std.proofs.lemmas.List.{length-append}
use Rattle.std.proofs.lemmas.Str.{is_utf8-from_IsUtf8, IsUtf8-from_is_utf8}
use Rattle.std.proofs.lemmas.Bool.{ltb-true, ltb-false, eqb-false, not-true}
use Rattle.compose_text.specs.Bytes.{begins}
use Rattle.compose_text.specs.Numbers.{is_hexadecimal_digit}
use Rattle.compose_lex.specs.Escape.{is_octal, is_run, escape, piece, Unescapes, first_len, escape_fault, with_byte, bytes_from, text_or, text_of}
use Rattle.compose_lex.specs.Steps.{piece_byte}
use Rattle.compose_lex.specs.TextFault.{BeginsNoPiece, StopsAt, is_code_first, IsTextFault}
use Rattle.compose_lex.specs.declared.LexFault.{LexFault}
use Rattle.compose_lex.specs.declared.LexFault.TheVariants.{BadToken, ModifierList, UnclosedString, UnknownEscape, BadCode, NoResult, TooManyKeysyms, EmptyText, TextTooLong, TextNotUtf8, NoMemory}
use Rattle.compose_lex.proofs.Decodes.{skipped_to, piece_fits}
use Rattle.compose_lex.proofs.TextRead.{take_prefix, drop_prefix, piece_takes, none_left, bytes_sound, read_again}

-- ---- a backslash after a piece does not change the piece

begins_before : (p : ℕ → Bool) (rest behind : List ℕ) → p 92 ≡ false → begins p (rest ++ 92 ∷ behind) ≡ begins p rest
begins_before p [] behind h = h
begins_before p (r ∷ rest) behind h = refl

run_before : (p : ℕ → Bool) (most : ℕ) (digits rest behind : List ℕ) → p 92 ≡ false → is_run p most digits (rest ++ 92 ∷ behind) ≡ is_run p most digits rest
run_before p most digits rest behind h = rw (begins_before p rest behind h) refl

escape_before : (more rest behind : List ℕ) → escape more (rest ++ 92 ∷ behind) ≡ escape more rest
escape_before [] rest behind = refl
escape_before (e ∷ digits) rest behind = rw (run_before is_hexadecimal_digit 2 digits rest behind refl, run_before is_octal 3 (e ∷ digits) rest behind refl) refl

piece_before : (first rest behind : List ℕ) → piece first (rest ++ 92 ∷ behind) ≡ piece first rest
piece_before [] rest behind = refl
piece_before (b ∷ more) rest behind = rw (escape_before more rest behind) refl

-- ---- the first piece

abbrev first_piece : List ℕ → Option ℕ
first_piece [] = None
first_piece (b ∷ rest) = piece_byte b rest

first_is : (first rest : List ℕ) (byte : ℕ) → piece first rest ≡ Some byte → first_piece (first ++ rest) ≡ Some byte
first_is [] rest byte h = cc
first_is (c ∷ more) rest byte h = rw (piece_takes c more rest byte h, take_prefix more rest, drop_prefix more rest) h

no_piece : (bytes : List ℕ) → first_piece bytes ≡ None → BeginsNoPiece bytes
no_piece bytes none first rest byte split h = let is : first_piece bytes ≡ Some byte = ap first_piece split ∙ first_is first rest byte h in cc

no_first : (b : ℕ) (rest : List ℕ) → BeginsNoPiece (b ∷ rest) → piece_byte b rest ≡ None
no_first b rest none = go (piece_byte b rest) refl
  where
    go : (o : Option ℕ) → piece_byte b rest ≡ o → o ≡ None
    go None h = refl
    go (Some c) h = let len = first_len (b ∷ rest) in absurd (none (b ∷ take len rest) (drop len rest) c (ap (λ t. b ∷ t) (sym (take-append-drop len rest))) h)

-- only a backslash begins no piece
backslash_first : (b : ℕ) (rest : List ℕ) → piece_byte b rest ≡ None → b ≡ 92
backslash_first b rest h = go (b == 92) refl
  where
    plain : (b == 92) ≡ false → piece_byte b rest ≡ Some b
    plain e = rw e refl

    go : (x : Bool) → (b == 92) ≡ x → b ≡ 92
    go true e = eqb-true b 92 e
    go false e = let is = plain e in cc

-- ---- the leftmost backslash without an escape

-- the reader's fault is at this place
pub record Stopped (raw : List ℕ) (from : ℕ) (fault : LexFault) : Type 0 where
  pub at : ℕ
  pub behind : List ℕ
  pub stops : StopsAt raw at behind
  pub same : fault ≡ escape_fault (from + at) behind

later : (from from2 : ℕ) (raw : List ℕ) (fault : LexFault) → from2 ≡ from → Stopped raw from2 fault → Stopped raw from fault
later from from2 raw fault is s = subst (λ n. Stopped raw n fault) is s

one_more : (from b c len : ℕ) (rest : List ℕ) (fault : LexFault) → len ≤ length rest → piece (b ∷ take len rest) (drop len rest) ≡ Some c → Stopped (drop len rest) (1 + from + len) fault
    → Stopped (b ∷ rest) from fault
one_more from b c len rest fault fits h s =
    let first = b ∷ take len rest in
    let t = s.stops in
    let long : length (first ++ t.before) ≡ 1 + len + s.at = simp (length-append, length-take) (let o = t.offset in omega arith) in
    let moved : 1 + from + len + s.at ≡ from + (1 + len + s.at) = omega arith in
    record {
      at = 1 + len + s.at;
      behind = s.behind;
      stops = record {
        before = first ++ t.before;
        bytes = c ∷ t.bytes;
        whole = ap (λ x. b ∷ x) (sym (take-append-drop len rest) ∙ ap (λ x. take len rest ++ x) t.whole) ∙ sym (append_assoc first t.before (92 ∷ s.behind));
        offset = long;
        right = (first, t.before, refl, sym (piece_before first t.before s.behind) ∙ ap (piece first) (sym t.whole) ∙ h, t.right);
        none = t.none;
      };
      same = s.same ∙ ap (λ n. escape_fault n s.behind) moved;
    }

at_once : (from b : ℕ) (rest : List ℕ) (fault : LexFault) → piece_byte b rest ≡ None → fault ≡ escape_fault from rest → Stopped (b ∷ rest) from fault
at_once from b rest fault h is =
    let mark = backslash_first b rest h in
    let here : from ≡ from + 0 = omega arith in
    record {
      at = 0;
      behind = rest;
      stops = record { before = []; bytes = []; whole = ap (λ x. x ∷ rest) mark; offset = refl; right = refl; none = subst (λ x. BeginsNoPiece (x ∷ rest)) mark (no_piece (b ∷ rest) h) };
      same = is ∙ ap (λ n. escape_fault n rest) here;
    }

stop_found : (at left : ℕ) (raw : List ℕ) (fault : LexFault) → bytes_from at left raw ≡ Err fault → Stopped (drop left raw) (at + left) fault
stop_found at zero [] fault e = cc
stop_found at (suc left) [] fault e = cc
stop_found at (suc left) (b ∷ rest) fault e =
    let moved : 1 + at + left ≡ at + suc left = omega arith in later (at + suc left) (1 + at + left) (drop left rest) fault moved (stop_found (1 + at) left rest fault e)
stop_found at zero (b ∷ rest) fault e =
    let here : at ≡ at + 0 = omega arith in
    let len = first_len (b ∷ rest) in
    later (at + 0) at (b ∷ rest) fault here (go (piece_byte b rest) refl (bytes_from (1 + at) len rest) refl e (stop_found (1 + at) len rest))
  where
    go : (o : Option ℕ) → piece_byte b rest ≡ o → (r : Result (List ℕ) LexFault) → bytes_from (1 + at) (first_len (b ∷ rest)) rest ≡ r → with_byte o (escape_fault at rest) r ≡ Err fault
        → ((fault : LexFault) → bytes_from (1 + at) (first_len (b ∷ rest)) rest ≡ Err fault → Stopped (drop (first_len (b ∷ rest)) rest) (1 + at + first_len (b ∷ rest)) fault)
        → Stopped (b ∷ rest) at fault
    go None h r i e again = at_once at b rest fault h cc
    go (Some c) h (Ok bytes) i e again = cc
    go (Some c) h (Err f) i e again = one_more at b c (first_len (b ∷ rest)) rest fault (piece_fits b rest) h (again fault (i ∙ e))

-- and the other way round
stop_read : (at : ℕ) (before bytes behind : List ℕ) → Unescapes before bytes → BeginsNoPiece (92 ∷ behind) → bytes_from at 0 (before ++ 92 ∷ behind) ≡ Err (escape_fault (at + length before) behind)
stop_read at before [] behind u none =
    let here : at ≡ at + 0 = omega arith in
    ap (λ x. bytes_from at 0 (x ++ 92 ∷ behind)) u
    ∙ ap (λ o. with_byte o (escape_fault at behind) (bytes_from (1 + at) (first_len (92 ∷ behind)) behind)) (no_first 92 behind none)
    ∙ ap (λ n. let r : Result (List ℕ) LexFault = Err (escape_fault n behind) in r) here
    ∙ ap (λ x. let r : Result (List ℕ) LexFault = Err (escape_fault (at + length x) behind) in r) (sym u)
stop_read at before (b ∷ bytes) behind u none =
    let whole : before ++ 92 ∷ behind ≡ u.0 ++ (u.1 ++ 92 ∷ behind) = ap (λ x. x ++ 92 ∷ behind) u.2 ∙ append_assoc u.0 u.1 (92 ∷ behind) in
    let long : at + (length u.0 + length u.1) ≡ at + length before = simp (u.2, length-append) refl in
    ap (bytes_from at 0) whole ∙ go u.0 (piece_before u.0 u.1 behind ∙ u.3) (λ at. stop_read at u.1 bytes behind u.4 none)
    ∙ ap (λ n. let r : Result (List ℕ) LexFault = Err (escape_fault n behind) in r) long
  where
    go : (first : List ℕ) → piece first (u.1 ++ 92 ∷ behind) ≡ Some b → ((at : ℕ) → bytes_from at 0 (u.1 ++ 92 ∷ behind) ≡ Err (escape_fault (at + length u.1) behind))
        → bytes_from at 0 (first ++ (u.1 ++ 92 ∷ behind)) ≡ Err (escape_fault (at + (length first + length u.1)) behind)
    go [] h again = cc
    go (c ∷ more) h again =
        let rest = u.1 ++ 92 ∷ behind in
        let takes = piece_takes c more rest b h in
        let moved : 1 + at + length more + length u.1 ≡ at + (length (c ∷ more) + length u.1) = omega arith in
        let then : bytes_from (1 + at) (length more) (more ++ rest) ≡ Err (escape_fault (at + (length (c ∷ more) + length u.1)) behind) =
        skipped_to (1 + at) (length more) (more ++ rest) ∙ ap (bytes_from (1 + at + length more) 0) (drop_prefix more rest) ∙ again (1 + at + length more)
        ∙ ap (λ n. let r : Result (List ℕ) LexFault = Err (escape_fault n behind) in r) moved in
        ap (λ o. with_byte o (escape_fault at (more ++ rest)) (bytes_from (1 + at) (first_len (c ∷ more ++ rest)) (more ++ rest))) (first_is (c ∷ more) rest b h)
        ∙ ap (λ len. with_byte (Some b) (escape_fault at (more ++ rest)) (bytes_from (1 + at) len (more ++ rest))) takes
        ∙ ap (with_byte (Some b) (escape_fault at (more ++ rest))) then

-- ---- texts

escape_fault_sound : (raw : List ℕ) (at : ℕ) (behind : List ℕ) → StopsAt raw at behind → IsTextFault raw (escape_fault at behind)
escape_fault_sound raw at behind s = go (begins is_code_first behind) refl
  where
    go : (x : Bool) → begins is_code_first behind ≡ x → IsTextFault raw (cond x (BadCode at) (UnknownEscape at))
    go true e = (behind, s, e)
    go false e = (behind, s, ap not e)

bytes_fault_sound : (raw bytes : List ℕ) (fault : LexFault) → Unescapes raw bytes → text_or (Ok bytes) ≡ Err fault → IsTextFault raw fault
bytes_fault_sound raw bytes fault u e = go (length bytes == 0) refl (nat_lt 255 (length bytes)) refl (is_utf8 bytes) refl e
  where
    go : (x : Bool) → (length bytes == 0) ≡ x → (y : Bool) → nat_lt 255 (length bytes) ≡ y → (z : Bool) → is_utf8 bytes ≡ z
        → cond {A = Result (List ℕ) LexFault} x (Err EmptyText) (cond {A = Result (List ℕ) LexFault} y (Err TextTooLong) (cond {A = Result (List ℕ) LexFault} z (Ok bytes) (Err TextNotUtf8)))
        ≡ Err fault → IsTextFault raw fault
    go true a y b z d e = let is : EmptyText ≡ fault = cc in subst (IsTextFault raw) is (subst (Unescapes raw) (none_left bytes a) u)
    go false a true b z d e = let is : TextTooLong ≡ fault = cc in subst (IsTextFault raw) is (bytes, u, ltb-true 255 (length bytes) b)
    go false a false b true d e = cc
    go false a false b false d e =
        let is : TextNotUtf8 ≡ fault = cc in
        subst (IsTextFault raw) is (bytes, u, omega (arith, eqb-false (length bytes) 0 a), omega (arith, ltb-false 255 (length bytes) b), λ v. let w = is_utf8-from_IsUtf8 bytes v in cc)

-- the fault that is read from a raw text is one that its definition finds in it
pub text_fault_sound : (raw : List ℕ) (fault : LexFault) → text_of raw ≡ Err fault → IsTextFault raw fault
text_fault_sound raw fault e = go (bytes_from 0 0 raw) refl e
  where
    go : (r : Result (List ℕ) LexFault) → bytes_from 0 0 raw ≡ r → text_or r ≡ Err fault → IsTextFault raw fault
    go (Ok bytes) h e = bytes_fault_sound raw bytes fault (bytes_sound 0 0 raw bytes h) e
    go (Err f) h e =
        let s = stop_found 0 0 raw fault (h ∙ e) in
        let here : 0 + 0 + s.at ≡ s.at = omega arith in
        subst (IsTextFault raw) (sym (s.same ∙ ap (λ n. escape_fault n s.behind) here)) (escape_fault_sound raw s.at s.behind s.stops)

not_empty : (bytes : List ℕ) → 0 < length bytes → (length bytes == 0) ≡ false
not_empty [] l = absurd (omega (arith, l))
not_empty (b ∷ bytes) l = ne_eqb (length (b ∷ bytes)) 0 (λ e. omega (arith, e, l))

not_long : (bytes : List ℕ) → length bytes ≤ 255 → nat_lt 255 (length bytes) ≡ false
not_long bytes l = go (nat_lt 255 (length bytes)) refl
  where
    go : (x : Bool) → nat_lt 255 (length bytes) ≡ x → x ≡ false
    go false e = refl
    go true e = absurd (omega (arith, ltb-true 255 (length bytes) e, l))

other : (bytes : List ℕ) → (IsUtf8 bytes → ⊥) → is_utf8 bytes ≡ false
other bytes none = go (is_utf8 bytes) refl
  where
    go : (x : Bool) → is_utf8 bytes ≡ x → x ≡ false
    go false e = refl
    go true e = absurd (none (IsUtf8-from_is_utf8 bytes e))

escape_read : (raw : List ℕ) (at : ℕ) (behind : List ℕ) → StopsAt raw at behind → text_of raw ≡ Err (escape_fault at behind)
escape_read raw at behind s =
    let here : 0 + length s.before ≡ at = let o = s.offset in omega arith in
    ap text_of s.whole ∙ ap text_or (stop_read 0 s.before s.bytes behind s.right s.none) ∙ ap (λ n. let r : Result (List ℕ) LexFault = Err (escape_fault n behind) in r) here

-- the fault that the definition finds in a raw text is read from it
pub text_fault_read : (raw : List ℕ) (fault : LexFault) → IsTextFault raw fault → text_of raw ≡ Err fault
text_fault_read raw (BadCode at) x = escape_read raw at x.0 x.1 ∙ (let code = x.2 in rw code refl)
text_fault_read raw (UnknownEscape at) x = escape_read raw at x.0 x.1 ∙ (let none = not-true (begins is_code_first x.0) x.2 in rw none refl)
text_fault_read raw EmptyText x = ap text_or (read_again 0 raw [] x)
text_fault_read raw TextTooLong x =
    let some : (length x.0 == 0) ≡ false = not_empty x.0 (omega (arith, x.2)) in
    let long : nat_lt 255 (length x.0) ≡ true = lt-ltb 255 (length x.0) x.2 in
    ap text_or (read_again 0 raw x.0 x.1) ∙ rw (some, long) refl
text_fault_read raw TextNotUtf8 x =
    let some : (length x.0 == 0) ≡ false = not_empty x.0 x.2 in
    let few : nat_lt 255 (length x.0) ≡ false = not_long x.0 x.3 in
    let none : is_utf8 x.0 ≡ false = other x.0 x.4 in
    ap text_or (read_again 0 raw x.0 x.1) ∙ rw (some, few, none) refl
text_fault_read raw (BadToken at) x = absurd x
text_fault_read raw (ModifierList at) x = absurd x
text_fault_read raw (UnclosedString at) x = absurd x
text_fault_read raw NoResult x = absurd x
text_fault_read raw TooManyKeysyms x = absurd x
text_fault_read raw NoMemory x = absurd x

-- a raw text has at most one fault
pub one_text_fault : (raw : List ℕ) (f g : LexFault) → IsTextFault raw f → IsTextFault raw g → f ≡ g
one_text_fault raw f g x y = let e = text_fault_read raw f x in let h = text_fault_read raw g y in cc
