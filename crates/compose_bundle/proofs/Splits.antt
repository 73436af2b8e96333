-- Bytes that are split, and put together again.
use Rattle.std.proofs.Common.{◌≡◌, ℕ, ◌<◌, ◌^◌, List, [], ◌∷◌, ◌++◌, Bool, true, false, cond, length, take, drop, get_or, zero, suc, lit<, nat_le, refl, sym, ◌∙◌, ap, ap₂, subst, arith, leb-true, length-append}
use Rattle.std.specs.Prelude.{Option, Some, None}
use Rattle.std.specs.Int.{to_be_bytes, from_be_bytes, w16, w32}
use Rattle.std.proofs.Math.Seq.{take-append_seam, drop-append_seam}
use Rattle.std.proofs.lemmas.Bool.{le-leb}
use Rattle.std.proofs.lemmas.List.{take-append-drop, length-take-le}
use Rattle.std.proofs.lemmas.Nat.{from_be_bytes-to_be_bytes_2, from_be_bytes-to_be_bytes_4, be_bytes_2, be_bytes_4}
use Rattle.std.proofs.lemmas.Option.{same_Some}
use Rattle.compose_bundle.specs.Bundle.{AreBytes}
use Rattle.compose_bundle.specs.Decoded.{◌>>=◌, split, sized_by_2, sized_by_4}

-- both parts of a bind have a result if it has one
pub record Bound {A B : Type 0} (o : Option A) (f : A → Option B) (y : B) : Type 0 where
  pub value : A
  pub is : o ≡ Some value
  pub gives : f value ≡ Some y

-- if two steps together have a result, the first has a value, and the second has this result for it
pub bound : {A B : Type 0} (o : Option A) (f : A → Option B) (y : B) → (o >>= f) ≡ Some y → Bound o f y
bound None f y h = cc
bound (Some a) f y h = record { value = a; is = refl; gives = h }

-- ---- together, then split

-- two parts that were put together are split again at the length of the first
pub split_append : (a x : List ℕ) (n : ℕ) → n ≡ length a → split n (a ++ x) ≡ Some (a, x)
split_append a x n e =
    ap (λ m. split m (a ++ x)) e
    ∙ ap (λ b. cond {A = Option (List ℕ × List ℕ)} b (Some (take (length a) (a ++ x), drop (length a) (a ++ x))) None) (le-leb (length a) (length (a ++ x)) (omega (arith, length-append a x)))
    ∙ ap₂ (λ (p q : List ℕ). let r : Option (List ℕ × List ℕ) = Some (p, q) in r) (take-append_seam a x) (drop-append_seam a x)

-- a part after its length in two bytes is read back, with what follows it
pub sized_2 : (a x : List ℕ) → length a < 2 ^ 16 → sized_by_2 (to_be_bytes w16 (length a) ++ (a ++ x)) ≡ Some (a, x)
sized_2 a x l =
    ap (λ o. o >>= (λ p. split (from_be_bytes w16 p.0) p.1)) (split_append (to_be_bytes w16 (length a)) (a ++ x) 2 refl)
    ∙ split_append a x (from_be_bytes w16 (to_be_bytes w16 (length a))) (from_be_bytes-to_be_bytes_2 (length a) l)

-- a part after its length in four bytes is read back, with what follows it
pub sized_4 : (a x : List ℕ) → length a < 2 ^ 32 → sized_by_4 (to_be_bytes w32 (length a) ++ (a ++ x)) ≡ Some (a, x)
sized_4 a x l =
    ap (λ o. o >>= (λ p. split (from_be_bytes w32 p.0) p.1)) (split_append (to_be_bytes w32 (length a)) (a ++ x) 4 refl)
    ∙ split_append a x (from_be_bytes w32 (to_be_bytes w32 (length a))) (from_be_bytes-to_be_bytes_4 (length a) l)

-- ---- split, then together

pub record Split (n : ℕ) (bytes a x : List ℕ) : Type 0 where
  pub long : length a ≡ n
  pub whole : bytes ≡ a ++ x

-- bytes that are split are the two parts together, and the first has the given length
pub split_whole : (n : ℕ) (bytes a x : List ℕ) → split n bytes ≡ Some (a, x) → Split n bytes a x
split_whole n bytes a x h = go (nat_le n (length bytes)) refl h
  where
    go : (b : Bool) → nat_le n (length bytes) ≡ b → cond {A = Option (List ℕ × List ℕ)} b (Some (take n bytes, drop n bytes)) None ≡ Some (a, x) → Split n bytes a x
    go true e h =
        let both : (take n bytes, drop n bytes) ≡ (a, x) = same_Some (take n bytes, drop n bytes) (a, x) h in
        let first : take n bytes ≡ a = ap (λ (p : List ℕ × List ℕ). p.0) both in
        let second : drop n bytes ≡ x = ap (λ (p : List ℕ × List ℕ). p.1) both in
        record { long = ap length (sym first) ∙ length-take-le n bytes (leb-true n (length bytes) e); whole = sym (take-append-drop n bytes) ∙ ap₂ (λ (p q : List ℕ). p ++ q) first second }
    go false e h = cc

-- if two parts together are bytes, the first part is
pub left_bytes : (a x : List ℕ) → AreBytes (a ++ x) → AreBytes a
left_bytes [] x h = tt
left_bytes (y ∷ a) x h = (h.0, left_bytes a x h.1)

-- if two parts together are bytes, the second part is
pub right_bytes : (a x : List ℕ) → AreBytes (a ++ x) → AreBytes x
right_bytes [] x h = h
right_bytes (y ∷ a) x h = right_bytes a x h.1

byte_at : (p : List ℕ) → AreBytes p → (i : ℕ) → get_or p i 0 < 256
byte_at [] a i = lit< tt
byte_at (x ∷ p) a zero = a.0
byte_at (x ∷ p) a (suc i) = byte_at p a.1 i

-- a number that was read from two bytes is written as the same two bytes
pub two_again : (p : List ℕ) → length p ≡ 2 → AreBytes p → to_be_bytes w16 (from_be_bytes w16 p) ≡ p
two_again p l a = be_bytes_2 p (from_be_bytes w16 p) l (byte_at p a) refl

four_again : (p : List ℕ) → length p ≡ 4 → AreBytes p → to_be_bytes w32 (from_be_bytes w32 p) ≡ p
four_again p l a = be_bytes_4 p (from_be_bytes w32 p) l (byte_at p a) refl

two_fit : (p : List ℕ) → length p ≡ 2 → AreBytes p → from_be_bytes w16 p < 2 ^ 16
two_fit [] l a = absurd (omega arith)
two_fit (x ∷ []) l a = absurd (omega arith)
two_fit (x ∷ y ∷ []) l a = let hx = a.0 in let hy = a.1.0 in omega arith
two_fit (x ∷ y ∷ z ∷ p) l a = absurd (omega arith)

four_fit : (p : List ℕ) → length p ≡ 4 → AreBytes p → from_be_bytes w32 p < 2 ^ 32
four_fit [] l a = absurd (omega arith)
four_fit (x ∷ []) l a = absurd (omega arith)
four_fit (x ∷ y ∷ []) l a = absurd (omega arith)
four_fit (x ∷ y ∷ z ∷ []) l a = absurd (omega arith)
four_fit (x ∷ y ∷ z ∷ w ∷ []) l a = let hx = a.0 in let hy = a.1.0 in let hz = a.1.1.0 in let hw = a.1.1.1.0 in omega arith
four_fit (x ∷ y ∷ z ∷ w ∷ v ∷ p) l a = absurd (omega arith)

-- a part after its length
pub record Sized (head : List ℕ) (most : ℕ) (bytes a x : List ℕ) : Type 0 where
  pub whole : bytes ≡ head ++ (a ++ x)
  pub fits : length a < most
  pub left : AreBytes x

-- a part that is read by its length in two bytes follows that length, and what follows it is bytes
pub sized_2_whole : (bytes a x : List ℕ) → AreBytes bytes → sized_by_2 bytes ≡ Some (a, x) → Sized (to_be_bytes w16 (length a)) (2 ^ 16) bytes a x
sized_2_whole bytes a x are h =
    let b = bound (split 2 bytes) (λ p. split (from_be_bytes w16 p.0) p.1) (a, x) h in
    let head = b.value.0 in
    let first = split_whole 2 bytes head b.value.1 b.is in
    let second = split_whole (from_be_bytes w16 head) b.value.1 a x b.gives in
    let are' : AreBytes (head ++ b.value.1) = subst AreBytes first.whole are in
    let here = left_bytes head b.value.1 are' in
    record {
      whole = first.whole ∙ ap₂ (λ (p q : List ℕ). p ++ q) (sym (two_again head first.long here) ∙ ap (to_be_bytes w16) (sym second.long)) second.whole;
      fits = subst (λ (n : ℕ). n < 2 ^ 16) (sym second.long) (two_fit head first.long here);
      left = right_bytes a x (subst AreBytes second.whole (right_bytes head b.value.1 are'));
    }

-- a part that is read by its length in four bytes follows that length, and what follows it is bytes
pub sized_4_whole : (bytes a x : List ℕ) → AreBytes bytes → sized_by_4 bytes ≡ Some (a, x) → Sized (to_be_bytes w32 (length a)) (2 ^ 32) bytes a x
sized_4_whole bytes a x are h =
    let b = bound (split 4 bytes) (λ p. split (from_be_bytes w32 p.0) p.1) (a, x) h in
    let head = b.value.0 in
    let first = split_whole 4 bytes head b.value.1 b.is in
    let second = split_whole (from_be_bytes w32 head) b.value.1 a x b.gives in
    let are' : AreBytes (head ++ b.value.1) = subst AreBytes first.whole are in
    let here = left_bytes head b.value.1 are' in
    record {
      whole = first.whole ∙ ap₂ (λ (p q : List ℕ). p ++ q) (sym (four_again head first.long here) ∙ ap (to_be_bytes w32) (sym second.long)) second.whole;
      fits = subst (λ (n : ℕ). n < 2 ^ 32) (sym second.long) (four_fit head first.long here);
      left = right_bytes a x (subst AreBytes second.whole (right_bytes head b.value.1 are'));
    }
