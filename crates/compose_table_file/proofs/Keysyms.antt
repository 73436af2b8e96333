-- Keysyms as bytes, and back.
use Rattle.std.proofs.Common.{◌≡◌, ◌∙◌, refl, sym, ap, ap₂, arith, ℕ, ◌<◌, ◌≤◌, ◌^◌, List, [], ◌∷◌, ◌++◌, length, length-append, take, drop}
use Rattle.std.specs.Int.{to_be_bytes, from_be_bytes, w32}
use Rattle.std.proofs.Math.Seq.{take-append_seam, drop-append_seam}
use Rattle.std.proofs.lemmas.List.{append-nil, append_assoc}
use Rattle.std.proofs.lemmas.List.Concat.{flat_map-cons}
use Rattle.std.proofs.lemmas.Nat.{from_be_bytes-to_be_bytes_4}
use Rattle.keysym_core.specs.Keysym.{max_keysym}
use Rattle.compose_table_file.specs.TableFile.{AreKeysyms, AreNoKeysyms, fresh_bytes}
use Rattle.compose_table_file.specs.Fresh.{IsNoStart}

pub fits : (k : ℕ) → k ≤ max_keysym → k < 2 ^ 32
fits k l = omega (arith, l)

-- a keysym that begins some bytes is the only one, and so are the bytes behind it
pub one_start : (k j : ℕ) (x y : List ℕ) → k ≤ max_keysym → j ≤ max_keysym → to_be_bytes w32 k ++ x ≡ to_be_bytes w32 j ++ y → (k ≡ j) × (x ≡ y)
one_start k j x y lk lj e = (
  sym (from_be_bytes-to_be_bytes_4 k (fits k lk))
      ∙ ap (from_be_bytes w32) (sym (take-append_seam (to_be_bytes w32 k) x) ∙ ap (take 4) e ∙ take-append_seam (to_be_bytes w32 j) y)
      ∙ from_be_bytes-to_be_bytes_4 j (fits j lj),
  sym (drop-append_seam (to_be_bytes w32 k) x) ∙ ap (drop 4) e ∙ drop-append_seam (to_be_bytes w32 j) y,
)

-- the bytes of a keysym and of those after it
pub more : (k : ℕ) (ks rest : List ℕ) → fresh_bytes (k ∷ ks) ++ rest ≡ to_be_bytes w32 k ++ (fresh_bytes ks ++ rest)
more k ks rest = ap (λ (x : List ℕ). x ++ rest) (flat_map-cons (to_be_bytes w32) k ks) ∙ append_assoc (to_be_bytes w32 k) (fresh_bytes ks) rest

no_bytes : (k : ℕ) (x : List ℕ) → to_be_bytes w32 k ++ x ≡ [] → ⊥
no_bytes k x e = let l : length (to_be_bytes w32 k ++ x) ≡ 0 = ap length e in omega (arith, l, length-append (to_be_bytes w32 k) x)

-- what begins the bytes of keysyms is the bytes of the first of them
pub record Rest (before keysyms rest : List ℕ) : Type 0 where
  pub after : List ℕ
  pub are : AreKeysyms after
  pub bytes : rest ≡ fresh_bytes after
  pub whole : keysyms ≡ before ++ after

pub rest_of : (before keysyms rest : List ℕ) → AreKeysyms before → AreKeysyms keysyms → fresh_bytes before ++ rest ≡ fresh_bytes keysyms → Rest before keysyms rest
rest_of [] keysyms rest ab ak e = record { after = keysyms; are = ak; bytes = e; whole = refl }
rest_of (k ∷ ks) [] rest ab ak e = absurd (no_bytes k (fresh_bytes ks ++ rest) (sym (more k ks rest) ∙ e))
rest_of (k ∷ ks) (j ∷ js) rest ab ak e =
    let p = one_start k j (fresh_bytes ks ++ rest) (fresh_bytes js) ab.0 ak.0 (sym (more k ks rest) ∙ e ∙ flat_map-cons (to_be_bytes w32) j js) in
    let r = rest_of ks js rest ab.1 ak.1 p.1 in
    record { after = r.after; are = r.are; bytes = r.bytes; whole = ap₂ (λ (x : ℕ) (xs : List ℕ). x ∷ xs) (sym p.0) r.whole }

-- keysyms with the same bytes are the same
pub same_keysyms : (a b : List ℕ) → AreKeysyms a → AreKeysyms b → fresh_bytes a ≡ fresh_bytes b → a ≡ b
same_keysyms a b ka kb e = let r = rest_of a b [] ka kb (append-nil (fresh_bytes a) ∙ e) in go r.after r.bytes r.whole
  where
    go : (after : List ℕ) → [] ≡ fresh_bytes after → b ≡ a ++ after → a ≡ b
    go [] h w = sym (append-nil a) ∙ sym w
    go (k ∷ ks) h w = absurd (no_bytes k (fresh_bytes ks) (sym (flat_map-cons (to_be_bytes w32) k ks) ∙ sym h))

-- behind some keysyms there are bytes that begin with none: so the whole is none of keysyms
pub no_keysyms : (bytes before rest : List ℕ) → bytes ≡ fresh_bytes before ++ rest → AreKeysyms before → (rest ≡ [] → ⊥) → IsNoStart rest → AreNoKeysyms bytes
no_keysyms bytes before rest e kb some none keysyms ka is = let r = rest_of before keysyms rest kb ka (sym e ∙ is) in go r.after r.are r.bytes
  where
    go : (after : List ℕ) → AreKeysyms after → rest ≡ fresh_bytes after → ⊥
    go [] are h = some h
    go (k ∷ ks) are h = none k (fresh_bytes ks) (are.0, h ∙ flat_map-cons (to_be_bytes w32) k ks)

-- one more keysym
pub and_one : (before : List ℕ) (k : ℕ) → AreKeysyms before → k ≤ max_keysym → AreKeysyms (before ++ k ∷ [])
and_one [] k a l = (l, tt)
and_one (x ∷ before) k a l = (a.0, and_one before k a.1 l)
