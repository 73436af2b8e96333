-- The first bytes determine the length of the next frame.
use Rattle.std.proofs.Common.{◌≡◌, ℕ, ◌+◌, ◌-◌, ◌*◌, ◌≤◌, List, [], ◌∷◌, true, cond, not, length, take, drop, get_or, suc, refl, sym, ◌∙◌, ap, arith, Fits, w8}
use Rattle.std.specs.Prelude.{Option, Some, None, Ok, option_map, nat_lt}
use Rattle.std.specs.Int.{from_be_bytes, w32}
use Rattle.std.proofs.Math.Facts.{Fits-lt-pow}
use Rattle.std.proofs.lemmas.Bool.{le-ltb}
use Rattle.compose_text.specs.Numbers.{is_between}
use Rattle.compose_wire.specs.Messages.{AreBytes}
use Rattle.compose_wire.specs.Frames.{Fault, fault_at, length_fault, unknown_kind, stated_size}
use Rattle.compose_wire.specs.Feeding.{IsSize, wire_fault}
use Rattle.compose_wire.proofs.NextFrame.{has_frame}

-- numbers below 256 are bytes
pub are_bytes : (h : List ℕ) → ((i : ℕ) → Fits w8 (get_or h i 0)) → AreBytes h
are_bytes [] f = tt
are_bytes (x ∷ h) f = (Fits-lt-pow (f 0), are_bytes h (λ i. f (suc i)))

-- the four bytes after kind and session are the length
size_read : (h : List ℕ) → 9 ≤ length h → get_or h 5 0 * 16777216 + get_or h 6 0 * 65536 + get_or h 7 0 * 256 + get_or h 8 0 ≡ stated_size h
size_read [] l = absurd (omega arith)
size_read (k ∷ []) l = absurd (omega arith)
size_read (k ∷ a ∷ []) l = absurd (omega arith)
size_read (k ∷ a ∷ b ∷ []) l = absurd (omega arith)
size_read (k ∷ a ∷ b ∷ c ∷ []) l = absurd (omega arith)
size_read (k ∷ a ∷ b ∷ c ∷ d ∷ []) l = absurd (omega arith)
size_read (k ∷ a ∷ b ∷ c ∷ d ∷ e ∷ []) l = absurd (omega arith)
size_read (k ∷ a ∷ b ∷ c ∷ d ∷ e ∷ f ∷ []) l = absurd (omega arith)
size_read (k ∷ a ∷ b ∷ c ∷ d ∷ e ∷ f ∷ g ∷ []) l = absurd (omega arith)
size_read (k ∷ a ∷ b ∷ c ∷ d ∷ e ∷ f ∷ g ∷ i ∷ t) l = refl

-- if there is a whole head, its length decides
head_decides : (h : List ℕ) → is_between 1 7 (get_or h 0 0) ≡ true → 9 ≤ length h → fault_at h ≡ length_fault (get_or h 0 0) (stated_size h)
head_decides [] known s = absurd (omega arith)
head_decides (k ∷ t) known s =
    ap (λ b. cond (not b) (Some unknown_kind) (cond (nat_lt (length t) 8) None (length_fault k (from_be_bytes w32 (take 4 (drop 4 t)))))) known
    ∙ ap (λ b. cond b None (length_fault k (from_be_bytes w32 (take 4 (drop 4 t))))) (le-ltb (length t) 8 (omega arith))

-- a length without a named fault has none
none_before : (o : Option Fault) → option_map wire_fault o ≡ None → o ≡ None
none_before None e = refl
none_before (Some f) e = cc

-- if the payload is held by the length in the head, there is a whole frame
module _ (h : List ℕ) (bytes : AreBytes h) (known : is_between 1 7 (get_or h 0 0) ≡ true) (head : 9 ≤ length h) (n : ℕ)
    (read : n ≡ get_or h 5 0 * 16777216 + get_or h 6 0 * 65536 + get_or h 7 0 * 256 + get_or h 8 0)
  where
    expected : n ≡ stated_size h
    expected = read ∙ size_read h head

    right : option_map wire_fault (length_fault (get_or h 0 0) n) ≡ None → fault_at h ≡ None
    right e = head_decides h known head ∙ ap (length_fault (get_or h 0 0)) (sym expected) ∙ none_before (length_fault (get_or h 0 0) n) e

    -- if the length is right and that much payload is held, there is a whole frame
    pub has_whole_frame : option_map wire_fault (length_fault (get_or h 0 0) n) ≡ None → n ≤ length h - 9 → IsSize (Ok (Some n)) h
    has_whole_frame e fits = (has_frame h bytes (right e) head (let s = expected in omega arith), expected, omega arith)
