-- Reading keysyms from bytes, four for each.
use Rattle.std.proofs.Common.{◌≡◌, ℕ, suc, ◌+◌, ◌-◌, ◌*◌, ◌<◌, ◌≤◌, List, [], ◌∷◌, ◌++◌, length, take, drop, get_or, refl, sym, ◌∙◌, ap, subst, arith, length-drop}
use Rattle.std.proofs.lemmas.List.{take_all}
use Rattle.compose_wire.specs.Messages.{ReplyBody, opened, fed, was_reset, closed, loaded, state, refused}
use Rattle.compose_wire.specs.Frames.{answer_kind, answer_payload}
use Rattle.compose_client.specs.Replies.{AreKeysyms, AnswerFits}
use Rattle.compose_client.specs.Giving.{keysyms_at}
use Rattle.compose_client.proofs.OneReply.{keysyms_again}

-- four bytes are a keysym
pub more_keysyms : (bytes : List ℕ) → 4 ≤ length bytes
    → keysyms_at bytes ≡ (get_or bytes 0 0 * 16777216 + get_or bytes 1 0 * 65536 + get_or bytes 2 0 * 256 + get_or bytes 3 0) ∷ keysyms_at (drop 4 bytes)
more_keysyms [] l = absurd (omega arith)
more_keysyms (a ∷ []) l = absurd (omega arith)
more_keysyms (a ∷ b ∷ []) l = absurd (omega arith)
more_keysyms (a ∷ b ∷ c ∷ []) l = absurd (omega arith)
more_keysyms (a ∷ b ∷ c ∷ d ∷ rest) l = refl

-- fewer are none
pub no_keysyms : (bytes : List ℕ) → length bytes < 4 → keysyms_at bytes ≡ []
no_keysyms [] l = refl
no_keysyms (a ∷ []) l = refl
no_keysyms (a ∷ b ∷ []) l = refl
no_keysyms (a ∷ b ∷ c ∷ []) l = refl
no_keysyms (a ∷ b ∷ c ∷ d ∷ rest) l = absurd (omega arith)

-- keysyms and one more keysym are keysyms
pub one_more : (ks : List ℕ) (k : ℕ) → AreKeysyms ks → k ≤ 0x1fffffff → AreKeysyms (ks ++ k ∷ [])
one_more [] k a l = (l, tt)
one_more (j ∷ ks) k a l = (a.0, one_more ks k a.1 l)

-- if each number is a keysym's, they are keysyms
pub each_is_keysym : (ks : List ℕ) → ((k : ℕ) → k < length ks → get_or ks k 0 ≤ 0x1fffffff) → AreKeysyms ks
each_is_keysym [] f = tt
each_is_keysym (j ∷ ks) f = (f 0 (omega arith), each_is_keysym ks (λ k h. f (suc k) (omega arith)))

-- a number after others that is a keysym's
pub is_keysym : (ks : List ℕ) (k : ℕ) (more : List ℕ) → AreKeysyms (ks ++ k ∷ more) → k ≤ 0x1fffffff
is_keysym [] k more a = a.0
is_keysym (j ∷ ks) k more a = is_keysym ks k more a.1

-- there are at least four bytes for each keysym that is read
pub few_keysyms : (bytes : List ℕ) → 4 * length (keysyms_at bytes) ≤ length bytes
few_keysyms [] = omega arith
few_keysyms (a ∷ []) = omega arith
few_keysyms (a ∷ b ∷ []) = omega arith
few_keysyms (a ∷ b ∷ c ∷ []) = omega arith
few_keysyms (a ∷ b ∷ c ∷ d ∷ rest) = omega (arith, few_keysyms rest)

-- what follows two bytes, cut at the end
pub after_two : (bytes : List ℕ) → take (length bytes - 2) (drop 2 bytes) ≡ drop 2 bytes
after_two bytes = take_all (length bytes - 2) (drop 2 bytes) (omega (arith, length-drop 2 bytes))

-- a state with a keysym that is too large is no reply's
pub no_state : (bytes : List ℕ) → (AreKeysyms (keysyms_at (drop 2 bytes)) → ⊥) → (v : ReplyBody) → AnswerFits v → answer_kind v ≡ 0x86 → answer_payload v ≡ bytes → ⊥
no_state bytes absent opened f k p = omega arith
no_state bytes absent (fed status accepted text) f k p = omega arith
no_state bytes absent was_reset f k p = omega arith
no_state bytes absent closed f k p = omega arith
no_state bytes absent (loaded count) f k p = omega arith
no_state bytes absent (state status pending) f k p = absent (subst (λ (ks : List ℕ). AreKeysyms ks) (sym (keysyms_again pending f.0) ∙ ap (λ all. keysyms_at (drop 2 all)) p) f.0)
no_state bytes absent (refused why) f k p = omega arith
