-- Reading answers one after another.
use Rattle.std.proofs.Common.{◌≡◌, ℕ, suc, zero, ◌-◌, ◌+◌, ◌<◌, List, [], ◌∷◌, ◌++◌, ◌∙◌, sym, ap, arith}
use Rattle.std.specs.Prelude.{Option, Some, None}
use Rattle.compose_bundle.specs.Decoded.{◌>>=◌}
use Rattle.compose_find.specs.Found.{TriedFile}
use Rattle.compose_c.specs.Answers.{answer_at, answers_at}

-- reading one answer leaves the answers after it
pub next_answer : (count index : ℕ) (files : List TriedFile) (file : TriedFile) (bytes rest : List ℕ) → index < count → answer_at bytes ≡ Some (file, rest)
    → answers_at (count - index) files bytes ≡ answers_at (count - (index + 1)) (files ++ file ∷ []) rest
next_answer count index files file bytes rest l a = go (count - index) (omega arith)
  where
    go : (m : ℕ) → m ≡ suc (count - (index + 1)) → answers_at m files bytes ≡ answers_at (count - (index + 1)) (files ++ file ∷ []) rest
    go m e = ap (λ k. answers_at k files bytes) e ∙ ap (λ o. o >>= (λ p. answers_at (count - (index + 1)) (files ++ p.0 ∷ []) p.1)) a

-- if the next answer can't be read, the remaining answers can't be read
pub no_answer : (count index : ℕ) (files : List TriedFile) (bytes : List ℕ) → index < count → answer_at bytes ≡ None → answers_at (count - index) files bytes ≡ None
no_answer count index files bytes l a = go (count - index) (omega arith)
  where
    go : (m : ℕ) → m ≡ suc (count - (index + 1)) → answers_at m files bytes ≡ None
    go m e = ap (λ k. answers_at k files bytes) e ∙ ap (λ o. o >>= (λ p. answers_at (count - (index + 1)) (files ++ p.0 ∷ []) p.1)) a
