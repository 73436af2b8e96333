-- What a pull and a push do to the known bytes and to the mark of failure (this project's profile).
use Rattle.std.specs.Prelude.{◌≡◌, ℕ, ◌<◌, ◌≤◌, Bool, true, List, ◌++◌, length, take, Option, None, Some, MatchResult, Result, ⊤}
use Rattle.std.specs.Io.KnownBytes.{ReadConsumes, WriteAppends, Appends}

-- no more bytes than this are asked for at once
abbrev pub max_piece : ℕ
max_piece = 4096

-- a pull takes n bytes from the beginning and leaves the mark as it is, and returns none only at
-- the end or if the piece is empty; a failure sets the mark and takes none
abbrev pub Pulls : {E : Type 0} → Option (List ℕ) → Option (List ℕ) → Bool → Bool → Result ℕ E → List ℕ → Type 0
Pulls left left' failed failed' r piece = ReadConsumes left left' r piece × MatchResult r (λ n. (n ≤ length piece) × (failed' ≡ failed)) (λ _. failed' ≡ true)

-- a push of some bytes takes one or more of them and leaves the mark as it is; a failure sets the
-- mark and takes none
abbrev pub Pushes : {E : Type 0} → Option (List ℕ) → Option (List ℕ) → Bool → Bool → Result ℕ E → List ℕ → Type 0
Pushes written written' failed failed' r piece = WriteAppends written written' r piece × MatchResult r (λ n. (n ≤ length piece) × (0 < length piece → 0 < n) × (failed' ≡ failed)) (λ _. failed' ≡ true)

-- a part of the bytes was written, and not all
abbrev pub PushesPart : Option (List ℕ) → Option (List ℕ) → List ℕ → Type 0
PushesPart written written' bytes = (n : ℕ) × (n < length bytes) × Appends written written' (take n bytes)

-- what is kept and what is left are together as before, if the bytes are known
abbrev pub SameStream : List ℕ → Option (List ℕ) → List ℕ → Option (List ℕ) → Type 0
SameStream kept None kept' left' = ⊤
SameStream kept (Some xs) kept' None = ⊥
SameStream kept (Some xs) kept' (Some ys) = kept' ++ ys ≡ kept ++ xs
