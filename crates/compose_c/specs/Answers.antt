-- The answers of a search for files: what the C caller found at each path that it was asked to look
-- for.
use Rattle.std.specs.Prelude.{ℕ, zero, suc, ◌==◌, if◌then◌else◌, List, [], ◌∷◌, ◌++◌, Option, Some, None}
use Rattle.std.specs.Int.{from_be_bytes, w16}
use Rattle.std.specs.Str.{is_utf8}
use Rattle.compose_model.specs.Step.{is_empty}
use Rattle.compose_bundle.specs.Decoded.{◌>>=◌, split, sized_by_2, sized_by_4}
use Rattle.compose_find.specs.Found.{TriedFile}

-- a path is followed by one byte: 0 if there is no file, or 1, the length of the file in four
-- bytes, and its bytes
abbrev pub file_at : List ℕ → List ℕ → Option (TriedFile × List ℕ)
file_at path [] = None
file_at path (b ∷ rest) =
    if b == 0 then Some (record { path = path; bytes = None }, rest) else
    if b == 1 then (sized_by_4 rest >>= λ p. Some (record { path = path; bytes = Some p.0 }, p.1)) else None

-- an answer: the length of its path in two bytes, the path, which is UTF-8, and what was found
-- there
abbrev pub answer_at : List ℕ → Option (TriedFile × List ℕ)
answer_at bytes = sized_by_2 bytes >>= λ p. if is_utf8 p.0 then file_at p.0 p.1 else None

-- this number of further answers, and the bytes after them
abbrev pub answers_at : ℕ → List TriedFile → List ℕ → Option (List TriedFile × List ℕ)
answers_at zero files bytes = Some (files, bytes)
answers_at (suc n) files bytes = answer_at bytes >>= λ p. answers_at n (files ++ p.0 ∷ []) p.1

abbrev pub ended : List TriedFile × List ℕ → Option (List TriedFile)
ended p = if is_empty p.1 then Some p.0 else None

-- the answers in a payload: their number in two bytes, and the answers; nothing follows. All
-- numbers are big-endian
abbrev pub answers_of : List ℕ → Option (List TriedFile)
answers_of payload = split 2 payload >>= λ p. answers_at (from_be_bytes w16 p.0) [] p.1 >>= ended
