-- Runs of bytes at the beginning: those that are skipped, and those that are kept.
use Rattle.std.proofs.Common.{◌≡◌, ℕ, suc, ◌+◌, List, [], ◌∷◌, ◌++◌, length, take, drop, Bool, true, false, cond, not, Option, Some, None, refl, sym, ◌∙◌, ap, one-add, take-append-drop}
use Rattle.std.specs.List.{list_all}
use Rattle.std.specs.Cmp.Lexicographic.{bytes_decides}
use Rattle.std.proofs.Math.Seq.{take-append_seam, drop-append_seam}
use Rattle.std.proofs.lemmas.Bool.{and_parts, and_from}
use Rattle.keysym_core.specs.Header.{run, run_length, after_run, begins_with}
use Rattle.compose_text.specs.Bytes.{begins}

-- ---- bytes that pass the test, before one that does not

-- if all these bytes pass the test, and the next does not, the run is as long as they are
pub run_length-all : (p : ℕ → Bool) (prefix rest : List ℕ) → list_all p prefix ≡ true → begins p rest ≡ false → run_length p (prefix ++ rest) ≡ length prefix
run_length-all p [] [] all stops = refl
run_length-all p [] (b ∷ rest) all stops = ap (λ t. cond (not (not t)) (1 + run_length p rest) 0) stops
run_length-all p (b ∷ prefix) rest all stops =
    let parts = and_parts (p b) (list_all p prefix) all in
    ap (λ t. cond (not (not t)) (1 + run_length p (prefix ++ rest)) 0) parts.0 ∙ ap (λ n. 1 + n) (run_length-all p prefix rest parts.1 stops) ∙ one-add (length prefix)

-- if all these bytes pass the test, and the next does not, they are the run
pub run_all : (p : ℕ → Bool) (prefix rest : List ℕ) → list_all p prefix ≡ true → begins p rest ≡ false → run p (prefix ++ rest) ≡ prefix
run_all p prefix rest all stops = ap (λ n. take n (prefix ++ rest)) (run_length-all p prefix rest all stops) ∙ take-append_seam prefix rest

-- if all these bytes pass the test, and the next does not, that one comes after the run
pub after_all : (p : ℕ → Bool) (prefix rest : List ℕ) → list_all p prefix ≡ true → begins p rest ≡ false → after_run p (prefix ++ rest) ≡ rest
after_all p prefix rest all stops = ap (λ n. drop n (prefix ++ rest)) (run_length-all p prefix rest all stops) ∙ drop-append_seam prefix rest

-- ---- the run at the beginning of any bytes

-- bytes are their first run and what follows it
pub parts_of : (p : ℕ → Bool) (bytes : List ℕ) → bytes ≡ run p bytes ++ after_run p bytes
parts_of p bytes = sym (take-append-drop (run_length p bytes) bytes)

-- one more byte
run_more : (p : ℕ → Bool) (b : ℕ) (bytes : List ℕ) → p b ≡ true → run_length p (b ∷ bytes) ≡ suc (run_length p bytes)
run_more p b bytes e = ap (λ t. cond (not (not t)) (1 + run_length p bytes) 0) e ∙ one-add (run_length p bytes)

run_none : (p : ℕ → Bool) (b : ℕ) (bytes : List ℕ) → p b ≡ false → run_length p (b ∷ bytes) ≡ 0
run_none p b bytes e = ap (λ t. cond (not (not t)) (1 + run_length p bytes) 0) e

-- every byte of a run passes the test
pub run_passes : (p : ℕ → Bool) (bytes : List ℕ) → list_all p (run p bytes) ≡ true
run_passes p [] = refl
run_passes p (b ∷ bytes) = go (p b) refl (run_passes p bytes)
  where
    go : (t : Bool) → p b ≡ t → list_all p (run p bytes) ≡ true → list_all p (run p (b ∷ bytes)) ≡ true
    go true e h = ap (λ n. list_all p (take n (b ∷ bytes))) (run_more p b bytes e) ∙ and_from (p b) (list_all p (run p bytes)) e h
    go false e h = ap (λ n. list_all p (take n (b ∷ bytes))) (run_none p b bytes e)

-- what follows a run does not begin with a byte that passes the test
pub after_stops : (p : ℕ → Bool) (bytes : List ℕ) → begins p (after_run p bytes) ≡ false
after_stops p [] = refl
after_stops p (b ∷ bytes) = go (p b) refl (after_stops p bytes)
  where
    go : (t : Bool) → p b ≡ t → begins p (after_run p bytes) ≡ false → begins p (after_run p (b ∷ bytes)) ≡ false
    go true e h = ap (λ n. begins p (drop n (b ∷ bytes))) (run_more p b bytes e) ∙ h
    go false e h = ap (λ n. begins p (drop n (b ∷ bytes))) (run_none p b bytes e) ∙ e

-- the number of bytes of a run is its length
pub length-run : (p : ℕ → Bool) (bytes : List ℕ) → length (run p bytes) ≡ run_length p bytes
length-run p [] = refl
length-run p (b ∷ bytes) = go (p b) refl (length-run p bytes)
  where
    go : (t : Bool) → p b ≡ t → length (run p bytes) ≡ run_length p bytes → length (run p (b ∷ bytes)) ≡ run_length p (b ∷ bytes)
    go true e h = ap (λ n. length (take n (b ∷ bytes))) (run_more p b bytes e) ∙ ap suc h ∙ sym (run_more p b bytes e)
    go false e h = ap (λ n. length (take n (b ∷ bytes))) (run_none p b bytes e) ∙ sym (run_none p b bytes e)

-- ---- a given start

-- a start with bytes after it begins with the start
pub starts : (start rest : List ℕ) → begins_with start (start ++ rest) ≡ true
starts start rest = (bytes_decides (take (length start) (start ++ rest)) start).1 (take-append_seam start rest)

-- bytes that begin with a start are the start and what is left after it
pub start_sound : (start bytes : List ℕ) → begins_with start bytes ≡ true → bytes ≡ start ++ drop (length start) bytes
start_sound start bytes h = sym (take-append-drop (length start) bytes) ∙ ap (λ t. t ++ drop (length start) bytes) ((bytes_decides (take (length start) bytes) start).0 h)

-- ---- tests

-- if a value is there only if a test passes, and is there, the test passed
pub some_if : {A : Type 0} (t : Bool) (o : Option A) (x : A) → cond t o None ≡ Some x → (t ≡ true) × (o ≡ Some x)
some_if true o x e = (refl, e)
some_if false o x e = cc
