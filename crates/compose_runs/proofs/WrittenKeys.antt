-- Words that are read one by one.
use Rattle.std.proofs.Common.{◌≡◌, ◌∙◌, ◌<◌, ◌+◌, ap, sym, subst, ℕ, List, [], ◌∷◌, ◌++◌, map, take, length, get_or, Bor, string_bytes, Global}
use Rattle.std.proofs.lemmas.List.{map-append, take_more}
use Rattle.std.specs.declared.string.String.{String}
use Rattle.keysym_core.specs.Names.{KeysymNames}
use Rattle.compose_runs.specs.WrittenKeys.{AreNamed, IsWritten}

abbrev pub now_of : Bor (List ℕ) → List ℕ
now_of b = b.now

-- another word
pub named_more : (names : KeysymNames) (words keys : List (List ℕ)) (word key : List ℕ) → AreNamed names words keys → IsWritten names word key → AreNamed names (words ++ word ∷ []) (keys ++ key ∷ [])
named_more names [] [] word key are is = (is, tt)
named_more names [] (k ∷ ks) word key are is = absurd are
named_more names (w ∷ ws) [] word key are is = absurd are
named_more names (w ∷ ws) (k ∷ ks) word key are is = (are.0, named_more names ws ks word key are.1 is)

-- the step of the loop over the words
pub named_step : (names : KeysymNames) (words : List (Bor (List ℕ))) (i : ℕ) (d : Bor (List ℕ)) (keys : List (String Global)) (key : String Global) → i < length words
    → AreNamed names (map now_of (take i words)) (map string_bytes keys) → IsWritten names (get_or words i d).now (string_bytes key)
    → AreNamed names (map now_of (take (i + 1) words)) (map string_bytes (keys ++ key ∷ []))
named_step names words i d keys key within are is =
    let x = get_or words i d in
    let more : map now_of (take (i + 1) words) ≡ map now_of (take i words) ++ x.now ∷ [] = ap (map now_of) (take_more words i d within) ∙ map-append now_of (take i words) (x ∷ []) in
    subst (λ l. AreNamed names l (map string_bytes (keys ++ key ∷ []))) (sym more)
    (subst (λ l. AreNamed names (map now_of (take i words) ++ x.now ∷ []) l) (sym (map-append string_bytes keys (key ∷ [])))
    (named_more names (map now_of (take i words)) (map string_bytes keys) x.now (string_bytes key) are is))
