-- The keys of a line, one after another.
use Rattle.std.proofs.Common.{◌≡◌, ◌≤◌, ◌<◌, ◌+◌, ℕ, Bool, true, false, List, [], ◌++◌, ◌&&◌, length, map, drop, get_or, Bor, sym, ◌∙◌, ap, arith, append_assoc, append-nil}
use Rattle.std.specs.List.{list_all}
use Rattle.std.proofs.Math.ListN.{drop_of_length-le}
use Rattle.std.proofs.lemmas.List.{length-map}
use Rattle.compose_skip.specs.Libxkbcommon.{key_text, keys_text}
use Rattle.compose_skip.proofs.Parts.{at_event}

abbrev pub named : List (Bor (List ℕ)) → List (List ℕ)
named keys = map (λ k. k.now) keys

no_key : (keys : List (Bor (List ℕ))) (index : ℕ) → length keys ≤ index → drop index (named keys) ≡ []
no_key keys index l = drop_of_length-le (named keys) (let n = length-map keys (λ (k : Bor (List ℕ)). k.now) in omega (arith, n))

module _ (p : List ℕ → Bool) (keys : List (Bor (List ℕ))) (index : ℕ) where
  -- one key fails the test
  pub key_fails : (d : Bor (List ℕ)) (whole : Bool) → index < length keys → p (get_or keys index d).now ≡ false → list_all p (drop index (named keys)) ≡ whole → false ≡ whole
  key_fails d whole l h e = sym (ap (list_all p) (at_event keys index d l) ∙ ap (λ b. b && list_all p (drop (index + 1) (named keys))) h) ∙ e

  -- one key passes it
  pub key_passes : (d : Bor (List ℕ)) (whole : Bool) → index < length keys → p (get_or keys index d).now ≡ true → list_all p (drop index (named keys)) ≡ whole
      → list_all p (drop (index + 1) (named keys)) ≡ whole
  key_passes d whole l h e = sym (ap (list_all p) (at_event keys index d l) ∙ ap (λ b. b && list_all p (drop (index + 1) (named keys))) h) ∙ e

  -- no key is left
  pub keys_pass : (whole : Bool) → length keys ≤ index → list_all p (drop index (named keys)) ≡ whole → true ≡ whole
  keys_pass whole l e = sym (ap (list_all p) (no_key keys index l)) ∙ e

module _ (strict : List ℕ → List ℕ) (keys : List (Bor (List ℕ))) (index : ℕ) where
  -- one key more is written
  pub key_written : (d : Bor (List ℕ)) (line more whole : List ℕ) → index < length keys → more ≡ line ++ key_text (strict (get_or keys index d).now)
      → line ++ keys_text (map strict (drop index (named keys))) ≡ whole → more ++ keys_text (map strict (drop (index + 1) (named keys))) ≡ whole
  key_written d line more whole l is e =
      ap (λ bs. bs ++ keys_text (map strict (drop (index + 1) (named keys)))) is
      ∙ append_assoc line (key_text (strict (get_or keys index d).now)) (keys_text (map strict (drop (index + 1) (named keys))))
      ∙ ap (λ ks. line ++ keys_text (map strict ks)) (sym (at_event keys index d l)) ∙ e

  pub keys_written : (line whole : List ℕ) → length keys ≤ index → line ++ keys_text (map strict (drop index (named keys))) ≡ whole → line ≡ whole
  keys_written line whole l e = sym (ap (λ ks. line ++ keys_text (map strict ks)) (no_key keys index l) ∙ append-nil line) ∙ e
