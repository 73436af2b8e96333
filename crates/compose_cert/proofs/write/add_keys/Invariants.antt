use Rattle.std.proofs.Common.{◌≡◌, ◌∷◌, ◌++◌, drop, flat_map, string_bytes}
use Rattle.std.specs.List.{list_all}
use Rattle.keysym_core.specs.Keysym.{is_keysym}
use Rattle.compose_cert.specs.Spelling.{keysym_text}
use Rattle.compose_cert.proofs.write.add_keys.Given as goal

-- the text so far and the remaining words are the whole, and all keys are keysyms if the remaining
-- ones are
abbrev pub invariant-loop-key : goal.invariant-loop-key
invariant-loop-key l =
    (string_bytes l.text ++ flat_map (λ k. 32 ∷ keysym_text k) (drop l.key-index l.keys) ≡ string_bytes l.fn.text ++ flat_map (λ k. 32 ∷ keysym_text k) l.keys)
    × (list_all is_keysym (drop l.key-index l.keys) ≡ list_all is_keysym l.keys)
