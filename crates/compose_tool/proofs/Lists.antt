-- Lists of keys, one after another.
use Rattle.std.proofs.Common.{◌≡◌, ◌<◌, ◌+◌, ℕ, suc, List, [], ◌∷◌, ◌++◌, length, take, drop, get_or, refl, sym, ◌∙◌, ap, ap₂, append_assoc, drop-cons, arith}
use Rattle.keysym_core.specs.Names.{KeysymNames}
use Rattle.compose_model.specs.Table.{Definition}
use Rattle.compose_tool.specs.Typed.{typed_list, typed_lists}

-- the lines of one list more
pub lists_more : (names : KeysymNames) (table : List Definition) (rest own others counts : List ℕ) (index d : ℕ) (text more whole : List ℕ) → index < length counts
    → own ≡ take (get_or counts index d) rest → others ≡ drop (get_or counts index d) rest → more ≡ text ++ typed_list names table own
    → text ++ typed_lists names table rest (drop index counts) ≡ whole → more ++ typed_lists names table others (drop (index + 1) counts) ≡ whole
lists_more names table rest own others counts index d text more whole within first behind e h =
    let next : suc index ≡ index + 1 = omega arith in
    let left = drop (index + 1) counts in
    let each : drop index counts ≡ get_or counts index d ∷ left = drop-cons counts index d within ∙ ap (λ n. get_or counts index d ∷ drop n counts) next in
    ap₂ (λ t ks. t ++ typed_lists names table ks left) e behind
    ∙ append_assoc text (typed_list names table own) (typed_lists names table (drop (get_or counts index d) rest) left)
    ∙ ap (λ ks. text ++ (typed_list names table ks ++ typed_lists names table (drop (get_or counts index d) rest) left)) first
    ∙ ap (λ cs. text ++ typed_lists names table rest cs) (sym each) ∙ h
