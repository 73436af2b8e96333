-- The number of keys with which two sequences end, one key at a time.
use Rattle.std.proofs.Common.{◌≡◌, ◌+◌, ℕ, List, [], ◌∷◌, ◌++◌, cond, ap₂, refl}
use Rattle.std.specs.Prelude.{bytes_eq}
use Rattle.std.specs.Borrow.{Bor}
use Rattle.std.proofs.lemmas.List.{reverse-append}
use Rattle.compose_page.specs.Keys.{Keys, common_start, common_end}

-- no common keys if one of them has none
pub starts_none : (keys : Keys) → common_start keys [] ≡ 0
starts_none [] = refl
starts_none (key ∷ keys) = refl

-- the last keys first
pub ends_more : (keys others : Keys) (key other : Bor (List ℕ))
    → common_end (keys ++ key ∷ []) (others ++ other ∷ []) ≡ cond (bytes_eq key.now other.now) (1 + common_end keys others) 0
ends_more keys others key other = ap₂ common_start (reverse-append keys (key ∷ [])) (reverse-append others (other ∷ []))
