-- The tree of a table, and the notes on files that lie outside of it.
use Rattle.std.proofs.Common.{◌≡◌, ap, sym, subst, ℕ, List, Bor, Global}
use Rattle.std.specs.Prelude.{Option, Some, None, option_copied, MatchOption, Result, Ok, Err, IfOk, string_bytes}
use Rattle.std.specs.Option.{option_or}
use Rattle.std.specs.declared.alloc.AllocError.{AllocError}
use Rattle.std.specs.declared.string.String.{String}
use Rattle.compose_find.specs.Found.{FoundSource}
use Rattle.compose_find.specs.Trees.{IsTableOf}
use Rattle.compose_manifest.specs.Outside.{outside_text}
use Rattle.compose_input.specs.Search.{IsTree, IsNote}
use Rattle.compose_input.specs.declared.places.Places.{Places}

-- the folder that was given is the tree, or else the one in which the path is that of a locale's
-- table
pub is_tree : (given found : Option (Bor (List ℕ))) (tree : Bor (List ℕ)) (path : List ℕ) → Some tree ≡ option_or given found
    → MatchOption found ((tree : List ℕ) → ¬ (IsTableOf tree path)) (λ tree. IsTableOf tree.now path) → IsTree (option_copied given) path (Some tree.now)
is_tree (Some g) found tree path e shows = ap option_copied e
is_tree None found tree path e shows = subst (λ (o : Option (Bor (List ℕ))). MatchOption o ((tree : List ℕ) → ¬ (IsTableOf tree path)) (λ tree. IsTableOf tree.now path)) (sym e) shows

-- the lines about the files that lie outside of the tree
pub is_note : (places : Places) (path : List ℕ) (found : List FoundSource) (tree : List ℕ) (r : Result (String Global) AllocError) → IsTree (option_copied places.tree) path (Some tree)
    → IfOk r (λ text. string_bytes text ≡ outside_text tree (option_copied places.root) found) → IfOk r (λ text. IsNote places path found (string_bytes text))
is_note places path found tree (Ok text) is e = (Some tree, is, e)
is_note places path found tree (Err fault) is e = tt
