use Rattle.std.proofs.Common.{◌≡◌, ◌<◌, ℕ, List, Bool, true, false, length, get_or, refl, sym, ◌∙◌}
use Rattle.std.specs.List.{list_all}
use Rattle.std.proofs.lemmas.List.Folds.{list_all_at}
use Rattle.keysym_core.specs.Keysym.{is_keysym}
use Rattle.compose_state.proofs.PathNodes.{at_root, at_in_range, at_next, at_stop}
use Rattle.compose_c.proofs.feeding.node_of.Goals as goal

-- a number is a keysym if all of the numbers are
one_of : (numbers : List ℕ) (i : ℕ) → i < length numbers → list_all is_keysym numbers ≡ true → is_keysym (get_or numbers i 0) ≡ true
one_of numbers i less all = go (is_keysym (get_or numbers i 0)) refl
  where
    go : (b : Bool) → is_keysym (get_or numbers i 0) ≡ b → is_keysym (get_or numbers i 0) ≡ true
    go true e = e
    go false e = let clash : false ≡ true = sym (list_all_at is_keysym numbers i 0 less e) ∙ all in cc

pub loop-index-init : goal.loop-index-init
loop-index-init g c = at_root (g.T.ComposeTable.definitions c.args.table.now) c.args.numbers.now

pub child_at-requires : goal.child_at-requires
child_at-requires g c = record {
  at = at_in_range (g.T.ComposeTable.definitions c.args.table.now) c.args.numbers.now c.loop-index.index c.loop-index.node.0 c.loop-index.invariant;
  keysym = one_of c.args.numbers.now c.loop-index.index c.loop-index-test.true c.requires.keysyms;
}

pub returns-in_err-node : goal.returns-in_err-node
returns-in_err-node g c =
    c.from_residual.ensures ∙
    sym (at_stop (g.T.ComposeTable.definitions c.args.table.now) c.args.numbers.now c.loop-index.index c.loop-index.node.0 (get_or c.args.numbers.now c.loop-index.index 0) 0
    c.loop-index.invariant c.loop-index-test.true refl (sym c.child_at.ensures ∙ c.in_err-node.was))

pub loop-index-preserved : goal.loop-index-preserved
loop-index-preserved g c =
    at_next (g.T.ComposeTable.definitions c.args.table.now) c.args.numbers.now c.loop-index.index c.loop-index.node.0 (get_or c.args.numbers.now c.loop-index.index 0) 0 c.in_ok-node.node
    c.loop-index.invariant c.loop-index-test.true refl (sym c.child_at.ensures ∙ c.in_ok-node.was)
