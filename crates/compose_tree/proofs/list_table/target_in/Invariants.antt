use Rattle.std.proofs.Common.{◌≡◌, drop}
use Rattle.std.specs.Prelude.{nat_eq}
use Rattle.std.specs.List.{find}
use Rattle.compose_tree.proofs.list_table.target_in.Given as goal

abbrev pub invariant-loop-edge : goal.invariant-loop-edge
invariant-loop-edge l = find (λ e. nat_eq e.keysym l.keysym) l.edges ≡ find (λ e. nat_eq e.keysym l.keysym) (drop l.edge-index l.edges)
