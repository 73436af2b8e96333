use Rattle.std.proofs.Common.{◌≡◌, ◌∙◌, List, ℕ, length, map, drop, subst, arith, rules}
use Rattle.std.proofs.lemmas.List.{take_at}
use Rattle.compose_model.specs.Table.{is_proper_prefix}
use Rattle.compose_model.specs.Nodes.{leaves}
use Rattle.compose_model.proofs.NodeLemmas.{node_zero}
use Rattle.compose_compare.specs.Passes.{IsWritten}
use Rattle.compose_compare.proofs.Written.{whole_table}
use Rattle.compose_lookup.proofs.lengths.sequence_lengths.Goals as goal

pub returns-clause-lengths : goal.returns-clause-lengths
returns-clause-lengths g c =
    let table = g.T.ComposeTable.definitions c.args.table.now in
    let after : List ℕ = c.write_lengths.new.lengths in
    let whole : after ≡ map length (leaves table) = whole_table 0 length table c.node_count.ensures.settled c.deref_mut.result.now after c.write_lengths.ensures.fits
    (subst (λ (p : List ℕ). IsWritten 0 length table (is_proper_prefix p) c.deref_mut.result.now after) (node_zero table) c.write_lengths.ensures.written) in
    let long : length after ≡ c.resize.new.self.len = first_of (omega arith, search rules) in
    take_at after (drop (length after) c.resize.new.self.items) c.resize.new.self.len long ∙ whole
