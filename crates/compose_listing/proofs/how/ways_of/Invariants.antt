use Rattle.std.proofs.Common.{◌≡◌, ℕ, List, map, take, string_bytes}
use Rattle.std.specs.Prelude.{flat_map, option_copied}
use Rattle.compose_model.specs.Nodes.{leaves}
use Rattle.compose_read.specs.Lines.{Visit}
use Rattle.compose_places.specs.Counting.{counting_line}
use Rattle.compose_listing.specs.Answers.{ways, is_given}
use Rattle.compose_listing.proofs.how.ways_of.Given as goal

-- the lines for the texts so far, and whether there are any for each
abbrev pub invariant-loop-text : goal.invariant-loop-text
invariant-loop-text g l = record {
  lines : (visits : List Visit) → l.listed.lines.now ≡ map (counting_line l.listed.names.now visits) (leaves (g.T.ComposeTable.definitions l.listed.table.now))
      → string_bytes l.lines ≡ flat_map
      (ways l.asked.form l.listed.names.now visits (map (λ path. path.now) l.listed.paths.now) (g.T.ComposeTable.definitions l.listed.table.now) (option_copied l.asked.repertoire) l.asked.first)
      (map (λ text. text.now) (take l.text-index l.texts));
  found : l.found.items
      ≡ map (is_given (g.T.ComposeTable.definitions l.listed.table.now) (option_copied l.asked.repertoire)) (map (λ text. text.now) (take l.text-index l.texts));
}
