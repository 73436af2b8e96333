use Rattle.std.proofs.Common.{◌≡◌, take}
use Rattle.compose_make.specs.Candidates.{is_plain}
use Rattle.compose_make.specs.Wanted.{AreLeast, characters_of}
use Rattle.compose_make.proofs.typings.wanted_rows.Given as goal

abbrev pub invariant-loop-index : goal.invariant-loop-index
invariant-loop-index g l = record {
  characters : characters_of l.rows.items ≡ take l.index l.repertoire.characters;
  least : AreLeast (is_plain l.names (g.U.ComposeTable.definitions l.new) l.repertoire) l.rows.items;
}
