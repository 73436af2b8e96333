-- The line at a position. Definitions for private functions.
use Rattle.std.specs.Prelude.{ℕ, List}
use Rattle.compose_read.specs.Lines.{Visit}
use Rattle.compose_skip.specs.declared.line.Place.{Place}

abbrev pub visit : Place → List ℕ → Visit
visit place bytes = record { source = place.source; line = place.line; bytes = bytes; depth = 0 }
