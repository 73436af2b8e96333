-- The end of a line as a value.
use Rattle.compose_readers.specs.Files as files
use Rattle.compose_readers.specs.declared.file.LineEnd.{LineEnd}
use Rattle.compose_readers.specs.declared.file.LineEnd.TheVariants.{Nothing, LeftOut, Includes}

abbrev pub end_of : LineEnd → files.LineEnd
end_of Nothing = files.nothing
end_of (LeftOut cause) = files.left_out cause
end_of (Includes path) = files.includes path.items
