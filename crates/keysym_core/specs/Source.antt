-- Where names come from: the header that is built in, or one that was read.
use Rattle.keysym_core.specs.Names.{KeysymNames}
use Rattle.keysym_core.specs.BuiltIn.{built_in}
use Rattle.keysym_core.specs.declared.names.Source.{Source}
use Rattle.keysym_core.specs.declared.names.Source.TheVariants.{BuiltIn, Read}

abbrev pub names_of_source : Source → KeysymNames
names_of_source BuiltIn = built_in
names_of_source (Read names) = names
