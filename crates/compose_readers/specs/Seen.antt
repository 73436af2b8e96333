-- What a reader comes upon, as a value.
use Rattle.compose_readers.specs.Walks as walks
use Rattle.compose_readers.specs.declared.walking.What.{What}
use Rattle.compose_readers.specs.declared.walking.What.TheVariants.{Defines, LeftOut, Includes}

abbrev pub what_of : What → walks.What
what_of (Defines definition) = walks.defines definition.now
what_of (LeftOut cause) = walks.leaves_out cause
what_of (Includes path) = walks.leads_to path.now
