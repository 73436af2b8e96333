-- The kinds of the program and those of the model.
use Rattle.compose_model.specs.Follows.{Kind as Difference, cancelled, text_differs, waiting}
use Rattle.compose_walk.specs.declared.evidence.Kind.{Kind}
use Rattle.compose_walk.specs.declared.evidence.Kind.TheVariants.{Text, Cancelled, Waiting}

abbrev pub kind_of : Kind → Difference
kind_of Text = text_differs
kind_of Cancelled = cancelled
kind_of Waiting = waiting
