-- Which keysyms a load may list as fresh, as the service keeps it.
use Rattle.std.specs.Prelude.{ℕ, List, Option, Some, None}
use Rattle.std.specs.declared.vec.Vec.{Vec}
use Rattle.std.specs.declared.alloc.Global.{Global}

-- their list, or none if any keysym may be listed
abbrev pub list_of : Option (Vec ℕ Global) → Option (List ℕ)
list_of None = None
list_of (Some keysyms) = Some keysyms.items
