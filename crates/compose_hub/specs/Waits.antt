-- What is told of the sockets while a service waits.
use Rattle.std.specs.Prelude.{ℕ, List, ◌++◌, Option, Some, None}
use Rattle.compose_hub.specs.declared.sockets.Ready.{Ready}

-- a wait that ended: what was ready then, and the nanoseconds that had passed since time was last
-- told
pub record Wait : Type 0 where
  pub ready : List Ready
  pub passed : ℕ

-- the waits so far, if they are known, and then these
abbrev pub waits_more : Option (List Wait) → List Wait → Option (List Wait)
waits_more None more = None
waits_more (Some waits) more = Some (waits ++ more)
