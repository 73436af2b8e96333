-- What a line of a file says to a reader.
use Rattle.std.specs.Prelude.{ℕ, Bool, List}

-- a sequence of keysyms, the bytes that are typed, and whether a string gives them
pub record Definition : Type 0 where
  pub keys : List ℕ
  pub text : List ℕ
  pub has_string : Bool
