-- The meaning of numbers in C structs.
use Rattle.std.specs.Prelude.{ℕ, ◌==◌, nat_le, List, [], take, if◌then◌else◌}
use Rattle.std.specs.List.{list_all}
use Rattle.std.specs.Str.{is_utf8}
use Rattle.keysym_core.specs.Keysym.{is_keysym}
use Rattle.compose_model.specs.declared.Status.{Status}
use Rattle.compose_model.specs.declared.Status.TheVariants.{Nothing, Composing, Composed, Cancelled}

-- the values of enum xkb_compose_status; any other number means nothing
abbrev pub status_of : ℕ → Status
status_of n = if n == 1 then Composing else if n == 2 then Composed else if n == 3 then Cancelled else Nothing

abbrev pub status_number : Status → ℕ
status_number Nothing = 0
status_number Composing = 1
status_number Composed = 2
status_number Cancelled = 3

-- the first n items of an array, or none if it has fewer than n
abbrev pub front : {A : Type 0} → ℕ → ℕ → List A → List A
front room n items = if nat_le n room then take n items else []

-- the numbers if all are keysyms, otherwise none
abbrev pub keysyms_of : List ℕ → List ℕ
keysyms_of numbers = if list_all is_keysym numbers then numbers else []

-- the bytes if they are UTF-8, otherwise none
abbrev pub text_of : List ℕ → List ℕ
text_of bytes = if is_utf8 bytes then bytes else []
