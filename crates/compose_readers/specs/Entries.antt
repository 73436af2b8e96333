-- The definitions that a table takes until it is full.
use Rattle.std.specs.Prelude.{ℕ, ◌+◌, Bool, nat_lt, if◌then◌else◌, bytes_eq, List, [], ◌∷◌, ◌++◌, length, take, Option, Some, None}
use Rattle.std.specs.List.{list_any}
use Rattle.compose_readers.specs.Definitions.{Definition}
use Rattle.compose_readers.specs.Fates.{Entry}

-- the nodes of a table are the beginnings of its sequences, each once
abbrev pub with_node : List (List ℕ) → List ℕ → List (List ℕ)
with_node nodes node = if list_any (bytes_eq node) nodes then nodes else nodes ++ node ∷ []

-- with the beginnings of a sequence that follow the one that it goes on from
abbrev pub with_nodes_from : List (List ℕ) → List ℕ → List ℕ → List (List ℕ)
with_nodes_from nodes begun [] = nodes
with_nodes_from nodes begun (k ∷ keys) = with_nodes_from (with_node nodes (begun ++ k ∷ [])) (begun ++ k ∷ []) keys

abbrev pub with_nodes : List (List ℕ) → List ℕ → List (List ℕ)
with_nodes nodes keys = with_nodes_from nodes [] keys

-- ---- what is taken

-- each key may need a node of its own, of fewer than `most`
abbrev pub has_room : ℕ → List (List ℕ) → Definition → Bool
has_room most nodes d = nat_lt (length nodes + length d.keys) most

abbrev pub entry_taken : ℕ → List (List ℕ) → Entry → Entry
entry_taken most nodes None = None
entry_taken most nodes (Some d) = if has_room most nodes d then Some d else None

abbrev pub nodes_after : ℕ → List (List ℕ) → Entry → List (List ℕ)
nodes_after most nodes None = nodes
nodes_after most nodes (Some d) = if has_room most nodes d then with_nodes nodes d.keys else nodes

abbrev pub entries_from : ℕ → List (List ℕ) → List Entry → List Entry
entries_from most nodes [] = []
entries_from most nodes (e ∷ es) = entry_taken most nodes e ∷ entries_from most (nodes_after most nodes e) es

abbrev pub entries : ℕ → List Entry → List Entry
entries most told = entries_from most [] told
