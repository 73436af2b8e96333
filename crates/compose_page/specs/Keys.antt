-- The keys of sequences, and the keys in which two sequences differ (this project's profile).
use Rattle.std.specs.Prelude.{ℕ, ◌+◌, ◌-◌, if◌then◌else◌, List, [], ◌∷◌, ◌++◌, length, take, drop, flat_map, reverse, bytes_eq, codes}
use Rattle.std.specs.Borrow.{Bor}
use Rattle.compose_page.specs.declared.markup.Markup.{Markup}
use Rattle.compose_page.specs.Markup.{escaped}

-- the names of keys
abbrev pub Keys : Type 0
Keys = List (Bor (List ℕ))

-- each key between two texts
abbrev pub keys_between : Markup → List ℕ → List ℕ → Keys → List ℕ
keys_between markup before after keys = flat_map (λ key. before ++ (escaped markup key.now ++ after)) keys

-- each key after a blank
abbrev pub keys_part : Markup → Keys → List ℕ
keys_part markup keys = keys_between markup (codes " <kbd>") (codes "</kbd>") keys

-- the number of keys with which both begin
abbrev pub common_start : Keys → Keys → ℕ
common_start [] others = 0
common_start (key ∷ keys) [] = 0
common_start (key ∷ keys) (other ∷ others) = if bytes_eq key.now other.now then 1 + common_start keys others else 0

-- the number of keys with which both end
abbrev pub common_end : Keys → Keys → ℕ
common_end keys others = common_start (reverse keys) (reverse others)

-- of the keys that follow those with which both begin, the number of keys before those with which
-- both end
abbrev pub own_count : Keys → Keys → ℕ
own_count rest others = length rest - common_end rest others

-- these keys, each between the two texts, and then those with which both end
abbrev pub marked_after : Markup → List ℕ → List ℕ → Keys → Keys → List ℕ
marked_after markup before after rest others = keys_between markup before after (take (own_count rest others) rest) ++ keys_part markup (drop (own_count rest others) rest)

-- a sequence, compared with another one
abbrev pub marked_keys : Markup → List ℕ → List ℕ → Keys → Keys → List ℕ
marked_keys markup before after keys others =
    let start = common_start keys others in
    keys_part markup (take start keys) ++ marked_after markup before after (drop start keys) (drop start others)

-- the keys of the old sequence of a text, compared with its new one
abbrev pub old_keys : Markup → Keys → Keys → List ℕ
old_keys markup old new = marked_keys markup (codes " <del><kbd>") (codes "</kbd></del>") old new

-- the keys of the new sequence of a text, compared with its old one
abbrev pub new_keys : Markup → Keys → Keys → List ℕ
new_keys markup old new = marked_keys markup (codes " <ins><kbd>") (codes "</kbd></ins>") new old
