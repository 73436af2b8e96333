-- A line divided at its first tab.
use Rattle.std.proofs.Common.{◌≡◌, ◌≢◌, ℕ, ◌<◌, zero, suc, List, [], ◌∷◌, length, take, drop, get_or, refl, sym, ◌∙◌, ap, arith, Bool, true, false, not, ◌+◌, Some, None}
use Rattle.std.specs.Prelude.{◌==◌, ◌&&◌}
use Rattle.std.specs.List.{list_all}
use Rattle.std.proofs.lemmas.Bool.{eqb-true}
use Rattle.compose_text.specs.Bytes.{leading, behind}
use Rattle.compose_manifest.specs.Manifest.{ManifestEntry, is_no_tab, are_parts, entry_of, entry_of_parts}

other_byte : (b : ℕ) → b ≢ 9 → is_no_tab b ≡ true
other_byte b h = go (b == 9) refl
  where
    go : (t : Bool) → b == 9 ≡ t → not t ≡ true
    go true e = absurd (h (eqb-true b 9 e))
    go false e = refl

-- the first tab is at this index
pub record TabAt (text : List ℕ) (at : ℕ) : Type 0 where
  pub before : leading is_no_tab text ≡ take at text
  pub from : behind is_no_tab text ≡ 9 ∷ drop (suc at) text

-- an index with a tab, and no tab before it, is that of the first tab
pub first_tab : (text : List ℕ) (at : ℕ) → at < length text → get_or text at 0 ≡ 9 → ((i : ℕ) → i < at → get_or text i 0 ≢ 9) → TabAt text at
first_tab [] at less e h = absurd (omega arith)
first_tab (b ∷ text) zero less e h = record { before = rw e refl; from = rw e refl }
first_tab (b ∷ text) (suc at) less e h =
    let passes : is_no_tab b ≡ true = other_byte b (h 0 (omega arith)) in
    let rest : TabAt text at = first_tab text at (omega arith) e (λ i less. h (suc i) (omega arith)) in
    record { before = rw passes (ap (λ t. b ∷ t) rest.before); from = rw passes rest.from }

-- a line without a tab consists of its leading bytes that are no tabs, and nothing follows them
pub no_tab : (text : List ℕ) → ((i : ℕ) → i < length text → get_or text i 0 ≢ 9) → (behind is_no_tab text ≡ []) × (list_all is_no_tab text ≡ true)
no_tab [] h = (refl, refl)
no_tab (b ∷ text) h =
    let passes : is_no_tab b ≡ true = other_byte b (h 0 (omega arith)) in
    let rest = no_tab text (λ i less. h (suc i) (omega arith)) in
    (rw passes rest.0, rw passes rest.1)

pub some_tab : (text : List ℕ) (at : ℕ) → at < length text → get_or text at 0 ≡ 9 → list_all is_no_tab text ≡ false
some_tab [] at less e = absurd (omega arith)
some_tab (b ∷ text) zero less e = rw e refl
some_tab (b ∷ text) (suc at) less e = go (is_no_tab b) (some_tab text at (omega arith) e)
  where
    go : (t : Bool) → list_all is_no_tab text ≡ false → t && list_all is_no_tab text ≡ false
    go true rest = rest
    go false rest = refl

-- ---- the entry of a line

entry_by : (text : List ℕ) (at : ℕ) → TabAt text at → (name path : List ℕ) → name ≡ take at text → path ≡ drop (at + 1) text → entry_of text ≡ entry_of_parts name (9 ∷ path)
entry_by text at tab name path n p =
    ap (entry_of_parts (leading is_no_tab text)) tab.from ∙ ap (λ x. entry_of_parts x (9 ∷ drop (suc at) text)) (tab.before ∙ sym n)
    ∙ ap (λ x. entry_of_parts name (9 ∷ x)) (ap (λ i. drop i text) (next at) ∙ sym p)
  where
    next : (i : ℕ) → suc i ≡ i + 1
    next i = omega arith

-- a line without a tab is no entry
pub no_entry : (text : List ℕ) → ((i : ℕ) → i < length text → get_or text i 0 ≢ 9) → entry_of text ≡ None
no_entry text h = ap (entry_of_parts (leading is_no_tab text)) (no_tab text h).0

-- a line whose name or path is empty, or whose path has another tab, is no entry
pub bad_entry : (text : List ℕ) (at : ℕ) → TabAt text at → (name path : List ℕ) → name ≡ take at text → path ≡ drop (at + 1) text → are_parts name path ≡ false → entry_of text ≡ None
bad_entry text at tab name path n p bad = entry_by text at tab name path n p ∙ rw bad refl

-- a line whose name and path are not empty, and whose path has no other tab, is the entry of these
-- two
pub good_entry : (text : List ℕ) (at : ℕ) → TabAt text at → (name path : List ℕ) → name ≡ take at text → path ≡ drop (at + 1) text → are_parts name path ≡ true
    → entry_of text ≡ Some (let e : ManifestEntry = record { name = name; path = path } in e)
good_entry text at tab name path n p good = entry_by text at tab name path n p ∙ rw good refl
