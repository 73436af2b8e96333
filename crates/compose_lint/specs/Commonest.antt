-- The value that occurs most often with a key.
use Rattle.std.specs.Prelude.{◌≡◌, ℕ, Bool, true, false, not, ◌==◌, ◌&&◌, ◌||◌, nat_lt, nat_le, if◌then◌else◌, bytes_eq, List, count_by, Option, Some, None}
use Rattle.std.specs.List.{list_any, list_all}
use Rattle.std.specs.Option.{option_map_or}

-- a key, and a value that occurs with it
pub record Note : Type 0 where
  pub key : List ℕ
  pub value : List ℕ

-- how often the value occurs with the key
abbrev pub times : List Note → List ℕ → List ℕ → ℕ
times notes key value = count_by (λ n. bytes_eq n.key key && bytes_eq n.value value) notes

-- no other value occurs as often with the key
abbrev pub is_commonest : List Note → List ℕ → List ℕ → Bool
is_commonest notes key value = list_all (λ n. not (bytes_eq n.key key) || (bytes_eq n.value value || nat_lt (times notes key n.value) (times notes key value))) notes

-- a value other than this one occurs more often with the key than any other
abbrev pub has_other : List Note → List ℕ → List ℕ → Bool
has_other notes key value = list_any (λ n. bytes_eq n.key key && (not (bytes_eq n.value value) && is_commonest notes key n.value)) notes

-- ---- definitions for private functions

-- the first of the values that occur most often with a key, how often it does, and whether another
-- value does equally often
pub record Leading : Type 0 where
  pub value : List ℕ
  pub count : ℕ
  pub is_tied : Bool

-- the leader after another value, which occurs `count` times with the key
abbrev pub next_leading : Option Leading → List ℕ → ℕ → Leading
next_leading None value count = record { value = value; count = count; is_tied = false }
next_leading (Some l) value count =
    if nat_lt l.count count then record { value = value; count = count; is_tied = false } else
    record { value = l.value; count = l.count; is_tied = l.is_tied || (not (bytes_eq value l.value) && count == l.count) }

-- none of the values that occur with the key in these notes occurs more often than the leading one,
-- if each occurs `times` times
pub record Leads (times : List ℕ → ℕ) (key : List ℕ) (notes : List Note) (l : Leading) : Type 0 where
  pub here : list_any (λ n. bytes_eq n.key key && bytes_eq n.value l.value) notes ≡ true
  pub counted : l.count ≡ times l.value
  pub most : list_all (λ n. not (bytes_eq n.key key) || nat_le (times n.value) l.count) notes ≡ true
  pub tied : l.is_tied ≡ list_any (λ n. bytes_eq n.key key && (not (bytes_eq n.value l.value) && times n.value == l.count)) notes

abbrev pub IsLed : (List ℕ → ℕ) → List ℕ → List Note → Option Leading → Type 0
IsLed times key notes None = list_any (λ n. bytes_eq n.key key) notes ≡ false
IsLed times key notes (Some l) = Leads times key notes l

-- how often the value occurs with the key, if it leads or otherwise occurs `count` times
abbrev pub count_of : Option Leading → List ℕ → ℕ → ℕ
count_of None value count = count
count_of (Some l) value count = if bytes_eq value l.value then l.count else count

-- how often `v` occurs with `k`, after that was `old` and after the value was counted with the key,
-- if it doesn't lead
abbrev pub other_count : Leading → List ℕ → List ℕ → ℕ → List ℕ → List ℕ → ℕ → ℕ
other_count l key value count k v old =
    if bytes_eq value l.value then old else
    if bytes_eq key k && bytes_eq l.value v then l.count else
    if bytes_eq key k && bytes_eq value v then count else old

-- the leading value with the key in these notes, and how often each other value occurs with it
pub record IsTallied (notes : List Note) (key : List ℕ) (leading : Option Leading) (others : List ℕ → ℕ) : Type 0 where
  pub led : IsLed (times notes key) key notes leading
  pub counts : (value : List ℕ) → count_of leading value (others value) ≡ times notes key value

-- the leading value is another one, and no value occurs equally often
abbrev pub leads_other : List ℕ → Option Leading → Bool
leads_other value leading = option_map_or (λ l. not l.is_tied && not (bytes_eq l.value value)) leading false
