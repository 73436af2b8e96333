-- What a map lists under what rows have in common.
use Rattle.std.proofs.Common.{◌≡◌, ℕ, ◌+◌, ◌<◌, Bool, true, false, cond, List, [], ◌∷◌, ◌++◌, length, take, filter, get_or, Bor, refl, sym, ◌∙◌, ap, ap₂}
use Rattle.std.specs.Prelude.{◌==◌, ◌&&◌, nat_eq, bytes_eq, if◌then◌else◌, Option, Some, None}
use Rattle.std.specs.Option.{option_map_or, option_eq}
use Rattle.std.specs.Cmp.Lexicographic.{pointwise}
use Rattle.std.specs.Cmp.Derive.Mapped.{pointwise-map}
use Rattle.std.specs.declared.vec.Vec.{Vec}
use Rattle.std.specs.declared.alloc.Global.{Global}
use Rattle.std.proofs.lemmas.List.{append-nil}
use Rattle.std.proofs.lemmas.List.Elements.{filter_more}
use Rattle.indexmap.specs.IndexMap.{IndexMap, get_by}
use Rattle.compose_diff.specs.declared.row.DiffRow.{DiffRow}
use Rattle.compose_diff.specs.Groups.{Common, common, are_same, has}
use Rattle.compose_diff.specs.Members.{Key, view, members_at, onto, without}
use Rattle.compose_diff.proofs.Same.{are_one, same_too}

-- how keys are compared
abbrev pub is_key : Key → Key → Bool
is_key a b = a.0 == b.0 && option_eq nat_eq a.1 b.1 && pointwise (λ (x : Bor (List ℕ)) (y : Bor (List ℕ)). bytes_eq x.now y.now) a.2.now b.2.now

pub key_is : (a b : Key) → is_key a b ≡ are_same (view a) (view b)
key_is a b = ap (λ p. a.0 == b.0 && option_eq nat_eq a.1 b.1 && p) (sym (pointwise-map (λ (name : Bor (List ℕ)). name.now) bytes_eq a.2.now b.2.now))

-- the rows that are listed
abbrev pub items_of : Option (Vec DiffRow Global) → List DiffRow
items_of o = option_map_or (λ rows. rows.items) o []

module _ {S : Type 0} where
  pub at_key : (groups : IndexMap Key (Vec DiffRow Global) S) (key : Key) → members_at groups (view key) ≡ items_of (get_by (is_key key) groups)
  at_key groups key = ap (λ test. items_of (get_by test groups)) (λ j. λ other. sym (key_is key other) j)

-- nothing is listed under a key that is taken out
pub taken : (key other : Key) (o : Option (Vec DiffRow Global)) (rows : List DiffRow) → items_of o ≡ rows → items_of (cond (is_key key other) None o) ≡ without (view key) (view other) rows
taken key other o rows is = by (is_key key other) ∙ ap₂ (λ b them. if b then [] else them) (key_is key other) is
  where
    by : (b : Bool) → items_of (cond b None o) ≡ (if b then [] else items_of o)
    by true = refl
    by false = refl

-- one more row is listed under its key
pub added : (key other : Key) (row : DiffRow) (vec : Vec DiffRow Global) (o : Option (Vec DiffRow Global)) (at : Common → List DiffRow) → vec.items ≡ at (view key) ++ row ∷ []
    → items_of o ≡ without (view key) (view other) (at (view other)) → items_of (cond (is_key key other) (Some vec) o) ≡ onto (view key) (view other) row (at (view other))
added key other row vec o at more rest = ap (λ b. items_of (cond b (Some vec) o)) (key_is key other) ∙ by (are_same (view key) (view other)) refl
  where
    by : (b : Bool) → are_same (view key) (view other) ≡ b → items_of (cond b (Some vec) o) ≡ (if b then at (view other) ++ row ∷ [] else at (view other))
    by true e = more ∙ ap (λ what. at what ++ row ∷ []) (are_one (view key) (view other) e)
    by false e = rest ∙ ap (λ b. if b then [] else at (view other)) e

-- ---- in a loop over rows

-- the row has what it has in common with others
pub has_common : (gone : ℕ → Bool) (what other : Common) (row : DiffRow) → Some what ≡ common gone row → has gone other row ≡ are_same what other
has_common gone what other row e = ap (λ o. option_map_or (are_same other) o false) (sym e) ∙ same_too other what

pub has_nothing : (gone : ℕ → Bool) (other : Common) (row : DiffRow) → None ≡ common gone row → has gone other row ≡ false
has_nothing gone other row e = ap (λ o. option_map_or (are_same other) o false) (sym e)

-- one more row
pub more_members : (gone : ℕ → Bool) (what other : Common) (rows : List DiffRow) (i : ℕ) (d : DiffRow) → i < length rows → Some what ≡ common gone (get_or rows i d)
    → onto what other (get_or rows i d) (filter (has gone other) (take i rows)) ≡ filter (has gone other) (take (i + 1) rows)
more_members gone what other rows i d less e =
    by (are_same what other) ∙ ap (λ b. filter (has gone other) (take i rows) ++ cond b (get_or rows i d ∷ []) []) (sym (has_common gone what other (get_or rows i d) e))
    ∙ sym (filter_more (has gone other) rows i d less)
  where
    by : (b : Bool) → (if b then filter (has gone other) (take i rows) ++ get_or rows i d ∷ [] else filter (has gone other) (take i rows)) ≡ filter (has gone other) (take i rows) ++ cond b (get_or rows i d ∷ []) []
    by true = refl
    by false = sym (append-nil (filter (has gone other) (take i rows)))

pub no_more_members : (gone : ℕ → Bool) (other : Common) (rows : List DiffRow) (i : ℕ) (d : DiffRow) → i < length rows → None ≡ common gone (get_or rows i d)
    → filter (has gone other) (take i rows) ≡ filter (has gone other) (take (i + 1) rows)
no_more_members gone other rows i d less e =
    sym (append-nil (filter (has gone other) (take i rows)))
    ∙ ap (λ b. filter (has gone other) (take i rows) ++ cond b (get_or rows i d ∷ []) []) (sym (has_nothing gone other (get_or rows i d) e))
    ∙ sym (filter_more (has gone other) rows i d less)
