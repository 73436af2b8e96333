-- The content of the paths that were read.
use Rattle.std.proofs.Common.{◌≡◌, ◌∙◌, sym, ap, refl, append-nil, ℕ, Bool, true, false, cond, ◌||◌, List, [], ◌∷◌, ◌++◌, map, Vec, Global}
use Rattle.std.specs.Prelude.{Option, Some, None, is_some, bytes_eq, Result, Ok, Err}
use Rattle.std.specs.List.{find, list_any}
use Rattle.std.proofs.lemmas.Slice.Eq.{bytes_eq-Decides}
use Rattle.compose_folder.specs.declared.reading.Unread.{Unread}
use Rattle.compose_folder.specs.declared.reading.Unread.TheVariants.{Refused, NoMemory}
use Rattle.compose_folder.specs.Content.{Content, Entry, paths_of, contents_of, held, unless_seen, AreHeld, then_asked}
use Rattle.compose_folder.specs.Reading.{Reads, Asks}
use Rattle.compose_folder.specs.Once.{Returns, Sees, Keeps}

abbrev entry_or : Entry → Option Entry → Entry
entry_or e None = e
entry_or e (Some x) = x

abbrev head_or : Content → List Content → Content
head_or c [] = c
head_or c (x ∷ xs) = x

abbrev tail_of : List Content → List Content
tail_of [] = []
tail_of (x ∷ xs) = xs

same_head : (x y : Content) (xs ys : List Content) → x ∷ xs ≡ y ∷ ys → x ≡ y
same_head x y xs ys h = ap (head_or x) h

same_tail : (x y : Content) (xs ys : List Content) → x ∷ xs ≡ y ∷ ys → xs ≡ ys
same_tail x y xs ys h = ap tail_of h

-- an entry that is found has the content of the path in the folder
held_at : (holds : List ℕ → Content) (path : List ℕ) (entries : List Entry) (e : Entry) → contents_of entries ≡ map holds (paths_of entries) → Some e ≡ find (λ e. bytes_eq path e.path) entries → holds path ≡ e.content
held_at holds path [] e h f = absurd (cc f)
held_at holds path (x ∷ xs) e h f = by (bytes_eq path x.path) refl f (λ k. held_at holds path xs e (same_tail _ _ _ _ h) k)
  where
    by : (b : Bool) → bytes_eq path x.path ≡ b → Some e ≡ cond b (Some x) (find (λ e. bytes_eq path e.path) xs) → (Some e ≡ find (λ e. bytes_eq path e.path) xs → holds path ≡ e.content) → holds path ≡ e.content
    by true m k rest = ap holds ((bytes_eq-Decides path x.path).0 m) ∙ sym (same_head _ _ _ _ h) ∙ ap (λ o. (entry_or x o).content) (sym k)
    by false m k rest = rest k

pub found_reads : (o : Option (List Entry)) (path : List ℕ) (entries : List Entry) (e : Entry) (r : Result (Vec ℕ Global) Unread) → AreHeld o entries → Some e ≡ find (λ e. bytes_eq path e.path) entries → Returns e.content r → Reads o path r
found_reads None path entries e r h f g = tt
found_reads (Some folder) path entries e (Ok bytes) h f g = held_at (held folder) path entries e h f ∙ g
found_reads (Some folder) path entries e (Err (Refused kind)) h f g = held_at (held folder) path entries e h f ∙ g
found_reads (Some folder) path entries e (Err NoMemory) h f g = tt

-- a path was read exactly if there is an entry for it
seen_found : (path : List ℕ) (entries : List Entry) → list_any (bytes_eq path) (paths_of entries) ≡ is_some (find (λ e. bytes_eq path e.path) entries)
seen_found path [] = refl
seen_found path (x ∷ xs) = by (bytes_eq path x.path) (seen_found path xs)
  where
    by : (b : Bool) → list_any (bytes_eq path) (paths_of xs) ≡ is_some (find (λ e. bytes_eq path e.path) xs) → (b || list_any (bytes_eq path) (paths_of xs)) ≡ is_some (cond b (Some x) (find (λ e. bytes_eq path e.path) xs))
    by true rest = refl
    by false rest = rest

pub unless_found : (path : List ℕ) (entries : List Entry) (o : Option Entry) → o ≡ find (λ e. bytes_eq path e.path) entries → unless_seen (paths_of entries) path ≡ cond (is_some o) [] (path ∷ [])
unless_found path entries o f = ap (λ b. cond b [] (path ∷ [])) (seen_found path entries ∙ ap is_some (sym f))

then_nothing : (asked : Option (List (List ℕ))) → then_asked asked [] ≡ asked
then_nothing None = refl
then_nothing (Some xs) = ap Some (append-nil xs)

-- if the path was read before, the folder is asked for nothing
pub asks_nothing : (asked : Option (List (List ℕ))) (ps : List (List ℕ)) (r : Result (Vec ℕ Global) Unread) → ps ≡ [] → Asks asked asked ps r
asks_nothing asked ps (Ok bytes) e = sym (then_nothing asked) ∙ ap (then_asked asked) (sym e)
asks_nothing asked ps (Err (Refused kind)) e = sym (then_nothing asked) ∙ ap (then_asked asked) (sym e)
asks_nothing asked ps (Err NoMemory) e = tt

-- if not, it is asked for that path
pub asks_new : (asked asked' : Option (List (List ℕ))) (path : List ℕ) (ps : List (List ℕ)) (r : Result (Vec ℕ Global) Unread) → ps ≡ path ∷ [] → Asks asked asked' (path ∷ []) r → Asks asked asked' ps r
asks_new asked asked' path ps (Ok bytes) e a = a ∙ ap (then_asked asked) (sym e)
asks_new asked asked' path ps (Err (Refused kind)) e a = a ∙ ap (then_asked asked) (sym e)
asks_new asked asked' path ps (Err NoMemory) e a = tt

pub sees_nothing : (entries : List Entry) (path : List ℕ) (r : Result (Vec ℕ Global) Unread) → unless_seen (paths_of entries) path ≡ [] → Sees entries path entries r
sees_nothing entries path (Ok bytes) e = sym (append-nil (paths_of entries)) ∙ ap (λ l. paths_of entries ++ l) (sym e)
sees_nothing entries path (Err (Refused kind)) e = sym (append-nil (paths_of entries)) ∙ ap (λ l. paths_of entries ++ l) (sym e)
sees_nothing entries path (Err NoMemory) e = refl

paths_more : (xs : List Entry) (e : Entry) → paths_of (xs ++ e ∷ []) ≡ paths_of xs ++ e.path ∷ []
paths_more [] e = refl
paths_more (x ∷ xs) e = ap (λ l. x.path ∷ l) (paths_more xs e)

pub sees_new : (entries entries' : List Entry) (path : List ℕ) (r : Result (Vec ℕ Global) Unread) → unless_seen (paths_of entries) path ≡ path ∷ [] → Keeps entries path entries' r → Sees entries path entries' r
sees_new entries entries' path (Ok bytes) e k = ap paths_of k ∙ paths_more entries _ ∙ ap (λ l. paths_of entries ++ l) (sym e)
sees_new entries entries' path (Err (Refused kind)) e k = ap paths_of k ∙ paths_more entries _ ∙ ap (λ l. paths_of entries ++ l) (sym e)
sees_new entries entries' path (Err NoMemory) e k = k
