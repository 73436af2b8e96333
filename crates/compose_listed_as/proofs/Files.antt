-- Files that are read one after another.
use Rattle.std.proofs.Common.{◌≡◌, ◌∙◌, inl, inr, add-one, ℕ, zero, suc, ◌+◌, ◌<◌, ◌≤◌, Bool, true, false, cond, not, ◌&&◌, ◌||◌, List, [], ◌∷◌, ◌++◌, length, take, map, get_or, refl, sym, ap, subst, append_assoc, arith}
use Rattle.std.specs.Prelude.{Option, bytes_eq, flat_map}
use Rattle.std.specs.List.{list_any, All, slice_index_or}
use Rattle.std.specs.declared.vec.Vec.{Vec}
use Rattle.std.specs.declared.alloc.Global.{Global}
use Rattle.std.proofs.lemmas.List.{append-nil, get_or-map, length-map, take_all, take_more, map-append}
use Rattle.std.proofs.lemmas.List.Elements.{All-append, All-nil}
use Rattle.std.proofs.lemmas.List.Folds.{list_any-append}
use Rattle.std.proofs.lemmas.Slice.Eq.{bytes_eq-Decides}
use Rattle.compose_folder.specs.Content.{Entry}
use Rattle.compose_input.specs.Search.{opened}
use Rattle.compose_readers.specs.Files.{FileRead}
use Rattle.compose_readers.specs.declared.xkbcommon.Version.{Version}
use Rattle.compose_listed_as.specs.Reached.{IsFile, IsThere, AreLedTo, AreReached, includes_of, is_among, is_included}
use Rattle.compose_listed_as.specs.Reading.{AreReachedBy, AddsPath, includes_before}

-- ---- the root

neither : {X : Type 0} (b : Bool) (x y : X) → cond (b && not b) x y ≡ y
neither true x y = refl
neither false x y = refl

-- the root is opened by its own path
pub opened_self : (root : List ℕ) → opened root root ≡ root
opened_self root = neither (bytes_eq root (45 ∷ [])) _ root

all_one : {X : Type 0} (P : X → Type 0) (x : X) → P x → All P (x ∷ [])
all_one P x p zero d within = p
all_one P x p (suc k) d within = absurd (omega (arith, within))

-- the root alone
pub root_alone : (folder : Option (List Entry)) (version : Version) (root : List ℕ) (file : FileRead) → file.path ≡ root → IsFile folder version root file
    → AreReachedBy folder version root [] (file ∷ [])
root_alone folder version root file path is = record { first = file; others = []; are = refl; at_root = path; held = all_one (IsFile folder version root) file is; led_to = tt; whole = All-nil (IsThere folder root (file ∷ [])) }

-- ---- a file more

or_left : (a b : Bool) → a ≡ true → (a || b) ≡ true
or_left true b e = refl
or_left false b e = let clash : false ≡ true = e in cc

or_right : (a b : Bool) → b ≡ true → (a || b) ≡ true
or_right true b e = refl
or_right false b e = e

among_more : (files more : List FileRead) (path : List ℕ) → is_among files path ≡ true → is_among (files ++ more) path ≡ true
among_more files more path e = list_any-append (λ f. bytes_eq f.path path) files more ∙ or_left (is_among files path) (is_among more path) e

same_bytes : (xs ys : List ℕ) → xs ≡ ys → bytes_eq xs ys ≡ true
same_bytes xs ys e = (bytes_eq-Decides xs ys).1 e

among_last : (files : List FileRead) (file : FileRead) (path : List ℕ) → file.path ≡ path → is_among (files ++ file ∷ []) path ≡ true
among_last files file path e =
    list_any-append (λ f. bytes_eq f.path path) files (file ∷ [])
    ∙ or_right (is_among files path) (is_among (file ∷ []) path) (or_left (bytes_eq file.path path) false (same_bytes file.path path e))

-- what was there is there beside other files
there_more : (folder : Option (List Entry)) (root : List ℕ) (files more : List FileRead) (path : List ℕ) → IsThere folder root files path → IsThere folder root (files ++ more) path
there_more folder root files more path (inl e) = inl (among_more files more path e)
there_more folder root files more path (inr m) = inr m

all_there_more : (folder : Option (List Entry)) (root : List ℕ) (files more : List FileRead) (paths : List (List ℕ)) → All (IsThere folder root files) paths → All (IsThere folder root (files ++ more)) paths
all_there_more folder root files more paths all k d within = there_more folder root files more (slice_index_or paths k d) (all k d within)

led_more : (before others : List FileRead) (file : FileRead) → AreLedTo before others → is_among (before ++ others) file.path ≡ false → is_included (before ++ others) file.path ≡ true
    → AreLedTo before (others ++ file ∷ [])
led_more before [] file led new included =
    (subst (λ files. is_among files file.path ≡ false) (append-nil before) new, subst (λ files. is_included files file.path ≡ true) (append-nil before) included, tt)
led_more before (o ∷ os) file led new included =
    let place : before ++ o ∷ os ≡ (before ++ o ∷ []) ++ os = sym (append_assoc before (o ∷ []) os) in
    (led.0, led.1, led_more (before ++ o ∷ []) os file led.2 (subst (λ files. is_among files file.path ≡ false) place new) (subst (λ files. is_included files file.path ≡ true) place included))

-- a path more has been looked at
pub path_more : (folder : Option (List Entry)) (version : Version) (root path : List ℕ) (looked : List (List ℕ)) (old new : List FileRead) → is_included old path ≡ true
    → AreReachedBy folder version root looked old → AddsPath folder version root path old new → AreReachedBy folder version root (looked ++ path ∷ []) new
path_more folder version root path looked old new included r (inl same) =
    subst (AreReachedBy folder version root (looked ++ path ∷ [])) (sym same.0)
    (record { first = r.first; others = r.others; are = r.are; at_root = r.at_root; held = r.held; led_to = r.led_to; whole = All-append (IsThere folder root old) looked (path ∷ []) r.whole (all_one (IsThere folder root old) path same.1) })
path_more folder version root path looked old new included r (inr more) =
    let file = more.1.0 in let put : new ≡ old ++ file ∷ [] = more.1.1 in let own : file.path ≡ path = more.1.2 in let is = more.1.3 in
    let whole : old ++ file ∷ [] ≡ r.first ∷ (r.others ++ file ∷ []) = ap (λ files. files ++ file ∷ []) r.are in
    subst (AreReachedBy folder version root (looked ++ path ∷ [])) (sym put)
    (record {
      first = r.first;
      others = r.others ++ file ∷ [];
      are = whole;
      at_root = r.at_root;
      held = All-append (IsFile folder version root) old (file ∷ []) r.held (all_one (IsFile folder version root) file is);
      led_to = led_more (r.first ∷ []) r.others file r.led_to
          (subst (λ files. is_among files file.path ≡ false) r.are (subst (λ p. is_among old p ≡ false) (sym own) more.0))
          (subst (λ files. is_included files file.path ≡ true) r.are (subst (λ p. is_included old p ≡ true) (sym own) included));
      whole = All-append (IsThere folder root (old ++ file ∷ [])) looked (path ∷ []) (all_there_more folder root old (file ∷ []) looked r.whole)
          (all_one (IsThere folder root (old ++ file ∷ [])) path (inl (among_last old file path own)));
    })

-- ---- the includes of a file

any_at : (p : List ℕ → Bool) (paths : List (List ℕ)) (k : ℕ) (d : List ℕ) → k < length paths → p (get_or paths k d) ≡ true → list_any p paths ≡ true
any_at p [] k d within e = absurd (omega (arith, within))
any_at p (x ∷ paths) zero d within e = or_left (p x) (list_any p paths) e
any_at p (x ∷ paths) (suc k) d within e = or_right (p x) (list_any p paths) (any_at p paths k d (omega (arith, within)) e)

-- each is included, also beside other files
pub included_at : (files more : List FileRead) (at k : ℕ) (d : FileRead) (e : List ℕ) → at < length files → k < length (includes_of (get_or files at d))
    → is_included (files ++ more) (get_or (includes_of (get_or files at d)) k e) ≡ true
included_at [] more at k d e within inside = absurd (omega (arith, within))
included_at (f ∷ files) more zero k d e within inside =
    let path = get_or (includes_of f) k e in
    list_any-append (bytes_eq path) (includes_of f) (flat_map includes_of (files ++ more))
    ∙ or_left (list_any (bytes_eq path) (includes_of f)) (list_any (bytes_eq path) (flat_map includes_of (files ++ more))) (any_at (bytes_eq path) (includes_of f) k e inside (same_bytes path path refl))
included_at (f ∷ files) more (suc at) k d e within inside =
    let path = get_or (includes_of (get_or files at d)) k e in
    list_any-append (bytes_eq path) (includes_of f) (flat_map includes_of (files ++ more))
    ∙ or_right (list_any (bytes_eq path) (includes_of f)) (list_any (bytes_eq path) (flat_map includes_of (files ++ more))) (included_at files more at k d e (omega (arith, within)) inside)

-- the includes of one file more
before_suc : (files more : List FileRead) (at : ℕ) (d : FileRead) → at < length files → includes_before files at ++ includes_of (get_or files at d) ≡ includes_before (files ++ more) (suc at)
before_suc [] more at d within = absurd (omega (arith, within))
before_suc (f ∷ files) more zero d within = sym (append-nil (includes_of f))
before_suc (f ∷ files) more (suc at) d within =
    append_assoc (includes_of f) (includes_before files at) (includes_of (get_or files at d)) ∙ ap (λ paths. includes_of f ++ paths) (before_suc files more at d (omega (arith, within)))

pub before_more : (files more : List FileRead) (at : ℕ) (d : FileRead) → at < length files → includes_before files at ++ includes_of (get_or files at d) ≡ includes_before (files ++ more) (at + 1)
before_more files more at d within = before_suc files more at d within ∙ ap (includes_before (files ++ more)) (sym (add-one at))

-- the files are those that were there, and others
pub grown_more : (folder : Option (List Entry)) (version : Version) (root path : List ℕ) (old between new more : List FileRead) → between ≡ old ++ more → AddsPath folder version root path between new
    → (others : List FileRead) × (new ≡ old ++ others)
grown_more folder version root path old between new more is (inl same) = (more, same.0 ∙ is)
grown_more folder version root path old between new more is (inr added) =
    let file = added.1.0 in (more ++ file ∷ [], added.1.1 ∙ ap (λ files. files ++ file ∷ []) is ∙ append_assoc old more (file ∷ []))

-- the paths that were looked at, and one more
pub looked_more : (before : List (List ℕ)) (paths : List (Vec ℕ Global)) (i : ℕ) (path : Vec ℕ Global) → i < length paths → path ≡ get_or paths i path
    → (before ++ map (λ p. p.items) (take i paths)) ++ path.items ∷ [] ≡ before ++ map (λ p. p.items) (take (i + 1) paths)
looked_more before paths i path within is =
    let items : Vec ℕ Global → List ℕ = λ p. p.items in
    append_assoc before (map items (take i paths)) (path.items ∷ [])
    ∙ ap (λ xs. before ++ xs)
    (sym (map-append items (take i paths) (path ∷ [])) ∙ ap (map items) (ap (λ p. take i paths ++ p ∷ []) is ∙ sym (take_more paths i path within)))

-- the path at this index is included
pub included_path : (files more : List FileRead) (at : ℕ) (file : FileRead) (paths : List (Vec ℕ Global)) (i : ℕ) (path : Vec ℕ Global) → at < length files → file ≡ get_or files at file
    → map (λ p. p.items) paths ≡ includes_of file → i < length paths → path ≡ get_or paths i path → is_included (files ++ more) path.items ≡ true
included_path files more at file paths i path within is are inside at_index =
    let items : Vec ℕ Global → List ℕ = λ p. p.items in
    let own : map items paths ≡ includes_of (get_or files at file) = are ∙ ap includes_of is in
    let many : i < length (includes_of (get_or files at file)) = omega (arith, inside, length-map paths items, ap length own) in
    let name : get_or (includes_of (get_or files at file)) i path.items ≡ path.items =
    ap (λ xs. get_or xs i path.items) (sym own) ∙ get_or-map items paths i path path.items inside ∙ ap items (sym at_index) in
    subst (λ p. is_included (files ++ more) p ≡ true) name (included_at files more at i file path.items within many)

-- all files have been looked at
pub all_looked : (folder : Option (List Entry)) (version : Version) (root : List ℕ) (files : List FileRead) (at : ℕ) → length files ≤ at → AreReachedBy folder version root (includes_before files at) files
    → AreReached folder version root files
all_looked folder version root files at long r =
    record { first = r.first; others = r.others; are = r.are; at_root = r.at_root; held = r.held; led_to = r.led_to; whole = subst (λ fs. All (IsThere folder root files) (flat_map includes_of fs)) (take_all at files long) r.whole }
