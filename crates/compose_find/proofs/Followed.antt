-- What is found so far: each source is the root or included by one before it, and the includes of
-- those that were read are followed.
use Rattle.std.proofs.Common.{◌≡◌, ◌⊎◌, ℕ, suc, zero, ◌+◌, ◌<◌, ◌≤◌, List, [], ◌∷◌, ◌++◌, Bool, true, false, cond, map, length, Option, Some, None, refl, sym, ◌∙◌, ap, subst, inl, inr, arith}
use Rattle.std.specs.Prelude.{Result, Ok, Err, slice_get, Contains, bytes_eq, nat_le, is_some}
use Rattle.std.specs.List.{find, IsDistinct, AllByRecursion}
use Rattle.std.specs.Option.{option_and_then, option_map, option_map_or}
use Rattle.std.proofs.lemmas.Bool.{leb-false, cases_lt}
use Rattle.std.proofs.lemmas.Slice.Eq.{bytes_eq-Decides}
use Rattle.std.proofs.lemmas.Option.{slice_get_within, get_or_from_slice_get, slice_get-get_or}
use Rattle.compose_text.specs.Results.{◌>>=◌}
use Rattle.compose_find.specs.Expand.{Words, include_path}
use Rattle.compose_find.specs.Includes.{Include, includes_of}
use Rattle.compose_find.specs.Found.{TriedFile, FoundSource, Stop, includes_or_wanted, found_includes, held_at, includes_at, there_or_missing, at_include, refusal, places, first_place, located, leads_to, with_source, with_include, with_includes, with_includes_of, search_from, missing_file}
use Rattle.compose_find.specs.declared.fault.IncludeFault.{IncludeFault}
use Rattle.compose_find.specs.declared.fault.IncludeFault.TheVariants.{TwoFiles, TooManySources, IncludeDepth}
use Rattle.compose_find.specs.Sources.{IsFirstPlace, LeadsTo, IncludesSource, IsFollowed, AreSources, FindsSources}

-- ---- steps in order

-- if two steps succeed, the first succeeds, and the second does with its result
both : {A B E : Type 0} (r : Result A E) (f : A → Result B E) (y : B) → r >>= f ≡ Ok y → (x : A) × (r ≡ Ok x) × (f x ≡ Ok y)
both (Ok x) f y e = (x, refl, e)
both (Err fault) f y e = cc

-- a step has one result
one_ok : {A E : Type 0} (r : Result A E) (x y : A) → r ≡ Ok x → r ≡ Ok y → x ≡ y
one_ok (Ok z) x y e f = cc
one_ok (Err fault) x y e f = cc

-- ---- lists

-- an element at an index is in the list
contained : {X : Type 0} (xs : List X) (i : ℕ) (x : X) → slice_get xs i ≡ Some x → Contains xs x
contained xs i x e = (i, slice_get_within xs i x e, get_or_from_slice_get xs i x x e)

-- and the other way round
index_of : {X : Type 0} (xs : List X) (x : X) → Contains xs x → (i : ℕ) × (i < length xs) × (slice_get xs i ≡ Some x)
index_of xs x c = (c.0, c.1, slice_get-get_or xs c.0 x c.1 ∙ ap Some c.2)

-- an element keeps its index if others are added after it
kept : {X : Type 0} (xs ys : List X) (i : ℕ) (x : X) → slice_get xs i ≡ Some x → slice_get (xs ++ ys) i ≡ Some x
kept [] ys i x e = cc
kept (y ∷ xs) ys zero x e = e
kept (y ∷ xs) ys (suc i) x e = kept xs ys i x e

-- if one element is added, each element is that one or was there before
before_or_last : {X : Type 0} (xs : List X) (y : X) (i : ℕ) (x : X) → slice_get (xs ++ y ∷ []) i ≡ Some x → (slice_get xs i ≡ Some x) ⊎ ((i ≡ length xs) × (y ≡ x))
before_or_last [] y zero x e = inr (refl, (let same : Some y ≡ Some x = e in cc))
before_or_last [] y (suc i) x e = cc
before_or_last (z ∷ xs) y zero x e = inl e
before_or_last (z ∷ xs) y (suc i) x e = elim (before_or_last xs y i x e) [ inl h ↦ inl h | inr h ↦ inr (omega (arith, h.0), h.1) ]

-- there is nothing past the end
none_past : {X : Type 0} (xs : List X) (i : ℕ) → slice_get xs i ≡ None → length xs ≤ i
none_past [] i e = omega arith
none_past (x ∷ xs) zero e = cc
none_past (x ∷ xs) (suc i) e = let h : length xs ≤ i = none_past xs i e in omega arith

-- an element that is found passes the test, and is in the list
found_passes : {X : Type 0} (p : X → Bool) (xs : List X) (x : X) → find p xs ≡ Some x → (p x ≡ true) × ((i : ℕ) × (slice_get xs i ≡ Some x))
found_passes p [] x e = cc
found_passes p (y ∷ xs) x e = go (found_passes p xs x) (p y) refl e
  where
    go : (find p xs ≡ Some x → (p x ≡ true) × ((i : ℕ) × (slice_get xs i ≡ Some x))) → (b : Bool) → p y ≡ b → cond b (Some y) (find p xs) ≡ Some x
        → (p x ≡ true) × ((i : ℕ) × (slice_get (y ∷ xs) i ≡ Some x))
    go rest true is e = let same : y ≡ x = cc in (ap p (sym same) ∙ is, (zero, e))
    go rest false is e = let r = rest e in (r.0, (suc r.1.0, r.1.1))

-- names stay distinct if a new one is added
distinct_more : (name : List ℕ) (sources : List FoundSource) (new : FoundSource) → new.name ≡ name → find (λ m. bytes_eq name m.name) sources ≡ None → IsDistinct bytes_eq (map (λ m. m.name) sources)
    → IsDistinct bytes_eq (map (λ m. m.name) (sources ++ new ∷ []))
unfolding IsDistinct
distinct_more name [] new is none d = (tt, tt)
distinct_more name (m ∷ sources) new is none d = go (λ n. distinct_more name sources new is n d.1) (bytes_eq name m.name) refl none
  where
    others : (ms : List FoundSource) → bytes_eq m.name new.name ≡ false → AllByRecursion (λ y. bytes_eq m.name y ≡ false) (map (λ m. m.name) ms)
        → AllByRecursion (λ y. bytes_eq m.name y ≡ false) (map (λ m. m.name) (ms ++ new ∷ []))
    others [] other a = (other, tt)
    others (x ∷ ms) other a = (a.0, others ms other a.1)

    differs : (b : Bool) → bytes_eq m.name new.name ≡ b → bytes_eq name m.name ≡ false → b ≡ false
    differs false e n = refl
    differs true e n = absurd (
        let same : m.name ≡ name = (bytes_eq-Decides m.name new.name).0 e ∙ is in
        let clash : true ≡ false = sym ((bytes_eq-Decides name m.name).1 (sym same)) ∙ n in cc)

    go : (find (λ m. bytes_eq name m.name) sources ≡ None → IsDistinct bytes_eq (map (λ m. m.name) (sources ++ new ∷ []))) → (b : Bool) → bytes_eq name m.name ≡ b
        → cond b (Some m) (find (λ m. bytes_eq name m.name) sources) ≡ None
        → IsDistinct bytes_eq (map (λ m. m.name) (m ∷ sources ++ new ∷ []))
    go rest true e none = cc
    go rest false e none = (others sources (differs (bytes_eq m.name new.name) refl e) d.0, rest none)

-- ---- the source that an include names

abbrev new_source : FoundSource → Include → List ℕ → FoundSource
new_source from include path = record { name = include.raw; path = path; depth = 1 + from.depth }

of_new : (from : FoundSource) (include : Include) (path : List ℕ) (sources more : List FoundSource) → with_source from include path None sources ≡ Ok more
    → (length sources < 64) × (sources ++ new_source from include path ∷ [] ≡ more)
of_new from include path sources more e = go (nat_le 64 (length sources)) refl e
  where
    go : (b : Bool) → nat_le 64 (length sources) ≡ b → cond b (Err (refusal from include TooManySources)) (Ok (sources ++ new_source from include path ∷ [])) ≡ Ok more
        → (length sources < 64) × (sources ++ new_source from include path ∷ [] ≡ more)
    go true few e = cc
    go false few e = (leb-false 64 (length sources) few, one_ok (Ok more) (sources ++ new_source from include path ∷ []) more (sym e) refl)

of_known : (from : FoundSource) (include : Include) (path : List ℕ) (known : FoundSource) (sources more : List FoundSource) → with_source from include path (Some known) sources ≡ Ok more
    → (known.path ≡ path) × (sources ≡ more)
of_known from include path known sources more e = go (bytes_eq known.path path) refl e
  where
    go : (b : Bool) → bytes_eq known.path path ≡ b → cond b (Ok sources) (Err (refusal from include TwoFiles)) ≡ Ok more → (known.path ≡ path) × (sources ≡ more)
    go true same e = ((bytes_eq-Decides known.path path).0 same, one_ok (Ok more) sources more (sym e) refl)
    go false same e = cc

-- ---- the target of an include

module _ (files : List TriedFile) (words : Words) where
  -- if the includes of a path were found, its file was read, and they are the includes of its bytes
  bytes_there : (path : List ℕ) (includes : List Include) → found_includes files path ≡ Ok (Some includes) → (bytes : List ℕ) × (held_at files path ≡ Some bytes) × (includes_of bytes ≡ includes)
  bytes_there path includes e = go (find (λ f. bytes_eq path f.path) files) e
    where
      held : (bytes : Option (List ℕ)) → option_map includes_of bytes ≡ Some includes → (b : List ℕ) × (bytes ≡ Some b) × (includes_of b ≡ includes)
      held (Some b) e = (b, refl, (cc))
      held None e = cc

      go : (file : Option TriedFile) → includes_or_wanted path file ≡ Ok (Some includes) → (bytes : List ℕ) × (option_and_then (λ f. f.bytes) file ≡ Some bytes) × (includes_of bytes ≡ includes)
      go None e = cc
      go (Some file) e = held file.bytes (one_ok (includes_or_wanted path (Some file)) (option_map includes_of file.bytes) (Some includes) refl e)

  -- the place that is taken is the first at which there is a file
  first_lies : (missing : Stop) (places : List (List ℕ)) (to : List ℕ) → first_place files missing places ≡ Ok to → IsFirstPlace files places to
  unfolding first_place
  first_lies missing [] to e = cc
  first_lies missing (place ∷ places) to e =
      let here = both (found_includes files place) (λ there. cond (is_some there) (Ok place) (first_place files missing places)) to e in
      go (first_lies missing places to) here.0 here.1 here.2
    where
      earlier : (rest : IsFirstPlace files places to) → found_includes files place ≡ Ok None → (i : ℕ) (other : List ℕ) → i < suc rest.index → slice_get (place ∷ places) i ≡ Some other
          → found_includes files other ≡ Ok None
      earlier rest is zero other less at = let same : place ≡ other = cc in subst (λ p. found_includes files p ≡ Ok None) same is
      earlier rest is (suc i) other less at = rest.none_before i other (omega arith) at

      go : (first_place files missing places ≡ Ok to → IsFirstPlace files places to) → (there : Option (List Include)) → found_includes files place ≡ Ok there
          → cond (is_some there) (Ok place) (first_place files missing places) ≡ Ok to → IsFirstPlace files (place ∷ places) to
      go rest (Some includes) is e =
          let here = bytes_there place includes is in
          let same : place ≡ to = one_ok (Ok to) place to (sym e) refl in
          subst (IsFirstPlace files (place ∷ places)) same (record {
            index = zero;
            taken = refl;
            bytes = here.0;
            there = here.1;
            none_before = λ i other less at. absurd (omega arith);
          })
      go rest None is e =
          let r = rest e in
          record {
            index = suc r.index;
            taken = r.taken;
            bytes = r.bytes;
            there = r.there;
            none_before = λ i other less at. earlier r is i other less at;
          }

  at_include_ok : {A : Type 0} (from : FoundSource) (include : Include) (r : Result A IncludeFault) (x : A) → at_include from include r ≡ Ok x → r ≡ Ok x
  at_include_ok from include (Ok y) x e = ap Ok (one_ok (Ok y) y x refl e)
  at_include_ok from include (Err fault) x e = cc

  -- the path of an include, for a source of its name
  led : (from : FoundSource) (include : Include) (to : FoundSource) → leads_to files words from include ≡ Ok to.path → to.name ≡ include.raw → LeadsTo files words from include to
  led from include to e named = go (nat_le 8 from.depth) e
    where
      go : (b : Bool) → cond b (Err (refusal from include IncludeDepth)) (at_include from include (include_path words include.raw) >>= located files words from include) ≡ Ok to.path
          → LeadsTo files words from include to
      go true e = cc
      go false e =
          let path = both (at_include from include (include_path words include.raw)) (located files words from include) to.path e in
          record {
            name = named;
            path = path.0;
            expands = at_include_ok from include (include_path words include.raw) path.0 path.1;
            lies = first_lies (missing_file from.path include.line path.0) (places words.root from.path path.0) to.path path.2;
          }

  -- ---- the search so far: the sources before this index were read

  record IsSoFar (root : List ℕ) (index : ℕ) (sources : List FoundSource) : Type 0 where
    few : length sources ≤ 64
    root_first : slice_get sources 0 ≡ Some (record { name = root; path = root; depth = 0 })
    followed : (i : ℕ) (from : FoundSource) → i < index → slice_get sources i ≡ Some from → IsFollowed files words sources from
    included : (i : ℕ) (to : FoundSource) → slice_get sources (1 + i) ≡ Some to → (j : ℕ) × (from : FoundSource) × (j ≤ i) × (slice_get sources j ≡ Some from) × IncludesSource files words from to
    distinct : IsDistinct bytes_eq (map (λ m. m.name) sources)

  -- a source whose includes are followed among some sources is followed among more
  followed_more : (sources more : List FoundSource) (from : FoundSource) → ((i : ℕ) (m : FoundSource) → slice_get sources i ≡ Some m → slice_get more i ≡ Some m) → IsFollowed files words sources from
      → IsFollowed files words more from
  followed_more sources more from grows f = record {
    bytes = f.bytes;
    there = f.there;
    lead = λ include listed.
        let to = f.lead include listed in
        let at = index_of sources to.0 to.1 in
        (to.0, contained more at.0 to.0 (grows at.0 to.0 at.2), to.2);
  }

  -- what a step does: it adds sources, and the include leads to one of them
  record Brings (root : List ℕ) (index : ℕ) (sources : List FoundSource) (from : FoundSource) (include : Include) (more : List FoundSource) : Type 0 where
    so_far : IsSoFar root index more
    grows : (i : ℕ) (m : FoundSource) → slice_get sources i ≡ Some m → slice_get more i ≡ Some m
    leads : (to : FoundSource) × Contains more to × LeadsTo files words from include to

  module _ (root : List ℕ) (index : ℕ) (from : FoundSource) (all : List Include) (there : found_includes files from.path ≡ Ok (Some all)) where
    added : (sources : List FoundSource) (include : Include) (new : FoundSource) → IsSoFar root index sources → slice_get sources index ≡ Some from → Contains all include → length sources < 64
        → new.name ≡ include.raw
        → find (λ m. bytes_eq include.raw m.name) sources ≡ None → LeadsTo files words from include new → Brings root index sources from include (sources ++ new ∷ [])
    added sources include new s at listed few named none leads = record {
      so_far = record {
        few = let n : length (sources ++ new ∷ []) ≡ length sources + 1 = longer sources in omega arith;
        root_first = grows 0 (record { name = root; path = root; depth = 0 }) s.root_first;
        followed = λ i m less e. before_index i m less e;
        included = λ i to e. by i to (before_or_last sources new (1 + i) to e);
        distinct = distinct_more include.raw sources new named none s.distinct;
      };
      grows = grows;
      leads = (new, contained (sources ++ new ∷ []) (length sources) new (last sources), leads);
    }
      where
        longer : (ms : List FoundSource) → length (ms ++ new ∷ []) ≡ length ms + 1
        longer [] = refl
        longer (m ∷ ms) = let n : length (ms ++ new ∷ []) ≡ length ms + 1 = longer ms in omega arith

        last : (ms : List FoundSource) → slice_get (ms ++ new ∷ []) (length ms) ≡ Some new
        last [] = refl
        last (m ∷ ms) = last ms

        grows : (i : ℕ) (m : FoundSource) → slice_get sources i ≡ Some m → slice_get (sources ++ new ∷ []) i ≡ Some m
        grows i m e = kept sources (new ∷ []) i m e

        before_index : (i : ℕ) (m : FoundSource) → i < index → slice_get (sources ++ new ∷ []) i ≡ Some m → IsFollowed files words (sources ++ new ∷ []) m
        before_index i m less e = elim (before_or_last sources new i m e) [
          | inl h ↦ followed_more sources (sources ++ new ∷ []) m grows (s.followed i m less h)
          | inr h ↦ absurd (let within : index < length sources = slice_get_within sources index from at in omega (arith, h.0))
        ]

        by : (i : ℕ) (to : FoundSource) → (slice_get sources (1 + i) ≡ Some to) ⊎ ((1 + i ≡ length sources) × (new ≡ to))
            → (j : ℕ) × (m : FoundSource) × (j ≤ i) × (slice_get (sources ++ new ∷ []) j ≡ Some m) × IncludesSource files words m to
        by i to (inl h) = let r = s.included i to h in (r.0, r.1, r.2, grows r.0 r.1 r.3, r.4)
        by i to (inr h) =
            let within : index < length sources = slice_get_within sources index from at in
            let held = bytes_there from.path all there in
            let here : IncludesSource files words from new =
            record { bytes = held.0; there = held.1; include = include; listed = subst (λ xs. Contains xs include) (sym held.2) listed; leads = leads } in
            (index, from, omega (arith, h.0), grows index from at, subst (λ (x : FoundSource). IncludesSource files words from x) h.1 here)

    at_new : (sources : List FoundSource) (include : Include) (path : List ℕ) (more : List FoundSource) → IsSoFar root index sources → slice_get sources index ≡ Some from → Contains all include
        → leads_to files words from include ≡ Ok path
        → find (λ m. bytes_eq include.raw m.name) sources ≡ None → with_source from include path None sources ≡ Ok more → Brings root index sources from include more
    at_new sources include path more s at listed leads none e =
        let n = of_new from include path sources more e in
        let new : FoundSource = new_source from include path in
        subst (Brings root index sources from include) n.1 (added sources include new s at listed n.0 refl none (led from include new leads refl))

    at_known : (sources : List FoundSource) (include : Include) (path : List ℕ) (known : FoundSource) (more : List FoundSource) → IsSoFar root index sources
        → leads_to files words from include ≡ Ok path
        → find (λ m. bytes_eq include.raw m.name) sources ≡ Some known → with_source from include path (Some known) sources ≡ Ok more → Brings root index sources from include more
    at_known sources include path known more s leads is e =
        let k = of_known from include path known sources more e in
        let passes = found_passes (λ (m : FoundSource). bytes_eq include.raw m.name) sources known is in
        let named : include.raw ≡ known.name = (bytes_eq-Decides include.raw known.name).0 passes.0 in
        subst (Brings root index sources from include) k.1 (record {
          so_far = s;
          grows = λ i m e. e;
          leads = (known, contained sources passes.1.0 known passes.1.1, led from include known (leads ∙ ap Ok (sym k.0)) (sym named));
        })

    met_one : (sources : List FoundSource) (include : Include) (more : List FoundSource) → IsSoFar root index sources → slice_get sources index ≡ Some from → Contains all include
        → with_include files words from include sources ≡ Ok more → Brings root index sources from include more
    met_one sources include more s at listed e =
        let path = both (leads_to files words from include) (λ path. with_source from include path (find (λ m. bytes_eq include.raw m.name) sources) sources) more e in
        go path.0 path.1 (find (λ m. bytes_eq include.raw m.name) sources) refl path.2
      where
        go : (path : List ℕ) → leads_to files words from include ≡ Ok path → (known : Option FoundSource) → find (λ m. bytes_eq include.raw m.name) sources ≡ known
            → with_source from include path known sources ≡ Ok more → Brings root index sources from include more
        go path leads None none e = at_new sources include path more s at listed leads none e
        go path leads (Some known) is e = at_known sources include path known more s leads is e

    -- what the steps for all includes do
    record BringAll (sources : List FoundSource) (includes : List Include) (more : List FoundSource) : Type 0 where
      so_far : IsSoFar root index more
      grows : (i : ℕ) (m : FoundSource) → slice_get sources i ≡ Some m → slice_get more i ≡ Some m
      lead : (k : ℕ) (include : Include) → slice_get includes k ≡ Some include → (to : FoundSource) × Contains more to × LeadsTo files words from include to

    met_all : (sources : List FoundSource) (includes : List Include) (more : List FoundSource) → IsSoFar root index sources → slice_get sources index ≡ Some from
        → ((k : ℕ) (include : Include) → slice_get includes k ≡ Some include → Contains all include)
        → with_includes files words from includes sources ≡ Ok more → BringAll sources includes more
    met_all sources [] more s at listed e =
        let whole : sources ≡ more = one_ok (Ok more) sources more (sym e) refl in
        subst (BringAll sources []) whole (record { so_far = s; grows = λ i m e. e; lead = λ k include e. cc })
    met_all sources (include ∷ includes) more s at listed e =
        let first = both (with_include files words from include sources) (with_includes files words from includes) more e in
        let one = met_one sources include first.0 s at (listed 0 include refl) first.1 in
        let rest = met_all first.0 includes more one.so_far (one.grows index from at) (λ k x e. listed (suc k) x e) first.2 in
        record {
          so_far = rest.so_far;
          grows = λ i m e. rest.grows i m (one.grows i m e);
          lead = λ k x e. go first.0 one rest k x e;
        }
      where
        go : (mid : List FoundSource) → Brings root index sources from include mid → BringAll mid includes more → (k : ℕ) (x : Include) → slice_get (include ∷ includes) k ≡ Some x
            → (to : FoundSource) × Contains more to × LeadsTo files words from x to
        go mid one rest zero x e =
            let same : include ≡ x = cc in
            let to = one.leads in
            let at = index_of mid to.0 to.1 in
            subst (λ (y : Include). (to : FoundSource) × Contains more to × LeadsTo files words from y to) same (to.0, contained more at.0 to.0 (rest.grows at.0 to.0 at.2), to.2)
        go mid one rest (suc k) x e = rest.lead k x e

  -- ---- one source after another

  was_there : (path : List ℕ) (includes : List Include) → includes_at files path ≡ Ok includes → found_includes files path ≡ Ok (Some includes)
  was_there path includes e = let file = both (found_includes files path) (there_or_missing path) includes e in go file.0 file.1 file.2
    where
      go : (file : Option (List Include)) → found_includes files path ≡ Ok file → there_or_missing path file ≡ Ok includes → found_includes files path ≡ Ok (Some includes)
      go None is e = cc
      go (Some others) is e = is ∙ ap (λ x. Ok (Some x)) (one_ok (Ok includes) others includes (sym e) refl)

  next : (root : List ℕ) (index : ℕ) (sources more : List FoundSource) (from : FoundSource) → IsSoFar root index sources → slice_get sources index ≡ Some from
      → with_includes_of files words from sources ≡ Ok more → IsSoFar root (1 + index) more
  next root index sources more from s at e =
      let includes = both (includes_at files from.path) (λ includes. with_includes files words from includes sources) more e in
      let there = was_there from.path includes.0 includes.1 in
      let all = met_all root index from includes.0 there sources includes.0 more s at (λ k include e. contained includes.0 k include e) includes.2 in
      record {
        few = all.so_far.few;
        root_first = all.so_far.root_first;
        followed = λ i m less h. go includes.0 there all i m less h;
        included = all.so_far.included;
        distinct = all.so_far.distinct;
      }
    where
      go : (includes : List Include) (there : found_includes files from.path ≡ Ok (Some includes)) → BringAll root index from includes there sources includes more → (i : ℕ) (m : FoundSource)
          → i < 1 + index → slice_get more i ≡ Some m → IsFollowed files words more m
      go includes there all i m less h = elim (cases_lt i index) [
        | inl l ↦ all.so_far.followed i m l h
        | inr l ↦ (
            let same : i ≡ index = omega arith in
            let one : Some from ≡ Some m = sym (all.grows index from at) ∙ ap (slice_get more) (sym same) ∙ h in
            let is : from ≡ m = cc in
            let held = bytes_there from.path includes there in
            subst (IsFollowed files words more) is (record {
              bytes = held.0;
              there = held.1;
              lead = λ include listed. (let k = index_of includes include (subst (λ xs. Contains xs include) held.2 listed) in all.lead k.0 include k.2);
            }))
      ]

  -- if all indexes were read, all sources are followed
  whole : (root : List ℕ) (index : ℕ) (sources : List FoundSource) → IsSoFar root index sources → length sources ≤ index → AreSources files words root sources
  whole root index sources s past = record {
    root_first = s.root_first;
    followed = λ from listed. (let at = index_of sources from listed in s.followed at.0 from (omega (arith, at.1)) at.2);
    included = s.included;
    distinct = s.distinct;
    few = s.few;
  }

  all_found : (root : List ℕ) (left index : ℕ) (sources more : List FoundSource) → left + index ≡ 64 → IsSoFar root index sources → search_from files words left index sources ≡ Ok more
      → AreSources files words root more
  unfolding search_from
  all_found root zero index sources more n s e =
      let same : sources ≡ more = one_ok (Ok more) sources more (sym e) refl in
      subst (AreSources files words root) same (whole root index sources s (omega (arith, s.few)))
  all_found root (suc left) index sources more n s e = go (λ mid so_far goes. all_found root left (1 + index) mid more (omega arith) so_far goes) (slice_get sources index) refl e
    where
      go : ((mid : List FoundSource) → IsSoFar root (1 + index) mid → search_from files words left (1 + index) mid ≡ Ok more → AreSources files words root more) → (at : Option FoundSource)
          → slice_get sources index ≡ at → option_map_or (λ from. with_includes_of files words from sources >>= search_from files words left (1 + index)) at (Ok sources) ≡ Ok more
          → AreSources files words root more
      go rest None at e =
          let same : sources ≡ more = one_ok (Ok more) sources more (sym e) refl in
          subst (AreSources files words root) same (whole root index sources s (none_past sources index at))
      go rest (Some from) at e =
          let mid = both (with_includes_of files words from sources) (search_from files words left (1 + index)) more e in
          rest mid.0 (next root index sources mid.0 from s at mid.1) mid.2

-- ---- from the root on

-- a search that succeeds finds the sources of the root
pub finds_sources : FindsSources
unfolding IsDistinct
finds_sources files words root sources e = all_found files words root 64 0 (first ∷ []) sources (omega arith) (record {
  few = omega arith;
  root_first = refl;
  followed = λ i from less h. absurd (omega arith);
  included = λ i to h. absurd (let within : 1 + i < 1 = slice_get_within (first ∷ []) (1 + i) to h in omega arith);
  distinct = (tt, tt);
}) e
  where
    first : FoundSource
    first = record { name = root; path = root; depth = 0 }
