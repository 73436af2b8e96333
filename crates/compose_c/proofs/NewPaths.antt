-- A path that a search asks for has no answer yet.
use Rattle.std.proofs.Common.{◌≡◌, ◌≢◌, ◌⊎◌, ℕ, zero, suc, ◌+◌, ◌<◌, List, [], ◌∷◌, ◌++◌, Bool, true, false, cond, length, Option, Some, None, refl, sym, ◌∙◌, ap, subst, inl, inr, arith}
use Rattle.std.specs.Prelude.{All, Result, Ok, Err, slice_get, bytes_eq, nat_le, is_some}
use Rattle.std.specs.List.{find}
use Rattle.std.specs.Option.{option_map, option_map_or}
use Rattle.std.proofs.lemmas.List.Elements.{All-nil, All-cons}
use Rattle.std.proofs.lemmas.Slice.Eq.{bytes_eq-Decides}
use Rattle.compose_text.specs.Results.{◌>>=◌}
use Rattle.compose_find.specs.Expand.{Words, include_path}
use Rattle.compose_find.specs.Includes.{Include}
use Rattle.compose_find.specs.Found.{TriedFile, FoundSource, Stop, wanted, missing_root, missing_file, refused, includes_or_wanted, found_includes, includes_at, there_or_missing, at_include, refusal, places, first_place, located, leads_to, with_source, with_include, with_includes, with_includes_of, search_from, found}
use Rattle.compose_find.specs.declared.fault.IncludeFault.{IncludeFault}
use Rattle.compose_find.specs.declared.fault.IncludeFault.TheVariants.{TwoFiles, TooManySources, IncludeDepth}

-- if two steps fail, the first one fails, or the second one fails on the result of the first
either : {A B E : Type 0} (r : Result A E) (f : A → Result B E) (e : E) → r >>= f ≡ Err e → (r ≡ Err e) ⊎ ((x : A) × (f x ≡ Err e))
either (Ok x) f e h = inr (x, h)
either (Err fault) f e h = inl (let same : fault ≡ e = cc in ap Err same)

module _ (files : List TriedFile) (words : Words) (p : List ℕ) where
  abbrev IsNew : Type 0
  IsNew = find (λ f. bytes_eq p f.path) files ≡ None

  by_look : (path : List ℕ) → found_includes files path ≡ Err (wanted p) → IsNew
  by_look path e = go (find (λ f. bytes_eq path f.path) files) refl e
    where
      go : (o : Option TriedFile) → find (λ f. bytes_eq path f.path) files ≡ o → includes_or_wanted path o ≡ Err (wanted p) → IsNew
      go None is e = let same : path ≡ p = cc in subst (λ q. find (λ f. bytes_eq q f.path) files ≡ None) same is
      go (Some file) is e = cc

  by_place : (from : FoundSource) (line : ℕ) (path : List ℕ) (places : List (List ℕ)) → first_place files (missing_file from.path line path) places ≡ Err (wanted p) → IsNew
  unfolding first_place
  by_place from line path [] e = cc
  by_place from line path (place ∷ places) e =
      elim (either (found_includes files place) (λ there. cond (is_some there) (Ok place) (first_place files (missing_file from.path line path) places)) (wanted p) e) [
        | inl h ↦ by_look place h
        | inr h ↦ go (by_place from line path places) (is_some h.0) h.1
      ]
    where
      go : (first_place files (missing_file from.path line path) places ≡ Err (wanted p) → IsNew) → (b : Bool)
          → cond b (Ok place) (first_place files (missing_file from.path line path) places) ≡ Err (wanted p) → IsNew
      go rest true h = cc
      go rest false h = rest h

  by_include_path : (from : FoundSource) (include : Include) (r : Result (List ℕ) IncludeFault) → at_include from include r ≡ Err (wanted p) → IsNew
  by_include_path from include (Ok x) e = cc
  by_include_path from include (Err fault) e = cc

  by_lead : (from : FoundSource) (include : Include) → leads_to files words from include ≡ Err (wanted p) → IsNew
  by_lead from include e = go (nat_le 8 from.depth) e
    where
      go : (b : Bool) → cond b (Err (refusal from include IncludeDepth)) (at_include from include (include_path words include.raw) >>= located files words from include) ≡ Err (wanted p) → IsNew
      go true e = cc
      go false e = elim (either (at_include from include (include_path words include.raw)) (located files words from include) (wanted p) e) [
        | inl h ↦ by_include_path from include (include_path words include.raw) h
        | inr h ↦ by_place from include.line h.0 (places words.root from.path h.0) h.1
      ]

  by_source : (from : FoundSource) (include : Include) (path : List ℕ) (known : Option FoundSource) (sources : List FoundSource) → with_source from include path known sources ≡ Err (wanted p) → IsNew
  by_source from include path (Some known) sources e = go (bytes_eq known.path path) e
    where
      go : (b : Bool) → cond b (Ok sources) (Err (refusal from include TwoFiles)) ≡ Err (wanted p) → IsNew
      go true e = cc
      go false e = cc
  by_source from include path None sources e = go (nat_le 64 (length sources)) e
    where
      go : (b : Bool) → cond b (Err (refusal from include TooManySources)) (Ok (sources ++ record { name = include.raw; path = path; depth = 1 + from.depth } ∷ [])) ≡ Err (wanted p) → IsNew
      go true e = cc
      go false e = cc

  by_one : (from : FoundSource) (include : Include) (sources : List FoundSource) → with_include files words from include sources ≡ Err (wanted p) → IsNew
  by_one from include sources e =
      elim (either (leads_to files words from include) (λ path. with_source from include path (find (λ m. bytes_eq include.raw m.name) sources) sources) (wanted p) e) [
        | inl h ↦ by_lead from include h
        | inr h ↦ by_source from include h.0 (find (λ m. bytes_eq include.raw m.name) sources) sources h.1
      ]

  by_includes : (from : FoundSource) (includes : List Include) (sources : List FoundSource) → with_includes files words from includes sources ≡ Err (wanted p) → IsNew
  by_includes from [] sources e = cc
  by_includes from (include ∷ includes) sources e =
      elim (either (with_include files words from include sources) (with_includes files words from includes) (wanted p) e) [
        | inl h ↦ by_one from include sources h
        | inr h ↦ by_includes from includes h.0 h.1
      ]

  by_there : (path : List ℕ) (there : Option (List Include)) → there_or_missing path there ≡ Err (wanted p) → IsNew
  by_there path None e = cc
  by_there path (Some includes) e = cc

  by_file : (path : List ℕ) → includes_at files path ≡ Err (wanted p) → IsNew
  by_file path e = elim (either (found_includes files path) (there_or_missing path) (wanted p) e) [
    | inl h ↦ by_look path h
    | inr h ↦ by_there path h.0 h.1
  ]

  by_all : (from : FoundSource) (sources : List FoundSource) → with_includes_of files words from sources ≡ Err (wanted p) → IsNew
  by_all from sources e = elim (either (includes_at files from.path) (λ includes. with_includes files words from includes sources) (wanted p) e) [
    | inl h ↦ by_file from.path h
    | inr h ↦ by_includes from h.0 sources h.1
  ]

  by_search : (left index : ℕ) (sources : List FoundSource) → search_from files words left index sources ≡ Err (wanted p) → IsNew
  unfolding search_from
  by_search zero index sources e = cc
  by_search (suc left) index sources e = go (by_search left (1 + index)) (slice_get sources index) e
    where
      go : ((more : List FoundSource) → search_from files words left (1 + index) more ≡ Err (wanted p) → IsNew) → (at : Option FoundSource)
          → option_map_or (λ from. with_includes_of files words from sources >>= search_from files words left (1 + index)) at (Ok sources) ≡ Err (wanted p) → IsNew
      go rest None e = cc
      go rest (Some from) e = elim (either (with_includes_of files words from sources) (search_from files words left (1 + index)) (wanted p) e) [
        | inl h ↦ by_all from sources h
        | inr h ↦ rest h.0 h.1
      ]

-- none of these files is at the path
none_of : (p : List ℕ) (files : List TriedFile) → find (λ f. bytes_eq p f.path) files ≡ None → All (λ f. f.path ≢ p) files
none_of p [] e = All-nil (λ f. f.path ≢ p)
none_of p (f ∷ files) e = go (none_of p files) (bytes_eq p f.path) refl e
  where
    go : (find (λ f. bytes_eq p f.path) files ≡ None → All (λ f. f.path ≢ p) files) → (b : Bool) → bytes_eq p f.path ≡ b → cond b (Some f) (find (λ f. bytes_eq p f.path) files) ≡ None
        → All (λ f. f.path ≢ p) (f ∷ files)
    go rest true is e = cc
    go rest false is e = All-cons (λ f. f.path ≢ p) f files (λ same. let clash : true ≡ false = sym ((bytes_eq-Decides p f.path).1 (sym same)) ∙ is in cc) (rest e)

-- none of the files is at a path that has to be looked for
pub wanted_is_new : (files : List TriedFile) (words : Words) (root p : List ℕ) → found files words root ≡ Err (wanted p) → All (λ f. f.path ≢ p) files
wanted_is_new files words root p e = none_of p files (by_search files words p 64 0 (record { name = root; path = root; depth = 0 } ∷ []) e)
