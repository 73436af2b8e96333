-- A search that needs no locale: whatever succeeds without one gives the same with any.
use Rattle.std.proofs.Common.{◌≡◌, ℕ, ◌+◌, List, [], ◌∷◌, Bool, true, false, Option, Some, None, Result, Ok, Err, refl, sym, subst, zero, suc}
use Rattle.std.specs.Prelude.{◌==◌, nat_le, if◌then◌else◌, slice_get}
use Rattle.std.specs.Option.{option_map_or}
use Rattle.compose_text.specs.Results.{◌>>=◌}
use Rattle.compose_lex.specs.Escape.{text_of}
use Rattle.compose_read.specs.Lines.{max_depth}
use Rattle.compose_read.specs.Sources.{max_sources}
use Rattle.compose_find.specs.Expand.{Words, meaning, path_from, as_text, include_path}
use Rattle.compose_find.specs.Includes.{Include}
use Rattle.compose_find.specs.Found.{TriedFile, FoundSource, at_include, leads_to, with_include, with_includes, with_includes_of, includes_at, search_from}
use Rattle.compose_find.specs.Sources.{FindsWithAny}

-- the second result is that of the first, if this is no fault
abbrev Follows : {A E : Type 0} → Result A E → Result A E → Type 0
Follows {A} r s = (x : A) → r ≡ Ok x → s ≡ Ok x

same : {A E : Type 0} (r : Result A E) → Follows r r
same r x h = h

fault : {A E : Type 0} (e : E) (s : Result A E) → Follows (Err e) s
fault e s x h = cc

steps : {A B E : Type 0} (r s : Result A E) (f g : A → Result B E) → Follows r s → ((x : A) → Follows (f x) (g x)) → Follows (r >>= f) (s >>= g)
steps (Ok y) s f g first next x h = subst (λ s. s >>= g ≡ Ok x) (sym (first y refl)) (next y x h)
steps (Err e) s f g first next x h = cc

either : {A E : Type 0} (b : Bool) (r s r' s' : Result A E) → Follows r r' → Follows s s' → Follows (if b then r else s) (if b then r' else s')
either true r s r' s' first second = first
either false r s r' s' first second = second

-- ---- paths

abbrev with_locale : Words → Option (List ℕ) → Words
with_locale words locale = record words { locale = locale }

meaning_follows : (words : Words) (locale : Option (List ℕ)) (b : ℕ) → Follows (meaning (with_locale words None) b) (meaning (with_locale words locale) b)
meaning_follows words locale b =
    either (b == 37) _ _ _ _ (same _) (either (b == 83) _ _ _ _ (same _) (either (b == 76) _ _ _ _ (fault _ _) (either (b == 72) _ _ _ _ (same _) (same _))))

path_follows : (words : Words) (locale : Option (List ℕ)) (after : Bool) (text : List ℕ) → Follows (path_from (with_locale words None) after text) (path_from (with_locale words locale) after text)
path_follows words locale false [] = same _
path_follows words locale true [] = same _
path_follows words locale false (b ∷ rest) =
    either (b == 37) _ _ _ _ (path_follows words locale true rest) (steps _ _ _ _ (path_follows words locale false rest) (λ more. same _))
path_follows words locale true (b ∷ rest) =
    steps _ _ _ _ (meaning_follows words locale b) (λ prefix. steps _ _ _ _ (path_follows words locale false rest) (λ more. same _))

include_follows : (words : Words) (locale : Option (List ℕ)) (raw : List ℕ) → Follows (include_path (with_locale words None) raw) (include_path (with_locale words locale) raw)
include_follows words locale raw = steps _ _ _ _ (same (as_text (text_of raw))) (λ text. path_follows words locale false text)

-- ---- sources

at_follows : {A : Type 0} (from : FoundSource) (include : Include) (r s : Result A _) → Follows r s → Follows (at_include from include r) (at_include from include s)
at_follows from include (Ok y) s h x e = subst (λ s. at_include from include s ≡ Ok x) (sym (h y refl)) e
at_follows from include (Err f) s h x e = cc

leads_follows : (files : List TriedFile) (words : Words) (locale : Option (List ℕ)) (from : FoundSource) (include : Include)
    → Follows (leads_to files (with_locale words None) from include) (leads_to files (with_locale words locale) from include)
leads_follows files words locale from include =
    either (nat_le max_depth from.depth) _ _ _ _ (same _) (steps _ _ _ _ (at_follows from include _ _ (include_follows words locale include.raw)) (λ path. same _))

include_source_follows : (files : List TriedFile) (words : Words) (locale : Option (List ℕ)) (from : FoundSource) (include : Include) (sources : List FoundSource)
    → Follows (with_include files (with_locale words None) from include sources) (with_include files (with_locale words locale) from include sources)
include_source_follows files words locale from include sources = steps _ _ _ _ (leads_follows files words locale from include) (λ path. same _)

includes_follow : (files : List TriedFile) (words : Words) (locale : Option (List ℕ)) (from : FoundSource) (includes : List Include) (sources : List FoundSource)
    → Follows (with_includes files (with_locale words None) from includes sources) (with_includes files (with_locale words locale) from includes sources)
includes_follow files words locale from [] sources = same _
includes_follow files words locale from (include ∷ includes) sources =
    steps _ _ _ _ (include_source_follows files words locale from include sources) (λ more. includes_follow files words locale from includes more)

source_follows : (files : List TriedFile) (words : Words) (locale : Option (List ℕ)) (from : FoundSource) (sources : List FoundSource)
    → Follows (with_includes_of files (with_locale words None) from sources) (with_includes_of files (with_locale words locale) from sources)
source_follows files words locale from sources = steps _ _ _ _ (same (includes_at files from.path)) (λ includes. includes_follow files words locale from includes sources)

-- the next source, if there is one
next_follows : {A B E : Type 0} (o : Option A) (f g : A → Result B E) (end : Result B E) → ((x : A) → Follows (f x) (g x)) → Follows (option_map_or f o end) (option_map_or g o end)
next_follows (Some x) f g end h = h x
next_follows None f g end h = same _

search_follows : (files : List TriedFile) (words : Words) (locale : Option (List ℕ)) (left index : ℕ) (sources : List FoundSource)
    → Follows (search_from files (with_locale words None) left index sources) (search_from files (with_locale words locale) left index sources)
unfolding search_from
search_follows files words locale zero index sources = same _
search_follows files words locale (suc left) index sources =
    next_follows (slice_get sources index) _ _ _ (λ from. steps _ _ _ _ (source_follows files words locale from sources) (λ more. search_follows files words locale left (1 + index) more))

pub finds_with_any : FindsWithAny
finds_with_any files words root locale sources h = search_follows files words locale max_sources 0 _ sources h
