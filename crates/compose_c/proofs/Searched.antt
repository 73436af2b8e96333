-- The results of a search, part by part.
use Rattle.std.proofs.Common.{◌≡◌, ◌⊎◌, ℕ, List, Option, Some, None, refl, sym, ◌∙◌, ap, subst, inl, inr, arith, length, string_bytes}
use Rattle.std.specs.Prelude.{Result, Ok, Err, MatchResult}
use Rattle.compose_bundle.specs.Bundle.{Bundle, IsBundle}
use Rattle.compose_find.specs.Expand.{Words}
use Rattle.compose_find.specs.Found.{TriedFile, FoundSource, Stop, wanted, found}
use Rattle.compose_c.specs.Answers.{answers_of}
use Rattle.compose_c.specs.Faults.{of_part}
use Rattle.compose_c.specs.Finds as finds
use Rattle.compose_c.specs.Finds.{Search, IsFound, IsWanted, IsSearchResult, IsSearchResultOf, IsBundled, IsLarge, FailsSearch, Finds, Wants, Needs, ReportsFind, search_of, search_by, text_of, words_of, of_stop, search_result_bytes, search_result_number}
use Rattle.compose_c.specs.declared.fault.FaultRecord.{FaultRecord}
use Rattle.compose_c.specs.declared.find.SearchResult.{SearchResult}
use Rattle.compose_c.specs.declared.find.SearchResult.TheVariants as search_result
use Rattle.compose_c.proofs.NewPaths.{wanted_is_new}

-- ---- a search

module _ (answers root system locale home sysroot : List ℕ) where
  abbrev of_all : Option Search
  of_all = search_of answers root system locale home sysroot

  pub no_answers : answers_of answers ≡ None → of_all ≡ None
  no_answers a = rw a refl

  module _ (files : List TriedFile) (a : Some files ≡ answers_of answers) where
    pub no_root : text_of root ≡ None → of_all ≡ None
    no_root r = rw (sym a) (rw r refl)

    module _ (path : List ℕ) (r : Some path ≡ text_of root) where
      pub no_words : words_of system locale home sysroot ≡ None → of_all ≡ None
      no_words w = rw (sym a) (rw (sym r) (rw w refl))

      pub whole : (words : Words) → Some words ≡ words_of system locale home sysroot → of_all ≡ Some (search_by files words path)
      whole words w = rw (sym a) (rw (sym r) (rw (sym w) refl))

-- the result of the search is the result of the search that C asks for
pub passed_on : (search : Option Search) (s : Search) (certificate : List ℕ) (r : Result SearchResult FaultRecord) → search ≡ Some s
    → MatchResult r (λ f. IsSearchResult s certificate f) (λ fault. FailsSearch s certificate fault)
    → MatchResult r (λ f. IsSearchResultOf search certificate f) (λ fault. ReportsFind search certificate fault)
passed_on search s certificate (Ok f) e h = (s, e, h)
passed_on search s certificate (Err fault) e h = inr (inr (s, e, h))

-- ---- what it finds

module _ (s : Search) (certificate : List ℕ) where
  pub bundled : (sources : List FoundSource) (b : Bundle) (r : Result SearchResult FaultRecord) → found s.files s.words s.root ≡ Ok sources → b ≡ finds.bundle_of s certificate sources → IsBundled b r
      → MatchResult r (λ f. IsSearchResult s certificate f) (λ fault. FailsSearch s certificate fault)
  bundled sources b (Ok (search_result.Found bytes)) f e h = record { sources = sources; found = f; is = subst (IsBundle bytes.items) e h }
  bundled sources b (Ok (search_result.Wanted path)) f e h = absurd h
  bundled sources b (Err fault) f e (inl h) = inl h
  bundled sources b (Err fault) f e (inr h) = inr (inr (record { sources = sources; found = f; large = subst IsLarge e h.0; numbers = h.1 }))

  pub wants : (path : List ℕ) → found s.files s.words s.root ≡ Err (wanted path) → IsWanted s path
  wants path e = record { is = e; new = wanted_is_new s.files s.words s.root path e }

  pub stopped : (stop : Stop) (numbers fault : FaultRecord) → found s.files s.words s.root ≡ Err stop → of_stop s.files stop ≡ Some numbers → (fault ≡ of_part 6 0) ⊎ (fault ≡ numbers)
      → FailsSearch s certificate fault
  stopped stop numbers fault e n (inl h) = inl h
  stopped stop numbers fault e n (inr h) = inr (inl (record { stop = stop; is = e; numbers = n ∙ ap Some (sym h) }))

-- ---- for C

module _ (search : Option Search) (certificate : List ℕ) where
  pub found_put : (f : SearchResult) (number : ℕ) (bytes : List ℕ) → IsSearchResultOf search certificate f → number ≡ search_result_number f → bytes ≡ search_result_bytes f → number ≡ 0 → Finds search certificate bytes
  found_put (search_result.Found items) number bytes h n b z = (h.0, h.1, subst (IsFound h.0 certificate) (sym b) h.2)
  found_put (search_result.Wanted path) number bytes h n b z = absurd (omega (arith, n, z))

  pub wanted_put : (f : SearchResult) (number : ℕ) (bytes : List ℕ) → IsSearchResultOf search certificate f → number ≡ search_result_number f → bytes ≡ search_result_bytes f → number ≡ 3 → Wants search bytes
  wanted_put (search_result.Found items) number bytes h n b z = absurd (omega (arith, n, z))
  wanted_put (search_result.Wanted path) number bytes h n b z = (h.0, h.1, subst (IsWanted h.0) (sym b) h.2)

  pub needs : (f : SearchResult) (size : ℕ) → IsSearchResultOf search certificate f → size ≡ length (search_result_bytes f) → Needs search certificate size
  needs (search_result.Found items) size h n = (items.items, inl (h.0, h.1, h.2), n)
  needs (search_result.Wanted path) size h n = (string_bytes path, inr (h.0, h.1, h.2), n)
