-- A payload is at most one bundle, the one that is decoded.
use Rattle.std.proofs.Common.{◌≡◌, ℕ, suc, zero, ◌<◌, ◌≤◌, ◌^◌, List, [], ◌∷◌, ◌++◌, Bool, true, false, cond, length, nat_lt, nat_le, refl, sym, ◌∙◌, ap, ap₂, subst, arith, get_or, Fits, w8, leb-true, ltb-true}
use Rattle.std.specs.Prelude.{Option, Some, None, Result, Ok, Err, MatchResult, flat_map, if◌then◌else◌, ◌&&◌}
use Rattle.std.specs.Int.{to_be_bytes, from_be_bytes, w16, w32}
use Rattle.std.specs.List.{AllByRecursion, IsDistinct}
use Rattle.std.specs.Str.{is_utf8, bytes_eq}
use Rattle.std.proofs.Math.Facts.{Fits-lt-pow}
use Rattle.std.proofs.lemmas.Bool.{le-leb, lt-ltb, and_parts}
use Rattle.std.proofs.lemmas.List.{append-nil, append_assoc}
use Rattle.std.proofs.lemmas.List.Concat.{flat_map-cons}
use Rattle.std.proofs.lemmas.Nat.{from_be_bytes-to_be_bytes_2}
use Rattle.std.proofs.lemmas.Option.{same_Some}
use Rattle.std.proofs.lemmas.Str.{is_utf8-from_IsUtf8, IsUtf8-from_is_utf8}
use Rattle.compose_model.specs.Step.{is_empty}
use Rattle.compose_read.specs.Lines.{Source, source_named}
use Rattle.compose_bundle.specs.Bundle.{Bundle, SourceFits, BundleFits, IsBundle, AreBytes, names_of, source_bytes, bundle_bytes}
use Rattle.compose_bundle.specs.Decoded.{◌>>=◌, split, sized_by_2, sized_by_4, named, source_at, more_source, sources_at, ended, counted, bundle_of}
use Rattle.compose_bundle.specs.Written.{NotRead, NotDecoded}
use Rattle.compose_bundle.specs.declared.BundleFault.{BundleFault}
use Rattle.compose_bundle.specs.declared.BundleFault.TheVariants as bundle_faults
use Rattle.compose_bundle.proofs.Names.{IsNew, new_from, not_taken, still_distinct, new_among, none_distinct}
use Rattle.compose_bundle.proofs.Splits.{bound, split_append, sized_2, sized_4, split_whole, sized_2_whole, sized_4_whole, left_bytes, right_bytes, two_again}

-- ---- the parts of the written bytes

abbrev pub source_parts : Source → List ℕ → List ℕ
source_parts s x = to_be_bytes w16 (length s.name) ++ (s.name ++ (to_be_bytes w32 (length s.bytes) ++ (s.bytes ++ x)))

five : (a b c d x : List ℕ) → (((a ++ b) ++ c) ++ d) ++ x ≡ a ++ (b ++ (c ++ (d ++ x)))
five a b c d x = simp append_assoc

four : (a b c d : List ℕ) → ((a ++ b) ++ c) ++ d ≡ a ++ (b ++ (c ++ d))
four a b c d = simp append_assoc

in_parts : (s : Source) (x : List ℕ) → source_bytes s ++ x ≡ source_parts s x
in_parts s x = five (to_be_bytes w16 (length s.name)) s.name (to_be_bytes w32 (length s.bytes)) s.bytes x

abbrev certificate_bytes : List ℕ → List ℕ
certificate_bytes c = to_be_bytes w32 (length c) ++ c

bundle_in_parts : (b : Bundle) → bundle_bytes b ≡ to_be_bytes w16 (length b.sources) ++ (flat_map source_bytes b.sources ++ certificate_bytes b.certificate)
bundle_in_parts b = four (to_be_bytes w16 (length b.sources)) (flat_map source_bytes b.sources) (to_be_bytes w32 (length b.certificate)) b.certificate

-- the first of some sources, and the others
first_source : (s : Source) (sources : List Source) (x : List ℕ) → flat_map source_bytes (s ∷ sources) ++ x ≡ source_bytes s ++ (flat_map source_bytes sources ++ x)
first_source s sources x = ap (λ (y : List ℕ). y ++ x) (flat_map-cons source_bytes s sources) ∙ append_assoc (source_bytes s) (flat_map source_bytes sources) x

-- ---- a bundle that is written is found again

source_again : (s : Source) (x : List ℕ) → SourceFits s → source_at (source_bytes s ++ x) ≡ Some (s, x)
source_again s x f =
    let rest : List ℕ = to_be_bytes w32 (length s.bytes) ++ (s.bytes ++ x) in
    ap source_at (in_parts s x)
    ∙ ap (λ o. o >>= (λ p. named p.0 p.1)) (sized_2 s.name rest f.name)
    ∙ ap (λ b. cond {A = Option (Source × List ℕ)} b (sized_by_4 rest >>= (λ p. Some (record { name = s.name; bytes = p.0 }, p.1))) None) (is_utf8-from_IsUtf8 s.name f.text)
    ∙ ap (λ o. o >>= (λ (p : List ℕ × List ℕ). let y : Option (Source × List ℕ) = Some (record { name = s.name; bytes = p.0 }, p.1) in y)) (sized_4 s.bytes x f.content)

more_again : (done : List Source) (s : Source) (x : List ℕ) → SourceFits s → IsNew done s.name → more_source done (source_bytes s ++ x) ≡ Some (s, x)
more_again done s x f n =
    ap (λ o. o >>= (λ p. if nat_lt (source_named done p.0.name) (length done) then None else Some p)) (source_again s x f)
    ∙ ap (λ b. cond {A = Option (Source × List ℕ)} b None (Some (s, x))) (not_taken s.name done n)

sources_again : (done sources : List Source) (x : List ℕ) → AllByRecursion SourceFits sources → IsDistinct bytes_eq (names_of (done ++ sources))
    → sources_at (length sources) done (flat_map source_bytes sources ++ x) ≡ Some (done ++ sources, x)
sources_again done [] x a d = ap (λ (ss : List Source). let r : Option (List Source × List ℕ) = Some (ss, x) in r) (sym (append-nil done))
sources_again done (s ∷ sources) x a d =
    ap (sources_at (suc (length sources)) done) (first_source s sources x)
    ∙ ap (λ o. o >>= (λ p. sources_at (length sources) (done ++ p.0 ∷ []) p.1)) (more_again done s (flat_map source_bytes sources ++ x) a.0 (new_among done s sources d))
    ∙ sources_again (done ++ s ∷ []) sources x a.1 (subst (λ (l : List Source). IsDistinct bytes_eq (names_of l)) (sym (append_assoc done (s ∷ []) sources)) d)
    ∙ ap (λ (ss : List Source). let r : Option (List Source × List ℕ) = Some (ss, x) in r) (append_assoc done (s ∷ []) sources)

right_count : (n : ℕ) → 0 < n → n ≤ 64 → nat_lt 0 n && nat_le n 64 ≡ true
right_count n some few = ap₂ (λ b c. b && c) (lt-ltb 0 n some) (le-leb n 64 few)

bundle_again : (b : Bundle) → BundleFits b → bundle_of (bundle_bytes b) ≡ Some b
bundle_again b f =
    let n = length b.sources in
    let last : List ℕ = certificate_bytes b.certificate in
    let rest : List ℕ = flat_map source_bytes b.sources ++ last in
    let few = f.few in
    ap bundle_of (bundle_in_parts b)
    ∙ ap (λ o. o >>= (λ p. counted (from_be_bytes w16 p.0) p.1)) (split_append (to_be_bytes w16 n) rest 2 refl)
    ∙ ap (λ m. counted m rest) (from_be_bytes-to_be_bytes_2 n (omega arith))
    ∙ ap (λ c. cond {A = Option Bundle} c (sources_at n [] rest >>= (λ s. sized_by_4 s.1 >>= (λ c. ended s.0 c))) None) (right_count n f.some f.few)
    ∙ ap (λ o. o >>= (λ s. sized_by_4 s.1 >>= (λ c. ended s.0 c))) (sources_again [] b.sources last f.sources f.distinct)
    ∙ ap (λ (c : List ℕ). sized_by_4 (to_be_bytes w32 (length b.certificate) ++ c) >>= (λ c. ended b.sources c)) (sym (append-nil b.certificate))
    ∙ ap (λ o. o >>= (λ c. ended b.sources c)) (sized_4 b.certificate [] f.certificate)

-- a payload that is a bundle is decoded as this bundle
pub found : (payload : List ℕ) (b : Bundle) → IsBundle payload b → bundle_of payload ≡ Some b
found payload b h = ap bundle_of h.is ∙ bundle_again b h.fits

-- a payload is at most one bundle
pub one : (payload : List ℕ) (a b : Bundle) → IsBundle payload a → IsBundle payload b → a ≡ b
one payload a b h k = same_Some a b (sym (found payload a h) ∙ found payload b k)

-- ---- a bundle that is found was written this way

record SourceRead (bytes : List ℕ) (s : Source) (x : List ℕ) : Type 0 where
  whole : bytes ≡ source_bytes s ++ x
  fits : SourceFits s
  left : AreBytes x

module _ (bytes name rest : List ℕ) (whole : bytes ≡ to_be_bytes w16 (length name) ++ (name ++ rest)) (short : length name < 2 ^ 16) (are : AreBytes rest) where
  named_read : (s : Source) (x : List ℕ) → named name rest ≡ Some (s, x) → SourceRead bytes s x
  named_read s x h = go (is_utf8 name) refl h
    where
      go : (b : Bool) → is_utf8 name ≡ b → cond {A = Option (Source × List ℕ)} b (sized_by_4 rest >>= (λ p. Some (record { name = name; bytes = p.0 }, p.1))) None ≡ Some (s, x) → SourceRead bytes s x
      go false t h = cc
      go true t h =
          let b = bound (sized_by_4 rest) (λ p. let y : Option (Source × List ℕ) = Some (record { name = name; bytes = p.0 }, p.1) in y) (s, x) h in
          let content = b.value.0 in
          let left = b.value.1 in
          let second = sized_4_whole rest content left are b.is in
          let here : Source = record { name = name; bytes = content } in
          let both : (here, left) ≡ (s, x) = same_Some (here, left) (s, x) b.gives in
          let read : SourceRead bytes here left = record {
            whole = whole ∙ ap (λ (y : List ℕ). to_be_bytes w16 (length name) ++ (name ++ y)) second.whole ∙ sym (in_parts here left);
            fits = record { name = short; text = IsUtf8-from_is_utf8 name t; content = second.fits };
            left = second.left;
          } in
          subst (λ (p : Source × List ℕ). SourceRead bytes p.0 p.1) both read

source_read : (bytes : List ℕ) (s : Source) (x : List ℕ) → AreBytes bytes → source_at bytes ≡ Some (s, x) → SourceRead bytes s x
source_read bytes s x are h =
    let b = bound (sized_by_2 bytes) (λ p. named p.0 p.1) (s, x) h in
    let first = sized_2_whole bytes b.value.0 b.value.1 are b.is in
    named_read bytes b.value.0 b.value.1 first.whole first.fits first.left s x b.gives

-- a source with a new name
record MoreRead (done : List Source) (bytes : List ℕ) (s : Source) (x : List ℕ) : Type 0 where
  read : SourceRead bytes s x
  is_new : IsNew done s.name

more_read : (done : List Source) (bytes : List ℕ) (s : Source) (x : List ℕ) → AreBytes bytes → more_source done bytes ≡ Some (s, x) → MoreRead done bytes s x
more_read done bytes s x are h =
    let b = bound (source_at bytes) (λ (p : Source × List ℕ). cond {A = Option (Source × List ℕ)} (nat_lt (source_named done p.0.name) (length done)) None (Some p)) (s, x) h in
    go b.value b.is (nat_lt (source_named done b.value.0.name) (length done)) refl b.gives
  where
    go : (p : Source × List ℕ) → source_at bytes ≡ Some p → (t : Bool) → nat_lt (source_named done p.0.name) (length done) ≡ t → cond {A = Option (Source × List ℕ)} t None (Some p) ≡ Some (s, x)
        → MoreRead done bytes s x
    go p is true t g = cc
    go p is false t g =
        let both : p ≡ (s, x) = same_Some p (s, x) g in
        let read : MoreRead done bytes p.0 p.1 = record { read = source_read bytes p.0 p.1 are is; is_new = new_from p.0.name done t } in
        subst (λ (q : Source × List ℕ). MoreRead done bytes q.0 q.1) both read

record SourcesRead (n : ℕ) (done : List Source) (bytes : List ℕ) (all : List Source) (x : List ℕ) : Type 0 where
  more : List Source
  after : all ≡ done ++ more
  many : length more ≡ n
  whole : bytes ≡ flat_map source_bytes more ++ x
  fits : AllByRecursion SourceFits more
  distinct : IsDistinct bytes_eq (names_of done) → IsDistinct bytes_eq (names_of all)
  left : AreBytes x

sources_read : (n : ℕ) (done : List Source) (bytes : List ℕ) (all : List Source) (x : List ℕ) → AreBytes bytes → sources_at n done bytes ≡ Some (all, x) → SourcesRead n done bytes all x
sources_read zero done bytes all x are h =
    let both : (done, bytes) ≡ (all, x) = same_Some (done, bytes) (all, x) h in
    let nothing : SourcesRead 0 done bytes done bytes = record { more = []; after = sym (append-nil done); many = refl; whole = refl; fits = tt; distinct = λ d. d; left = are } in
    subst (λ (p : List Source × List ℕ). SourcesRead 0 done bytes p.0 p.1) both nothing
sources_read (suc n) done bytes all x are h =
    let b = bound (more_source done bytes) (λ p. sources_at n (done ++ p.0 ∷ []) p.1) (all, x) h in
    let s = b.value.0 in
    let first = more_read done bytes s b.value.1 are b.is in
    let rest = sources_read n (done ++ s ∷ []) b.value.1 all x first.read.left b.gives in
    record {
      more = s ∷ rest.more;
      after = rest.after ∙ append_assoc done (s ∷ []) rest.more;
      many = ap suc rest.many;
      whole = first.read.whole ∙ ap (λ (y : List ℕ). source_bytes s ++ y) rest.whole ∙ sym (first_source s rest.more x);
      fits = (first.read.fits, rest.fits);
      distinct = λ d. rest.distinct (still_distinct done s d first.is_new);
      left = rest.left;
    }

empty_is : (x : List ℕ) → is_empty x ≡ true → x ≡ []
empty_is [] h = refl
empty_is (y ∷ x) h = cc

-- the certificate ends the payload
record Ended (sources : List Source) (rest : List ℕ) (b : Bundle) : Type 0 where
  sources_are : sources ≡ b.sources
  whole : rest ≡ to_be_bytes w32 (length b.certificate) ++ b.certificate
  fits : length b.certificate < 2 ^ 32

ended_read : (sources : List Source) (rest : List ℕ) (b : Bundle) → AreBytes rest → (sized_by_4 rest >>= (λ c. ended sources c)) ≡ Some b → Ended sources rest b
ended_read sources rest b are h =
    let c = bound (sized_by_4 rest) (λ c. ended sources c) b h in
    let part = sized_4_whole rest c.value.0 c.value.1 are c.is in
    go c.value.0 c.value.1 part.whole part.fits (is_empty c.value.1) refl c.gives
  where
    go : (certificate x : List ℕ) → rest ≡ to_be_bytes w32 (length certificate) ++ (certificate ++ x) → length certificate < 2 ^ 32 → (t : Bool) → is_empty x ≡ t
        → cond {A = Option Bundle} t (Some (record { sources = sources; certificate = certificate })) None ≡ Some b → Ended sources rest b
    go certificate x whole fits false t g = cc
    go certificate x whole fits true t g =
        let here : Bundle = record { sources = sources; certificate = certificate } in
        let same : here ≡ b = same_Some here b g in
        let read : Ended sources rest here = record {
          sources_are = refl;
          whole =
              whole ∙ ap (λ (y : List ℕ). to_be_bytes w32 (length certificate) ++ (certificate ++ y)) (empty_is x t)
              ∙ ap (λ (y : List ℕ). to_be_bytes w32 (length certificate) ++ y) (append-nil certificate);
          fits = fits;
        } in
        subst (λ (y : Bundle). Ended sources rest y) same read

module _ (payload head rest : List ℕ) (b : Bundle) (whole : payload ≡ head ++ rest) (two : length head ≡ 2) (are_head : AreBytes head) (are_rest : AreBytes rest) where
  counted_read : (n : ℕ) → n ≡ from_be_bytes w16 head → counted n rest ≡ Some b → IsBundle payload b
  counted_read n is h = go (nat_lt 0 n && nat_le n 64) refl h
    where
      go : (t : Bool) → nat_lt 0 n && nat_le n 64 ≡ t → cond {A = Option Bundle} t (sources_at n [] rest >>= (λ s. sized_by_4 s.1 >>= (λ c. ended s.0 c))) None ≡ Some b → IsBundle payload b
      go false t g = cc
      go true t g =
          let s = bound (sources_at n [] rest) (λ s. sized_by_4 s.1 >>= (λ c. ended s.0 c)) b g in
          let read = sources_read n [] rest s.value.0 s.value.1 are_rest s.is in
          let last = ended_read s.value.0 s.value.1 b read.left s.gives in
          let are : read.more ≡ b.sources = sym read.after ∙ last.sources_are in
          let parts = and_parts (nat_lt 0 n) (nat_le n 64) t in
          let many : n ≡ length b.sources = sym read.many ∙ ap length are in
          record {
            fits = record {
              some = subst (λ (m : ℕ). 0 < m) many (ltb-true 0 n parts.0);
              few = subst (λ (m : ℕ). m ≤ 64) many (leb-true n 64 parts.1);
              sources = subst (λ (ss : List Source). AllByRecursion SourceFits ss) are read.fits;
              distinct = subst (λ (ss : List Source). IsDistinct bytes_eq (names_of ss)) last.sources_are (read.distinct none_distinct);
              certificate = last.fits;
            };
            is = whole ∙ ap₂ (λ (p q : List ℕ). p ++ q) (sym (two_again head two are_head) ∙ ap (to_be_bytes w16) (sym is ∙ many))
                (read.whole ∙ ap₂ (λ (ss : List Source) (q : List ℕ). flat_map source_bytes ss ++ q) are last.whole)
                ∙ sym (bundle_in_parts b);
          }

-- the bundle that is decoded from a payload of bytes is the payload's bundle
pub only : (payload : List ℕ) (b : Bundle) → AreBytes payload → bundle_of payload ≡ Some b → IsBundle payload b
only payload b are h =
    let p = bound (split 2 payload) (λ p. counted (from_be_bytes w16 p.0) p.1) b h in
    let first = split_whole 2 payload p.value.0 p.value.1 p.is in
    let are' : AreBytes (p.value.0 ++ p.value.1) = subst AreBytes first.whole are in
    counted_read payload p.value.0 p.value.1 b first.whole first.long (left_bytes p.value.0 p.value.1 are') (right_bytes p.value.0 p.value.1 are') (from_be_bytes w16 p.value.0) refl p.gives

-- nothing is decoded from a payload that is no bundle
pub none : (payload : List ℕ) → AreBytes payload → ((b : Bundle) → IsBundle payload b → ⊥) → bundle_of payload ≡ None
none payload are not_one = go (bundle_of payload) refl
  where
    go : (o : Option Bundle) → bundle_of payload ≡ o → bundle_of payload ≡ None
    go None e = e
    go (Some b) e = absurd (not_one b (only payload b are e))

-- the decoded bundle is the payload's bundle
pub read_as_decoded : (payload : List ℕ) → AreBytes payload → {X : Type 0} (view : X → Bundle) (result : Result X BundleFault)
    → MatchResult result (λ x. bundle_of payload ≡ Some (view x)) (λ fault. NotDecoded fault (bundle_of payload))
    → MatchResult result (λ x. IsBundle payload (view x)) (λ fault. NotRead fault payload)
read_as_decoded payload are view (Ok x) h = only payload (view x) are h
read_as_decoded payload are view (Err bundle_faults.Form) h = λ b k. absurd (let no : Some b ≡ None = sym (found payload b k) ∙ h in cc)
read_as_decoded payload are view (Err bundle_faults.TooLarge) h = h
read_as_decoded payload are view (Err bundle_faults.NoMemory) h = tt

-- numbers below 256 are bytes
pub are_bytes : (payload : List ℕ) → ((i : ℕ) → Fits w8 (get_or payload i 0)) → AreBytes payload
are_bytes [] f = tt
are_bytes (x ∷ payload) f = (Fits-lt-pow (f 0), are_bytes payload (λ i. f (suc i)))
