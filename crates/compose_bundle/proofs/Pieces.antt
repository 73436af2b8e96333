-- Pieces that are written one after another.
use Rattle.std.proofs.Common.{◌≡◌, ℕ, ◌+◌, ◌<◌, ◌≤◌, ◌^◌, List, [], ◌∷◌, ◌++◌, length, take, suc, zero, add-one, sym, ◌∙◌, ap, subst, arith, length-append}
use Rattle.std.specs.Prelude.{Some, Ok, Err, flat_map, IsUtf8, slice_get}
use Rattle.std.specs.Int.{to_be_bytes, w16, w32}
use Rattle.std.specs.List.{AllByRecursion}
use Rattle.std.specs.declared.alloc.Global.{Global}
use Rattle.std.specs.declared.vec.Vec.{Vec}
use Rattle.std.proofs.Math.Seq.{take-suc, take-length}
use Rattle.std.proofs.lemmas.Grind.{flat_map-append}
use Rattle.std.proofs.lemmas.List.{append_assoc, append-nil}
use Rattle.std.proofs.lemmas.List.Concat.{flat_map-cons}
use Rattle.std.proofs.lemmas.Option.{same_Some, slice_get_within, get_or_from_slice_get}
use Rattle.std.proofs.lemmas.List.Folds.{length-flat_map-take}
use Rattle.compose_read.specs.Lines.{Source}
use Rattle.compose_read.specs.Sources.{AreSources}
use Rattle.compose_bundle.specs.Bundle.{Bundle, SourceFits, source_bytes, bundle_bytes}
use Rattle.compose_bundle.specs.Written.{max_payload, Appends, HasLengths, Writes, so_far}
use Rattle.compose_bundle.specs.declared.BundleFault.{BundleFault}
use Rattle.compose_bundle.specs.declared.BundleFault.TheVariants as bundle_faults

-- ---- source by source

all_push : (P : Source → Type 0) (sources : List Source) (s : Source) → AllByRecursion P sources → P s → AllByRecursion P (sources ++ s ∷ [])
all_push P [] s a p = (p, tt)
all_push P (x ∷ sources) s a p = (a.0, all_push P sources s a.1 p)

at_index : (P : Source → Type 0) (sources : List Source) (index : ℕ) (s : Source) → AllByRecursion P sources → slice_get sources index ≡ Some s → P s
at_index P [] index s a e = cc
at_index P (x ∷ sources) zero s a e = subst P (same_Some x s e) a.0
at_index P (x ∷ sources) (suc index) s a e = at_index P sources index s a.1 e

pub lengths_of : (s : Source) → SourceFits s → HasLengths s
lengths_of s f = record { name = f.name; content = f.content }

all_fit : (sources : List Source) → AllByRecursion HasLengths sources → AllByRecursion (λ (s : Source). IsUtf8 s.name) sources → AllByRecursion SourceFits sources
all_fit [] h t = tt
all_fit (s ∷ sources) h t = (record { name = h.0.name; text = t.0; content = h.0.content }, all_fit sources h.1 t.1)

take_more : (sources : List Source) (index : ℕ) (s : Source) → slice_get sources index ≡ Some s → take (index + 1) sources ≡ take index sources ++ s ∷ []
take_more sources index s e =
    let l = slice_get_within sources index s e in
    ap (λ n. take n sources) (add-one index) ∙ take-suc sources index s l ∙ ap (λ (y : Source). take index sources ++ y ∷ []) (get_or_from_slice_get sources index s s e)

-- if the lengths of the first sources and of the next one fit, those of the sources with that one
-- fit
pub lengths_more : (sources : List Source) (index : ℕ) (s : Source) → slice_get sources index ≡ Some s → AllByRecursion HasLengths (take index sources) → HasLengths s
    → AllByRecursion HasLengths (take (index + 1) sources)
lengths_more sources index s e a h = subst (λ (ss : List Source). AllByRecursion HasLengths ss) (sym (take_more sources index s e)) (all_push HasLengths (take index sources) s a h)

pub start : (sources : List Source) (items : List ℕ) → items ≡ [] ++ to_be_bytes w16 (length sources) → items ≡ so_far sources 0
start sources items e = e ∙ sym (append-nil (to_be_bytes w16 (length sources)))

-- the bytes of the first sources, followed by those of the next one, are those of one more source
pub bytes_more : (sources : List Source) (index : ℕ) (s : Source) → slice_get sources index ≡ Some s → so_far sources index ++ source_bytes s ≡ so_far sources (index + 1)
bytes_more sources index s e =
    let head = to_be_bytes w16 (length sources) in
    append_assoc head (flat_map source_bytes (take index sources)) (source_bytes s)
    ∙ ap (λ (y : List ℕ). head ++ y)
    (sym (ap (flat_map source_bytes) (take_more sources index s e) ∙ flat_map-append source_bytes (take index sources) (s ∷ [])
    ∙ ap (λ (y : List ℕ). flat_map source_bytes (take index sources) ++ y) (flat_map-cons source_bytes s [] ∙ append-nil (source_bytes s))))

module _ (sources : List Source) (certificate : List ℕ) where
  abbrev whole : Bundle
  whole = record { sources = sources; certificate = certificate }

  -- a source that is too large makes the bundle too large
  pub source_fails : (index : ℕ) (s : Source) (fault : BundleFault) (old new : List ℕ) → slice_get sources index ≡ Some s → old ≡ so_far sources index
      → Appends (HasLengths s) old (source_bytes s) (Err fault) new → Writes (Err fault) whole
  source_fails index s bundle_faults.Form old new e o h = absurd h
  source_fails index s bundle_faults.NoMemory old new e o h = tt
  source_fails index s bundle_faults.TooLarge old new e o h = λ f.
      let head = to_be_bytes w16 (length sources) in
      let last = to_be_bytes w32 (length certificate) in
      let before = flat_map source_bytes (take index sources) in
      let all = flat_map source_bytes sources in
      let l = slice_get_within sources index s e in
      let too : max_payload < length ((head ++ before) ++ source_bytes s) =
      subst (λ (y : List ℕ). max_payload < length (y ++ source_bytes s)) o (h (lengths_of s (at_index SourceFits sources index s f.sources e))) in
      let among : length before + length (source_bytes s) ≤ length all =
      subst (λ (y : Source). length before + length (source_bytes y) ≤ length all) (get_or_from_slice_get sources index s s e) (length-flat_map-take source_bytes sources index s l) in
      let e1 = length-append (head ++ before) (source_bytes s) in
      let e2 = length-append head before in
      let e3 = length-append ((head ++ all) ++ last) certificate in
      let e4 = length-append (head ++ all) last in
      let e5 = length-append head all in
      omega arith

  all_of_them : so_far sources (length sources) ++ (to_be_bytes w32 (length certificate) ++ certificate) ≡ bundle_bytes whole
  all_of_them =
      ap (λ (ss : List Source). (to_be_bytes w16 (length sources) ++ flat_map source_bytes ss) ++ (to_be_bytes w32 (length certificate) ++ certificate)) (take-length sources)
      ∙ sym (append_assoc (to_be_bytes w16 (length sources) ++ flat_map source_bytes sources) (to_be_bytes w32 (length certificate)) certificate)

  pub certificate_fails : (fault : BundleFault) (old new : List ℕ) → old ≡ so_far sources (length sources)
      → Appends (length certificate < 2 ^ 32) old (to_be_bytes w32 (length certificate) ++ certificate) (Err fault) new → Writes (Err fault) whole
  certificate_fails bundle_faults.Form old new o h = absurd h
  certificate_fails bundle_faults.NoMemory old new o h = tt
  certificate_fails bundle_faults.TooLarge old new o h = λ f.
      subst (λ (y : List ℕ). max_payload < length y) (ap (λ (y : List ℕ). y ++ (to_be_bytes w32 (length certificate) ++ certificate)) o ∙ all_of_them) (h f.certificate)

  -- all of it is written
  pub all_written : (u : Unit {0}) (old : List ℕ) (payload : Vec ℕ Global) → old ≡ so_far sources (length sources) → AllByRecursion HasLengths (take (length sources) sources) → AreSources sources
      → 0 < length sources
      → Appends (length certificate < 2 ^ 32) old (to_be_bytes w32 (length certificate) ++ certificate) (Ok u) payload.items → Writes (Ok payload) whole
  all_written u old payload o a sound some h = (
    record {
      fits = record {
        some = some;
        few = sound.few;
        sources = all_fit sources (subst (λ (ss : List Source). AllByRecursion HasLengths ss) (take-length sources) a) sound.text;
        distinct = sound.distinct;
        certificate = h.0;
      };
      is = h.1 ∙ ap (λ (y : List ℕ). y ++ (to_be_bytes w32 (length certificate) ++ certificate)) o ∙ all_of_them;
    },
    h.2,
  )
