-- A bundle, source by source.
use Rattle.std.proofs.Common.{◌≡◌, ℕ, suc, zero, ◌-◌, ◌+◌, ◌<◌, ◌≤◌, List, [], ◌∷◌, ◌++◌, length, Bool, true, false, cond, ◌&&◌, nat_lt, nat_le, refl, sym, ◌∙◌, ap, arith, leb-true}
use Rattle.std.specs.Prelude.{Option, Some, None, if◌then◌else◌}
use Rattle.std.specs.Str.{is_utf8}
use Rattle.compose_read.specs.Lines.{Source, source_named}
use Rattle.compose_read.specs.Sources.{add_fault, max_sources}
use Rattle.compose_read.specs.declared.sources.SourceFault.{SourceFault}
use Rattle.compose_read.specs.declared.sources.SourceFault.TheVariants.{NameTaken, TooManySources}
use Rattle.std.specs.Int.{from_be_bytes, w16}
use Rattle.compose_bundle.specs.Bundle.{Bundle}
use Rattle.compose_bundle.specs.Decoded.{◌>>=◌, split, sized_by_2, sized_by_4, named, source_at, more_source, sources_at, ended, counted, bundle_of, AddsSource}
use Rattle.compose_bundle.specs.Written.{NotDecoded}
use Rattle.compose_bundle.specs.declared.BundleFault.{BundleFault}
use Rattle.compose_bundle.specs.declared.BundleFault.TheVariants as bundle_faults

too_many : {a : ℕ} → 64 ≤ a → a < 64 → ⊥
too_many h l = omega arith

module _ (bytes name rest : List ℕ) (head : sized_by_2 bytes ≡ Some (name, rest)) where
  source_is_named : source_at bytes ≡ named name rest
  source_is_named = ap (λ o. o >>= (λ p. named p.0 p.1)) head

  -- a name that is not UTF-8 begins no further source
  pub no_text : (sources : List Source) → is_utf8 name ≡ false → more_source sources bytes ≡ None
  no_text sources f =
      ap (λ o. o >>= (λ p. if nat_lt (source_named sources p.0.name) (length sources) then None else Some p))
      (source_is_named ∙ ap (λ b. cond b (sized_by_4 rest >>= (λ p. Some (record { name = name; bytes = p.0 }, p.1))) None) f)

  module _ (text : is_utf8 name ≡ true) (content left : List ℕ) (body : sized_by_4 rest ≡ Some (content, left)) (sources : List Source) where
    abbrev pub whole : Source
    whole = record { name = name; bytes = content }

    found : more_source sources bytes ≡ cond (nat_lt (source_named sources name) (length sources)) None (Some (whole, left))
    found = ap (λ o. o >>= (λ p. if nat_lt (source_named sources p.0.name) (length sources) then None else Some p))
        (source_is_named ∙ ap (λ b. cond b (sized_by_4 rest >>= (λ p. Some (record { name = name; bytes = p.0 }, p.1))) None) text
        ∙ ap (λ o. o >>= (λ p. Some (record { name = name; bytes = p.0 }, p.1))) body)

    -- a source with a free name and a content comes after the others
    pub one_more : (sources' : List Source) → add_fault sources name ≡ None → sources' ≡ sources ++ whole ∷ [] → AddsSource sources bytes sources' left
    one_more sources' free e = (whole, found ∙ go (nat_lt (source_named sources name) (length sources)) free, e)
      where
        go : (b : Bool) → (if b then Some NameTaken else (if nat_le max_sources (length sources) then Some TooManySources else None)) ≡ None
            → cond {A = Option (Source × List ℕ)} b None (Some (whole, left)) ≡ Some (whole, left)
        go true h = cc
        go false h = refl

    pub name_taken : (fault : SourceFault) → add_fault sources name ≡ Some fault → length sources < 64 → more_source sources bytes ≡ None
    name_taken fault h few = found ∙ go (nat_lt (source_named sources name) (length sources)) (nat_le max_sources (length sources)) refl h
      where
        go : (b d : Bool) → nat_le max_sources (length sources) ≡ d → (if b then Some NameTaken else (if d then Some TooManySources else None)) ≡ Some fault
            → cond {A = Option (Source × List ℕ)} b None (Some (whole, left)) ≡ None
        go true d e g = refl
        go false true e g = absurd (too_many (leb-true 64 (length sources) e) few)
        go false false e g = cc

-- the next one of the sources
pub next_source : (count index : ℕ) (sources sources' : List Source) (bytes rest : List ℕ) → index < count → AddsSource sources bytes sources' rest
    → sources_at (count - index) sources bytes ≡ sources_at (count - (index + 1)) sources' rest
next_source count index sources sources' bytes rest l a = go (count - index) (omega arith)
  where
    go : (m : ℕ) → m ≡ suc (count - (index + 1)) → sources_at m sources bytes ≡ sources_at (count - (index + 1)) sources' rest
    go m e =
        ap (λ k. sources_at k sources bytes) e ∙ ap (λ o. o >>= (λ p. sources_at (count - (index + 1)) (sources ++ p.0 ∷ []) p.1)) a.1 ∙ ap (λ ss. sources_at (count - (index + 1)) ss rest) (sym a.2)

-- if the next source can't be read, the sources from there on can't be read
pub no_source : (count index : ℕ) (sources : List Source) (bytes : List ℕ) → index < count → more_source sources bytes ≡ None → sources_at (count - index) sources bytes ≡ None
no_source count index sources bytes l h = go (count - index) (omega arith)
  where
    go : (m : ℕ) → m ≡ suc (count - (index + 1)) → sources_at m sources bytes ≡ None
    go m e = ap (λ k. sources_at k sources bytes) e ∙ ap (λ o. o >>= (λ p. sources_at (count - (index + 1)) (sources ++ p.0 ∷ []) p.1)) h

-- a fault of a part is one of the whole
pub not_decoded : {A B : Type 0} (fault : BundleFault) (o : Option A) (p : Option B) → (o ≡ None → p ≡ None) → NotDecoded fault o → NotDecoded fault p
not_decoded bundle_faults.Form o p w h = w h
not_decoded bundle_faults.TooLarge o p w h = absurd h
not_decoded bundle_faults.NoMemory o p w h = tt

-- a payload whose sources can't be read is no bundle
pub no_sources : (payload head rest : List ℕ) (count : ℕ) → split 2 payload ≡ Some (head, rest) → count ≡ from_be_bytes w16 head → sources_at count [] rest ≡ None → bundle_of payload ≡ None
no_sources payload head rest count h c n = ap (λ o. o >>= (λ p. counted (from_be_bytes w16 p.0) p.1)) h ∙ ap (λ m. counted m rest) (sym c) ∙ go (nat_lt 0 count && nat_le count 64)
  where
    go : (b : Bool) → cond {A = Option Bundle} b (sources_at count [] rest >>= (λ s. sized_by_4 s.1 >>= (λ c. ended s.0 c))) None ≡ None
    go true = ap (λ o. o >>= (λ s. sized_by_4 s.1 >>= (λ c. ended s.0 c))) n
    go false = refl
