-- The bundle of a payload, decoded part by part; `law_one_bundle` is the law that it is the one of
-- `IsBundle`.
use Rattle.std.specs.Prelude.{◌≡◌, ℕ, zero, suc, nat_lt, nat_le, ◌&&◌, if◌then◌else◌, List, [], ◌∷◌, ◌++◌, length, take, drop, Option, Some, None}
use Rattle.std.specs.Int.{from_be_bytes, w16, w32}
use Rattle.std.specs.Str.{is_utf8}
use Rattle.compose_model.specs.Step.{is_empty}
use Rattle.compose_read.specs.Lines.{Source, source_named}
use Rattle.compose_bundle.specs.Bundle.{Bundle}

infixl 10 ◌>>=◌
abbrev pub ◌>>=◌ : {A B : Type 0} → Option A → (A → Option B) → Option B
Some a >>= f = f a
None >>= f = None

-- the first n bytes and the others, if there are that many
abbrev pub split : ℕ → List ℕ → Option (List ℕ × List ℕ)
split n bytes = if nat_le n (length bytes) then Some (take n bytes, drop n bytes) else None

-- a piece whose length is in the first two or the first four bytes, and the others
abbrev pub sized_by_2 : List ℕ → Option (List ℕ × List ℕ)
sized_by_2 bytes = split 2 bytes >>= λ p. split (from_be_bytes w16 p.0) p.1

abbrev pub sized_by_4 : List ℕ → Option (List ℕ × List ℕ)
sized_by_4 bytes = split 4 bytes >>= λ p. split (from_be_bytes w32 p.0) p.1

abbrev pub named : List ℕ → List ℕ → Option (Source × List ℕ)
named name bytes = if is_utf8 name then (sized_by_4 bytes >>= λ p. Some (record { name = name; bytes = p.0 }, p.1)) else None

-- a source: its name, which is UTF-8, and its content
abbrev pub source_at : List ℕ → Option (Source × List ℕ)
source_at bytes = sized_by_2 bytes >>= λ p. named p.0 p.1

-- the source with which the bytes begin, if its name is not taken
abbrev pub more_source : List Source → List ℕ → Option (Source × List ℕ)
more_source sources bytes = source_at bytes >>= λ p. if nat_lt (source_named sources p.0.name) (length sources) then None else Some p

-- a number of further sources whose names are not taken
abbrev pub sources_at : ℕ → List Source → List ℕ → Option (List Source × List ℕ)
sources_at zero sources bytes = Some (sources, bytes)
sources_at (suc n) sources bytes =
    more_source sources bytes >>= λ p. sources_at n (sources ++ p.0 ∷ []) p.1

abbrev pub ended : List Source → List ℕ × List ℕ → Option Bundle
ended sources p = if is_empty p.1 then Some (record { sources = sources; certificate = p.0 }) else None

-- 1 to 64 sources, and a certificate, which ends the payload
abbrev pub counted : ℕ → List ℕ → Option Bundle
counted n bytes = if nat_lt 0 n && nat_le n 64 then (sources_at n [] bytes >>= λ s. sized_by_4 s.1 >>= λ c. ended s.0 c) else None

-- the bundle of a payload, if it is one
abbrev pub bundle_of : List ℕ → Option Bundle
bundle_of payload = split 2 payload >>= λ p. counted (from_be_bytes w16 p.0) p.1

-- the source with which the bytes begin is added after the others, and these bytes are left
abbrev pub AddsSource : List Source → List ℕ → List Source → List ℕ → Type 0
AddsSource sources bytes sources' rest = (s : Source) × (more_source sources bytes ≡ Some (s, rest)) × (sources' ≡ sources ++ s ∷ [])
