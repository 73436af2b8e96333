-- A bundle, written out: one source named r, which is empty, and a certificate.
use Rattle.std.proofs.Common.{◌≡◌, [], ◌∷◌, ◌++◌, refl}
use Rattle.std.specs.Prelude.{codes, None}
use Rattle.compose_bundle.specs.Bundle.{Bundle, bundle_bytes}
use Rattle.compose_bundle.specs.Decoded.{bundle_of}

abbrev bare : Bundle
bare = record { sources = record { name = codes "r"; bytes = [] } ∷ []; certificate = codes "compose-certificate 1\nbound 0\npairs 1\n0 0\ntypings 0\n" }

written : bundle_bytes bare ≡ (0 ∷ 1 ∷ 0 ∷ 1 ∷ 0x72 ∷ 0 ∷ 0 ∷ 0 ∷ 0 ∷ 0 ∷ 0 ∷ 0 ∷ 0x34 ∷ []) ++ codes "compose-certificate 1\nbound 0\npairs 1\n0 0\ntypings 0\n"
written = refl

nothing : bundle_of [] ≡ None
nothing = refl

without_sources : bundle_of (0 ∷ 0 ∷ 0 ∷ 0 ∷ 0 ∷ 0 ∷ []) ≡ None
without_sources = refl
