-- Manifests, read by the definition.
use Rattle.std.proofs.Common.{true, ◌≡◌, [], ◌∷◌, ◌++◌, refl}
use Rattle.std.specs.Prelude.{Some, Ok, Err, codes}
use Rattle.std.specs.Char.{encode_utf8}
use Rattle.std.specs.Str.{is_utf8, chars}
use Rattle.compose_model.specs.declared.Rule.TheVariants.{Longest}
use Rattle.compose_manifest.specs.Manifest.{listing_of}
use Rattle.compose_manifest.specs.declared.manifest.ManifestFault.TheVariants.{BadLine, Empty}

-- a rule, a line for relative paths, a comment, and two entries
two_entries : listing_of (codes "overlap longest" ++ 10 ∷ codes "paths here" ++ 10 ∷ codes "# both"
    ++ 10 ∷ codes "root" ++ 9 ∷ codes "a.compose" ++ 10 ∷ codes "more" ++ 9 ∷ codes "b.compose" ++ 10 ∷ [])
    ≡ Ok (record { rule = Some Longest; paths_here = true; entries = record { name = codes "root"; path = codes "a.compose" } ∷ record { name = codes "more"; path = codes "b.compose" } ∷ [] })
unfolding is_utf8 chars encode_utf8
two_entries = refl

no_tab : listing_of (codes "root" ++ 9 ∷ codes "a.compose" ++ 10 ∷ codes "more b.compose" ++ 10 ∷ []) ≡ Err (BadLine 2)
unfolding is_utf8 chars encode_utf8
no_tab = refl

nothing : listing_of (codes "# nothing" ++ 10 ∷ []) ≡ Err Empty
unfolding is_utf8 chars encode_utf8
nothing = refl
