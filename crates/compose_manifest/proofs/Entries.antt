-- Entries whose number differs from that of the sources.
use Rattle.std.proofs.Common.{◌≡◌, ◌≢◌, Bool, true, false, List, [], ◌∷◌, length, refl, ap, suc}
use Rattle.std.specs.Prelude.{◌&&◌}
use Rattle.compose_find.specs.Found.{FoundSource}
use Rattle.compose_manifest.specs.Manifest.{ManifestEntry}
use Rattle.compose_manifest.specs.Text.{is_entry, are_entries}

not_both : (a b : Bool) → b ≡ false → a && b ≡ false
not_both true b e = e
not_both false b e = refl

-- entries whose number differs from that of the sources are not those of the sources
pub other_count : (entries : List ManifestEntry) (sources : List FoundSource) → length entries ≢ length sources → are_entries entries sources ≡ false
other_count [] [] h = absurd (h refl)
other_count [] (source ∷ sources) h = refl
other_count (entry ∷ entries) [] h = refl
other_count (entry ∷ entries) (source ∷ sources) h = not_both (is_entry entry source) (are_entries entries sources) (other_count entries sources (λ e. h (ap suc e)))
