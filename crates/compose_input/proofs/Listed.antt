-- Entries of a manifest that were read.
use Rattle.std.proofs.Common.{refl, sym, subst, ℕ, List, [], ◌∷◌, ◌++◌}
use Rattle.std.specs.Prelude.{Option}
use Rattle.compose_read.specs.Lines.{Source}
use Rattle.compose_folder.specs.Content.{Entry as FolderEntry}
use Rattle.compose_manifest.specs.Manifest.{Listing, ManifestEntry}
use Rattle.compose_manifest.specs.Text.{file_path}
use Rattle.compose_input.specs.Tables.{AreEntries, IsSourceOf, IsEntryRead}

module _ (folder : Option (List FolderEntry)) (listing : Listing) (at : List ℕ) where
  one_more : (es : List ManifestEntry) (ps : List (List ℕ)) (ss : List Source) (e : ManifestEntry) (s : Source) → AreEntries folder listing at es ps ss → IsSourceOf folder e (file_path listing at e.path) s
      → AreEntries folder listing at (es ++ e ∷ []) (ps ++ file_path listing at e.path ∷ []) (ss ++ s ∷ [])
  one_more [] [] [] e s h q = (refl, q, tt)
  one_more [] [] (t ∷ ss) e s h q = absurd h
  one_more [] (p ∷ ps) [] e s h q = absurd h
  one_more [] (p ∷ ps) (t ∷ ss) e s h q = absurd h
  one_more (x ∷ es) [] [] e s h q = absurd h
  one_more (x ∷ es) [] (t ∷ ss) e s h q = absurd h
  one_more (x ∷ es) (p ∷ ps) [] e s h q = absurd h
  one_more (x ∷ es) (p ∷ ps) (t ∷ ss) e s (a, b, c) q = (a, b, one_more es ps ss e s c q)

  -- the entries with one more, which was read
  pub entries_more : (es : List ManifestEntry) (ps ps' : List (List ℕ)) (ss ss' : List Source) (e : ManifestEntry) → AreEntries folder listing at es ps ss → IsEntryRead folder listing at e ps ps' ss ss'
      → AreEntries folder listing at (es ++ e ∷ []) ps' ss'
  entries_more es ps ps' ss ss' e h (s, p, q, is) =
      subst (λ x. AreEntries folder listing at (es ++ e ∷ []) x ss') (sym p) (subst (λ y. AreEntries folder listing at (es ++ e ∷ []) (ps ++ file_path listing at e.path ∷ []) y) (sym q) (one_more es ps ss e s h is))
