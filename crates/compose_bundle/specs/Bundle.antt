-- A bundle: the payload of a load, with the sources of a table and the text of a certificate (this
-- project's protocol).
use Rattle.std.specs.Prelude.{◌≡◌, ℕ, ◌<◌, ◌≤◌, ◌^◌, List, ◌++◌, length, map, flat_map, IsUtf8}
use Rattle.std.specs.Int.{to_be_bytes, w16, w32}
use Rattle.std.specs.List.{AllByRecursion, IsDistinct}
use Rattle.std.specs.Str.{bytes_eq}
use Rattle.compose_read.specs.Lines.{Source}

-- the sources of a table, the root first, and the text of a certificate
pub record Bundle : Type 0 where
  pub sources : List Source
  pub certificate : List ℕ

-- a name and a content, each after its length, of two and of four bytes; all numbers are big-endian
abbrev pub source_bytes : Source → List ℕ
source_bytes s = to_be_bytes w16 (length s.name) ++ s.name ++ to_be_bytes w32 (length s.bytes) ++ s.bytes

-- the number of sources, the sources, and the certificate after its length
abbrev pub bundle_bytes : Bundle → List ℕ
bundle_bytes b = to_be_bytes w16 (length b.sources) ++ flat_map source_bytes b.sources ++ to_be_bytes w32 (length b.certificate) ++ b.certificate

-- the name is UTF-8, and both lengths fit into their bytes
pub record SourceFits (s : Source) : Type 0 where
  pub name : length s.name < 2 ^ 16
  pub text : IsUtf8 s.name
  pub content : length s.bytes < 2 ^ 32

abbrev pub names_of : List Source → List (List ℕ)
names_of sources = map (λ s. s.name) sources

-- 1 to 64 sources with distinct names
pub record BundleFits (b : Bundle) : Type 0 where
  pub some : 0 < length b.sources
  pub few : length b.sources ≤ 64
  pub sources : AllByRecursion SourceFits b.sources
  pub distinct : IsDistinct bytes_eq (names_of b.sources)
  pub certificate : length b.certificate < 2 ^ 32

-- the payload is this bundle
pub record IsBundle (payload : List ℕ) (b : Bundle) : Type 0 where
  pub fits : BundleFits b
  pub is : payload ≡ bundle_bytes b

-- the payload's numbers are bytes
abbrev pub AreBytes : List ℕ → Type 0
AreBytes payload = AllByRecursion (λ b. b < 2 ^ 8) payload
