-- Sources, and the reason why one more cannot be added.
use Rattle.std.specs.Prelude.{ℕ, nat_le, nat_lt, ◌≤◌, if◌then◌else◌, List, length, map, Option, Some, None, string_bytes, IsUtf8}
use Rattle.std.specs.List.{AllByRecursion, IsDistinct}
use Rattle.std.specs.Str.{bytes_eq}
use Rattle.std.specs.declared.alloc.Global.{Global}
use Rattle.std.specs.declared.string.String.{String}
use Rattle.std.specs.declared.borrow.CowSlice.{CowSlice}
use Rattle.std.specs.Cow.{cow_slice_items}
use Rattle.compose_read.specs.Lines.{Source, source_named}
use Rattle.compose_read.specs.declared.sources.SourceFault.{SourceFault}
use Rattle.compose_read.specs.declared.sources.SourceFault.TheVariants.{NameTaken, TooManySources}

abbrev pub sources_of : List (String Global × CowSlice ℕ Global) → List Source
sources_of files = map (λ f. record { name = string_bytes f.0; bytes = cow_slice_items f.1 }) files

abbrev pub max_sources : ℕ
max_sources = 64

-- the reason why a source with this name cannot be added: the name is taken, else there are as many
-- sources as possible
abbrev pub add_fault : List Source → List ℕ → Option SourceFault
add_fault sources name =
    if nat_lt (source_named sources name) (length sources) then Some NameTaken else
    if nat_le max_sources (length sources) then Some TooManySources else None

-- the properties of any sources: not too many, with distinct names, which are UTF-8
pub record AreSources (sources : List Source) : Type 0 where
  pub few : length sources ≤ max_sources
  pub text : AllByRecursion (λ s. IsUtf8 s.name) sources
  pub distinct : IsDistinct bytes_eq (map (λ s. s.name) sources)
