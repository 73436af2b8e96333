use Rattle.std.proofs.Common.{◌≡◌, ◌∙◌, ap, None, position, ◌++◌, ◌∷◌, [], string_bytes, rules}
use Rattle.std.proofs.lemmas.List.{map-append}
use Rattle.std.specs.Cow.{cow_slice_items}
use Rattle.std.specs.Map.{lookup}
use Rattle.std.specs.String.{string_eq}
use Rattle.std.specs.Str.{bytes_eq}
use Rattle.indexmap.proofs.CallerLemmas.{insert_entry-new}
use Rattle.compose_read.specs.Lines.{Source}
use Rattle.compose_read.specs.Sources.{sources_of}
use Rattle.compose_read.proofs.Files.{absent_key}
use Rattle.compose_read.proofs.sources.Sources.append.Goals as goal

pub returns-clause-ok : goal.returns-clause-ok
returns-clause-ok c =
    let files = c.self.inside.files in
    let kept = c.in_ok-kept.kept in
    let same : string_bytes kept ≡ c.args.name.now = search rules in
    let absent : lookup (string_eq kept) files.entries ≡ None =
    absent_key (string_bytes kept) files.entries
    (ap (λ n. position (λ (s : Source). bytes_eq n s.name) (sources_of files.entries)) same ∙ ap (position (λ (s : Source). bytes_eq c.args.name.now s.name)) c.self.view_is ∙ c.requires.new) in
    let added : Source = record { name = c.args.name.now; bytes = cow_slice_items c.args.bytes } in
    ap sources_of (c.in_ok-insert.ensures.entries ∙ insert_entry-new string_eq files kept c.args.bytes absent)
    ∙ map-append (λ f. let s : Source = record { name = string_bytes f.0; bytes = cow_slice_items f.1 } in s) files.entries ((kept, c.args.bytes) ∷ [])
    ∙ ap (λ n. let s : Source = record { name = n; bytes = cow_slice_items c.args.bytes } in sources_of files.entries ++ s ∷ []) same
    ∙ ap (λ r. r ++ added ∷ []) c.self.view_is
