use Rattle.std.proofs.Common.{◌∙◌, ap, sym, slice_get}
use Rattle.std.specs.Prelude.{option_map, Some}
use Rattle.compose_read.specs.Lines.{Source}
use Rattle.compose_read.proofs.Files.{bytes_at}
use Rattle.compose_read.proofs.sources.Sources.bytes.Goals as goal

pub returns : goal.returns
returns c =
    ap (λ ss. option_map (λ (s : Source). s.bytes) (slice_get ss c.args.index)) (sym c.self.view_is)
    ∙ bytes_at c.self.inside.files.entries c.args.index c.index.result.now c.index.ensures ∙ ap Some (sym c.as_slice.ensures.value)
