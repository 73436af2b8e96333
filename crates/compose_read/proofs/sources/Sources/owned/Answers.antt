use Rattle.std.proofs.Common.{◌<◌, length, ◌∙◌, sym, ap, arith}
use Rattle.std.specs.Prelude.{option_copied, Some}
use Rattle.compose_read.proofs.Copies.{copied_next}
use Rattle.compose_read.proofs.sources.Sources.owned.Goals as goal

pub loop-index-preserved : goal.loop-index-preserved
loop-index-preserved c =
    let sources = c.args.self.now in let index = c.loop-index.index in
    let count = c.count-index-end.ensures.count in
    let within : index < length sources = omega (arith, count, c.loop-index-test.true) in
    copied_next sources index within c.loop-index.owned c.add_copy.new.sources (option_copied c.name.result) c.in_ok-copy.copy.items c.name.ensures
    (c.bytes.ensures ∙ ap Some (sym c.in_ok-copy.ensures.items)) c.loop-index.invariant c.in_ok-add_copy.ensures
