use Rattle.std.proofs.Common.{◌≡◌, ◌∙◌, ◌+◌, ◌-◌, List, ℕ, drop, ap, arith}
use Rattle.std.specs.Prelude.{bytes_eq}
use Rattle.std.specs.Option.{option_or}
use Rattle.indexmap.specs.IndexMap.{get_by}
use Rattle.compose_lint.specs.Lines.{SourceLines, all_lines}
use Rattle.compose_lint.specs.Longer.{longer_place}
use Rattle.compose_lint.proofs.PrefixOnes.{file_before, longer_closed}
use Rattle.compose_lint.proofs.longer.longer_places.Goals as goal

pub add_lines-requires : goal.add_lines-requires
add_lines-requires c =
    longer_closed (all_lines (drop c.loop-at.at c.args.files.now)) (λ (q : List ℕ). get_by (λ k. bytes_eq q k.now) c.loop-at.places) (λ q. c.loop-at.invariant.added (record { ref_ptr = c.args.files.ref_ptr; now = q }))

pub loop-at-preserved : goal.loop-at-preserved
loop-at-preserved c =
    let files = c.args.files.now in let at = c.loop-at.at - 1 in let one : c.loop-at.at ≡ at + 1 = omega arith in record {
      within = omega (arith, c.loop-at.invariant.within);
      added = λ q.
          (let before = get_by (λ k. bytes_eq q.now k.now) c.loop-at.places in
          file_before files at c.index-files-at.result q.now _ before (omega (arith, c.loop-at.invariant.within))
          (c.in_ok-add_lines.ensures q ∙ ap (λ ls. option_or before (longer_place ls q.now)) (c.lines.ensures ∙ ap (λ (f : SourceLines). f.lines) c.index-files-at.is))
          (c.loop-at.invariant.added q ∙ ap (λ m. longer_place (all_lines (drop m files)) q.now) one));
    }
