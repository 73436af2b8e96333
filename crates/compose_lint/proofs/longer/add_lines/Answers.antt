use Rattle.std.proofs.Common.{◌≡◌, ◌∙◌, ◌+◌, ◌-◌, ◌∷◌, [], List, ℕ, drop, ap, arith}
use Rattle.std.specs.Prelude.{bytes_eq}
use Rattle.std.specs.Option.{option_or}
use Rattle.indexmap.specs.IndexMap.{get_by}
use Rattle.compose_lint.specs.Lines.{LintLine}
use Rattle.compose_lint.specs.Longer.{longer_place}
use Rattle.compose_lint.proofs.PrefixOnes.{line_before, more_closed}
use Rattle.compose_lint.proofs.longer.add_lines.Goals as goal

pub add_line-requires : goal.add_line-requires
add_line-requires c =
    more_closed (drop c.loop-at.at c.args.lines.now) (λ (q : List ℕ). get_by (λ k. bytes_eq q k.now) c.args.places.now) (λ (q : List ℕ). get_by (λ k. bytes_eq q k.now) c.loop-at.places)
    (λ q. c.loop-at.invariant.added (record { ref_ptr = c.args.lines.ref_ptr; now = q })) c.requires

pub loop-at-preserved : goal.loop-at-preserved
loop-at-preserved c =
    let lines = c.args.lines.now in let at = c.loop-at.at - 1 in let one : c.loop-at.at ≡ at + 1 = omega arith in record {
      within = omega (arith, c.loop-at.invariant.within);
      added = λ q.
          (let before = get_by (λ k. bytes_eq q.now k.now) c.loop-at.places in let old = get_by (λ k. bytes_eq q.now k.now) c.args.places.now in
          line_before lines at c.index-lines-at.result q.now _ before old (omega (arith, c.loop-at.invariant.within))
          (c.in_ok-add_line.ensures q ∙ ap (λ (l : LintLine). option_or before (longer_place (l ∷ []) q.now)) c.index-lines-at.is)
          (c.loop-at.invariant.added q ∙ ap (λ m. option_or old (longer_place (drop m lines) q.now)) one));
    }
