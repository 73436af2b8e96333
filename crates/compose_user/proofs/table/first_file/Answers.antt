use Rattle.std.proofs.Common.{◌≡◌, ◌∙◌, refl, rules}
use Rattle.std.specs.Prelude.{string_bytes}
use Rattle.compose_user.proofs.FirstFile.{none_yet, none_more, copy_found, known_as}
use Rattle.compose_user.proofs.table.first_file.Goals as goal

pub loop-path-init : goal.loop-path-init
loop-path-init g c = record { kept = refl; none = none_yet string_bytes c.args.files.now.holds c.args.paths.now }

pub loop-path-preserved : goal.loop-path-preserved
loop-path-preserved g c = record {
  kept = c.is_file.ensures.kept ∙ c.loop-path.invariant.kept;
  none = none_more string_bytes c.args.files.now.holds c.args.paths.now c.loop-path.path-index c.path-item.result c.loop-path-test.true c.path-item.is c.loop-path.invariant.none
      (known_as _ _ _ _ _ _ c.loop-path.invariant.kept (search rules) c.if-there.false c.in_ok-there.ensures.is);
}

pub returns-then-there-clause-first : goal.returns-then-there-clause-first
returns-then-there-clause-first g c =
    copy_found string_bytes c.args.files.now.holds c.args.paths.now c.loop-path.path-index c.path-item.result c.loop-path-test.true c.path-item.is c.loop-path.invariant.none
    (string_bytes c.in_ok-copy.copy) (search rules)
    (known_as _ _ _ _ _ _ c.loop-path.invariant.kept (search rules) c.if-there.true c.in_ok-there.ensures.is)
