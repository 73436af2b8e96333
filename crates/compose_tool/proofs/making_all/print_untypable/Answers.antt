use Rattle.compose_migration.specs.Values.{parts}
use Rattle.compose_tool.proofs.Untypable.{all_reported}
use Rattle.compose_tool.proofs.making_all.print_untypable.Goals as goal

pub returns : goal.returns
returns g c =
    all_reported
    (parts g.T.ComposeTable.definitions c.args.migration.now) c.args.repertoire.now c.in_ok-before.before.items
    c.in_ok-after.after.items c.deref.result.now c.deref-2.result.now c.untypable_lines.result c.in_ok-before.ensures
    c.in_ok-after.ensures c.deref.ensures.value c.deref-2.ensures.value c.untypable_lines.ensures
