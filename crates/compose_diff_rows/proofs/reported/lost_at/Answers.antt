use Rattle.std.proofs.Common.{◌∙◌, map, sym, ap}
use Rattle.compose_diff_rows.specs.Rows.{written, longer_named, now_of}
use Rattle.compose_diff_rows.proofs.RowsSoFar.{keys_of_leaf}
use Rattle.compose_diff_rows.proofs.reported.lost_at.Goals as goal

pub returns-clause-keys : goal.returns-clause-keys
returns-clause-keys g c = c.keys_at-keys.ensures ∙ sym (keys_of_leaf (written g.T.ComposeTable.definitions c.args.old.now) c.args.leaf.0 c.requires.in_table)

pub returns-clause-typing : goal.returns-clause-typing
returns-clause-typing g c = c.typed_now-typing.ensures ∙ ap (now_of (written g.T.ComposeTable.definitions c.args.new.now) c.args.change) c.entry_at-entry.ensures

pub returns-clause-longer : goal.returns-clause-longer
returns-clause-longer g c =
    c.longer_now-longer.ensures
    ∙ ap (λ keys. longer_named c.args.names.now (written g.T.ComposeTable.definitions c.args.new.now) c.args.change keys)
    (ap (map (λ key. key.now)) c.as_slice.ensures.value ∙ c.keys_at-keys.ensures ∙ sym (keys_of_leaf (written g.T.ComposeTable.definitions c.args.old.now) c.args.leaf.0 c.requires.in_table))
