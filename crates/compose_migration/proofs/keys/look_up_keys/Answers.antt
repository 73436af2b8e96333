use Rattle.std.proofs.Common.{refl, sym, ◌∙◌, ap, length, length-append, arith, ◌∷◌, []}
use Rattle.compose_migration.specs.Migration.{no_key, or_because}
use Rattle.compose_migration.proofs.KeyNames.{keys_more, keys_stop, keys_end}
use Rattle.compose_migration.proofs.keys.look_up_keys.Goals as goal

pub returns-in_default : goal.returns-in_default
returns-in_default c =
    ap (or_because no_key)
    (keys_stop c.args.names.now c.args.key_names.now c.loop-index.index _ c.loop-index.keys.items _ c.loop-index-test.true
    (sym c.in_default.is ∙ c.lookup.ensures) c.loop-index.invariant.count c.loop-index.invariant.values)

pub loop-index-preserved : goal.loop-index-preserved
loop-index-preserved c = record {
  count = omega (arith, ap length c.in_ok-push.ensures.items, length-append c.loop-index.keys.items (c.in-Some.keysym ∷ []));
  values =
      rw c.in_ok-push.ensures.items
      (keys_more c.args.names.now c.args.key_names.now c.loop-index.index _ c.loop-index.keys.items c.in-Some.keysym _ c.loop-index-test.true c.in-Some.ensures c.loop-index.invariant.values);
}

pub returns : goal.returns
returns c = (
  _,
  ap (or_because no_key)
      (keys_end c.args.names.now c.args.key_names.now c.loop-index.index c.loop-index.keys.items _ (omega (arith, c.loop-index-test.false)) c.loop-index.invariant.values),
  refl,
)
