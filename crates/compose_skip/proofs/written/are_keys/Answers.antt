use Rattle.std.proofs.Common.{sym, ◌∙◌}
use Rattle.compose_skip.specs.Libxkbcommon.{is_key}
use Rattle.compose_skip.proofs.Keys.{key_fails, key_passes, keys_pass}
use Rattle.compose_skip.proofs.written.are_keys.Goals as goal

pub returns-then-not-branch : goal.returns-then-not-branch
returns-then-not-branch c =
    key_fails (is_key c.args.names.now) c.args.keys.now c.loop-key.key-index _ _ c.loop-key-test.true (sym c.in_ok-is_key.ensures ∙ c.if-not-branch.true) c.loop-key.invariant

pub loop-key-preserved : goal.loop-key-preserved
loop-key-preserved c =
    key_passes (is_key c.args.names.now) c.args.keys.now c.loop-key.key-index _ _ c.loop-key-test.true (sym c.in_ok-is_key.ensures ∙ c.if-not-branch.false) c.loop-key.invariant

pub returns : goal.returns
returns c = keys_pass (is_key c.args.names.now) c.args.keys.now c.loop-key.key-index _ c.loop-key-test.false c.loop-key.invariant
