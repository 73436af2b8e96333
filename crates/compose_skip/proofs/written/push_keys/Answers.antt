use Rattle.std.proofs.Common.{string_bytes}
use Rattle.compose_skip.specs.Libxkbcommon.{strict_name}
use Rattle.compose_skip.proofs.Keys.{key_written, keys_written}
use Rattle.compose_skip.proofs.written.push_keys.Goals as goal

pub loop-key-preserved : goal.loop-key-preserved
loop-key-preserved c =
    key_written (strict_name c.args.names.now) c.args.keys.now c.loop-key.key-index _ (string_bytes c.loop-key.line) _ _ c.loop-key-test.true c.in_ok-push_key.ensures c.loop-key.invariant

pub returns : goal.returns
returns c = keys_written (strict_name c.args.names.now) c.args.keys.now c.loop-key.key-index (string_bytes c.loop-key.line) _ c.loop-key-test.false c.loop-key.invariant
