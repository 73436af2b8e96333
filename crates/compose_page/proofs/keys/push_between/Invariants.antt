use Rattle.std.proofs.Common.{◌≡◌, ◌++◌, take, string_bytes}
use Rattle.compose_page.specs.Keys.{keys_between}
use Rattle.compose_page.proofs.keys.push_between.Given as goal

abbrev pub invariant-loop-key : goal.invariant-loop-key
invariant-loop-key l = string_bytes l.text ≡ string_bytes l.fn.text ++ keys_between l.markup l.before l.after (take l.key-index l.keys)
