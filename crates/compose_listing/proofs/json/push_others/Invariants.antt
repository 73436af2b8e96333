use Rattle.std.proofs.Common.{◌≡◌, ◌++◌, map, take, string_bytes}
use Rattle.compose_diff.specs.Json.{other_strings}
use Rattle.compose_listing.proofs.json.push_others.Given as goal

abbrev pub invariant-loop-other : goal.invariant-loop-other
invariant-loop-other l = string_bytes l.text ≡ string_bytes l.fn.text ++ other_strings (map (λ t. t.now) (take l.other-index l.texts))
