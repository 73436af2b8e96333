use Rattle.std.proofs.Common.{◌≡◌, length, string_bytes}
use denote.Text.{Utf8}
use denote.Shadow.{shadow}
use Rattle.compose_find.specs.Expand.{path_of}
use Rattle.compose_find.specs.FindReturns.{words, onto}
use Rattle.compose_find.proofs.percent.expand.Given as goal

-- the path so far, and what the rest expands to
abbrev pub invariant-loop-rest : goal.invariant-loop-rest
invariant-loop-rest l = shadow (Utf8 l.rest) × (onto (string_bytes l.path) (path_of (words l.meanings) l.rest) ≡ path_of (words l.meanings) l.text)

abbrev pub decreases-loop-rest : goal.decreases-loop-rest
decreases-loop-rest l = length l.rest
