use Rattle.std.proofs.Common.{◌≡◌, ◌++◌, length}
use Rattle.std.specs.Option.{option_map}
use Rattle.compose_text.specs.Lines.{divide}
use Rattle.compose_cert.specs.Reading.{keysyms_of}
use Rattle.compose_cert.proofs.certificate_lines.keysyms_of.Given as goal

-- the keys so far and the remaining ones are all of them
abbrev pub invariant-loop-word : goal.invariant-loop-word
invariant-loop-word l = option_map (λ keys. l.keys.items ++ keys) (keysyms_of (divide 32 l.rest)) ≡ keysyms_of (divide 32 l.words)

abbrev pub decreases-loop-word : goal.decreases-loop-word
decreases-loop-word l = length l.rest
