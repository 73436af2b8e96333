use Rattle.std.proofs.Common.{◌≡◌, drop}
use Rattle.std.specs.List.{list_all}
use Rattle.compose_cert.specs.Spelling.{is_typed}
use Rattle.compose_cert.proofs.certificate.are_typed.Given as goal

-- all typings have keys exactly if the remaining ones have
abbrev pub invariant-loop-typing : goal.invariant-loop-typing
invariant-loop-typing l = list_all is_typed (drop l.typing-index l.typings) ≡ list_all is_typed l.typings
