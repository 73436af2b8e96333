use Rattle.std.proofs.Common.{◌∙◌, ap, arith}
use Rattle.std.specs.Prelude.{slice_get}
use Rattle.std.proofs.lemmas.Str.{IsCharBoundary-after_ascii}
use Rattle.compose_lex.proofs.Firsts.{first_is}
use Rattle.compose_lex.proofs.token.byte_at.Goals as goal

pub range_from-requires : goal.range_from-requires
range_from-requires c =
    let first = first_is c.args.rest.now c.in-Some.byte.now (c.in-Some.ensures.value ∙ ap (λ xs. slice_get xs 0) c.as_bytes.ensures.value) in
    λ _. IsCharBoundary-after_ascii c.args.rest.now 0 c.utf8.rest first.0 (omega (arith, first.1, c.requires))
