use Rattle.std.proofs.Common.{◌&&◌, not}
use Rattle.std.specs.List.{list_any}
use Rattle.keysym_core.specs.GivenCharacters.{is_pair, is_fixed, gives}
use Rattle.keysym_core.specs.BuiltIn.{built_in_characters}
use Rattle.keysym_core.proofs.NextOf.{least-by_same}
use Rattle.keysym_core.proofs.built_in.next_given.Goals as goal

pub returns : goal.returns
returns c =
    least-by_same c.args.low (λ k. list_any (is_pair c.args.character k) c.by_character.result.now) (λ k. not (is_fixed k) && gives built_in_characters c.args.character k)
    (λ k. c.by_character.ensures.counting c.args.character k)
    c.next_given.result c.next_given.ensures
