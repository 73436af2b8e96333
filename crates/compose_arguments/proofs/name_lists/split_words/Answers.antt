use Rattle.std.proofs.Common.{ℕ, lit<}
use Rattle.std.specs.Prelude.{Ok}
use Rattle.std.proofs.lemmas.Iterator.Consumers.{map_from_collect}
use Rattle.std.proofs.lemmas.Iterator.Splits.{YieldsList-from_str_split}
use Rattle.compose_arguments.proofs.name_lists.split_words.Goals as goal

pub returns : goal.returns
returns c =
    map_from_collect {E = ℕ} (Ok c.in_ok-arguments.arguments) c.in_ok-arguments.ensures.ran
    (YieldsList-from_str_split 44 c.args.text.now (lit< tt) c.split.ensures.text c.split.ensures.has_more c.split.ensures.pattern)
