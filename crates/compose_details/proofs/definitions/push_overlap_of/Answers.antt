use Rattle.std.proofs.Common.{◌≡◌, ◌∙◌, ◌++◌, List, OnOk, ap, subst, string_bytes}
use Rattle.compose_places.specs.Places.{definition_places}
use Rattle.compose_places.specs.declared.places.DefinitionPlace.{DefinitionPlace}
use Rattle.compose_details.specs.Faulty.{paths_of}
use Rattle.compose_details.specs.Definitions.{both_lines}
use Rattle.compose_details.proofs.definitions.push_overlap_of.Goals as goal

pub returns : goal.returns
returns c =
    let sources = c.args.table.now.input.sources.now in
    let at = c.deref.ensures.value ∙ c.in_ok-places.ensures ∙ ap (definition_places sources) c.root_of.ensures in
    let short = c.args.short.now in let long = c.args.long.now in
    let lines = λ (places : List DefinitionPlace). both_lines c.args.names.now (paths_of c.args.table.now) c.args.definitions.now places short long in
    subst (λ (places : List DefinitionPlace). OnOk c.push_both.result (string_bytes c.push_both.new.text ≡ string_bytes c.args.text.now ++ lines places))
    at c.push_both.ensures
