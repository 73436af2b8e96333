use Rattle.std.proofs.Common.{◌≡◌, ◌∙◌, List, ℕ, map, ap, sym, Option, Some, None}
use Rattle.std.specs.Option.{option_and_then}
use Rattle.compose_places.specs.Counting.{WrittenLine, sequence_named}
use Rattle.compose_lookup.specs.TextIndex.{sequence_at}
use Rattle.compose_listing.proofs.Lines.{leaf_named}
use Rattle.compose_listing.proofs.chosen.leaf_begins.Goals as goal

pub returns-in-Some : goal.returns-in-Some
returns-in-Some g c =
    let names = c.args.listed.now.names.now in
    let table = g.T.ComposeTable.definitions c.args.listed.now.table.now in
    let named = leaf_named names table c.args.listed.now.lines.now c.args.leaf c.requires.lines c.requires.in_table in
    c.keys_begin.ensures (sequence_at table c.args.leaf)
    (ap (sequence_named names) (ap (map (λ key. key.now)) c.as_slice.ensures.value ∙ c.keys.ensures)
    ∙ ap (option_and_then (λ (line : WrittenLine). sequence_named names line.keys)) c.in-Some.ensures ∙ named)

pub returns-in-None : goal.returns-in-None
returns-in-None g c =
    let names = c.args.listed.now.names.now in
    let table = g.T.ComposeTable.definitions c.args.listed.now.table.now in
    let named = leaf_named names table c.args.listed.now.lines.now c.args.leaf c.requires.lines c.requires.in_table in
    absurd (let clash : None ≡ Some (sequence_at table c.args.leaf) = ap (option_and_then (λ (line : WrittenLine). sequence_named names line.keys)) c.in-None.ensures ∙ named in cc)
