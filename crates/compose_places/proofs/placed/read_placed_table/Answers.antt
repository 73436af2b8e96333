use Rattle.std.proofs.Common.{◌≡◌, ◌∙◌, ◌++◌, ℕ, List, Bool, true, false, cond, length, map, not, sym, ap}
use Rattle.std.specs.Prelude.{Some, None, Ok, filter}
use Rattle.std.proofs.lemmas.Option.{same_Some}
use Rattle.std.proofs.lemmas.Simd.{map-map}
use Rattle.compose_model.specs.Table.{Definition, is_sequence}
use Rattle.compose_model.specs.Nodes.{leaves, rising_lists}
use Rattle.compose_read.specs.Lines.{Visit}
use Rattle.compose_places.specs.Counting.{begun_lines, counting_line, defined_sequence}
use Rattle.compose_places.specs.Overlaps.{count_shorter}
use Rattle.compose_places.proofs.LeftOut.{left_out}
use Rattle.compose_places.proofs.CountingLaw.{sequences_defined, begun_count}
use Rattle.compose_places.proofs.placed.read_placed_table.Goals as goal

some_of : (there : Bool) (xs ys : List Visit) → Some xs ≡ cond there (Some ys) None → xs ≡ ys
some_of true xs ys h = same_Some xs ys h
some_of false xs ys h = cc

pub returns-clause-lines : goal.returns-clause-lines
returns-clause-lines g c =
    let names = c.args.names.now in
    let sources = c.args.sources.now in
    let root = c.args.root.now in
    let read = c.in_ok-definitions.ensures.exact in
    let begun = some_of _ c.in-Some.begun (begun_lines sources root) c.in-Some.ensures in
    c.in-Ok-last_lines.ensures.lines names
    (ap (map (λ (s : List ℕ). Some s)) c.in-Ok.ensures
    ∙ map-map (λ (s : List ℕ). Some s) (λ (d : Definition). d.sequence) c.in_ok-definitions.definitions ∙ sequences_defined names sources root c.in_ok-definitions.definitions read
    ∙ ap (map (λ (v : Visit). defined_sequence names v.bytes)) (sym begun))
    ∙ ap (λ vs. map (counting_line names vs) (leaves (g.T.ComposeTable.definitions c.in_ok-table.table))) begun
    ∙ begun_count names sources root c.in_ok-definitions.definitions read (leaves (g.T.ComposeTable.definitions c.in_ok-table.table))

pub returns-clause-overlaps : goal.returns-clause-overlaps
returns-clause-overlaps g c =
    let definitions = c.in_ok-definitions.definitions in
    let rows = g.T.ComposeTable.definitions c.in_ok-table.table in
    c.in-Ok-count_distinct.ensures
    ∙ ap (λ xs. length (rising_lists xs))
    (c.in-Ok-last_lines.ensures.others ∙ ap (λ (xs : List (List ℕ)). xs ++ filter (λ s. not (is_sequence rows s)) c.in-Ok.read) (ap (map (λ s. s.now)) c.new-others.ensures.items))
    ∙ ap (λ ss. length (rising_lists (filter (λ s. not (is_sequence rows s)) ss))) c.in-Ok.ensures
    ∙ ap (λ xs. length xs) (left_out c.args.rule definitions rows (c.in_ok-sequences.ensures.exact ∙ ap Ok (sym c.in_ok-table.ensures.ok)))
    ∙ sym (ap count_shorter c.in_ok-definitions.ensures.exact)
