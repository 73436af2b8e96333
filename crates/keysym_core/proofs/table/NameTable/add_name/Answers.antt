use Rattle.std.proofs.Common.{◌≡◌, ◌∙◌, ap, sym, ◌++◌, ◌∷◌, [], None, string_bytes, nat_eq, length, rules, subst, arith}
use Rattle.std.proofs.lemmas.Grind.{common_steps}
use Rattle.std.specs.Map.{lookup}
use Rattle.keysym_core.specs.Names.{NameRow, KeysymNames, row_value}
use Rattle.keysym_core.specs.Table.{name_rows, character_rows, ShowsFirstIndexes}
use Rattle.keysym_core.proofs.Rows.{name_rows-insert, entries-insert, first_indexes-new, first_indexes-known, addable_is_new, addable_agrees, known_index, same_names, length-name_rows, table_with_name}
use Rattle.keysym_core.proofs.table.NameTable.add_name.Goals as goal

pub invariant_of-self-in_ok-insert-2 : goal.invariant_of-self-in_ok-insert-2
invariant_of-self-in_ok-insert-2 c =
    let row : NameRow = record { name = c.args.name.now; value = c.args.value } in
    let rows = name_rows c.self.inside.names.entries in
    let old : rows ≡ c.args.self.now.names = ap (λ (t : KeysymNames). t.names) c.self.view_is in
    let new : row_value rows row.name ≡ None = subst (λ r. row_value r row.name ≡ None) (sym old) (addable_is_new c.args.self.now.names row c.requires) in
    let same : string_bytes c.in_ok-kept.kept ≡ row.name = search rules in
    let grown : name_rows c.insert.new.self.entries ≡ rows ++ row ∷ [] = ap name_rows c.in_ok-insert.ensures.entries ∙ name_rows-insert c.self.inside.names c.in_ok-kept.kept row same new in
    let absent : lookup (nat_eq row.value) c.reserve.new.self.entries ≡ None = grind (arith, common_steps) in
    let indexes = c.in_ok-insert-2.ensures.entries ∙ entries-insert c.reserve.new.self row.value c.len-index.result absent in
    let kept : c.reserve.new.self.entries ≡ c.self.inside.indexes.entries = c.in_ok-reserve.ensures.entries in
    let count : c.len-index.result ≡ length rows = c.len-index.ensures.len ∙ sym (length-name_rows c.self.inside.names.entries) in
    let shows = first_indexes-new c.reserve.new.self.entries rows row c.len-index.result count (subst (λ es. ShowsFirstIndexes es rows) (sym kept) c.self.invariant.first_indexes) in
    table_with_name row c.self.invariant new (addable_agrees c.args.self.now.names row c.requires) grown (λ k. ap (lookup (nat_eq k)) indexes ∙ shows k)

pub invariant_of-self-else-is_none : goal.invariant_of-self-else-is_none
invariant_of-self-else-is_none c =
    let row : NameRow = record { name = c.args.name.now; value = c.args.value } in
    let rows = name_rows c.self.inside.names.entries in
    let old : rows ≡ c.args.self.now.names = ap (λ (t : KeysymNames). t.names) c.self.view_is in
    let new : row_value rows row.name ≡ None = subst (λ r. row_value r row.name ≡ None) (sym old) (addable_is_new c.args.self.now.names row c.requires) in
    let same : string_bytes c.in_ok-kept.kept ≡ row.name = search rules in
    let grown : name_rows c.insert.new.self.entries ≡ rows ++ row ∷ [] = ap name_rows c.in_ok-insert.ensures.entries ∙ name_rows-insert c.self.inside.names c.in_ok-kept.kept row same new in
    let kept : c.reserve.new.self.entries ≡ c.self.inside.indexes.entries = c.in_ok-reserve.ensures.entries in
    let known = known_index row.value c.reserve.new.self.entries c.get.result c.get.ensures.value c.if-is_none.ensures in
    let shows = first_indexes-known c.reserve.new.self.entries rows row known.0 known.1 (subst (λ es. ShowsFirstIndexes es rows) (sym kept) c.self.invariant.first_indexes) in
    table_with_name row c.self.invariant new (addable_agrees c.args.self.now.names row c.requires) grown shows

pub returns-in_ok-insert-2 : goal.returns-in_ok-insert-2
returns-in_ok-insert-2 c =
    let row : NameRow = record { name = c.args.name.now; value = c.args.value } in
    let rows = name_rows c.self.inside.names.entries in
    let old : rows ≡ c.args.self.now.names = ap (λ (t : KeysymNames). t.names) c.self.view_is in
    let characters : character_rows c.self.inside.characters.entries ≡ c.args.self.now.characters = ap (λ (t : KeysymNames). t.characters) c.self.view_is in
    let new : row_value rows row.name ≡ None = subst (λ r. row_value r row.name ≡ None) (sym old) (addable_is_new c.args.self.now.names row c.requires) in
    let same : string_bytes c.in_ok-kept.kept ≡ row.name = search rules in
    let grown : name_rows c.insert.new.self.entries ≡ rows ++ row ∷ [] = ap name_rows c.in_ok-insert.ensures.entries ∙ name_rows-insert c.self.inside.names c.in_ok-kept.kept row same new in
    same_names (grown ∙ ap (λ r. r ++ row ∷ []) old) characters

pub returns-else-is_none : goal.returns-else-is_none
returns-else-is_none c =
    let row : NameRow = record { name = c.args.name.now; value = c.args.value } in
    let rows = name_rows c.self.inside.names.entries in
    let old : rows ≡ c.args.self.now.names = ap (λ (t : KeysymNames). t.names) c.self.view_is in
    let characters : character_rows c.self.inside.characters.entries ≡ c.args.self.now.characters = ap (λ (t : KeysymNames). t.characters) c.self.view_is in
    let new : row_value rows row.name ≡ None = subst (λ r. row_value r row.name ≡ None) (sym old) (addable_is_new c.args.self.now.names row c.requires) in
    let same : string_bytes c.in_ok-kept.kept ≡ row.name = search rules in
    let grown : name_rows c.insert.new.self.entries ≡ rows ++ row ∷ [] = ap name_rows c.in_ok-insert.ensures.entries ∙ name_rows-insert c.self.inside.names c.in_ok-kept.kept row same new in
    same_names (grown ∙ ap (λ r. r ++ row ∷ []) old) characters
