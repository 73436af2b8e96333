use Rattle.std.proofs.Common.{◌≡◌, ap, sym, subst, filter}
use Rattle.std.proofs.lemmas.Result.{IfOk-weaker}
use Rattle.keysym_core.specs.Names.{KeysymNames}
use Rattle.keysym_core.specs.GivenCharacters.{counts, row_of, HasCountingRows, ArePairsOfKeysyms}
use Rattle.keysym_core.specs.Table.{character_rows}
use Rattle.keysym_core.proofs.Characters.{counting_rows-count, counting_rows-keysyms}
use Rattle.keysym_core.proofs.table.NameTable.counting_pairs.Goals as goal

pub returns-clause-counting : goal.returns-clause-counting
returns-clause-counting c =
    let entries = c.self.inside.characters.entries in
    let old : character_rows entries ≡ c.args.self.now.characters = ap (λ (t : KeysymNames). t.characters) c.self.view_is in
    IfOk-weaker c.counting_pairs.result (λ pairs. pairs.items ≡ filter (λ pair. counts (row_of pair)) entries) (λ pairs. HasCountingRows pairs.items c.args.self.now.characters)
    (λ pairs e. subst (HasCountingRows pairs.items) old (subst (λ items. HasCountingRows items (character_rows entries)) (sym e) (counting_rows-count entries c.self.invariant.each_first)))
    c.counting_pairs.ensures

pub returns-clause-keysyms : goal.returns-clause-keysyms
returns-clause-keysyms c =
    let entries = c.self.inside.characters.entries in
    IfOk-weaker c.counting_pairs.result (λ pairs. pairs.items ≡ filter (λ pair. counts (row_of pair)) entries) (λ pairs. ArePairsOfKeysyms pairs.items)
    (λ pairs e. subst ArePairsOfKeysyms (sym e) (counting_rows-keysyms entries c.self.invariant.keysyms))
    c.counting_pairs.ensures
