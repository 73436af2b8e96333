use Rattle.std.proofs.Common.{◌≡◌, ◌∙◌, ap, subst, true}
use Rattle.std.specs.List.{list_all}
use Rattle.keysym_core.specs.Names.{KeysymNames}
use Rattle.keysym_core.specs.Table.{name_rows, index_from, FirstNamesLookUp, agrees_with_form}
use Rattle.keysym_core.proofs.table.NameTable.first_index.Goals as goal

pub returns : goal.returns
returns c =
    let old : name_rows c.self.inside.names.entries ≡ c.args.self.now.names = ap (λ (t : KeysymNames). t.names) c.self.view_is in
    record {
      same = c.copied.ensures ∙ c.get.ensures.value ∙ c.self.invariant.first_indexes c.args.keysym ∙ ap (index_from c.args.keysym 0) old;
      first_names = subst FirstNamesLookUp old c.self.invariant.first_names;
      agree = subst (λ rows. list_all agrees_with_form rows ≡ true) old c.self.invariant.agree;
    }
