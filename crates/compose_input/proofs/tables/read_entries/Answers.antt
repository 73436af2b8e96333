use Rattle.std.proofs.Common.{rules, ◌≡◌, ◌∙◌, ap, sym, subst, map, take, drop, string_bytes, ◌+◌, ◌++◌, ◌∷◌, []}
use Rattle.std.specs.Prelude.{Err, IfErr}
use Rattle.compose_input.specs.Faults.{FailEntries, FailsEntry}
use Rattle.std.proofs.lemmas.List.{take_more, take-append-drop, drop_more}
use Rattle.compose_input.specs.Tables.{AreEntries, IsEntryRead}
use Rattle.compose_input.proofs.Listed.{entries_more}
use Rattle.compose_input.proofs.tables.read_entries.Goals as goal

pub loop-entry-preserved : goal.loop-entry-preserved
loop-entry-preserved g c =
    let folder = c.args.files.now.holds in let listing = c.args.manifest.now in let at = c.args.at.now in let items = c.entries-entry-items.result.now in
    let i = c.loop-entry.entry-index in let inv = c.loop-entry.invariant in let e = c.entry-item.result in
    let ps = map string_bytes c.loop-entry.read.paths.items in let ps' = map string_bytes c.add_entry.new.read.paths.items in
    let one : IsEntryRead folder listing at e ps ps' c.loop-entry.read.sources c.add_entry.new.read.sources =
    subst (λ f. IsEntryRead f listing at e ps ps' c.loop-entry.read.sources c.add_entry.new.read.sources) inv.kept c.in_ok-add_entry.ensures.read in
    record {
      kept = c.in_ok-add_entry.ensures.kept ∙ inv.kept;
      read = subst (λ es. AreEntries folder listing at es ps' c.add_entry.new.read.sources) (ap (λ x. take i items ++ x ∷ []) c.entry-item.is ∙ sym (take_more items i _ c.loop-entry-test.true))
          (entries_more folder listing at (take i items) ps ps' c.loop-entry.read.sources c.add_entry.new.read.sources e inv.read one);
    }

pub returns-in_err-add_entry-clause-fault : goal.returns-in_err-add_entry-clause-fault
returns-in_err-add_entry-clause-fault g c =
    let folder = c.args.files.now.holds in let listing = c.args.manifest.now in let at = c.args.at.now in let items = c.entries-entry-items.result.now in
    let i = c.loop-entry.entry-index in let inv = c.loop-entry.invariant in let e = c.entry-item.result in
    let fault = c.in_err-add_entry.field-0.0 in
    let is : c.from_residual.result ≡ Err fault = search rules in
    subst (λ r. IfErr r (λ fault. FailEntries folder c.args.part.now listing at listing.entries fault)) (sym is) (record {
      before = take i items;
      entry = e;
      after = drop (i + 1) items;
      is = sym c.entries-entry-items.ensures ∙ (sym (take-append-drop i items) ∙ ap (λ l. take i items ++ l) (drop_more items i e c.loop-entry-test.true ∙ ap (λ x. x ∷ drop (i + 1) items) (sym c.entry-item.is)));
      paths = map string_bytes c.loop-entry.read.paths.items;
      sources = c.loop-entry.read.sources;
      read = inv.read;
      fails = subst (λ f. FailsEntry f c.args.part.now listing at e c.loop-entry.read.sources fault) inv.kept c.in_err-add_entry.ensures.fault;
    })
