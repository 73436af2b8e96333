use Rattle.std.proofs.Common.{◌≡◌, ◌≢◌, ◌<◌, ◌∙◌, length, arith, sym, ap, subst}
use Rattle.std.specs.Prelude.{Err, IfErr, Some, option_copied}
use Rattle.std.proofs.lemmas.Result.{err_from_is_err_and}
use Rattle.compose_read.specs.declared.sources.SourceFault.TheVariants.{NoMemory}
use Rattle.compose_table_file.specs.Origin.{CannotBeNamed}
use Rattle.compose_table_file.proofs.Named.{cannot, named_next}
use Rattle.compose_table_file.proofs.origin.named_from.Goals as goal

pub returns-in_err-add-clause-refused : goal.returns-in_err-add-clause-refused
returns-in_err-add-clause-refused c =
    let folder = c.args.folder.now in let sources = c.args.sources.now in let index = c.loop-index.index in
    let count = c.count-index-end.ensures.count in
    let within : index < length sources = omega (arith, count, c.loop-index-test.true) in
    let e = c.in_err-add.field-0.0 in
    let p = err_from_is_err_and c.from_residual-in_err-add.result c.from_residual-in_err-add.ensures.1 in
    let is : c.from_residual-in_err-add.result ≡ Err e = p.1 ∙ ap Err p.2 in
    subst (λ r. IfErr r (λ e. e ≢ NoMemory → CannotBeNamed folder sources e)) (sym is) (λ some. cannot folder sources index within (option_copied c.name.result) c.deref.result.now c.loop-index.named e
    c.name.ensures (c.deref.ensures ∙ c.in_ok-name.ensures) c.loop-index.invariant (c.in_err-add.ensures.refused some))

pub loop-index-preserved : goal.loop-index-preserved
loop-index-preserved c =
    let sources = c.args.sources.now in let index = c.loop-index.index in
    let count = c.count-index-end.ensures.count in
    let within : index < length sources = omega (arith, count, c.loop-index-test.true) in
    named_next c.args.folder.now sources index within c.loop-index.named c.add.new.self (option_copied c.name.result) c.deref.result.now c.in_ok-copy.copy.items c.name.ensures
    (c.bytes.ensures ∙ ap Some (sym c.in_ok-copy.ensures.items)) (c.deref.ensures ∙ c.in_ok-name.ensures) c.loop-index.invariant c.in_ok-add.ensures.ok.1
