use Rattle.std.proofs.Common.{rules, ◌≡◌, ◌∙◌, sym, map, subst, ℕ, List, [], get_or, Bor}
use Rattle.std.specs.Prelude.{Err, IfErr}
use Rattle.compose_input.specs.Faults.{FailNames, FailsName}
use Rattle.compose_input.specs.Names.{IsNamedText}
use Rattle.compose_input.proofs.Failing.{fails_at}
use Rattle.compose_input.proofs.NamesRead.{names_step, now_of}
use Rattle.compose_input.proofs.names.NameFiles.read.Goals as goal

pub loop-name-preserved : goal.loop-name-preserved
loop-name-preserved g c =
    let inv = c.loop-name.invariant in let names = c.args.names.now in let i = c.loop-name.name-index in
    record {
      kept = c.in_ok-text.ensures.kept ∙ inv.kept;
      read = names_step c.args.files.now.holds names i (record { ref_ptr = (0, 0); now = [] }) c.loop-name.header c.add.new.self c.in_ok-text.text.items
          c.deref.result.now c.loop-name-test.true inv.read
          (subst (λ f. IsNamedText f (record { name = (get_or names i (record { ref_ptr = (0, 0); now = [] })).now; text = c.in_ok-text.text.items })) inv.kept c.in_ok-text.ensures.read)
          c.in_ok-add.ensures c.deref.ensures.value;
    }

pub returns-in_err-text-clause-fault : goal.returns-in_err-text-clause-fault
returns-in_err-text-clause-fault g c =
    let inv = c.loop-name.invariant in let names = c.args.names.now in let i = c.loop-name.name-index in let d : Bor (List ℕ) = record { ref_ptr = (0, 0); now = [] } in
    let fault = c.in_err-text.field-0.0 in
    let is : c.from_residual.result ≡ Err fault = search rules in
    subst (λ r. IfErr r (λ fault. FailNames c.args.files.now.holds (map now_of names) fault)) (sym is)
    (fails_at c.args.files.now.holds fault names i d inv.read.texts c.loop-name-test.true inv.read.named inv.read.held
    (subst (λ f. FailsName f (get_or names i d).now fault) inv.kept c.in_err-text.ensures.fault))
