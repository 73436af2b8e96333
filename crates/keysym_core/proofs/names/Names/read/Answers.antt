use Rattle.std.proofs.Common.{◌≡◌, ◌∙◌, ap, sym, subst, refl, true, bytes_eq}
use Rattle.std.specs.Prelude.{Ok, Err}
use Rattle.builtin_names.specs.declared.lines.TheConstants.{LINES}
use Rattle.compose_text.specs.Lines.{lines_of}
use Rattle.keysym_core.specs.Core.{core_names}
use Rattle.keysym_core.specs.Header.{with_lines, names_of, NamesReturns}
use Rattle.keysym_core.proofs.BuiltInFound.{bytes_eq-same}
use Rattle.keysym_core.proofs.Rows.{same_names}
use Rattle.keysym_core.proofs.names.Names.read.Goals as goal

pub returns-then-eq : goal.returns-then-eq
returns-then-eq c =
    let test : bytes_eq c.args.header.now c.as_bytes.result.now ≡ true = sym c.eq.ensures ∙ c.if-eq.true in
    let same : c.args.header.now ≡ LINES.now = bytes_eq-same c.args.header.now c.as_bytes.result.now test ∙ c.as_bytes.ensures.value ∙ c.builtin_names.ensures in
    ap names_of same ∙ c.built_in.ensures

pub returns-in-Err : goal.returns-in-Err
returns-in-Err c =
    let core : c.in_ok-core.core ≡ core_names = c.in_ok-core.ensures ∙ same_names c.law_core_names.ensures refl in
    subst (λ n. NamesReturns (Err c.in-Err.fault) (with_lines (Ok n) 1 (lines_of c.args.header.now))) core c.in-Err.ensures

pub returns-in_ok-of_table-in-Ok : goal.returns-in_ok-of_table-in-Ok
returns-in_ok-of_table-in-Ok c =
    let core : c.in_ok-core.core ≡ core_names = c.in_ok-core.ensures ∙ same_names c.law_core_names.ensures refl in
    ap (λ n. with_lines (Ok n) 1 (lines_of c.args.header.now)) (sym core) ∙ c.in-Ok.ensures ∙ ap Ok (sym c.in_ok-of_table-in-Ok.ensures)
