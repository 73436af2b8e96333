use Rattle.std.proofs.Common.{◌≡◌, ◌∙◌, ap, sym, arith, slice_get, Some, option_map, ◌+◌, suc}
use Rattle.keysym_core.specs.declared.built_in_rows.TheConstants.{STARTS}
use Rattle.keysym_core.proofs.BuiltInFound.{no_keysym, no_start, no_end, starts_around, row_of}
use Rattle.keysym_core.proofs.built_in.row_at.Goals as goal

pub returns-in_err-keysym : goal.returns-in_err-keysym
returns-in_err-keysym c =
    ap (option_map (λ r. record { name = r.0.now; value = r.1 })) c.from_residual.ensures
    ∙ sym (no_keysym c.args.index (sym c.in_err-keysym.ensures.same))

pub returns-in_err-start : goal.returns-in_err-start
returns-in_err-start c =
    ap (option_map (λ r. record { name = r.0.now; value = r.1 })) c.from_residual-in_err-start.ensures
    ∙ sym (no_start c.args.index (sym c.in_err-start.ensures))

pub returns-in_err-end : goal.returns-in_err-end
returns-in_err-end c =
    let next : c.args.index + 1 ≡ suc c.args.index = omega arith in
    ap (option_map (λ r. record { name = r.0.now; value = r.1 })) c.from_residual-in_err-end.ensures
    ∙ sym (no_end c.args.index c.in_ok-start.start (sym c.in_ok-start.ensures) (ap (slice_get STARTS) (sym next) ∙ sym c.in_err-end.ensures))

pub text_between-requires-clause-order : goal.text_between-requires-clause-order
text_between-requires-clause-order c =
    let next : c.args.index + 1 ≡ suc c.args.index = omega arith in
    (starts_around c.args.index c.in_ok-start.start c.in_ok-end.end (sym c.in_ok-start.ensures) (ap (slice_get STARTS) (sym next) ∙ sym c.in_ok-end.ensures)).0

pub text_between-requires-clause-inside : goal.text_between-requires-clause-inside
text_between-requires-clause-inside c =
    let next : c.args.index + 1 ≡ suc c.args.index = omega arith in
    (starts_around c.args.index c.in_ok-start.start c.in_ok-end.end (sym c.in_ok-start.ensures) (ap (slice_get STARTS) (sym next) ∙ sym c.in_ok-end.ensures)).1

pub returns : goal.returns
returns c =
    let next : c.args.index + 1 ≡ suc c.args.index = omega arith in
    ap (λ n. Some (record { name = n; value = c.in_ok-keysym.keysym })) c.text_between.ensures
    ∙ sym (row_of c.args.index c.in_ok-start.start c.in_ok-end.end c.in_ok-keysym.keysym (sym c.in_ok-start.ensures) (ap (slice_get STARTS) (sym next) ∙ sym c.in_ok-end.ensures) (sym c.in_ok-keysym.ensures.same))
