use Rattle.std.proofs.Common.{length, ◌≡◌, ◌∙◌, sym, rules, get_or, refl, ◌≤◌, ◌<◌}
use Rattle.std.proofs.lemmas.Option.{slice_get_past, slice_get_read}
use Rattle.keysym_core.specs.declared.built_in_rows.TheConstants.{KEYSYMS}
use Rattle.keysym_core.proofs.built_in.keysym_at.Goals as goal

pub returns-in_err-keysym-clause-same : goal.returns-in_err-keysym-clause-same
returns-in_err-keysym-clause-same c =
    let past : length KEYSYMS ≤ c.args.index = search rules in
    c.from_residual.ensures ∙ sym (slice_get_past KEYSYMS c.args.index past)

pub returns-clause-same : goal.returns-clause-same
returns-clause-same c =
    let inside : c.args.index < length KEYSYMS = search rules in
    let value : c.in_ok-keysym.keysym.now ≡ get_or KEYSYMS c.args.index c.in_ok-keysym.keysym.now = search rules in
    sym (slice_get_read KEYSYMS (length KEYSYMS) c.args.index c.in_ok-keysym.keysym.now refl inside value)
