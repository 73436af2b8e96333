use Rattle.std.proofs.Common.{length, ◌≡◌, ◌∙◌, sym, ap, rules, Some, get_or, refl, ◌≤◌, ◌<◌}
use Rattle.std.proofs.lemmas.Option.{slice_get_past, slice_get_read}
use Rattle.keysym_core.specs.declared.built_in_rows.TheConstants.{STARTS}
use Rattle.keysym_core.proofs.built_in.start_at.Goals as goal

pub returns-in_err-start : goal.returns-in_err-start
returns-in_err-start c =
    let past : length STARTS ≤ c.args.index = search rules in
    c.from_residual.ensures ∙ sym (slice_get_past STARTS c.args.index past)

pub returns : goal.returns
returns c =
    let inside : c.args.index < length STARTS = search rules in
    let value : c.in_ok-start.start.now ≡ get_or STARTS c.args.index c.in_ok-start.start.now = search rules in
    ap Some c.from.ensures ∙ sym (slice_get_read STARTS (length STARTS) c.args.index c.in_ok-start.start.now refl inside value)
