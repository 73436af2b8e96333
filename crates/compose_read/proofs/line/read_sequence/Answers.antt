use Rattle.std.proofs.Common.{◌≡◌, ◌∙◌, ◌<◌, ◌+◌, ◌∷◌, [], ℕ, length, length-append, sym, ap, subst, rules, arith}
use Rattle.std.specs.Prelude.{Err}
use Rattle.compose_read.specs.Progress.{visit}
use Rattle.compose_read.specs.Rows.{DraftRows}
use Rattle.compose_read.specs.Sequence.{AreFed}
use Rattle.compose_read.proofs.Events.{sequence_after, event_taken, event_refused, events_all, fed_push}
use Rattle.compose_read.proofs.Faults.{passed_fault}
use Rattle.compose_read.proofs.line.read_sequence.Goals as goal

pub returns-in_err-event_keysym-clause-exact : goal.returns-in_err-event_keysym-clause-exact
returns-in_err-event_keysym-clause-exact c = λ bytes.
    let names = c.args.names.now in let events = c.args.events.now in let v = visit c.args.place bytes in let index = c.loop-index.index in
    let fault = c.in_err-event_keysym.field-0.0 in
    let is : c.from_residual.result ≡ Err fault = search rules in
    let within : index < length events = omega arith in
    passed_fault (λ (k : ℕ). k) (λ (_ : Unit {0}). c.loop-index.draft.row.sequence) fault _ _ _ is
    (λ h. sym (events_all names v events) ∙ sym (c.loop-index.invariant.exact bytes) ∙ event_refused names v events c.loop-index.draft.row.sequence index _ fault within h)
    (c.in_err-event_keysym.ensures.exact bytes)

pub loop-index-preserved : goal.loop-index-preserved
loop-index-preserved c =
    let names = c.args.names.now in let events = c.args.events.now in let index = c.loop-index.index in
    let within : index < length events = omega arith in
    let pushed = ap (λ (d : DraftRows). d.row.sequence) c.in_ok-push_keysym.ensures.pushed in record {
      exact = λ bytes.
          ap (λ ks. sequence_after names (visit c.args.place bytes) events ks (index + 1)) pushed
          ∙ sym (event_taken names (visit c.args.place bytes) events c.loop-index.draft.row.sequence index _ c.in_ok-event_keysym.field-0 within (c.in_ok-event_keysym.ensures.exact bytes))
          ∙ c.loop-index.invariant.exact bytes;
      fed = subst AreFed (sym pushed) (fed_push c.loop-index.draft.row.sequence c.in_ok-event_keysym.field-0 c.loop-index.invariant.fed c.in_ok-event_keysym.ensures.fed);
      kept = search rules;
      count = (let n = ap (λ ks. length ks) pushed in let m = length-append c.loop-index.draft.row.sequence (c.in_ok-event_keysym.field-0 ∷ []) in let i = c.loop-index.invariant.count in omega arith);
    }
