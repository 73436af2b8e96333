use Rattle.std.proofs.Common.{ℕ, ◌-◌, ◌<◌, ◌≤◌, List, map, length, sym, ◌∙◌, ap, rules}
use Rattle.std.specs.Prelude.{Ok, Result}
use Rattle.std.proofs.lemmas.Result.{err_from_is_err_and}
use Rattle.std.proofs.lemmas.List.{map_push, length_push, append-nil}
use Rattle.compose_lex.specs.Fault.{colon_or, events_at}
use Rattle.compose_lex.specs.Steps.{with_prefix, follow}
use Rattle.compose_lex.specs.declared.LexFault.{LexFault}
use Rattle.compose_lex.proofs.Events.{events_end, events_fault, one_more, one_broken, one_too_many}
use Rattle.compose_lex.proofs.lexer.events_at.Goals as goal

pub returns-in_err-behind : goal.returns-in_err-behind
returns-in_err-behind c =
    let n = c.args.line_len in
    let prefix = map (λ e. e.now) c.loop-behind.events.items in
    let p = err_from_is_err_and c.from_residual.result c.from_residual.ensures.1 in
    rw (p.1, p.2) (sym c.loop-behind.invariant.read
    ∙ ap (with_prefix prefix)
    (events_fault n (32 - length c.loop-behind.events.items) c.loop-behind.rest.now c.in_err-behind.field-0.0
    (λ event. ap (λ x. colon_or n x event) (sym c.skip_blanks.ensures) ∙ c.in_err-behind.ensures event)))

pub returns-in-Colon : goal.returns-in-Colon
returns-in-Colon c =
    let n = c.args.line_len in
    let prefix = map (λ e. e.now) c.loop-behind.events.items in
    sym c.loop-behind.invariant.read
    ∙ ap (with_prefix prefix)
    (events_end n (32 - length c.loop-behind.events.items) c.loop-behind.rest.now c.in-Colon.behind.now
    (λ event. ap (λ x. colon_or n x event) (sym c.skip_blanks.ensures) ∙ c.in_ok-behind.ensures event ∙ ap (λ x. follow x event) c.in-Colon.is))
    ∙ ap (λ x. let r : Result (List (List ℕ) × List ℕ) LexFault = Ok (x, c.in-Colon.behind.now) in r) (append-nil prefix)

pub returns-in-Event : goal.returns-in-Event
returns-in-Event c =
    let n = c.args.line_len in
    let prefix = map (λ e. e.now) c.loop-behind.events.items in
    let full : 32 ≤ length c.loop-behind.events.items = search rules in
    sym c.loop-behind.invariant.read
    ∙ ap (with_prefix prefix)
    (one_too_many n (length c.loop-behind.events.items) c.loop-behind.rest.now c.in-Event.field-0.now full
    (λ event. ap (λ x. colon_or n x event) (sym c.skip_blanks.ensures) ∙ c.in_ok-behind.ensures event ∙ ap (λ x. follow x event) c.in-Event.is))

pub returns-in_err-name-in-Event-2 : goal.returns-in_err-name-in-Event-2
returns-in_err-name-in-Event-2 c =
    let n = c.args.line_len in
    let items = c.loop-behind.events.items in
    let prefix = map (λ e. e.now) items in
    let few : length items < 32 = search rules in
    let p = err_from_is_err_and c.from_residual-in_err-name-in-Event-2.result c.from_residual-in_err-name-in-Event-2.ensures.1 in
    rw (p.1, p.2) (sym c.loop-behind.invariant.read
    ∙ ap (with_prefix prefix)
    (one_broken n (length items) c.loop-behind.rest.now c.in-Event.field-0.now c.in_err-name-in-Event-2.field-0.0 few
    (λ event. ap (λ x. colon_or n x event) (sym c.skip_blanks.ensures) ∙ c.in_ok-behind.ensures event ∙ ap (λ x. follow x event) c.in-Event.is) c.in_err-name-in-Event-2.ensures))

pub loop-behind-preserved : goal.loop-behind-preserved
loop-behind-preserved c =
    let n = c.args.line_len in
    let items = c.loop-behind.events.items in
    let prefix = map (λ e. e.now) items in
    let few : length items < 32 = search rules in
    let w =
    one_more n (length items) prefix c.loop-behind.rest.now c.in-Event.field-0.now c.in_ok-name-in-Event-2.name.now c.in_ok-name-in-Event-2.behind.now few
    (λ event. ap (λ x. colon_or n x event) (sym c.skip_blanks.ensures) ∙ c.in_ok-behind.ensures event ∙ ap (λ x. follow x event) c.in-Event.is) c.in_ok-name-in-Event-2.ensures in
    let pushed = c.push.ensures.items in
    record {
      text = search rules;
      read = ap (λ xs. with_prefix (map (λ e. e.now) xs) (events_at n (32 - length xs) c.in_ok-name-in-Event-2.behind.now)) pushed
          ∙ rw (map_push (λ e. e.now) items c.in_ok-name-in-Event-2.name, length_push items c.in_ok-name-in-Event-2.name) (sym w ∙ c.loop-behind.invariant.read);
    }
