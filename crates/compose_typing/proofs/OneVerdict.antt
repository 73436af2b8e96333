-- Each key has one verdict.
use Rattle.std.proofs.Common.{◌≡◌, ℕ, ◌+◌, ◌==◌, ◌&&◌, Bool, true, false, cond, refl, [], ◌∷◌, arith}
use Rattle.std.specs.Prelude.{sum_by}
use Rattle.std.proofs.lemmas.List.Sums.{sum_by-cons}
use Rattle.compose_wire.specs.Messages.{ReplyBody, opened, fed, was_reset, closed, loaded, state, refused, Refusal, code, session_taken, no_session}
use Rattle.compose_typing.specs.declared.stage.Waiting.{Waiting}
use Rattle.compose_typing.specs.declared.stage.KeyAnswer.{KeyAnswer}
use Rattle.compose_typing.specs.declared.stage.Stage.{Stage}
use Rattle.compose_typing.specs.declared.stage.Stage.TheVariants.{Apart, Ready, Connecting, Opening, Feeding, Asking, Refreshing, Closing}
use Rattle.compose_typing.specs.TypingSession.{Client, Outcome, pressed_at, connected_at, opened_at, refused_at, fed_at, asked_at, skipped_at, refreshed_at, closed_at, answered_at, give_up_outcome, lost_with, lost_at, timeout_outcome, erased_at, left_at}
use Rattle.compose_typing.specs.Laws.{Event, press, connect, reply, lose, time_out, erase, drop_pending, close, happens, after, actions, verdicts, presses, waiting, OneVerdict}

-- the number of verdicts and waiting keys after an event
abbrev pub Counts : Outcome → ℕ → Type 0
Counts o n = verdicts o.action + waiting o.client ≡ n

either : (b : Bool) (x y : Outcome) (n : ℕ) → Counts x n → Counts y n → Counts (cond b x y) n
either true x y n p q = p
either false x y n p q = q

opened_once : (c : Client) (w : Waiting) (a : ReplyBody) → Counts (opened_at c w a) 1
opened_once c w opened = refl
opened_once c w (fed status accepted text) = refl
opened_once c w was_reset = refl
opened_once c w closed = refl
opened_once c w (loaded count) = refl
opened_once c w (state status pending) = refl
opened_once c w (refused why) = either (c.is_opened && (code why == code session_taken)) _ _ 1 refl refl

lost_with_once : (c : Client) (w : Waiting) → Counts (lost_with c w) 1
lost_with_once c w = either w.is_again _ _ 1 refl refl

refused_once : (c : Client) (w : Waiting) (why : Refusal) → Counts (refused_at c w why) 1
refused_once c w why = either (code why == code no_session) (lost_with c w) _ 1 (lost_with_once c w) refl

fed_once : (c : Client) (w : Waiting) (n : ℕ) (a : ReplyBody) → Counts (fed_at c w n a) 1
fed_once c w n opened = refl
fed_once c w n (fed status accepted text) = either (n == 0) _ _ 1 refl refl
fed_once c w n was_reset = either (n == 0) _ _ 1 refl refl
fed_once c w n closed = refl
fed_once c w n (loaded count) = refl
fed_once c w n (state status pending) = refl
fed_once c w n (refused why) = refused_once c w why

asked_once : (c : Client) (w : Waiting) (h : KeyAnswer) (a : ReplyBody) → Counts (asked_at c w h a) 1
asked_once c w h opened = refl
asked_once c w h (fed status accepted text) = refl
asked_once c w h was_reset = refl
asked_once c w h closed = refl
asked_once c w h (loaded count) = refl
asked_once c w h (state status pending) = refl
asked_once c w h (refused why) = refused_once c w why

given_up_once : (c : Client) (s : Stage) → c.stage ≡ s → Counts (give_up_outcome c) (waiting c)
given_up_once c Apart e = rw e refl
given_up_once c Ready e = rw e refl
given_up_once c (Connecting w) e = rw e refl
given_up_once c (Opening w) e = rw e refl
given_up_once c (Feeding w n) e = rw e refl
given_up_once c (Asking w h) e = rw e refl
given_up_once c (Refreshing n) e = rw e refl
given_up_once c Closing e = rw e refl

skipped_once : (c : Client) (m n : ℕ) → c.stage ≡ Refreshing m → Counts (skipped_at c n) (waiting c)
skipped_once c m n e = either (n == 0) (give_up_outcome c) _ (waiting c) (given_up_once c (Refreshing m) e) (rw e refl)

refreshed_once : (c : Client) (m n : ℕ) (a : ReplyBody) → c.stage ≡ Refreshing m → Counts (refreshed_at c n a) (waiting c)
refreshed_once c m n opened e = given_up_once c (Refreshing m) e
refreshed_once c m n (fed status accepted text) e = skipped_once c m n e
refreshed_once c m n was_reset e = skipped_once c m n e
refreshed_once c m n closed e = given_up_once c (Refreshing m) e
refreshed_once c m n (loaded count) e = given_up_once c (Refreshing m) e
refreshed_once c m n (state status pending) e = either (n == 0) _ (give_up_outcome c) (waiting c) (rw e refl) (given_up_once c (Refreshing m) e)
refreshed_once c m n (refused why) e = given_up_once c (Refreshing m) e

closed_once : (c : Client) (a : ReplyBody) → c.stage ≡ Closing → Counts (closed_at c a) (waiting c)
closed_once c opened e = given_up_once c Closing e
closed_once c (fed status accepted text) e = given_up_once c Closing e
closed_once c was_reset e = given_up_once c Closing e
closed_once c closed e = rw e refl
closed_once c (loaded count) e = given_up_once c Closing e
closed_once c (state status pending) e = given_up_once c Closing e
closed_once c (refused why) e = rw e refl

answered_once : (c : Client) (s : Stage) (a : ReplyBody) → c.stage ≡ s → Counts (answered_at s c a) (waiting c)
answered_once c Apart a e = given_up_once c Apart e
answered_once c Ready a e = given_up_once c Ready e
answered_once c (Connecting w) a e = given_up_once c (Connecting w) e
answered_once c (Opening w) a e = rw e (opened_once c w a)
answered_once c (Feeding w n) a e = rw e (fed_once c w n a)
answered_once c (Asking w h) a e = rw e (asked_once c w h a)
answered_once c (Refreshing n) a e = refreshed_once c n n a e
answered_once c Closing a e = closed_once c a e

lost_once : (c : Client) (s : Stage) → c.stage ≡ s → Counts (lost_at s c) (waiting c)
lost_once c Apart e = rw e refl
lost_once c Ready e = rw e refl
lost_once c (Connecting w) e = rw e refl
lost_once c (Opening w) e = rw e (lost_with_once c w)
lost_once c (Feeding w n) e = rw e (lost_with_once c w)
lost_once c (Refreshing n) e = rw e refl
lost_once c Closing e = rw e refl
lost_once c (Asking w h) e = rw e (lost_with_once c w)

timed_out_once : (c : Client) (s : Stage) → c.stage ≡ s → Counts (timeout_outcome c) (waiting c)
timed_out_once c Apart e = rw e refl
timed_out_once c Ready e = rw e refl
timed_out_once c (Connecting w) e = rw e refl
timed_out_once c (Opening w) e = rw e refl
timed_out_once c (Feeding w n) e = rw e refl
timed_out_once c (Refreshing n) e = rw e refl
timed_out_once c Closing e = rw e refl
timed_out_once c (Asking w h) e = rw e refl

connected_once : (c : Client) (n : ℕ) (s : Stage) → c.stage ≡ s → Counts (connected_at s c n) (waiting c)
connected_once c i Apart e = given_up_once c Apart e
connected_once c i Ready e = given_up_once c Ready e
connected_once c i (Connecting w) e = rw e refl
connected_once c i (Opening w) e = given_up_once c (Opening w) e
connected_once c i (Feeding w n) e = given_up_once c (Feeding w n) e
connected_once c i (Refreshing n) e = given_up_once c (Refreshing n) e
connected_once c i Closing e = given_up_once c Closing e
connected_once c i (Asking w h) e = given_up_once c (Asking w h) e

pressed_once : (c : Client) (k : ℕ) (s : Stage) → c.stage ≡ s → Counts (pressed_at s c k) (waiting c + 1)
pressed_once c k Apart e = rw e refl
pressed_once c k Ready e = rw e refl
pressed_once c k (Connecting w) e = rw e refl
pressed_once c k (Opening w) e = rw e refl
pressed_once c k (Feeding w n) e = rw e refl
pressed_once c k (Refreshing n) e = rw e refl
pressed_once c k Closing e = rw e refl
pressed_once c k (Asking w h) e = rw e refl

erased_once : (c : Client) (s : Stage) → c.stage ≡ s → Counts (erased_at s c) (waiting c)
erased_once c Apart e = rw e refl
erased_once c Ready e = rw e refl
erased_once c (Connecting w) e = rw e refl
erased_once c (Opening w) e = rw e refl
erased_once c (Feeding w n) e = rw e refl
erased_once c (Asking w h) e = rw e refl
erased_once c (Refreshing n) e = rw e refl
erased_once c Closing e = rw e refl

dropped_once : (c : Client) (s : Stage) → c.stage ≡ s → Counts (happens c drop_pending) (waiting c)
dropped_once c Apart e = rw e refl
dropped_once c Ready e = rw e refl
dropped_once c (Connecting w) e = rw e refl
dropped_once c (Opening w) e = rw e refl
dropped_once c (Feeding w n) e = rw e refl
dropped_once c (Asking w h) e = rw e refl
dropped_once c (Refreshing n) e = rw e refl
dropped_once c Closing e = rw e refl

left_once : (c : Client) (s : Stage) → c.stage ≡ s → Counts (left_at s c) (waiting c)
left_once c Apart e = rw e refl
left_once c Ready e = rw e refl
left_once c (Connecting w) e = rw e refl
left_once c (Opening w) e = rw e refl
left_once c (Feeding w n) e = rw e refl
left_once c (Asking w h) e = rw e refl
left_once c (Refreshing n) e = rw e refl
left_once c Closing e = rw e refl

once : (c : Client) (e : Event) → Counts (happens c e) (waiting c + presses e)
once c (press k) = pressed_once c k c.stage refl
once c (connect n) = let h = connected_once c n c.stage refl in omega (arith, h)
once c (reply r) =
    let h = either (r.session == c.session) (answered_at c.stage c r.answer) (give_up_outcome c) (waiting c) (answered_once c c.stage r.answer refl) (given_up_once c c.stage refl) in
    omega (arith, h)
once c lose = let h = lost_once c c.stage refl in omega (arith, h)
once c time_out = let h = timed_out_once c c.stage refl in omega (arith, h)
once c erase = let h = erased_once c c.stage refl in omega (arith, h)
once c drop_pending = let h = dropped_once c c.stage refl in omega (arith, h)
once c close = let h = left_once c c.stage refl in omega (arith, h)

-- the counts at an event and after it
joined : (v w x p vs q ps : ℕ) → v + w ≡ x + p → vs + q ≡ w + ps → (v + vs) + q ≡ x + (p + ps)
joined v w x p vs q ps e f = omega (arith, e, f)

pub one_verdict : OneVerdict
one_verdict c [] = omega arith
one_verdict c (e ∷ es) =
    let o = happens c e in
    let verdict_on = sum_by-cons verdicts o.action (actions o.client es) in
    let press_outcome = sum_by-cons presses e es in
    rw verdict_on (rw press_outcome (joined (verdicts o.action) (waiting o.client) (waiting c) (presses e) (sum_by verdicts (actions o.client es)) (waiting (after o.client es)) (sum_by presses es)
    (once c e) (one_verdict o.client es)))
