-- An unfinished exchange.
use Rattle.std.proofs.Common.{◌≡◌, ◌∙◌, ◌<◌, ◌≤◌, ◌+◌, ap, sym, subst, refl, ℕ, Bool, true, false, not, ◌&&◌, if◌then◌else◌, List, [], ◌∷◌, ◌++◌, take, drop, length, get_or, append-nil, arith}
use Rattle.std.specs.Prelude.{Option, Some, None, Result, Ok, Err, IfErr, slice_get}
use Rattle.std.specs.Result.{IsErrAnd}
use Rattle.std.specs.List.{list_all}
use Rattle.std.proofs.lemmas.Bool.{and_parts}
use Rattle.std.proofs.lemmas.Option.{slice_get-get_or}
use Rattle.std.proofs.lemmas.List.{append_assoc, drop_all, drop_more, take_more, length-append, length-take}
use Rattle.std.proofs.lemmas.List.Folds.{list_all-append}
use Rattle.compose_wire.specs.declared.request.Request.{Request}
use Rattle.compose_wire.specs.declared.reply.Reply.{Reply}
use Rattle.compose_input.specs.declared.fault.Fault.{Fault}
use Rattle.compose_service_runs.specs.Turns.{Turn, is_refusal, goes_through, then_turns, turns_of}
use Rattle.compose_service_runs.specs.Clients.{StopsAt}

-- the turns so far; whatever the replies to the remaining requests are, their turns come after
-- these
pub record IsUnderway (before now : Option (List Turn)) (requests : List Request) (index : ℕ) (replies : List Reply) : Type 0 where
  pub done : List Turn
  pub turns : now ≡ then_turns before done
  pub goes_on : (more : List Reply) → turns_of requests (replies ++ more) ≡ done ++ turns_of (drop index requests) more
  pub count : length replies ≡ index
  pub answered : list_all goes_through replies ≡ true
  pub so_far : done ≡ turns_of (take index requests) replies

abbrev pub turn : Request → Option Reply → Turn
turn q r = record { request = q; reply = r }

none_more : (turns : Option (List Turn)) → turns ≡ then_turns turns []
none_more None = refl
none_more (Some turns) = ap Some (sym (append-nil turns))

then_more : (turns : Option (List Turn)) (a b : List Turn) → then_turns (then_turns turns a) b ≡ then_turns turns (a ++ b)
then_more None a b = refl
then_more (Some turns) a b = ap Some (append_assoc turns a b)

-- nothing is sent
pub begin_turns : (before : Option (List Turn)) (requests : List Request) → IsUnderway before before requests 0 []
begin_turns before requests = record { done = []; turns = none_more before; goes_on = λ more. refl; count = refl; answered = refl; so_far = refl }

-- the turns of the next request with these replies
next_turns : (before now : Option (List Turn)) (requests : List Request) (i : ℕ) (q : Request) (replies more : List Reply) → (u : IsUnderway before now requests i replies) → i < length requests
    → q ≡ get_or requests i q → turns_of requests (replies ++ more) ≡ u.done ++ turns_of (q ∷ drop (i + 1) requests) more
next_turns before now requests i q replies more u within at =
    u.goes_on more ∙ ap (λ rest. u.done ++ turns_of rest more) (drop_more requests i q within ∙ ap (λ (x : Request). x ∷ drop (i + 1) requests) (sym at))

-- one more turn
next_turn : (before now after : Option (List Turn)) (done : List Turn) (one : Turn) → now ≡ then_turns before done → after ≡ then_turns now (one ∷ []) → after ≡ then_turns before (done ++ one ∷ [])
next_turn before now after done one was is = is ∙ (ap (λ turns. then_turns turns (one ∷ [])) was ∙ then_more before done (one ∷ []))

goes_on_by : (b : Bool) (a : Turn) (rest : List Turn) → b ≡ false → a ∷ (if b then [] else rest) ≡ a ∷ rest
goes_on_by false a rest is = refl
goes_on_by true a rest is = cc

ends_by : (b : Bool) (a : Turn) (rest : List Turn) → b ≡ true → a ∷ (if b then [] else rest) ≡ a ∷ []
ends_by true a rest is = refl
ends_by false a rest is = cc

not_false : (b : Bool) → b ≡ false → not b ≡ true
not_false true e = cc
not_false false e = refl

not_true : (b : Bool) → not b ≡ true → b ≡ false
not_true true e = cc
not_true false e = refl

-- one more request, and one more reply
one_more : (requests : List Request) (replies : List Reply) (q : Request) (r : Reply) → length requests ≡ length replies → list_all goes_through replies ≡ true → is_refusal r.answer ≡ false
    → turns_of (requests ++ q ∷ []) (replies ++ r ∷ []) ≡ turns_of requests replies ++ turn q (Some r) ∷ []
one_more [] [] q r same all goes = goes_on_by (is_refusal r.answer) (turn q (Some r)) [] goes
one_more [] (s ∷ replies) q r same all goes = absurd (omega arith)
one_more (x ∷ requests) [] q r same all goes = absurd (omega arith)
one_more (x ∷ requests) (s ∷ replies) q r same all goes =
    let both = and_parts (goes_through s) (list_all goes_through replies) all in
    let through = not_true (is_refusal s.answer) both.0 in
    goes_on_by (is_refusal s.answer) (turn x (Some s)) (turns_of (requests ++ q ∷ []) (replies ++ r ∷ [])) through
    ∙ ap (λ rest. turn x (Some s) ∷ rest) (one_more requests replies q r (omega arith) both.1 goes)
    ∙ ap (λ turns. turns ++ turn q (Some r) ∷ []) (sym (goes_on_by (is_refusal s.answer) (turn x (Some s)) (turns_of requests replies) through))

-- the next request is answered
pub next_answered : (before now after : Option (List Turn)) (requests : List Request) (i : ℕ) (q : Request) (replies : List Reply) (r : Reply)
    → IsUnderway before now requests i replies → i < length requests → q ≡ get_or requests i q → is_refusal r.answer ≡ false
    → after ≡ then_turns now (turn q (Some r) ∷ []) → IsUnderway before after requests (i + 1) (replies ++ r ∷ [])
next_answered before now after requests i q replies r u within at goes is =
    let one = turn q (Some r) in
    record {
      done = u.done ++ one ∷ [];
      turns = next_turn before now after u.done one u.turns is;
      goes_on = λ more.
          ap (turns_of requests) (append_assoc replies (r ∷ []) more)
          ∙ (next_turns before now requests i q replies (r ∷ more) u within at
          ∙ (ap (λ (turns : List Turn). u.done ++ turns) (goes_on_by (is_refusal r.answer) one (turns_of (drop (i + 1) requests) more) goes)
          ∙ sym (append_assoc u.done (one ∷ []) (turns_of (drop (i + 1) requests) more))));
      count = (let long = length-append replies (r ∷ []) in omega (arith, long, u.count));
      answered =
          list_all-append goes_through replies (r ∷ []) ∙ ap (λ t. t && list_all goes_through (r ∷ [])) u.answered
          ∙ ap (λ t. t && true) (not_false (is_refusal r.answer) goes);
      so_far =
          ap (λ turns. turns ++ one ∷ []) u.so_far
          ∙ sym (ap (λ asked. turns_of asked (replies ++ r ∷ [])) (take_more requests i q within ∙ ap (λ x. take i requests ++ x ∷ []) (sym at))
          ∙ one_more (take i requests) replies q r (let short = length-take i requests in omega (arith, short, u.count, within)) u.answered goes);
    }

-- an error with this fault
pub with_fault : {T : Type 0} (r : Result T Fault) (fault : Fault) (Fails : Fault → Type 0) → IsErrAnd r (λ e. e ≡ fault) → Fails fault → IfErr r Fails
with_fault (Ok x) fault Fails h fails = absurd h
with_fault (Err e) fault Fails h fails = subst Fails (sym h) fails

-- the next request has a fault: what came before it
pub next_fails : {P : Type 0} (turns : P → Option (List Turn)) (gives : P → Request → Fault → Type 0) (before peer : P) (requests : List Request) (i : ℕ) (q : Request) (replies : List Reply) (fault : Fault)
    → IsUnderway (turns before) (turns peer) requests i replies → i < length requests → q ≡ get_or requests i q → gives peer q fault → StopsAt turns gives requests before fault
next_fails turns gives before peer requests i q replies fault u within at given = record {
  peer = peer;
  replies = replies;
  answered = u.answered;
  turned = u.turns ∙ ap (then_turns (turns before)) (u.so_far ∙ ap (λ n. turns_of (take n requests) replies) (sym u.count));
  request = q;
  next = ap (slice_get requests) u.count ∙ slice_get-get_or requests i q within ∙ ap Some (sym at);
  given = given;
}

-- it is refused
pub next_refused : (before now after : Option (List Turn)) (requests : List Request) (i : ℕ) (q : Request) (replies : List Reply) (r : Reply)
    → IsUnderway before now requests i replies → i < length requests → q ≡ get_or requests i q → is_refusal r.answer ≡ true
    → after ≡ then_turns now (turn q (Some r) ∷ []) → after ≡ then_turns before (turns_of requests (replies ++ r ∷ []))
next_refused before now after requests i q replies r u within at ends is =
    let one = turn q (Some r) in
    next_turn before now after u.done one u.turns is
    ∙ ap (then_turns before) (sym (next_turns before now requests i q replies (r ∷ []) u within at
    ∙ ap (λ (turns : List Turn). u.done ++ turns) (ends_by (is_refusal r.answer) one (turns_of (drop (i + 1) requests) []) ends)))

-- the other side closes before it is answered
pub next_closed : (before now after : Option (List Turn)) (requests : List Request) (i : ℕ) (q : Request) (replies : List Reply)
    → IsUnderway before now requests i replies → i < length requests → q ≡ get_or requests i q
    → after ≡ then_turns now (turn q None ∷ []) → after ≡ then_turns before (turns_of requests replies)
next_closed before now after requests i q replies u within at is =
    next_turn before now after u.done (turn q None) u.turns is
    ∙ ap (then_turns before) (sym (ap (turns_of requests) (sym (append-nil replies)) ∙ next_turns before now requests i q replies [] u within at))

-- none is left
pub all_answered : (before now : Option (List Turn)) (requests : List Request) (i : ℕ) (replies : List Reply)
    → IsUnderway before now requests i replies → length requests ≤ i → now ≡ then_turns before (turns_of requests replies)
all_answered before now requests i replies u over =
    u.turns
    ∙ ap (then_turns before) (sym (ap (turns_of requests) (sym (append-nil replies))
    ∙ (u.goes_on [] ∙ (ap (λ (rest : List Request). u.done ++ turns_of rest []) (drop_all i requests over) ∙ append-nil u.done))))
