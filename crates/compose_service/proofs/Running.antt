-- One more request of a run.
use Rattle.std.proofs.Common.{◌≡◌, ◌∙◌, ℕ, ◌+◌, ◌<◌, List, [], ◌∷◌, ◌++◌, length, map, take, get_or, add-one, refl, sym, ap, subst}
use Rattle.std.proofs.Math.Seq.{take-suc}
use Rattle.std.proofs.lemmas.List.{map-append}
use Rattle.compose_wire.specs.Messages as words
use Rattle.compose_wire.specs.Replies.{HasReplyValue}
use Rattle.compose_wire.specs.Requests.{request_of}
use Rattle.compose_wire.specs.declared.reply.Reply.{Reply}
use Rattle.compose_wire.specs.declared.request.Request.{Request}
use Rattle.compose_machine.specs.Machine.{ServiceState, Reading, Step, Run}
use Rattle.compose_machine.proofs.Runs.{joined}
use Rattle.compose_service.specs.Answered.{AreReplies}

pub replies_appended : (replies : List Reply) (expected : List words.Reply) (r : Reply) (s : words.Reply) → AreReplies replies expected → HasReplyValue r s → AreReplies (replies ++ r ∷ []) (expected ++ s ∷ [])
replies_appended [] [] r s a h = (h, tt)
replies_appended [] (t ∷ expected) r s a h = absurd a
replies_appended (x ∷ replies) [] r s a h = absurd a
replies_appended (x ∷ replies) (t ∷ expected) r s a h = (a.0, replies_appended replies expected r s a.1 h)

-- the run so far, with these replies
abbrev pub Reported : Reading → ServiceState → List words.Request → List Reply → ServiceState → Type 0
Reported reading old requests replies new = (expected : List words.Reply) × Run reading old requests expected new × AreReplies replies expected

pub one_more : (reading : Reading) (old mid new : ServiceState) (requests : List words.Request) (q : words.Request) (replies : List Reply) (r : Reply) → Reported reading old requests replies mid
    → (s : words.Reply) × Step reading mid q s new × HasReplyValue r s → Reported reading old (requests ++ q ∷ []) (replies ++ r ∷ []) new
one_more reading old mid new requests q replies r reported h =
    (reported.0 ++ h.0 ∷ [], joined reading old mid new requests (q ∷ []) reported.0 (h.0 ∷ []) reported.1 (new, h.1, refl), replies_appended replies reported.0 r h.0 reported.2 h.2)

requests_more : (requests : List Request) (i : ℕ) (q d : Request) → i < length requests → q ≡ get_or requests i d
    → map request_of (take (i + 1) requests) ≡ map request_of (take i requests) ++ request_of q ∷ []
requests_more requests i q d l e =
    ap (map request_of) (ap (λ n. take n requests) (add-one i) ∙ take-suc requests i d l ∙ ap (λ (y : Request). take i requests ++ y ∷ []) (sym e)) ∙ map-append request_of (take i requests) (q ∷ [])

-- the run over one more of these requests
pub run_more : (reading : Reading) (old mid new : ServiceState) (requests : List Request) (i : ℕ) (q d : Request) (replies replies' : List Reply) (r : Reply) → i < length requests
    → q ≡ get_or requests i d → replies' ≡ replies ++ r ∷ []
    → Reported reading old (map request_of (take i requests)) replies mid → (s : words.Reply) × Step reading mid (request_of q) s new × HasReplyValue r s
    → Reported reading old (map request_of (take (i + 1) requests)) replies' new
run_more reading old mid new requests i q d replies replies' r l e pushed reported h =
    subst (λ (qs : List words.Request). Reported reading old qs replies' new) (sym (requests_more requests i q d l e))
    (subst (λ (rs : List Reply). Reported reading old (map request_of (take i requests) ++ request_of q ∷ []) rs new) (sym pushed)
    (one_more reading old mid new (map request_of (take i requests)) (request_of q) replies r reported h))

-- no request yet
pub none_yet : (reading : Reading) (old : ServiceState) (replies : List Reply) → replies ≡ [] → Reported reading old [] replies old
none_yet reading old replies e = ([], refl, subst (λ (rs : List Reply). AreReplies rs []) (sym e) tt)
