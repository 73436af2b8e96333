use Rattle.std.proofs.Common.{◌≡◌, ◌+◌, ◌-◌, ℕ, take, drop, get_or, subst, arith}
use Rattle.std.specs.Prelude.{Some, None}
use Rattle.compose_client.specs.Giving.{ReadsAnswer}
use Rattle.compose_client.proofs.FirstReply.{not_read, other_frame, given, says, session_small}
use Rattle.compose_client.proofs.reply.first_reply.Goals as goal

pub returns-in_default-read_answer : goal.returns-in_default-read_answer
returns-in_default-read_answer c =
    let h = c.args.held.now in
    let n = c.in-Some.size in
    let sized = rw c.in-Some.is at c.in_ok-size.ensures in
    let all : (9 + n) - 9 ≡ n = omega arith in
    not_read h n sized (subst (λ (m : ℕ). ReadsAnswer None (get_or h 0 0) (take m (drop 9 h))) all c.in_default-read_answer.ensures)

pub returns-then-not-is_frame_of : goal.returns-then-not-is_frame_of
returns-then-not-is_frame_of c =
    let h = c.args.held.now in
    let n = c.in-Some.size in
    let session = c.from_be_bytes-session.result in
    let answer = c.in-Some-read_answer.answer in
    let sized = rw c.in-Some.is at c.in_ok-size.ensures in
    let all : (9 + n) - 9 ≡ n = omega arith in
    let read = subst (λ (m : ℕ). ReadsAnswer (Some answer) (get_or h 0 0) (take m (drop 9 h))) all c.in-Some-read_answer.ensures in
    let reads = c.from_be_bytes-session.ensures in
    other_frame h n sized session answer reads read (c.is_frame_of.ensures.no _ (says h n sized session answer reads read) c.if-not-is_frame_of.true)

pub returns : goal.returns
returns c =
    let h = c.args.held.now in
    let n = c.in-Some.size in
    let session = c.from_be_bytes-session.result in
    let answer = c.in-Some-read_answer.answer in
    let sized = rw c.in-Some.is at c.in_ok-size.ensures in
    let all : (9 + n) - 9 ≡ n = omega arith in
    let read = subst (λ (m : ℕ). ReadsAnswer (Some answer) (get_or h 0 0) (take m (drop 9 h))) all c.in-Some-read_answer.ensures in
    let reads = c.from_be_bytes-session.ensures in
    let same = c.is_frame_of.ensures.yes _ (says h n sized session answer reads read) c.if-not-is_frame_of.false in
    (given h n sized session answer reads read (session_small h c.type_inv.held session reads) same, sized.2)
