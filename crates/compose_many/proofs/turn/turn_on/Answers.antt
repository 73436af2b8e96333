use Rattle.std.proofs.Common.{◌≡◌, ◌∙◌, ◌+◌, ℕ, arith, ◌++◌, [], ◌∷◌, max, refl, sym, ap, subst}
use Rattle.std.specs.Prelude.{Ok, Err}
use Rattle.compose_serve.specs.declared.ends.StreamEnd.TheVariants.{Malformed}
use Rattle.compose_serve.specs.declared.ends.ServeFault.TheVariants.{NoMemory as EndsNoMemory, TooManyFrames as EndsTooManyFrames}
use Rattle.std.specs.Io.KnownBytes.{Consumes}
use Rattle.compose_many.specs.Connection.{ConnectionState, sends, receives, max_piece}
use Rattle.compose_many.specs.Steps.{StopsAs, KeptAs, loads_before, AnswersAs, IsRoomFor, ReadsAs}
use Rattle.compose_many.specs.Turns.{FollowsAs, loads_in}
use Rattle.compose_many.specs.Owners.{owners_by}
use Rattle.compose_many.specs.declared.connection.Stop.{Stop}
use Rattle.compose_many.specs.declared.turn.Turn.{Turn}
use Rattle.compose_many.specs.declared.turn.Turn.TheVariants.{Ends}
use Rattle.compose_many.proofs.Turning.{turn_then, turn_sent, turn_read, turn_on, follows_sent, follows_read, receives_so, is_kept, is_quiet, none_left, some_left, not_full, moves, loads_behind, follows_answers, short_sent, short_answered, short_read, sent_loads, read_loads, exchanges_read, sent_holds_no_more, holds_no_more, read_holds_little}
use Rattle.compose_many.proofs.OneOfMany.{left_is, written_is}
use Rattle.compose_many.proofs.turn.turn_on.Goals as goal

pub returns-in-Some-clause-turn : goal.returns-in-Some-clause-turn
returns-in-Some-clause-turn g c =
    let old = g.M.Streams.stream c.args.streams.now c.args.number in
    let sent = g.M.Streams.stream c.send_on.new.streams c.args.number in
    let stays = c.in-Some.ensures.stays in
    let so = c.in-Some.ensures.so in
    let now = c.send_on.new.connection in (
      sends so.0 ∷ [],
      now,
      left_is sent.left stays.0
          (turn_sent (max c.args.limits.unsent 1) g.A.Responder.reading (g.A.Responder.state c.args.service.now) c.args.connection.now now old.left old.written sent.written so.0 so.1 so.2),
      short_sent c.in-Some.turn so.0 (sent_loads c.in-Some.turn so.0 now sent.write_mark so.3),
      sent_holds_no_more (c.args.limits.held + max_piece) c.args.connection.now now so.0 so.1,
      follows_sent c.args.limits.held c.in-Some.turn c.args.connection.now now so.0 sent.left sent.read_mark sent.write_mark so.3,
      refl,
    )

pub returns-then-is_refused-clause-turn : goal.returns-then-is_refused-clause-turn
returns-then-is_refused-clause-turn g c =
    let old = g.M.Streams.stream c.args.streams.now c.args.number in
    let sent = g.M.Streams.stream c.send_on.new.streams c.args.number in
    let stays = c.in_default.ensures.stays in
    let so = c.in_default.ensures.so in
    let now = c.send_on.new.connection in (
      sends so.0 ∷ [],
      now,
      left_is sent.left stays.0
          (turn_sent (max c.args.limits.unsent 1) g.A.Responder.reading (g.A.Responder.state c.args.service.now) c.args.connection.now now old.left old.written sent.written so.0 so.1 so.2),
      short_sent (Ends (Ok Malformed)) so.0 refl,
      sent_holds_no_more (c.args.limits.held + max_piece) c.args.connection.now now so.0 so.1,
      (sym c.if-is_refused.ensures, so.3),
      refl,
    )

pub returns-then-not-is_empty-clause-turn : goal.returns-then-not-is_empty-clause-turn
returns-then-not-is_empty-clause-turn g c =
    let old = g.M.Streams.stream c.args.streams.now c.args.number in
    let sent = g.M.Streams.stream c.send_on.new.streams c.args.number in
    let stays = c.in_default.ensures.stays in
    let so = c.in_default.ensures.so in
    let answers =
    subst
    (λ (n : ℕ). AnswersAs n c.args.number c.args.owners.now.list c.answer_held-stop.new.owners.list g.A.Responder.reading (g.A.Responder.state c.args.service.now)
    (g.A.Responder.state c.answer_held-stop.new.service) c.send_on.new.connection c.answer_held-stop.new.self c.answer_held-stop.result) c.max.ensures c.answer_held-stop.ensures in
    let now = c.answer_held-stop.new.self in
    let some = some_left c.unsent.result.now now.unsent c.is_empty.result c.if-not-is_empty.true c.is_empty.ensures c.unsent.ensures in
    let kept : now ≡ answers.1 = is_kept c.answer_held-stop.result answers.1 now answers.4 some in (
      sends so.0 ∷ answers.0,
      answers.1,
      left_is sent.left stays.0
          (turn_on (max c.args.limits.unsent 1) g.A.Responder.reading (g.A.Responder.state c.args.service.now)
          (g.A.Responder.state c.answer_held-stop.new.service) c.args.connection.now c.send_on.new.connection answers.1 old.left old.written
          sent.written so.0 answers.0 so.1 so.2 answers.2),
      short_answered c.behind_answers.result so.0 (max c.args.limits.unsent 1) g.A.Responder.reading (g.A.Responder.state c.args.service.now)
          (g.A.Responder.state c.answer_held-stop.new.service) c.send_on.new.connection answers.1 answers.0 answers.2 (answers.5 ∙ loads_behind c.answer_held-stop.result ∙ ap loads_in (sym c.behind_answers.ensures)),
      holds_no_more (max c.args.limits.unsent 1) (c.args.limits.held + max_piece) g.A.Responder.reading (g.A.Responder.state c.args.service.now)
          (g.A.Responder.state c.answer_held-stop.new.service) c.args.connection.now c.send_on.new.connection answers.1 so.0 answers.0 so.1 answers.2,
      subst (λ (t : Turn). FollowsAs c.args.limits.held t c.args.connection.now (sends so.0 ∷ answers.0) answers.1 now sent.left sent.read_mark sent.write_mark) (sym c.behind_answers.ensures)
          (follows_answers c.args.limits.held c.answer_held-stop.result c.args.connection.now answers.1 now (sends so.0 ∷ answers.0) sent.left sent.read_mark sent.write_mark kept
          (moves c.args.connection.now c.send_on.new.connection answers.1 so.0 answers.0 so.1 so.3 (λ e. some (ap (λ (t : ConnectionState). t.unsent) kept ∙ e)))),
      answers.6,
    )

pub returns-in-NeedsBytes-clause-turn : goal.returns-in-NeedsBytes-clause-turn
returns-in-NeedsBytes-clause-turn g c =
    let old = g.M.Streams.stream c.args.streams.now c.args.number in
    let sent = g.M.Streams.stream c.send_on.new.streams c.args.number in
    let stays = c.in_default.ensures.stays in
    let read_new = g.M.Streams.stream c.read_on.new.streams c.args.number in
    let so = c.in_default.ensures.so in
    let answers =
    subst
    (λ (n : ℕ). AnswersAs n c.args.number c.args.owners.now.list c.answer_held-stop.new.owners.list g.A.Responder.reading (g.A.Responder.state c.args.service.now)
    (g.A.Responder.state c.answer_held-stop.new.service) c.send_on.new.connection c.answer_held-stop.new.self c.answer_held-stop.result) c.max.ensures c.answer_held-stop.ensures in
    let stop = c.answer_held-stop.result in
    let mid = c.answer_held-stop.new.self in
    let after = answers.1 in
    let stops = subst (λ (s : Stop). StopsAs (max c.args.limits.unsent 1) s after) c.in-NeedsBytes.is answers.3 in
    let kept : mid ≡ after = subst (λ (s : Stop). KeptAs s after mid) c.in-NeedsBytes.is answers.4 in
    let quiet = is_quiet after mid kept (none_left c.unsent.result.now mid.unsent c.is_empty.result c.if-not-is_empty.false c.is_empty.ensures c.unsent.ensures) stops.1 in
    let read = c.read_on.ensures.so in
    let room = subst (λ (t : ConnectionState). IsRoomFor c.args.limits.held t.held read.0) kept read.2 in
    let left = old.left in
    let left' = read_new.left in
    let written' = sent.written in
    let limit = max c.args.limits.unsent 1 in
    let new = g.A.Responder.state c.answer_held-stop.new.service in
    let last : ConnectionState = record after { held = after.held ++ read.0 } in (
      (sends so.0 ∷ answers.0) ++ receives read.0 ∷ [],
      last,
      written_is read_new.written c.read_on.ensures.stays.0
          (turn_then limit g.A.Responder.reading (g.A.Responder.state c.args.service.now) new new c.args.connection.now after last left left left' old.written written' written'
          (sends so.0 ∷ answers.0) (receives read.0 ∷ [])
          (turn_on limit g.A.Responder.reading (g.A.Responder.state c.args.service.now) new c.args.connection.now c.send_on.new.connection after left
          old.written written' so.0 answers.0 so.1 so.2 answers.2)
          (turn_read limit g.A.Responder.reading new after last left left' written' read.0
          (receives_so c.args.limits.held after c.read_on.new.connection read.0 left' read_new.read_mark read_new.write_mark stops.0 quiet) (subst (λ o. Consumes o left' read.0) stays.0 read.1))),
      short_read c.read_on.result so.0 (max c.args.limits.unsent 1) g.A.Responder.reading (g.A.Responder.state c.args.service.now)
          (g.A.Responder.state c.answer_held-stop.new.service) c.send_on.new.connection answers.1 answers.0 answers.2 c.args.limits.held after.held read.0 room
          (answers.5 ∙ ap loads_before c.in-NeedsBytes.is) (read_loads c.read_on.result c.args.limits.held c.answer_held-stop.new.self c.read_on.new.connection read.0 left' read_new.read_mark read.3),
      λ h. read_holds_little c.args.limits.held after.held read.0 room
          (holds_no_more (max c.args.limits.unsent 1) (c.args.limits.held + max_piece) g.A.Responder.reading (g.A.Responder.state c.args.service.now)
          (g.A.Responder.state c.answer_held-stop.new.service) c.args.connection.now c.send_on.new.connection answers.1 so.0 answers.0 so.1 answers.2 h),
      follows_read c.args.limits.held after c.read_on.new.connection read.0 left' read_new.read_mark
          read_new.write_mark stops.0 quiet c.read_on.result c.args.connection.now (sends so.0 ∷ answers.0)
          (subst (λ (t : ConnectionState). ReadsAs c.args.limits.held c.read_on.result t read.0 c.read_on.new.connection left' read_new.read_mark) kept read.3),
      answers.6 ∙ ap (owners_by c.args.number c.args.owners.now.list) (sym (exchanges_read (sends so.0 ∷ answers.0) read.0)),
    )

pub returns-in-NoMemory-clause-turn : goal.returns-in-NoMemory-clause-turn
returns-in-NoMemory-clause-turn g c =
    let old = g.M.Streams.stream c.args.streams.now c.args.number in
    let sent = g.M.Streams.stream c.send_on.new.streams c.args.number in
    let stays = c.in_default.ensures.stays in
    let so = c.in_default.ensures.so in
    let answers =
    subst
    (λ (n : ℕ). AnswersAs n c.args.number c.args.owners.now.list c.answer_held-stop.new.owners.list g.A.Responder.reading (g.A.Responder.state c.args.service.now)
    (g.A.Responder.state c.answer_held-stop.new.service) c.send_on.new.connection c.answer_held-stop.new.self c.answer_held-stop.result) c.max.ensures c.answer_held-stop.ensures in
    let mid = c.answer_held-stop.new.self in
    let after = answers.1 in
    let stops = subst (λ (s : Stop). StopsAs (max c.args.limits.unsent 1) s after) c.in-NoMemory.is answers.3 in
    let kept : mid ≡ after = subst (λ (s : Stop). KeptAs s after mid) c.in-NoMemory.is answers.4 in (
      sends so.0 ∷ answers.0,
      after,
      left_is sent.left stays.0
          (turn_on (max c.args.limits.unsent 1) g.A.Responder.reading (g.A.Responder.state c.args.service.now) (g.A.Responder.state c.answer_held-stop.new.service) c.args.connection.now c.send_on.new.connection after
          old.left old.written sent.written so.0 answers.0 so.1 so.2 answers.2),
      short_answered (Ends (Err EndsNoMemory)) so.0 (max c.args.limits.unsent 1) g.A.Responder.reading (g.A.Responder.state c.args.service.now)
          (g.A.Responder.state c.answer_held-stop.new.service) c.send_on.new.connection answers.1 answers.0 answers.2 (answers.5 ∙ ap loads_before c.in-NoMemory.is),
      holds_no_more (max c.args.limits.unsent 1) (c.args.limits.held + max_piece) g.A.Responder.reading (g.A.Responder.state c.args.service.now)
          (g.A.Responder.state c.answer_held-stop.new.service) c.args.connection.now c.send_on.new.connection answers.1 so.0 answers.0 so.1 answers.2,
      (stops.0, is_quiet after mid kept (none_left c.unsent.result.now mid.unsent c.is_empty.result c.if-not-is_empty.false c.is_empty.ensures c.unsent.ensures) stops.1),
      answers.6,
    )

pub returns-in-TooManyFrames-clause-turn : goal.returns-in-TooManyFrames-clause-turn
returns-in-TooManyFrames-clause-turn g c =
    let old = g.M.Streams.stream c.args.streams.now c.args.number in
    let sent = g.M.Streams.stream c.send_on.new.streams c.args.number in
    let stays = c.in_default.ensures.stays in
    let so = c.in_default.ensures.so in
    let answers =
    subst
    (λ (n : ℕ). AnswersAs n c.args.number c.args.owners.now.list c.answer_held-stop.new.owners.list g.A.Responder.reading (g.A.Responder.state c.args.service.now)
    (g.A.Responder.state c.answer_held-stop.new.service) c.send_on.new.connection c.answer_held-stop.new.self c.answer_held-stop.result) c.max.ensures c.answer_held-stop.ensures in
    let after = answers.1 in
    let stops = subst (λ (s : Stop). StopsAs (max c.args.limits.unsent 1) s after) c.in-TooManyFrames.is answers.3 in (
      sends so.0 ∷ answers.0,
      after,
      left_is sent.left stays.0
          (turn_on (max c.args.limits.unsent 1) g.A.Responder.reading (g.A.Responder.state c.args.service.now) (g.A.Responder.state c.answer_held-stop.new.service) c.args.connection.now c.send_on.new.connection after
          old.left old.written sent.written so.0 answers.0 so.1 so.2 answers.2),
      short_answered (Ends (Err EndsTooManyFrames)) so.0 (max c.args.limits.unsent 1) g.A.Responder.reading (g.A.Responder.state c.args.service.now)
          (g.A.Responder.state c.answer_held-stop.new.service) c.send_on.new.connection answers.1 answers.0 answers.2 (answers.5 ∙ ap loads_before c.in-TooManyFrames.is),
      holds_no_more (max c.args.limits.unsent 1) (c.args.limits.held + max_piece) g.A.Responder.reading (g.A.Responder.state c.args.service.now)
          (g.A.Responder.state c.answer_held-stop.new.service) c.args.connection.now c.send_on.new.connection answers.1 so.0 answers.0 so.1 answers.2,
      stops,
      answers.6,
    )

pub returns-in-Full-clause-turn : goal.returns-in-Full-clause-turn
returns-in-Full-clause-turn g c =
    let answers =
    subst
    (λ (n : ℕ). AnswersAs n c.args.number c.args.owners.now.list c.answer_held-stop.new.owners.list g.A.Responder.reading (g.A.Responder.state c.args.service.now)
    (g.A.Responder.state c.answer_held-stop.new.service) c.send_on.new.connection c.answer_held-stop.new.self c.answer_held-stop.result) c.max.ensures c.answer_held-stop.ensures in
    absurd
    (not_full (max c.args.limits.unsent 1) c.answer_held-stop.result answers.1 c.answer_held-stop.new.self (omega arith) c.in-Full.is answers.3 answers.4
    (none_left c.unsent.result.now c.answer_held-stop.new.self.unsent c.is_empty.result c.if-not-is_empty.false c.is_empty.ensures c.unsent.ensures))
