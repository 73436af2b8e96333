use Rattle.std.proofs.Common.{◌≡◌, ◌-◌, map, length}
use denote.Text.{Utf8}
use denote.Shadow.{shadow}
use Rattle.compose_lex.specs.Fault.{events_at}
use Rattle.compose_lex.specs.Steps.{with_prefix}
use Rattle.compose_lex.proofs.lexer.events_at.Given as goal

-- the events so far come before those of the rest
abbrev pub invariant-loop-behind : goal.invariant-loop-behind
invariant-loop-behind l = record {
  text : shadow (Utf8 l.rest);
  read : with_prefix (map (λ e. e.now) l.events.items) (events_at l.line_len (32 - length l.events.items) l.rest)
      ≡ with_prefix (map (λ e. e.now) l.fn.events.items) (events_at l.line_len (32 - length l.fn.events.items) l.fn.after_event);
}

abbrev pub decreases-loop-behind : goal.decreases-loop-behind
decreases-loop-behind l = 32 - length l.events.items
