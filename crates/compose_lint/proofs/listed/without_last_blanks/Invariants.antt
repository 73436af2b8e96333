use Rattle.std.proofs.Common.{◌≡◌, ◌≤◌, ◌-◌, ◌+◌, length, take}
use Rattle.std.specs.List.{suffix_len}
use Rattle.compose_text.specs.Bytes.{is_blank}
use Rattle.compose_lint.proofs.listed.without_last_blanks.Given as goal

-- what follows the end is blank
abbrev pub invariant-loop-end : goal.invariant-loop-end
invariant-loop-end l = record {
  within : l.end ≤ length l.line;
  blank : suffix_len is_blank l.line ≡ (length l.line - l.end) + suffix_len is_blank (take l.end l.line);
}

abbrev pub decreases-loop-end : goal.decreases-loop-end
decreases-loop-end l = l.end
