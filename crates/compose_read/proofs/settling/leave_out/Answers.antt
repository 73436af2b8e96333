use Rattle.std.proofs.Common.{nat_eq, length, sym, ◌∙◌, ap, ap₂}
use Rattle.std.specs.Prelude.{Result, Err, Bool}
use Rattle.std.specs.List.{starts_with}
use Rattle.compose_read.specs.Settle.{Overlap}
use Rattle.compose_read.specs.Neighbours.{prefix_of_next}
use Rattle.compose_read.proofs.Prefixes.{stays_repeated, stays_prefix}
use Rattle.compose_read.proofs.settling.leave_out.Goals as goal

pub returns-then-long-short : goal.returns-then-long-short
returns-then-long-short c = λ d e short long.
    stays_repeated c.args.rule d e
    (ap₂ (λ s p. starts_with nat_eq s p) long short ∙ c.requires.is_prefix)
    (ap length long ∙ c.if-long-short.true ∙ ap length (sym short))

pub returns-in-Refuse : goal.returns-in-Refuse
returns-in-Refuse c = λ d e short long.
    stays_prefix c.args.rule d e
    (ap₂ (λ s p. starts_with nat_eq s p) long short ∙ c.requires.is_prefix)
    (λ l. c.if-long-short.false (ap length (sym long) ∙ l ∙ ap length short))
    ∙ ap (λ r. prefix_of_next r d e) c.in-Refuse.is
    ∙ ap₂ (λ s l. let o : Overlap = record { short = s; long = l } in let r : Result Bool Overlap = Err o in r) (short ∙ sym c.key_list.ensures) (long ∙ sym c.key_list-in-Refuse.ensures)

pub returns-in-Longest : goal.returns-in-Longest
returns-in-Longest c = λ d e short long.
    stays_prefix c.args.rule d e
    (ap₂ (λ s p. starts_with nat_eq s p) long short ∙ c.requires.is_prefix)
    (λ l. c.if-long-short.false (ap length (sym long) ∙ l ∙ ap length short))
    ∙ ap (λ r. prefix_of_next r d e) c.in-Longest.is
