use Rattle.std.proofs.Common.{not, sym, ◌∙◌, ap, string_bytes}
use Rattle.compose_diff.specs.Accepted.{matches_text}
use Rattle.compose_diff.proofs.Found.{matched_at}
use Rattle.compose_diff.proofs.accepted.matching_text.Goals as goal

pub returns-then-matches_text-clause-reported : goal.returns-then-matches_text-clause-reported
returns-then-matches_text-clause-reported c =
    sym (ap not (matched_at (λ text. string_bytes text) c.args.texts.now c.args.line.now c.args.hint c.index-texts-hint.result c.if-hint-texts.true c.index-texts-hint.is
    (ap (λ t. matches_text t c.args.line.now) (sym c.deref.ensures) ∙ sym c.matches_text.ensures ∙ c.if-matches_text.true)))
