use Rattle.std.proofs.Common.{◌<◌, ◌-◌, length, sym, ◌∙◌, rules}
use Rattle.compose_read.proofs.Prefixes.{differs_at}
use Rattle.compose_read.proofs.settling.is_prefix.Goals as goal

pub returns-else-eq : goal.returns-else-eq
returns-else-eq c =
    let short = c.args.short.now in
    let within : length short - 1 < length short = search rules in
    c.if-eq.false
    ∙ sym (differs_at c.args.long.now short (length short - 1) c.index-short-last.result c.index-long-last.result within c.index-short-last.is c.index-long-last.is (sym c.eq.ensures ∙ c.if-eq.false))
