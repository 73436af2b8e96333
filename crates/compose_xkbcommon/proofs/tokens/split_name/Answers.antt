use Rattle.std.proofs.Common.{sym, ◌∙◌, subst}
use Rattle.std.specs.Str.{IsUtf8}
use Rattle.compose_xkbcommon.proofs.Scans.{name_is, name_utf8, rest_is}
use Rattle.compose_xkbcommon.proofs.tokens.split_name.Goals as goal

pub returns-in-Ok-clause-name : goal.returns-in-Ok-clause-name
returns-in-Ok-clause-name c = c.in-Ok.ensures.cases.0 ∙ name_is c.name_len-len.result c.args.rest.now c.name_len-len.ensures

pub returns-in-Ok-clause-rest : goal.returns-in-Ok-clause-rest
returns-in-Ok-clause-rest c = rest_is c.name_len-len.result c.args.rest.now c.name_len-len.ensures

pub returns-in-Err-clause-name : goal.returns-in-Err-clause-name
returns-in-Err-clause-name c = absurd (c.in-Err.ensures.cases.0 (subst IsUtf8 (sym (name_is c.name_len-len.result c.args.rest.now c.name_len-len.ensures)) (name_utf8 c.args.rest.now)))

pub returns-in-Err-clause-rest : goal.returns-in-Err-clause-rest
returns-in-Err-clause-rest c = absurd (c.in-Err.ensures.cases.0 (subst IsUtf8 (sym (name_is c.name_len-len.result c.args.rest.now c.name_len-len.ensures)) (name_utf8 c.args.rest.now)))
