use Rattle.std.proofs.Common.{◌∙◌, ◌∷◌, ◌++◌, [], length, ap, subst, arith}
use Rattle.compose_read.specs.Progress.{visit, IsFound}
use Rattle.compose_read.proofs.ReadOn.{definition_read}
use Rattle.compose_read.proofs.reading.take_line.Goals as goal

pub returns-in_ok-finish-in-Definition-clause-reads : goal.returns-in_ok-finish-in-Definition-clause-reads
returns-in_ok-finish-in-Definition-clause-reads c = λ ws.
    let names = c.args.names.now in let sources = c.args.sources.now in let p = c.args.progress.now in
    let draft = c.read_line.new.draft in let v = visit c.args.place c.args.bytes.now in
    let line = subst (IsFound names sources v draft.row) c.in-Definition.is c.in_ok-found.ensures.finds in
    let table = c.in_ok-finish-in-Definition.ensures.finished ∙ ap (λ t. t ++ draft.row ∷ []) c.in_ok-found.ensures.kept in
    definition_read names sources p c.finish.new.self v draft.row ws table (omega arith) line.0 (let same = ap (λ t. length t) c.in_ok-found.ensures.kept in omega arith)
