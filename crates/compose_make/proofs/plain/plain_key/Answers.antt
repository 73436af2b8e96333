use Rattle.std.proofs.Common.{◌∙◌, sym}
use Rattle.compose_make.proofs.PlainKeys.{none_plain, next_plain, next_passed}
use Rattle.compose_make.proofs.plain.plain_key.Goals as goal

pub returns-then-is_plain_key : goal.returns-then-is_plain_key
returns-then-is_plain_key g c =
    next_plain c.args.names.now (g.U.ComposeTable.definitions c.args.new.now) c.args.repertoire.now c.args.character c.loop-keysym.after c.in-Some.keysym c.in-Some.ensures c.loop-keysym.invariant
    (sym c.is_plain_key.ensures ∙ c.if-is_plain_key.true)

pub loop-keysym-preserved : goal.loop-keysym-preserved
loop-keysym-preserved g c =
    next_passed c.args.names.now (g.U.ComposeTable.definitions c.args.new.now) c.args.repertoire.now c.args.character c.loop-keysym.after c.in-Some.keysym c.in-Some.ensures c.loop-keysym.invariant
    (sym c.is_plain_key.ensures ∙ c.if-is_plain_key.false)

pub returns-in_default : goal.returns-in_default
returns-in_default g c =
    none_plain c.args.names.now (g.U.ComposeTable.definitions c.args.new.now) c.args.repertoire.now c.args.character c.loop-keysym.after c.in_default.ensures c.loop-keysym.invariant
