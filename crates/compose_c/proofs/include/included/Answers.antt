use Rattle.std.proofs.Common.{subst}
use Rattle.compose_lex.specs.Line.{IsLine}
use Rattle.compose_lex.specs.Lexed.{reading}
use Rattle.compose_lex.specs.declared.Line.{Line}
use Rattle.compose_c.proofs.Includes.{none_blank, none_production, none_fault}
use Rattle.compose_c.proofs.include.included.Goals as goal

pub returns-in-Ok-Blank : goal.returns-in-Ok-Blank
returns-in-Ok-Blank c =
    let P : Line → Type 0 = λ reason. IsLine c.args.text.now (reading reason) in
    none_blank c.args.text.now (subst P c.in-Ok-Blank.field-0-is c.in-Ok-Blank.ensures.found)

pub returns-in-Ok-Production : goal.returns-in-Ok-Production
returns-in-Ok-Production c =
    let P : Line → Type 0 = λ reason. IsLine c.args.text.now (reading reason) in
    none_production c.args.text.now _ _ _ (subst P c.in-Ok-Production.field-0-is c.in-Ok-Production.ensures.found)

pub returns-in-Err : goal.returns-in-Err
returns-in-Err c = none_fault c.args.text.now c.in-Err.field-0 c.in-Err.ensures.exact
