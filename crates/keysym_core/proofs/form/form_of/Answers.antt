use Rattle.std.proofs.Common.{◌≡◌, IfOk, string_bytes, rules}
use Rattle.keysym_core.specs.Printed.{form_of}
use Rattle.keysym_core.proofs.Forms.{written-reads}
use Rattle.keysym_core.proofs.form.form_of.Goals as goal

pub returns-in-16777472-to-16832511-clause-found :
    goal.returns-in-16777472-to-16832511-clause-found
returns-in-16777472-to-16832511-clause-found c =
    let same : IfOk c.character_text.result (λ text. string_bytes text ≡ form_of c.args.keysym) = search rules in
    written-reads c.character_text.result c.args.keysym (search rules) same

pub returns-in_default-clause-found : goal.returns-in_default-clause-found
returns-in_default-clause-found c =
    let same : IfOk c.format.result (λ text. string_bytes text ≡ form_of c.args.keysym) = search rules in
    written-reads c.format.result c.args.keysym (search rules) same
