use Rattle.std.proofs.Common.{◌≡◌, refl, rules}
use Rattle.compose_migration.specs.Values.{parts}
use Rattle.compose_migration.proofs.Steps.{refusal_gives}
use Rattle.compose_check.specs.Input.{certified_parts}
use Rattle.compose_check.specs.CheckReturns.{parts_read}
use Rattle.compose_check.proofs.PartsRead.{repertoire_refused, certificate_refused, all_read}
use Rattle.compose_check.proofs.input.read_texts.Goals as goal

pub returns-in_err-repertoire : goal.returns-in_err-repertoire
returns-in_err-repertoire g c =
    let input = c.args.input.now in
    let m = parts g.T.ComposeTable.definitions c.args.migration in
    refusal_gives (λ expected read. expected ≡ parts_read g.T.ComposeTable.definitions read) c.from_residual.result c.in_err-repertoire.field-0.0
    (certified_parts m input.repertoire.now input.certificate.now) (search rules)
    (repertoire_refused m input.repertoire.now input.certificate.now c.in_err-repertoire.field-0.0 c.in_err-repertoire.ensures)

pub returns-in_err-certificate : goal.returns-in_err-certificate
returns-in_err-certificate g c =
    let input = c.args.input.now in
    let m = parts g.T.ComposeTable.definitions c.args.migration in
    refusal_gives (λ expected read. expected ≡ parts_read g.T.ComposeTable.definitions read) c.from_residual-in_err-certificate.result c.in_err-certificate.field-0.0
    (certified_parts m input.repertoire.now input.certificate.now) (search rules)
    (certificate_refused m input.repertoire.now input.certificate.now c.in_ok-repertoire.repertoire c.in_ok-repertoire.ensures c.in_err-certificate.field-0.0 c.in_err-certificate.ensures)

pub returns : goal.returns
returns g c =
    let input = c.args.input.now in
    let m = parts g.T.ComposeTable.definitions c.args.migration in
    (_, all_read m input.repertoire.now input.certificate.now c.in_ok-repertoire.repertoire c.in_ok-repertoire.ensures c.in_ok-certificate.certificate c.in_ok-certificate.ensures, refl)
