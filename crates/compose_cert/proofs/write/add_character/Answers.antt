use Rattle.std.proofs.Common.{◌≡◌, [], false, true, Some}
use Rattle.std.specs.Fmt.{digits, styled_digits_output, padded_integral, format_spec}
use Rattle.compose_cert.proofs.Written.{four_digits}
use Rattle.compose_cert.proofs.write.add_character.Goals as goal

pub returns-clause-text : goal.returns-clause-text
returns-clause-text c =
    let e : styled_digits_output c.in_radix.result c.laid_out.result ≡ Some (padded_integral (format_spec 32 0 4 4 18446744073709551615) false [] (digits 16 true c.args.character)) =
    rw (c.laid_out.ensures, c.in_radix.ensures, c.from-number.ensures) in
    rw (e, four_digits (digits 16 true c.args.character)) at c.write.ensures.bytes
