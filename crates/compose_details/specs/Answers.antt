-- What `-v` adds to an answer (this project's profile). Of the lines below `no` only the parts are
-- pinned: see `Sides` and `Pairs`.
use Rattle.std.specs.Prelude.{◌≡◌, ℕ, not, ◌||◌, if◌then◌else◌, List, [], ◌∷◌, Result, Ok, Err, codes}
use Rattle.keysym_core.specs.Header.{names_of}
use Rattle.compose_model.specs.Certificate.{Certificate}
use Rattle.compose_cert.specs.Reading.{certificate_of}
use Rattle.compose_cert.specs.declared.CertFault.{CertFault}
use Rattle.compose_answer.specs.declared.answer.Answer.{Answer}
use Rattle.compose_answer.specs.declared.answer.Answer.TheVariants.{Yes, No, Invalid, FreshNotAllowed}
use Rattle.compose_details.specs.Lines.{is_empty}
use Rattle.compose_details.specs.Refusals.{keysyms_line}
use Rattle.compose_details.specs.declared.given.Given.{Given}

-- the line of keysyms for which nothing is promised, by the given names
abbrev pub unpromised_line : Given → List ℕ → List ℕ
unpromised_line given keysyms = keysyms_line (codes "nothing is promised for") keysyms (names_of given.header.now)

-- the fresh keysyms of a certificate
abbrev pub fresh_of : Result Certificate CertFault → List ℕ
fresh_of (Ok certificate) = certificate.fresh
fresh_of (Err fault) = []

-- below `yes`: the fresh keysyms of the certificate, if there is one and no argument allows any
abbrev pub yes_lines : Given → List ℕ
yes_lines given = if is_empty given.certificate_text.now || not (is_empty given.arguments.now) then [] else unpromised_line given (fresh_of (certificate_of given.certificate_text.now))

abbrev pub IsAnswerDetails : Given → Answer → List ℕ → Type 0
IsAnswerDetails given (Yes text) details = details ≡ yes_lines given
IsAnswerDetails given (FreshNotAllowed keysym) details = details ≡ unpromised_line given (keysym ∷ [])
IsAnswerDetails given (No text) details = Unit {0}
IsAnswerDetails given (Invalid fault) details = Unit {0}
