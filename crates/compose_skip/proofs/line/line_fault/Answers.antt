use Rattle.std.proofs.Common.{◌≡◌, ◌∙◌, sym, ap, map, List, ℕ, Bor}
use Rattle.std.specs.Prelude.{Option, Some, Ok, Result, option_copied}
use Rattle.std.specs.Result.{result_err}
use Rattle.compose_lex.specs.Line.{Reading, production}
use Rattle.compose_lex.specs.Fault.{reading_of}
use Rattle.compose_lex.specs.Lexed.{content_reading}
use Rattle.compose_lex.specs.declared.LexFault.{LexFault}
use Rattle.compose_lex.specs.declared.lexer.LineContent.{LineContent}
use Rattle.compose_read.specs.Read.{definition_of}
use Rattle.compose_read.specs.declared.ReadFault.{ReadFault}
use Rattle.compose_skip.specs.Faulty.{own_fault}
use Rattle.compose_skip.specs.Places.{visit}
use Rattle.compose_skip.proofs.OneLine.{blank_line, faulty_line, include_line, not_utf8, production_line}
use Rattle.compose_skip.proofs.Parts.{ok_map}
use Rattle.compose_skip.proofs.line.line_fault.Goals as goal

abbrev names_of : List (Bor (List ℕ)) → List (List ℕ)
names_of events = map (λ e. e.now) events

abbrev reading_result : List (List ℕ) → LineContent → Result Reading LexFault
reading_result events line = Ok (content_reading events line)

pub returns-in_default : goal.returns-in_default
returns-in_default c = not_utf8 c.args.names.now (visit c.args.place c.args.bytes.now) c.in_default.ensures.cases.0

pub returns-in-Err : goal.returns-in-Err
returns-in-Err c =
    let text = c.in-Ok.ensures.cases in
    ap (λ f. let o : Option ReadFault = Some f in o) c.lex_fault.ensures
    ∙ faulty_line c.args.names.now (visit c.args.place c.args.bytes.now) text.1 c.in-Err.fault (ap reading_of (sym text.0) ∙ c.in-Err.ensures.exact)

pub returns-in-Ok-Blank : goal.returns-in-Ok-Blank
returns-in-Ok-Blank c =
    let text = c.in-Ok.ensures.cases in
    blank_line c.args.names.now (visit c.args.place c.args.bytes.now) text.1
    (ap reading_of (sym text.0) ∙ c.in-Ok-Blank.ensures.exact ∙ ap (reading_result (names_of c.lex_line_into.new.events.items)) c.in-Ok-Blank.field-0-is)

pub returns-in-Ok-Include : goal.returns-in-Ok-Include
returns-in-Ok-Include c =
    let text = c.in-Ok.ensures.cases in
    include_line c.args.names.now (visit c.args.place c.args.bytes.now) text.1 c.in-Ok-Include._raw.now
    (ap reading_of (sym text.0) ∙ c.in-Ok-Include.ensures.exact ∙ ap (reading_result (names_of c.lex_line_into.new.events.items)) c.in-Ok-Include.field-0-is)

pub returns-in-Ok-Production : goal.returns-in-Ok-Production
returns-in-Ok-Production c =
    let text = c.in-Ok.ensures.cases in let p = c.in-Ok-Production in let names = c.args.names.now in let v = visit c.args.place c.args.bytes.now in
    let events = names_of c.as_slice.result.now in let raw = option_copied p.raw_text in let name = option_copied p.result_name in
    let h : reading_of c.args.bytes.now ≡ Ok (production events raw name) =
    ap reading_of (sym text.0) ∙ p.ensures.exact ∙ ap (reading_result (names_of c.lex_line_into.new.events.items)) p.field-0-is
    ∙ ap (λ es. let r : Result Reading LexFault = Ok (production (names_of es) raw name) in r) (sym c.as_slice.ensures.value) in
    ok_map (λ fault. fault ≡ result_err (definition_of names v events raw name)) (λ fault. fault ≡ own_fault names v) c.production_fault.result
    (λ fault f. production_line names v text.1 events raw name fault h f) (c.production_fault.ensures c.args.bytes.now)
