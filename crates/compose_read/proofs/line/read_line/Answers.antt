use Rattle.std.proofs.Common.{◌≡◌, ◌∙◌, sym, ap, subst, map, rules, List, ℕ, Bor}
use Rattle.std.specs.Prelude.{Err, option_copied, Result, Ok}
use Rattle.compose_lex.specs.Line.{Reading, production}
use Rattle.compose_lex.specs.Fault.{reading_of}
use Rattle.compose_lex.specs.Lexed.{content_reading}
use Rattle.compose_lex.specs.declared.LexFault.{LexFault}
use Rattle.compose_lex.specs.declared.lexer.LineContent.{LineContent}
use Rattle.compose_read.specs.Progress.{visit, FindsLine}
use Rattle.compose_read.proofs.OneLine.{not_utf8, blank_line, faulty_line, include_line, refused_include, production_line, refused_production}
use Rattle.compose_read.proofs.line.read_line.Goals as goal

abbrev names_of : List (Bor (List ℕ)) → List (List ℕ)
names_of events = map (λ e. e.now) events

abbrev reading_result : List (List ℕ) → LineContent → Result Reading LexFault
reading_result events line = Ok (content_reading events line)

pub returns-in_default-clause-finds : goal.returns-in_default-clause-finds
returns-in_default-clause-finds c = not_utf8 c.args.names.now c.args.sources.now c.args.place c.args.bytes.now c.args.draft.now.row c.in_default.ensures

pub returns-in-Ok-Blank-clause-finds : goal.returns-in-Ok-Blank-clause-finds
returns-in-Ok-Blank-clause-finds c =
    let text = c.in-Some.ensures in let events = names_of c.lex_line_into.new.events.items in
    blank_line c.args.names.now c.args.sources.now c.args.place c.args.bytes.now c.args.draft.now.row text.1
    (ap reading_of (sym text.0) ∙ c.in-Ok-Blank.ensures.exact ∙ ap (reading_result events) c.in-Ok-Blank.field-0-is)

pub returns-in-Err-clause-finds : goal.returns-in-Err-clause-finds
returns-in-Err-clause-finds c =
    let text = c.in-Some.ensures in
    faulty_line c.args.names.now c.args.sources.now c.args.place c.args.bytes.now c.args.draft.now.row text.1 c.in-Err.fault c.lex_fault.result
    (ap reading_of (sym text.0) ∙ c.in-Err.ensures.exact) c.lex_fault.ensures

pub returns-in_err-include-in-Ok-Include-clause-finds : goal.returns-in_err-include-in-Ok-Include-clause-finds
returns-in_err-include-in-Ok-Include-clause-finds c =
    let text = c.in-Some.ensures in let row = c.args.draft.now.row in let fault = c.in_err-include-in-Ok-Include.field-0.0 in
    let is : c.from_residual.result ≡ Err fault = search rules in
    subst (FindsLine c.args.names.now c.args.sources.now (visit c.args.place c.args.bytes.now) row) (sym is)
    (refused_include c.args.names.now c.args.sources.now c.args.place c.args.bytes.now row text.1 c.in-Ok-Include.name.now fault
    (ap reading_of (sym text.0) ∙ c.in-Ok-Include.ensures.exact ∙ ap (reading_result (names_of c.lex_line_into.new.events.items)) c.in-Ok-Include.field-0-is)
    (c.in_err-include-in-Ok-Include.ensures.exact c.args.bytes.now))

pub returns-in_ok-include-in-Ok-Include-clause-finds : goal.returns-in_ok-include-in-Ok-Include-clause-finds
returns-in_ok-include-in-Ok-Include-clause-finds c =
    let text = c.in-Some.ensures in let i = c.in_ok-include-in-Ok-Include in
    include_line c.args.names.now c.args.sources.now c.args.place c.args.bytes.now c.args.draft.now.row text.1 c.in-Ok-Include.name.now i.field-0
    (ap reading_of (sym text.0) ∙ c.in-Ok-Include.ensures.exact ∙ ap (reading_result (names_of c.lex_line_into.new.events.items)) c.in-Ok-Include.field-0-is)
    (i.ensures.exact c.args.bytes.now) i.ensures.found.0 i.ensures.found.1 i.ensures.found.2

pub returns-in_err-read_production-in-Ok-Production-clause-finds : goal.returns-in_err-read_production-in-Ok-Production-clause-finds
returns-in_err-read_production-in-Ok-Production-clause-finds c =
    let text = c.in-Some.ensures in let p = c.in-Ok-Production in let row = c.read_production.new.draft.row in let fault = c.in_err-read_production-in-Ok-Production.field-0.0 in
    let is : c.from_residual-in_err-read_production-in-Ok-Production.result ≡ Err fault = search rules in
    let h : reading_of c.args.bytes.now ≡ Ok (production (names_of c.as_slice.result.now) (option_copied p.raw_text) (option_copied p.result_name)) =
    ap reading_of (sym text.0) ∙ p.ensures.exact ∙ ap (reading_result (names_of c.lex_line_into.new.events.items)) p.field-0-is
    ∙ ap (λ es. let r : Result Reading LexFault = Ok (production (names_of es) (option_copied p.raw_text) (option_copied p.result_name)) in r) (sym c.as_slice.ensures.value) in
    subst (FindsLine c.args.names.now c.args.sources.now (visit c.args.place c.args.bytes.now) row) (sym is)
    (refused_production c.args.names.now c.args.sources.now c.args.place c.args.bytes.now row text.1 (names_of c.as_slice.result.now) (option_copied p.raw_text) (option_copied p.result_name) h fault
    (c.in_err-read_production-in-Ok-Production.ensures.exact c.args.bytes.now))

pub returns-in_ok-read_production-in-Ok-Production-clause-finds : goal.returns-in_ok-read_production-in-Ok-Production-clause-finds
returns-in_ok-read_production-in-Ok-Production-clause-finds c =
    let text = c.in-Some.ensures in let p = c.in-Ok-Production in let read = c.in_ok-read_production-in-Ok-Production.ensures in
    let h : reading_of c.args.bytes.now ≡ Ok (production (names_of c.as_slice.result.now) (option_copied p.raw_text) (option_copied p.result_name)) =
    ap reading_of (sym text.0) ∙ p.ensures.exact ∙ ap (reading_result (names_of c.lex_line_into.new.events.items)) p.field-0-is
    ∙ ap (λ es. let r : Result Reading LexFault = Ok (production (names_of es) (option_copied p.raw_text) (option_copied p.result_name)) in r) (sym c.as_slice.ensures.value) in
    production_line c.args.names.now c.args.sources.now c.args.place c.args.bytes.now c.read_production.new.draft.row text.1 (names_of c.as_slice.result.now) (option_copied p.raw_text)
    (option_copied p.result_name) h
    (read.exact c.args.bytes.now) read.definition
