use Rattle.std.proofs.Common.{◌∙◌, ap, sym, subst, cond, None, drop, length}
use Rattle.std.specs.Prelude.{Ok}
use Rattle.keysym_core.specs.Header.{define, entry_of, with_entry, ChangeReturns}
use Rattle.keysym_core.proofs.read.take_text.Goals as goal

pub returns-in-Some-entry_of : goal.returns-in-Some-entry_of
returns-in-Some-entry_of c =
    let names = c.args.table.now in
    let defined = ap (λ b. cond b (with_entry names c.args.line (cond b (entry_of (drop (length define) c.args.bytes.now)) None)) (Ok names)) c.in-Some.ensures.cases.0
    ∙ ap (λ d. with_entry names c.args.line (entry_of d)) (sym c.in-Some.ensures.cases.1)
    ∙ ap (with_entry names c.args.line) (sym c.entry_of.ensures ∙ c.in-Some-entry_of.is) in
    subst (ChangeReturns c.take_entry.result c.take_entry.new.table) (sym defined) c.take_entry.ensures

pub returns-in-None-entry_of : goal.returns-in-None-entry_of
returns-in-None-entry_of c =
    let names = c.args.table.now in
    ap (λ b. cond b (with_entry names c.args.line (cond b (entry_of (drop (length define) c.args.bytes.now)) None)) (Ok names)) c.in-Some.ensures.cases.0
    ∙ ap (λ d. with_entry names c.args.line (entry_of d)) (sym c.in-Some.ensures.cases.1)
    ∙ ap (with_entry names c.args.line) (sym c.entry_of.ensures ∙ c.in-None-entry_of.is)

pub returns-in-None : goal.returns-in-None
returns-in-None c =
    let names = c.args.table.now in
    ap (λ b. cond b (with_entry names c.args.line (cond b (entry_of (drop (length define) c.args.bytes.now)) None)) (Ok names)) c.in-None.ensures.cases
