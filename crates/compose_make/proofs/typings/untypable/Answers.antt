use Rattle.std.proofs.Common.{◌≡◌, ◌∙◌, List, ℕ, length, drop, sym, ap, subst, arith}
use Rattle.std.specs.Prelude.{IfOk}
use Rattle.std.proofs.lemmas.List.{take_at}
use Rattle.compose_model.proofs.NodeLemmas.{node_zero}
use Rattle.compose_make.specs.Candidates.{is_plain}
use Rattle.compose_make.proofs.Reduction.{is_candidate}
use Rattle.compose_make.specs.Wanted.{WantedCharacter, AreLeast, characters_of, all_missing}
use Rattle.compose_make.proofs.FoundRows.{all_visited}
use Rattle.compose_make.proofs.Missing.{missing_found}
use Rattle.compose_make.proofs.typings.untypable.Goals as goal

pub visit-requires-clause-path : goal.visit-requires-clause-path
visit-requires-clause-path g c = sym (node_zero (g.U.ComposeTable.definitions c.args.table.now))

pub returns-clause-found : goal.returns-clause-found
returns-clause-found g c =
    let names = c.args.names.now in
    let table = g.U.ComposeTable.definitions c.args.table.now in
    let repertoire = c.args.repertoire.now in
    let rows = c.visit.new.rows in
    let n : length rows ≡ c.in_ok-rows.rows.len = omega arith in
    let is : c.deref.result.now ≡ rows = c.deref.ensures.value ∙ take_at rows (drop (length rows) c.in_ok-rows.rows.items) c.in_ok-rows.rows.len n in
    let characters : characters_of rows ≡ repertoire.characters = c.visit.ensures.characters ∙ ap characters_of c.deref_mut.ensures.value ∙ c.in_ok-rows.ensures.characters in
    let plain : AreLeast (is_plain names table repertoire) c.deref_mut.result.now = subst (AreLeast (is_plain names table repertoire)) (sym c.deref_mut.ensures.value) c.in_ok-rows.ensures.least in
    let all : AreLeast (is_candidate names table repertoire) rows =
    all_visited names table repertoire c.node_count.ensures.settled rows (c.visit.ensures.least (is_plain names table repertoire) plain) in
    missing_found (λ cs. cs.items) names table repertoire c.node_count.ensures.settled rows c.missing_of.result c.count.ensures.sound.rise characters all
    (subst (λ (rs : List WantedCharacter). IfOk c.missing_of.result (λ missing. missing.items ≡ all_missing rs)) is c.missing_of.ensures.found)
