use Rattle.std.proofs.Common.{[], ◌≡◌, ◌∙◌, ◌+◌, ◌-◌, ◌<◌, suc, sym, ap, arith, rules, length, get_or, Some, Vec, Global}
use Rattle.std.specs.Prelude.{Err, slice_get}
use Rattle.std.proofs.lemmas.Option.{slice_get-get_or}
use Rattle.compose_find.specs.Found.{FoundSource, search_from, with_includes_of}
use Rattle.compose_find.specs.FindReturns.{words}
use Rattle.compose_find.proofs.Held.{finds_held}
use Rattle.compose_find.proofs.Searches.{search_ends, search_goes, search_stops, passed}
use Rattle.compose_find.proofs.search.find_sources.Goals as goal

abbrev no_source : FoundSource
no_source = record { name = []; path = []; depth = 0 }

pub returns-in_err-add_includes_of-clause-found : goal.returns-in_err-add_includes_of-clause-found
returns-in_err-add_includes_of-clause-found c =
    let files = c.args.files.now in let words = words c.args.meanings in let index = c.loop-index.index in let sources = c.loop-index.sources.items in
    let from = get_or sources index no_source in
    let within : index < length sources = omega (arith, c.loop-index-test.true) in
    let at : slice_get sources index ≡ Some from = slice_get-get_or sources index no_source within in
    let left : 64 - index ≡ suc (63 - index) = omega (arith, c.loop-index.invariant.1) in
    let is : c.from_residual-in_err-add_includes_of.result ≡ Err c.in_err-add_includes_of.field-0.0 = search rules in
    passed {X = Unit {0}} (λ _. c.add_includes_of.new.sources.items) (λ (m : Vec _ Global). m.items) c.in_err-add_includes_of.field-0.0 _ (with_includes_of files words from sources) _ is
    (λ stop stopped. sym c.loop-index.invariant.0 ∙ ap (λ n. search_from files words n index sources) left ∙ search_stops files words (63 - index) index sources from stop at stopped)
    (c.in_err-add_includes_of.ensures.adds from at)

pub loop-index-preserved : goal.loop-index-preserved
loop-index-preserved c =
    let files = c.args.files.now in let words = words c.args.meanings in let index = c.loop-index.index in let sources = c.loop-index.sources.items in
    let from = get_or sources index no_source in
    let within : index < length sources = omega (arith, c.loop-index-test.true) in
    let at : slice_get sources index ≡ Some from = slice_get-get_or sources index no_source within in
    let left : 64 - index ≡ suc (63 - index) = omega (arith, c.loop-index.invariant.1) in
    let next : 64 - (index + 1) ≡ 63 - index = omega arith in
    let one : index + 1 ≡ 1 + index = omega arith in (
      ap (λ n. search_from files words n (index + 1) c.add_includes_of.new.sources.items) next ∙ ap (λ p. search_from files words (63 - index) p c.add_includes_of.new.sources.items) one
          ∙ sym (search_goes files words (63 - index) index sources from c.add_includes_of.new.sources.items at (c.in_ok-add_includes_of.ensures.adds from at))
          ∙ ap (λ n. search_from files words n index sources) (sym left) ∙ c.loop-index.invariant.0,
      c.in_ok-add_includes_of.ensures.few,
    )

pub returns-clause-found : goal.returns-clause-found
returns-clause-found c =
    sym c.loop-index.invariant.0 ∙ search_ends c.args.files.now (words c.args.meanings) (64 - c.loop-index.index) c.loop-index.index c.loop-index.sources.items (omega (arith, c.loop-index-test.false))

pub returns-clause-held : goal.returns-clause-held
returns-clause-held c =
    let files = c.args.files.now in let words = words c.args.meanings in let index = c.loop-index.index in let sources = c.loop-index.sources.items in
    finds_held files words c.args.root.now sources (sym c.loop-index.invariant.0 ∙ search_ends files words (64 - index) index sources (omega (arith, c.loop-index-test.false)))
