use Rattle.std.proofs.Common.{◌≡◌, ◌∙◌, ℕ, List, map, ap, arith, rules, Bor}
use Rattle.std.specs.Prelude.{flat_map, option_copied}
use Rattle.std.proofs.lemmas.Grind.{common_steps}
use Rattle.std.proofs.lemmas.List.{take_all}
use Rattle.compose_listing.specs.Answers.{ways}
use Rattle.compose_lookup.proofs.Asked.{is_asked}
use Rattle.compose_listing.proofs.how.ways_of.Goals as goal

pub push_ways-requires-clause-index : goal.push_ways-requires-clause-index
push_ways-requires-clause-index g c = c.requires.index _ (is_asked c.args.texts.now c.loop-text.text-index _ c.loop-text-test.true)

pub loop-text-preserved : goal.loop-text-preserved
loop-text-preserved g c = record {
  lines = λ visits are.
      (let so_far = c.loop-text.invariant.lines visits are in let next = c.in_ok-push_ways.ensures.lines visits are in first_of (search rules, grind (arith, common_steps)));
  found = (let so_far = c.loop-text.invariant.found in let next = c.in_ok-push_ways.ensures.found in let more = c.in_ok-push.ensures.items in first_of (search rules, grind (arith, common_steps)));
}

pub returns-clause-lines : goal.returns-clause-lines
returns-clause-lines g c =
    let table = g.T.ComposeTable.definitions c.args.listed.now.table.now in
    let paths = map (λ path. path.now) c.args.listed.now.paths.now in
    let asked = c.args.asked in
    λ visits are. c.loop-text.invariant.lines visits are
    ∙ ap (λ (ts : List (Bor (List ℕ))). flat_map (ways asked.form c.args.listed.now.names.now visits paths table (option_copied asked.repertoire) asked.first) (map (λ t. t.now) ts))
    (take_all c.loop-text.text-index c.args.texts.now c.loop-text-test.false)
