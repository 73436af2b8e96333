use Rattle.std.proofs.Common.{rules, ◌≡◌, ◌∙◌, ◌+◌, ◌-◌, ◌++◌, ◌∷◌, [], Some, None, sym, ap}
use Rattle.compose_c.specs.Answers.{answer_at, answers_at}
use Rattle.compose_c.proofs.AnswerLists.{next_answer, no_answer}
use Rattle.compose_c.proofs.answers.read_counted.Goals as goal

pub returns-in_default : goal.returns-in_default
returns-in_default c =
    let none : answer_at c.loop-index.rest.now ≡ None = search rules in
    sym (no_answer c.args.count c.loop-index.index c.loop-index.answers.items c.loop-index.rest.now c.loop-index-test.true none) ∙ c.loop-index.invariant

pub loop-index-preserved : goal.loop-index-preserved
loop-index-preserved c =
    let at : answer_at c.loop-index.rest.now ≡ Some (c.in-Some.answer, c.in-Some.left.now) = search rules in
    let pushed : c.push.new.self.items ≡ c.loop-index.answers.items ++ c.in-Some.answer ∷ [] = search rules in
    ap (λ files. answers_at (c.args.count - (c.loop-index.index + 1)) files c.in-Some.left.now) pushed
    ∙ sym (next_answer c.args.count c.loop-index.index c.loop-index.answers.items c.in-Some.answer c.loop-index.rest.now c.in-Some.left.now c.loop-index-test.true at)
    ∙ c.loop-index.invariant
