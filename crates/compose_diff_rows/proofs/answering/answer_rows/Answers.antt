use Rattle.std.proofs.Common.{◌≡◌, ◌∙◌, List, sym, ap, subst}
use Rattle.std.specs.Prelude.{Ok, Result}
use Rattle.compose_answer.specs.declared.answer.Answer.{Answer}
use Rattle.compose_diff.specs.JsonAnswer.{json_answer}
use Rattle.compose_page.specs.Page.{page_text}
use Rattle.compose_diff_rows.specs.Steps.{AnswersForm}
use Rattle.compose_diff_rows.specs.declared.asking.DiffFault.{DiffFault}
use Rattle.compose_diff_rows.specs.declared.asking.Form.{Form}
use Rattle.compose_diff_rows.specs.declared.asking.Form.TheVariants.{Json, Page}
use Rattle.compose_diff_rows.proofs.answering.answer_rows.Goals as goal

pub returns-in_ok-text-in-Json : goal.returns-in_ok-text-in-Json
returns-in_ok-text-in-Json c =
    let left = c.deref-in-Json.result.now in
    let same : c.deref.result.now ≡ left = c.deref.ensures.value ∙ sym c.deref-in-Json.ensures.value in
    let text = c.in_ok-text-in-Json.ensures ∙ ap (json_answer c.args.lost_alone c.args.overlaps c.args.rows.now) same in
    let answered : Result Answer DiffFault = Ok c.answer_on.result in
    subst (λ (form : Form). AnswersForm form c.args.lost_alone c.args.overlaps c.args.accepted.now c.args.rows.now answered) (sym c.in-Json.is)
    (left, c.in_ok-left-in-Json.ensures ∙ ap Ok (sym c.deref-in-Json.ensures.value), c.answer_on.ensures Json c.args.lost_alone c.args.overlaps c.args.rows.now text)

pub returns-in_ok-text-in-Page : goal.returns-in_ok-text-in-Page
returns-in_ok-text-in-Page c =
    let left = c.deref-in-Page-2.result.now in
    let same : c.deref-in-Page.result.now ≡ left = c.deref-in-Page.ensures.value ∙ sym c.deref-in-Page-2.ensures.value in
    let text = c.in_ok-text-in-Page.ensures ∙ ap (page_text c.in-Page.markup (record { folds = c.in-Page.folds; lost_alone = c.args.lost_alone }) c.args.overlaps c.args.rows.now) same in
    let answered : Result Answer DiffFault = Ok c.answer_on-in-Page.result in
    subst (λ (form : Form). AnswersForm form c.args.lost_alone c.args.overlaps c.args.accepted.now c.args.rows.now answered) (sym c.in-Page.is)
    (left, c.in_ok-left-in-Page.ensures ∙ ap Ok (sym c.deref-in-Page-2.ensures.value), c.answer_on-in-Page.ensures (Page c.in-Page.markup c.in-Page.folds) c.args.lost_alone c.args.overlaps c.args.rows.now text)
