use Rattle.std.proofs.Common.{◌∙◌, ap, length, subst, arith}
use Rattle.std.specs.Prelude.{IsUtf8}
use Rattle.compose_typing_c.specs.declared.stage.AnswerRecord.{AnswerRecord}
use Rattle.compose_typing_c.proofs.Kept.{answer_kept}
use Rattle.compose_typing_c.proofs.stage.put_answer.Goals as goal

pub returns : goal.returns
returns c =
    let bytes = c.as_bytes.ensures.value in
    let text = c.as_str.ensures.value in
    let count = c.put-fields.ensures.count in
    let few = c.as_str.ensures.few in
    let same = ap length bytes in
    let kept : AnswerRecord = record {
      status = c.number_of-fields.result;
      accepted = c.from-fields.result;
      text_length = c.put-fields.result;
      text = c.put-fields.new.target;
      reserved = c.args.fields.now.reserved;
    } in
    answer_kept kept c.args.answer.now c.number_of-fields.ensures c.from-fields.ensures (omega (arith, count, few, same)) (subst IsUtf8 text c.as_str.utf8) (c.put-fields.ensures.front ∙ bytes ∙ text)
