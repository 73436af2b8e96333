use Rattle.std.proofs.Common.{sym, ◌∙◌}
use Rattle.std.specs.Cmp.Lexicographic.{bytes_decides}
use Rattle.std.proofs.lemmas.Bool.{both_ways}
use Rattle.compose_client.proofs.reply.is_frame_of.Goals as goal

pub returns : goal.returns
returns c =
    let written = c.as_slice.result.now in
    let bytes = c.args.bytes.now in
    record {
      yes = λ value says e. sym (c.put_reply-written.ensures.value value says) ∙ sym c.as_slice.ensures.value ∙ (bytes_decides written bytes).0 (sym c.eq.ensures ∙ e);
      no = λ value says e same. both_ways c.eq.result e (c.eq.ensures ∙ (bytes_decides written bytes).1 (c.as_slice.ensures.value ∙ c.put_reply-written.ensures.value value says ∙ same));
    }
