use Rattle.std.proofs.Common.{List, ℕ, ap, ◌∙◌, ◌++◌}
use Rattle.std.specs.Int.{to_be_bytes, w32}
use Rattle.compose_wire.specs.Frames.{frame_of}
use Rattle.compose_typing.proofs.action.Frames.push_key.Goals as goal

pub returns-clause-value : goal.returns-clause-value
returns-clause-value c =
    c.push.ensures.value ∙ ap (λ (b : List ℕ). c.args.self.now ++ frame_of 2 c.args.session b) (c.to_be_bytes.ensures ∙ ap (to_be_bytes w32) c.value.ensures.same)
