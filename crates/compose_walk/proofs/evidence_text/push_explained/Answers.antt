use Rattle.std.proofs.Common.{◌∙◌, ap, string_bytes}
use Rattle.compose_walk.specs.Evidence.{Evidence}
use Rattle.compose_walk.specs.Explained.{kind_word}
use Rattle.compose_walk.proofs.Reported.{four_lines}
use Rattle.compose_walk.proofs.evidence_text.push_explained.Goals as goal

pub returns : goal.returns
returns c =
    four_lines c.args.names.now c.args.counterexample.now (string_bytes c.args.text.now) (string_bytes c.push_keys.new.text) (string_bytes c.push_str.new.self) (string_bytes c.push_str-2.new.self)
    (string_bytes c.push_str-3.new.self)
    (string_bytes c.push_quoted.new.text) (string_bytes c.push_str-4.new.self) (string_bytes c.push_quoted-2.new.text)
    (string_bytes c.push_str-5.new.self) c.word.result.now c.as_str.result.now c.as_str-2.result.now
    c.in_ok-push_keys.ensures c.in_ok-push_str.ensures.bytes c.in_ok-push_str-2.ensures.bytes
    (c.word.ensures ∙ ap (λ (x : Evidence). kind_word x.kind) c.counterexample.view_is)
    c.in_ok-push_str-3.ensures.bytes c.in_ok-push_quoted.ensures
    (c.as_str.ensures.value ∙ ap (λ (x : Evidence). x.old_text) c.counterexample.view_is)
    c.in_ok-push_str-4.ensures.bytes c.in_ok-push_quoted-2.ensures
    (c.as_str-2.ensures.value ∙ ap (λ (x : Evidence). x.new_text) c.counterexample.view_is)
    c.in_ok-push_str-5.ensures.bytes
