use Rattle.std.proofs.Common.{◌∙◌, ap, map, not, string_bytes}
use Rattle.std.specs.Prelude.{is_some, bytes_eq}
use Rattle.std.specs.Option.{option_map}
use Rattle.indexmap.specs.IndexMap.{get_by}
use Rattle.compose_diff.specs.Accepted.{Line}
use Rattle.compose_lint.specs.Accepted.{is_none_of}
use Rattle.compose_lint.proofs.Among.{find_same}
use Rattle.compose_lint.proofs.accepted.first_stale.Goals as goal

pub returns : goal.returns
returns c =
    c.first_missing.ensures
    ∙ ap (option_map (λ (line : Line). line.number))
    (find_same (λ (line : Line). not (is_some (get_by (λ k. bytes_eq line.text k.now) c.in_ok-among.among))) (is_none_of (map (λ text. string_bytes text) c.args.texts.now)) c.args.lines.now
    (λ line. ap not (c.in_ok-among.ensures line.text)))
