use Rattle.std.proofs.Common.{◌≡◌, ◌++◌, string_bytes}
use Rattle.std.specs.Prelude.{codes}
use Rattle.compose_lint.specs.Json.{json_count, json_line_counts}
use Rattle.compose_lint.proofs.Chained.{four, on_map}
use Rattle.compose_lint.proofs.json.push_line_counts.Goals as goal

pub returns : goal.returns
returns c =
    let rows = c.args.rows.now in let old = string_bytes c.args.text.now in let last = string_bytes c.push_count-4.new.text in let before = string_bytes c.push_count-3.new.text in
    on_map (last ≡ before ++ json_count rows (codes "keysym")) (last ≡ old ++ json_line_counts rows) c.push_count-4.result
    (λ is. four old (string_bytes c.push_count.new.text) (string_bytes c.push_count-2.new.text) before last (json_count rows (codes "overridden")) (json_count rows (codes "repeated"))
    (json_count rows (codes "prefix")) (json_count rows (codes "keysym")) c.in_ok-push_count.ensures c.in_ok-push_count-2.ensures c.in_ok-push_count-3.ensures is) c.push_count-4.ensures
