use Rattle.std.proofs.Common.{◌∙◌, sym, ap, string_bytes}
use Rattle.std.specs.Prelude.{Some, is_some}
use Rattle.std.proofs.lemmas.Map.Text.{hash_map_updates_text}
use Rattle.indexmap.specs.IndexMap.{get_by_text}
use Rattle.compose_lint.proofs.AlikeOnes.{put_first}
use Rattle.compose_lint.proofs.alike.add_first.Goals as goal

pub returns-in_ok-insert : goal.returns-in_ok-insert
returns-in_ok-insert c = λ q.
    (let old = c.args.places.now in let form = string_bytes c.args.form in
    hash_map_updates_text form old c.insert.new.self (Some c.args.place) c.in_ok-insert.ensures.updates q
    ∙ put_first (get_by_text old) form q c.args.place
    (ap (λ bs. is_some (get_by_text old bs)) (sym c.as_str.ensures.value) ∙ sym c.contains_key.ensures ∙ c.if-not-contains_key.true))
