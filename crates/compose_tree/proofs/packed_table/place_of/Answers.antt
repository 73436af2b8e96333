use Rattle.std.proofs.Common.{◌≡◌, ◌∙◌, ◌≤◌, ◌++◌, ◌∷◌, [], length, sym, ap, subst, arith}
use Rattle.indexmap.proofs.CallerLemmas.{insert_entry-new}
use Rattle.compose_tree.specs.Packed.{kept_texts, long_text, AreKept, HasLongText}
use Rattle.compose_tree.proofs.LongTexts.{added_is_kept, added_stands, found_is_kept, found_stands, one_more_kept}
use Rattle.compose_tree.proofs.packed_table.place_of.Goals as goal

pub returns-in-Some-clause-texts : goal.returns-in-Some-clause-texts
returns-in-Some-clause-texts c =
    found_is_kept c.args.long_texts.now.places.entries c.args.text.now c.in-Some.place.now (omega (arith, c.if-text-le-SHORT_TEXT.false)) (sym c.in-Some.ensures.value)

pub returns-in-Some-clause-place : goal.returns-in-Some-clause-place
returns-in-Some-clause-place c =
    (found_stands c.args.long_texts.now.places.entries c.args.long_texts.now.bytes.items c.args.text.now c.in-Some.place.now c.requires (sym c.in-Some.ensures.value)).0

pub returns-in-Some-clause-within : goal.returns-in-Some-clause-within
returns-in-Some-clause-within c =
    (found_stands c.args.long_texts.now.places.entries c.args.long_texts.now.bytes.items c.args.text.now c.in-Some.place.now c.requires (sym c.in-Some.ensures.value)).1

pub returns-clause-kept : goal.returns-clause-kept
returns-clause-kept c =
    let places = c.args.long_texts.now.places in
    let bytes = c.args.long_texts.now.bytes.items in
    let text = c.args.text in
    let long : 4 ≤ length text.now = omega (arith, c.if-text-le-SHORT_TEXT.false) in
    let put = c.in_ok-push_long.ensures ∙ ap (λ x. bytes ++ long_text x) c.as_bytes.ensures.value in
    let at : c.len-place.result ≡ length bytes = omega (arith, c.len-place.ensures, c.args.long_texts.now.bytes.ok) in
    let more = c.in_ok-insert.ensures.entries ∙ insert_entry-new _ places text c.len-place.result (sym c.in_default.ensures.value) ∙ ap (λ n. places.entries ++ (text, n) ∷ []) at in
    subst (λ es. AreKept es c.push_long.new.long_texts.items) (sym more) (one_more_kept places.entries bytes c.push_long.new.long_texts.items text c.requires long put)

pub returns-clause-texts : goal.returns-clause-texts
returns-clause-texts c =
    let places = c.args.long_texts.now.places in
    let text = c.args.text in
    let more = c.in_ok-insert.ensures.entries ∙ insert_entry-new _ places text c.len-place.result (sym c.in_default.ensures.value) in
    ap kept_texts more ∙ added_is_kept places.entries text c.len-place.result (omega (arith, c.if-text-le-SHORT_TEXT.false)) (sym c.in_default.ensures.value)

pub returns-clause-place : goal.returns-clause-place
returns-clause-place c =
    let bytes = c.args.long_texts.now.bytes.items in
    let text = c.args.text.now in
    let put = c.in_ok-push_long.ensures ∙ ap (λ x. bytes ++ long_text x) c.as_bytes.ensures.value in
    let at : c.len-place.result ≡ length bytes = omega (arith, c.len-place.ensures, c.args.long_texts.now.bytes.ok) in
    subst (λ n. HasLongText n text c.push_long.new.long_texts.items) (sym at)
    (subst (HasLongText (length bytes) text) (sym put) (added_stands (kept_texts c.args.long_texts.now.places.entries) bytes text c.requires.bytes_are (omega (arith, c.if-text-le-SHORT_TEXT.false))))
