use Rattle.std.proofs.Common.{◌∙◌, ◌++◌, ◌+◌, ◌∷◌, [], drop, take, length, arith, ap, sym, subst}
use Rattle.std.proofs.lemmas.List.{length-append}
use Rattle.compose_tree.specs.Packed.{kept_texts, text_entry, texts_of, AreEntries}
use Rattle.compose_tree.proofs.LongTexts.{entries_stay, kept_on, one_more_entry, texts_to}
use Rattle.compose_tree.proofs.PackedLookups.{texts_on, utf8_step}
use Rattle.compose_tree.proofs.Lookups.{text_few_at}
use Rattle.compose_tree.proofs.packed_table.pack_texts.Goals as goal

pub text_entry-requires-clause-short : goal.text_entry-requires-clause-short
text_entry-requires-clause-short c =
    let few = text_few_at c.args.sequences.now c.loop-index.index c.text-text.result.now c.len.ensures.settled (omega arith) c.text-text.ensures in
    let same = ap length c.as_bytes.ensures.value in
    omega (arith, few, same)

pub loop-index-preserved : goal.loop-index-preserved
loop-index-preserved c =
    let all = c.args.sequences.now in
    let i = c.loop-index.index in
    let t = c.text-text.result.now in
    let place = c.in_ok-place.place in
    let entries = c.loop-index.entries.items in
    let before = c.loop-index.long_texts.bytes.items in
    let after = c.place_of.new.long_texts.bytes.items in
    let more = c.in_ok-place.ensures.others.0 in
    let on = texts_on all i t (omega arith) c.text-text.ensures in
    let few = text_few_at all i t c.len.ensures.settled (omega arith) c.text-text.ensures in
    let most = c.in_ok-place.ensures.others.2 in
    let longer = ap length c.in_ok-place.ensures.others.1 ∙ length-append before more in
    let pushed = c.in_ok-extend_from_slice.ensures.items ∙ ap (λ x. entries ++ x) (c.text_entry.ensures ∙ ap (text_entry place) c.as_bytes.ensures.value) in
    let stay = subst (AreEntries entries (texts_of (take i all))) (sym c.in_ok-place.ensures.others.1) (entries_stay (texts_of (take i all)) entries before more c.loop-index.invariant.entries_are) in
    record {
      entries_are = subst (λ ts. AreEntries c.extend_from_slice.new.self.items ts after) (sym (texts_to all i t (omega arith) c.text-text.ensures))
          (subst (λ es. AreEntries es (texts_of (take i all) ++ t ∷ []) after) (sym pushed) (one_more_entry (texts_of (take i all)) entries after place t stay c.in_ok-place.ensures.place));
      kept = c.in_ok-place.ensures.kept;
      texts_left = kept_on (kept_texts c.loop-index.long_texts.places.entries) (kept_texts c.place_of.new.long_texts.places.entries) _ (texts_of (drop (i + 1) all)) (texts_of (drop i all)) t
          c.loop-index.invariant.texts_left on c.in_ok-place.ensures.texts;
      long_few = omega (arith, few, longer, most, c.loop-index.invariant.long_few);
      utf8_left = λ h. c.loop-index.invariant.utf8_left (utf8_step all i t on c.text-text.utf8 h);
    }
