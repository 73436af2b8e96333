use Rattle.std.proofs.Common.{◌≡◌, ◌≤◌, ◌*◌, drop, take, filter, length, true}
use Rattle.std.specs.Prelude.{bytes_eq, nat_lt}
use Rattle.std.specs.List.{list_all}
use Rattle.std.specs.Str.{is_utf8}
use Rattle.indexmap.specs.IndexSet.{insert_all}
use Rattle.compose_tree.specs.Packed.{different_long, kept_texts, texts_of, AreEntries, AreKept}
use Rattle.compose_tree.proofs.packed_table.pack_texts.Given as goal

abbrev pub invariant-loop-index : goal.invariant-loop-index
invariant-loop-index l = record {
  entries_are : AreEntries l.entries.items (texts_of (take l.index l.sequences)) l.long_texts.bytes.items;
  kept : AreKept l.long_texts.places.entries l.long_texts.bytes.items;
  texts_left : insert_all bytes_eq (kept_texts l.long_texts.places.entries) (filter (λ t. nat_lt 3 (length t)) (texts_of (drop l.index l.sequences))) ≡ different_long (texts_of l.sequences);
  long_few : length l.long_texts.bytes.items ≤ 256 * l.index;
  utf8_left : list_all is_utf8 (texts_of (drop l.index l.sequences)) ≡ true → list_all is_utf8 (texts_of l.sequences) ≡ true;
}
