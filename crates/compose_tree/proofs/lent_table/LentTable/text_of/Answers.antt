use Rattle.std.proofs.Common.{◌≡◌, ◌∙◌, ◌*◌, sym, subst, arith, ap, take, drop}
use Rattle.std.specs.Prelude.{IsUtf8}
use Rattle.compose_tree.proofs.PackedLookups.{packed_as}
use Rattle.compose_tree.proofs.PackedTexts.{leaf_entry, leaf_text_found}
use Rattle.compose_tree.proofs.lent_table.LentTable.text_of.Goals as goal

pub split_at-requires : goal.split_at-requires
split_at-requires c =
    let p = packed_as c.self.inside.nodes.now c.self.inside.edges.now c.self.inside.texts.now c.self.inside.long_texts.now c.args.self.now c.self.invariant c.self.view_is in
    let q = leaf_entry c.self.inside.nodes.now c.self.inside.edges.now c.self.inside.texts.now c.self.inside.long_texts.now c.args.self.now p c.args.leaf.0 c.requires in
    omega (arith, q.within)

pub split_at-requires-2 : goal.split_at-requires-2
split_at-requires-2 c =
    let p = packed_as c.self.inside.nodes.now c.self.inside.edges.now c.self.inside.texts.now c.self.inside.long_texts.now c.args.self.now c.self.invariant c.self.view_is in
    let q = leaf_entry c.self.inside.nodes.now c.self.inside.edges.now c.self.inside.texts.now c.self.inside.long_texts.now c.args.self.now p c.args.leaf.0 c.requires in
    omega (arith, q.within, c.split_at.ensures.back_len)

pub returns-in_default-clause-value : goal.returns-in_default-clause-value
returns-in_default-clause-value c =
    let p = packed_as c.self.inside.nodes.now c.self.inside.edges.now c.self.inside.texts.now c.self.inside.long_texts.now c.args.self.now c.self.invariant c.self.view_is in
    let q = leaf_entry c.self.inside.nodes.now c.self.inside.edges.now c.self.inside.texts.now c.self.inside.long_texts.now c.args.self.now p c.args.leaf.0 c.requires in
    let i = c.args.leaf.0 in
    let turned : i * 4 ≡ 4 * i = omega arith in
    let is = c.split_at-2.ensures.front ∙ ap (take 4) c.split_at.ensures.back ∙ ap (λ k. take 4 (drop k c.self.inside.texts.now)) turned ∙ q.entry in
    absurd (c.in_default.ensures q.before _ is q.placed)

pub from_utf8_unchecked-requires : goal.from_utf8_unchecked-requires
from_utf8_unchecked-requires c =
    let p = packed_as c.self.inside.nodes.now c.self.inside.edges.now c.self.inside.texts.now c.self.inside.long_texts.now c.args.self.now c.self.invariant c.self.view_is in
    let q = leaf_entry c.self.inside.nodes.now c.self.inside.edges.now c.self.inside.texts.now c.self.inside.long_texts.now c.args.self.now p c.args.leaf.0 c.requires in
    let i = c.args.leaf.0 in
    let turned : i * 4 ≡ 4 * i = omega arith in
    let is = c.split_at-2.ensures.front ∙ ap (take 4) c.split_at.ensures.back ∙ ap (λ k. take 4 (drop k c.self.inside.texts.now)) turned ∙ q.entry in
    subst IsUtf8 (sym (c.in-Some.ensures q.before _ is q.placed)) q.text_utf8

pub returns-clause-value : goal.returns-clause-value
returns-clause-value c =
    let p = packed_as c.self.inside.nodes.now c.self.inside.edges.now c.self.inside.texts.now c.self.inside.long_texts.now c.args.self.now c.self.invariant c.self.view_is in
    let q = leaf_entry c.self.inside.nodes.now c.self.inside.edges.now c.self.inside.texts.now c.self.inside.long_texts.now c.args.self.now p c.args.leaf.0 c.requires in
    let i = c.args.leaf.0 in
    let turned : i * 4 ≡ 4 * i = omega arith in
    let is = c.split_at-2.ensures.front ∙ ap (take 4) c.split_at.ensures.back ∙ ap (λ k. take 4 (drop k c.self.inside.texts.now)) turned ∙ q.entry in
    (leaf_text_found c.self.inside.nodes.now c.self.inside.edges.now c.self.inside.texts.now c.self.inside.long_texts.now c.args.self.now p c.args.leaf.0 c.from_utf8_unchecked.result.now c.requires (c.from_utf8_unchecked.ensures ∙ c.in-Some.ensures q.before _ is q.placed)).0

pub returns-clause-few : goal.returns-clause-few
returns-clause-few c =
    let p = packed_as c.self.inside.nodes.now c.self.inside.edges.now c.self.inside.texts.now c.self.inside.long_texts.now c.args.self.now c.self.invariant c.self.view_is in
    let q = leaf_entry c.self.inside.nodes.now c.self.inside.edges.now c.self.inside.texts.now c.self.inside.long_texts.now c.args.self.now p c.args.leaf.0 c.requires in
    let i = c.args.leaf.0 in
    let turned : i * 4 ≡ 4 * i = omega arith in
    let is = c.split_at-2.ensures.front ∙ ap (take 4) c.split_at.ensures.back ∙ ap (λ k. take 4 (drop k c.self.inside.texts.now)) turned ∙ q.entry in
    (leaf_text_found c.self.inside.nodes.now c.self.inside.edges.now c.self.inside.texts.now c.self.inside.long_texts.now c.args.self.now p c.args.leaf.0 c.from_utf8_unchecked.result.now c.requires (c.from_utf8_unchecked.ensures ∙ c.in-Some.ensures q.before _ is q.placed)).1
