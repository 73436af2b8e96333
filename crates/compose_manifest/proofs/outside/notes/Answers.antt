use Rattle.std.proofs.Common.{◌≡◌, ◌∙◌, ◌+◌, ◌++◌, ◌∷◌, sym, ap, rules, drop, true, false, string_bytes}
use Rattle.std.specs.Prelude.{option_copied}
use Rattle.std.proofs.lemmas.List.{drop_more}
use Rattle.compose_manifest.specs.Outside.{is_outside, note, notes}
use Rattle.compose_manifest.proofs.Notes.{note_more, note_none}
use Rattle.compose_manifest.proofs.outside.notes.Goals.{then-is_outside+in_ok-push_note, else-is_outside}
use Rattle.compose_manifest.proofs.outside.notes.Goals as goal

pub loop-source-preserved : goal.loop-source-preserved
loop-source-preserved c =
    let tree = c.args.tree.now in let root = option_copied c.args.root in let sources = c.args.sources.now in
    let index = c.loop-source.source-index in let source = c.source-item.result in
    let rest = drop (index + 1) sources in
    let before = string_bytes c.loop-source.text in
    let split : drop index sources ≡ source ∷ rest = drop_more sources index source c.loop-source-test.true ∙ ap (λ x. x ∷ rest) (sym c.source-item.is) in
    let old = ap (λ left. before ++ notes tree root left) (sym split) ∙ c.loop-source.invariant in
    elim c.if-is_outside.branch [
      | then-is_outside+in_ok-push_note w ↦ (
          let outside : is_outside tree root source.path ≡ true = search rules in
          let pushed : string_bytes c.if-is_outside.text ≡ before ++ note tree source = ap string_bytes w.text-is ∙ w.in_ok-push_note.ensures in
          note_more tree root source rest before (string_bytes c.if-is_outside.text) (notes tree root sources) outside pushed old)
      | else-is_outside w ↦ (
          let inside : is_outside tree root source.path ≡ false = search rules in
          ap (λ t. string_bytes t ++ notes tree root rest) w.text-is ∙ note_none tree root source rest before (notes tree root sources) inside old)
    ]
