use Rattle.std.proofs.Common.{rules, ◌≡◌, ◌∙◌, ap, sym, subst, take, drop, map, get_or, ◌+◌, ◌++◌, ◌∷◌, [], refl}
use Rattle.std.specs.Prelude.{Err}
use Rattle.std.proofs.lemmas.List.{take_more, take-append-drop, drop_more, map_push, map-append}
use Rattle.compose_given.specs.Reads.{AddsText, AreTexts, FailsReads, text_reads, texts_of}
use Rattle.compose_given.proofs.Failing.{fails}
use Rattle.compose_given.proofs.InOrder.{no_text, texts_added, text_fails}
use Rattle.compose_given.proofs.reading.read_texts.Goals as goal

pub loop-path-preserved : goal.loop-path-preserved
loop-path-preserved g c =
    let folder = c.args.files.now.holds in let items = c.args.paths.now in
    let i = c.loop-path.path-index in let path = get_or items i no_text in let inv = c.loop-path.invariant in
    let before = texts_of c.loop-path.texts.items in let after = texts_of c.add_text.new.texts.items in
    record {
      kept = c.in_ok-add_text.ensures.kept ∙ inv.kept;
      read = subst (λ ws. AreTexts folder ws after) (sym (ap (map (λ path. path.now)) (take_more items i no_text c.loop-path-test.true) ∙ map_push (λ path. path.now) (take i items) path))
          (texts_added folder (map (λ path. path.now) (take i items)) before after path.now inv.read
          (subst (λ f. AddsText f path.now before after) inv.kept c.in_ok-add_text.ensures.read));
    }

pub returns-in_err-add_text-clause-fault : goal.returns-in_err-add_text-clause-fault
returns-in_err-add_text-clause-fault g c =
    let folder = c.args.files.now.holds in let items = c.args.paths.now in
    let i = c.loop-path.path-index in let path = get_or items i no_text in let inv = c.loop-path.invariant in
    let fault = c.in_err-add_text.field-0.0 in
    let is : c.from_residual.result ≡ Err fault = search rules in
    let now = map (λ path. path.now) in
    fails (FailsReads (text_reads folder (now items))) c.from_residual.result fault is
    (subst (λ ws. FailsReads (text_reads folder ws) fault)
    (sym (map-append (λ path. path.now) (take i items) (path ∷ drop (i + 1) items)) ∙ ap now (ap (λ l. take i items ++ l) (sym (drop_more items i no_text c.loop-path-test.true)) ∙ take-append-drop i items))
    (text_fails folder (now (take i items)) (texts_of c.loop-path.texts.items) path.now (now (drop (i + 1) items)) fault inv.read
    (subst (λ f. FailsReads (text_reads f (path.now ∷ [])) fault) inv.kept c.in_err-add_text.ensures.fault)))
