use Rattle.std.proofs.Common.{◌≡◌, ◌∙◌, sym, ap, Some, None}
use Rattle.std.specs.Prelude.{slice_set, bytes_eq}
use Rattle.std.specs.List.{position}
use Rattle.std.specs.Option.{option_map}
use Rattle.compose_find.specs.Found.{held_at}
use Rattle.compose_find.proofs.Taken.{none_held, held_here, others_held}
use Rattle.compose_find.proofs.files.Files.take_at.Goals as goal

pub returns-in_err-index-clause-bytes : goal.returns-in_err-index-clause-bytes
returns-in_err-index-clause-bytes c =
    ap (option_map (λ b. b.items)) c.from_residual.ensures ∙ sym (none_held c.args.self.now c.args.path.now (sym c.in_err-index.ensures))

pub returns-clause-bytes : goal.returns-clause-bytes
returns-clause-bytes c =
    let items = c.self.inside.files.items in let path = c.args.path.now in let index = c.in_ok-index.index in
    let view : items ≡ c.args.self.now = c.self.view_is in
    let at : position (λ f. bytes_eq path f.path) items ≡ Some index = ap (position (λ f. bytes_eq path f.path)) view ∙ sym c.in_ok-index.ensures in
    c.take_bytes.ensures.bytes ∙ ap (λ f. f.bytes) c.index_mut.ensures.value ∙ sym (held_here items path index c.index_mut.result.now at) ∙ ap (λ files. held_at files path) view

pub returns-clause-others : goal.returns-clause-others
returns-clause-others c other differs =
    let items = c.self.inside.files.items in let path = c.args.path.now in let index = c.in_ok-index.index in
    let view : items ≡ c.args.self.now = c.self.view_is in
    let at : position (λ f. bytes_eq path f.path) items ≡ Some index = ap (position (λ f. bytes_eq path f.path)) view ∙ sym c.in_ok-index.ensures in
    ap (λ f. held_at (slice_set items index f) other) (c.take_bytes.ensures.gone ∙ ap (λ f. record { path = f.path; bytes = None }) c.index_mut.ensures.value)
    ∙ others_held items path index c.index_mut.result.now at other differs ∙ ap (λ files. held_at files other) view
