use Rattle.std.proofs.Common.{◌≡◌, ◌+◌, ◌*◌, ◌<◌, ◌∷◌, ◌++◌, [], ℕ, List, length, get_or, inl, inr, sym, ◌∙◌, ap, arith, rules}
use Rattle.std.proofs.Math.Seq.{get_or-append_seam}
use Rattle.std.proofs.lemmas.Bool.{cases_lt}
use Rattle.std.proofs.lemmas.List.{get_or_append_left, get_or_default}
use Rattle.compose_read.specs.SortKeys.{prefix_sort_key, prefix_sort_key_at}
use Rattle.compose_read.specs.declared.rows.RowSpan.{RowSpan}
use Rattle.compose_read.proofs.SortKeys.{prefix_sort_key_of_part}
use Rattle.compose_read.proofs.sorting.sort_keys.Goals as goal

pub loop-index-preserved : goal.loop-index-preserved
loop-index-preserved c =
    let ks = c.args.keysyms.now in let ps = c.args.spans.now in let ns = c.loop-index.sort_keys.items in let index = c.loop-index.index in
    let count = c.loop-index.invariant.count in let within : index < length ps = omega arith in
    let missing : RowSpan = record { first_keysym = 0; first_byte = 0; keysym_count = 0; byte_count = 0 } in
    let its_prefix_sort_key =
    ap prefix_sort_key c.part_at.ensures ∙ prefix_sort_key_of_part ks c.deref.result.now (get_or ps index missing) (c.deref.ensures.value ∙ c.in_ok-keysym_sort_keys.ensures) in
    record {
      count = search rules;
      each = λ d k l. elim (cases_lt k index) [
        | inl below ↦ ap (λ (ms : List ℕ). get_or ms k 0) c.in_ok-push.ensures.items ∙ get_or_append_left ns _ 0 k (omega arith) ∙ c.loop-index.invariant.each d k below
        | inr above ↦
            (let last : k ≡ index = omega arith in let at : k ≡ length ns = omega arith in
            ap (λ (ms : List ℕ). get_or ms k 0) c.in_ok-push.ensures.items
            ∙ ap (λ i. get_or (ns ++ c.sort_key_of.result ∷ []) i 0) at
            ∙ get_or-append_seam ns c.sort_key_of.result [] 0
            ∙ c.sort_key_of.ensures
            ∙ ap (λ f. f * 131072 + index) (its_prefix_sort_key ∙ ap (prefix_sort_key_at ks) (get_or_default ps index missing d within))
            ∙ ap (λ i. prefix_sort_key_at ks (get_or ps i d) * 131072 + i) (sym last))
      ];
    }
