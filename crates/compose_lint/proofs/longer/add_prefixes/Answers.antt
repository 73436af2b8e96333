use Rattle.std.proofs.Common.{◌≡◌, ◌∙◌, ◌+◌, ◌-◌, List, ℕ, cond, take, sym, ap, arith}
use Rattle.std.specs.Prelude.{Option, Some, None, bytes_eq}
use Rattle.std.specs.Option.{option_or}
use Rattle.indexmap.specs.IndexMap.{get_by}
use Rattle.compose_lint.specs.declared.finding.LinePlace.{LinePlace}
use Rattle.compose_lint.proofs.PrefixOnes.{is_from, one_from, stopped}
use Rattle.compose_lint.proofs.longer.add_prefixes.Goals as goal

pub returns-then-contains_key : goal.returns-then-contains_key
returns-then-contains_key c = λ q.
    (let t = c.args.sequence.now in let n = c.loop-len.len - 1 in let one : c.loop-len.len ≡ n + 1 = omega arith in
    let f = λ (p : List ℕ). get_by (λ k. bytes_eq p k.now) c.args.places.now in
    let shown = λ (p : List ℕ) (o : Option LinePlace) (h : o ≡ option_or (f p) (cond (is_from t c.loop-len.len p) (Some c.args.place) None)). h ∙ ap (λ m. option_or (f p) (cond (is_from t m p) (Some c.args.place) None)) one in
    stopped f t n c.args.place (omega (arith, c.loop-len.invariant.within)) c.requires q.now (get_by (λ k. bytes_eq (take n t) k.now) c.loop-len.places) _
    (shown (take n t) _ (c.loop-len.invariant.longer (record { ref_ptr = q.ref_ptr; now = take n t }))) (sym c.contains_key.ensures ∙ c.if-contains_key.true)
    (shown q.now _ (c.loop-len.invariant.longer q)))

pub loop-len-preserved : goal.loop-len-preserved
loop-len-preserved c =
    let t = c.args.sequence.now in let n = c.loop-len.len - 1 in let one : c.loop-len.len ≡ n + 1 = omega arith in
    let f = λ (p : List ℕ). get_by (λ k. bytes_eq p k.now) c.args.places.now in
    let shown = λ (p : List ℕ) (o : Option LinePlace) (h : o ≡ option_or (f p) (cond (is_from t c.loop-len.len p) (Some c.args.place) None)). h ∙ ap (λ m. option_or (f p) (cond (is_from t m p) (Some c.args.place) None)) one in record {
      within = omega (arith, c.loop-len.invariant.within);
      longer = λ q.
          one_from f t n c.args.place (omega (arith, c.loop-len.invariant.within)) q.now (get_by (λ k. bytes_eq (take n t) k.now) c.loop-len.places) (get_by (λ k. bytes_eq q.now k.now) c.loop-len.places) _
          (shown (take n t) _ (c.loop-len.invariant.longer (record { ref_ptr = q.ref_ptr; now = take n t }))) (sym c.contains_key.ensures ∙ c.if-contains_key.false)
          (shown q.now _ (c.loop-len.invariant.longer q)) (c.in_ok-insert.ensures.updates.0 q);
    }
