use Rattle.std.proofs.Common.{◌≡◌, ◌∙◌, [], ◌∷◌, ◌++◌, ℕ, List, append-nil, append_assoc, drop, length, map, set, take, refl, sym, ap, ap₂, arith}
use Rattle.std.specs.Prelude.{Some, None, not, filter, option_map, slice_get}
use Rattle.std.proofs.lemmas.List.{drop-drop, map-append, length-set, length-replicate, length-map, take_all}
use Rattle.std.proofs.lemmas.Option.{slice_get-map}
use Rattle.std.proofs.lemmas.Simd.{splat_is_map}
use Rattle.compose_model.specs.Nodes.{leaves}
use Rattle.compose_model.specs.Table.{is_sequence}
use Rattle.compose_read.specs.Lines.{Visit}
use Rattle.compose_tree.proofs.Steps.{leaf_below}
use Rattle.compose_places.specs.Counting.{counting_line, defined_sequence, written_line}
use Rattle.compose_places.proofs.LastLines.{other_line, one_line, first_left}
use Rattle.compose_places.proofs.Others.{one_other, no_other}
use Rattle.compose_places.proofs.counting.last_lines.Goals as goal
use Rattle.compose_places.proofs.counting.last_lines.Goals.{in-Some, in-None+in_ok-push-in-None}

pub loop-index-init : goal.loop-index-init
loop-index-init g c =
    let sequences = leaves (g.T.ComposeTable.definitions c.args.table.now) in record {
      fits = ap (λ xs. length xs) c.in_ok-kept.ensures ∙ length-replicate c.leaf_count.result None ∙ c.leaf_count.ensures;
      left = refl;
      kept = λ names defined. c.in_ok-kept.ensures ∙ splat_is_map sequences c.leaf_count.result None (sym c.leaf_count.ensures);
      others = sym (append-nil (map (λ s. s.now) c.args.others.now.items));
    }

pub index_mut-requires : goal.index_mut-requires
index_mut-requires g c =
    let below = leaf_below (g.T.ComposeTable.definitions c.args.table.now) c.sequence-sequence.result.now c.in-Some.ensures.0 in
    omega (arith, below, c.in-Some.ensures.1, c.loop-index.invariant.fits, c.loop-index.kept.ok)

pub loop-index-preserved : goal.loop-index-preserved
loop-index-preserved g c =
    let table = g.T.ComposeTable.definitions c.args.table.now in
    let index = c.loop-index.index in
    let visits = c.args.lines in
    let s = c.sequence-sequence.result.now in
    let here = c.sequence-sequence.ensures in
    let at : slice_get (map (λ (x : List ℕ). Some x) c.args.sequences.now) index ≡ Some (Some s) = slice_get-map (λ (x : List ℕ). Some x) c.args.sequences.now index ∙ ap (option_map (λ (x : List ℕ). Some x)) here in
    let left = c.next-line.ensures.rest ∙ ap (drop 1) c.loop-index.invariant.left ∙ drop-drop 1 index visits in
    elim c.match-leaf_of.branch [
      | in-Some w ↦ record {
        fits = ap (λ v. length v.items) w.kept-is ∙ length-set _ _ _ ∙ c.loop-index.invariant.fits;
        left = left;
        kept = λ names defined.
            ap (λ v. v.items) w.kept-is ∙ ap₂ (λ xs l. set xs w.in-Some.leaf.0 l) (c.loop-index.invariant.kept names defined)
            (c.next-line.ensures.line ∙ ap (λ vs. slice_get (map written_line vs) 0) c.loop-index.invariant.left ∙ first_left visits index)
            ∙ ap (λ n. set (map (counting_line names (take index visits)) (leaves table)) n (slice_get (map written_line visits) index)) (sym w.in-Some.ensures.1)
            ∙ one_line names table visits index s (ap (λ xs. slice_get xs index) (sym defined) ∙ at) w.in-Some.ensures.0;
        others = ap (λ v. map (λ x. x.now) v.items) w.others-is ∙ c.loop-index.invariant.others
            ∙ ap (λ xs. map (λ x. x.now) c.args.others.now.items ++ xs) (no_other (λ x. not (is_sequence table x)) c.args.sequences.now index s here (ap not w.in-Some.ensures.0));
      }
      | in-None+in_ok-push-in-None w ↦ record {
        fits = ap (λ v. length v.items) w.kept-is ∙ c.loop-index.invariant.fits;
        left = left;
        kept = λ names defined.
            ap (λ v. v.items) w.kept-is ∙ c.loop-index.invariant.kept names defined
            ∙ other_line names table visits index s (ap (λ xs. slice_get xs index) (sym defined) ∙ at) w.in-None.ensures;
        others = ap (λ v. map (λ x. x.now) v.items) w.others-is ∙ ap (map (λ x. x.now)) w.in_ok-push-in-None.ensures.items
            ∙ map-append (λ x. x.now) c.loop-index.others.items (c.sequence-sequence.result ∷ [])
            ∙ ap (λ xs. xs ++ s ∷ []) c.loop-index.invariant.others
            ∙ append_assoc (map (λ x. x.now) c.args.others.now.items) (filter (λ x. not (is_sequence table x)) (take index c.args.sequences.now)) (s ∷ [])
            ∙ ap (λ xs. map (λ x. x.now) c.args.others.now.items ++ xs) (one_other (λ x. not (is_sequence table x)) c.args.sequences.now index s here (ap not w.in-None.ensures));
      }
    ]

pub returns-clause-lines : goal.returns-clause-lines
returns-clause-lines g c = λ names defined.
    (let visits = c.args.lines in
    let read = sym (length-map c.args.sequences.now (λ (x : List ℕ). Some x)) ∙ ap (λ xs. length xs) defined ∙ length-map visits (λ (v : Visit). defined_sequence names v.bytes) in
    c.loop-index.invariant.kept names defined
    ∙ ap (λ vs. map (counting_line names vs) (leaves (g.T.ComposeTable.definitions c.args.table.now))) (take_all c.loop-index.index visits (omega (arith, read, c.loop-index-test.false))))
