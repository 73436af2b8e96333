-- What is kept of sources remains valid while more is read, and may be used to read a source again.
use Rattle.std.proofs.Common.{◌≡◌, ◌≤◌, ◌<◌, ◌+◌, ◌-◌, ℕ, zero, suc, List, [], ◌∷◌, ◌++◌, true, false, length, take, drop, get_or, set, sym, ◌∙◌, ap, ap₂, subst, inl, inr, arith, length-append, length-drop, length-take, length-set, replicate, nat_eq}
use Rattle.std.specs.Prelude.{Option, Some, None, IfSome, slice_get}
use Rattle.std.proofs.lemmas.Bool.{cases_Bool, eqb-true, eq-eqb}
use Rattle.std.proofs.lemmas.List.{get_or-set_same, get_or-set_other, get_or-replicate, length-replicate}
use Rattle.std.proofs.lemmas.Option.{same_Some}
use Rattle.std.proofs.Math.Seq.{drop-append_seam, take-length}
use Rattle.keysym_core.specs.Names.{KeysymNames}
use Rattle.compose_model.specs.Table.{Definition}
use Rattle.compose_read.specs.Lines.{Source, Visit, visits_below}
use Rattle.compose_read.specs.Rows.{DraftRows}
use Rattle.compose_read.specs.Progress.{read_so_far, reading_on}
use Rattle.compose_read.specs.Kept.{given, are_faultless, IsKept, AreKept}
use Rattle.compose_read.proofs.Pools.{piece_stays}
use Rattle.compose_read.proofs.Faultless.{read_through, faultless_read}
use Rattle.compose_read.proofs.Again.{IsAgain, source_again}
use Rattle.compose_read.specs.declared.kept.KeptSource.{KeptSource}
use Rattle.compose_read.specs.declared.reading.Progress.{Progress}

module _ (names : KeysymNames) (sources : List Source) where
  -- nothing is kept at first
  pub none_kept : (table : List Definition) (kept : List (Option KeptSource)) → kept ≡ replicate 64 None → AreKept names sources table kept
  none_kept table kept e =
      subst (AreKept names sources table) (sym e)
      (λ source d l. subst (λ o. IfSome o (IsKept names sources table source))
      (sym (get_or-replicate 64 source None d (omega (arith, l, length-replicate 64 (let o : Option KeptSource = None in o))))) tt)

  by_index : (kept : List (Option KeptSource)) (source : ℕ) (k : KeptSource) → slice_get kept source ≡ Some (Some k) → (source < length kept) × (get_or kept source None ≡ Some k)
  by_index [] source k h = cc
  by_index (o ∷ kept) zero k h = (omega arith, same_Some o (Some k) h)
  by_index (o ∷ kept) (suc source) k h = let behind = by_index kept source k h in (let l = behind.0 in omega arith, behind.1)

  -- what is found at an index is kept of the source with this index
  pub found_kept : (table : List Definition) (kept : List (Option KeptSource)) (source : ℕ) (k : KeptSource) → slice_get kept source ≡ Some (Some k) → AreKept names sources table kept
      → IsKept names sources table source k
  found_kept table kept source k h are = let found = by_index kept source k h in subst (λ o. IfSome o (IsKept names sources table source)) found.1 (are source None found.0)

  -- ---- more is read

  source_stays : (table more : List Definition) (source : ℕ) (o : Option KeptSource) → IfSome o (IsKept names sources table source) → IfSome o (IsKept names sources (table ++ more) source)
  source_stays table more source None h = tt
  source_stays table more source (Some k) h = record {
    faultless = h.faultless;
    lines = h.lines;
    within = (let n = length-append table more in let w = h.within in omega arith);
    definitions = piece_stays k.first k.count table more h.within ∙ h.definitions;
  }

  -- what is kept remains valid when more definitions are put after the table
  pub kept_stay : (table more new : List Definition) (kept : List (Option KeptSource)) → new ≡ table ++ more → AreKept names sources table kept → AreKept names sources new kept
  kept_stay table more new kept e h = subst (λ t. AreKept names sources t kept) (sym e) (λ source d l. source_stays table more source (get_or kept source d) (h source d l))

  -- what is kept remains valid when more lines are read
  pub kept_on : (vs : List Visit) (p q : Progress) (kept : List (Option KeptSource)) → ((ws : List Visit) → reading_on names sources p (vs ++ ws) ≡ reading_on names sources q ws)
      → AreKept names sources p.draft.table kept → AreKept names sources q.draft.table kept
  kept_on vs p q kept reads h = kept_stay p.draft.table (given names sources vs) q.draft.table kept (read_through names sources vs p q reads).1 h

  -- ---- one more is kept

  -- with one more source that is kept, all of them are valid
  pub put_kept : (table : List Definition) (kept : List (Option KeptSource)) (source : ℕ) (k : KeptSource) → AreKept names sources table kept → IsKept names sources table source k
      → AreKept names sources table (set kept source (Some k))
  put_kept table kept source k h is other d l = elim (cases_Bool (nat_eq other source)) [
    | inl e ↦ (
        let same = eqb-true other source e in let many = length-set kept source (let o : Option KeptSource = Some k in o) in let within : source < length kept = omega (arith, l, many, same) in
        subst (λ s. IfSome (get_or (set kept source (Some k)) s d) (IsKept names sources table s)) (sym same)
        (subst (λ o. IfSome o (IsKept names sources table source)) (sym (get_or-set_same kept source (Some k) d within)) is))
    | inr e ↦ subst (λ o. IfSome o (IsKept names sources table other))
        (sym (get_or-set_other kept source other (Some k) d (λ same. let clash : true ≡ false = sym (eq-eqb other source same) ∙ e in cc)))
        (h other d (omega (arith, l, length-set kept source (Some k))))
  ]

  -- ---- a source that was read

  module _ (left source : ℕ) (p q : Progress) (reads : (ws : List Visit) → reading_on names sources p (visits_below sources left source ++ ws) ≡ reading_on names sources q ws) where
    -- definitions were put after the others
    pub table_grew : length p.draft.table ≤ length q.draft.table
    table_grew =
        let grown = ap (λ t. length t) (read_through names sources (visits_below sources left source) p q reads).1 in
        let n = length-append p.draft.table (given names sources (visits_below sources left source)) in omega arith

    -- once its lines are read, their numbers and offsets may be kept for a source
    pub source_kept : (k : KeptSource) → k.left ≡ left → k.lines + p.lines ≡ q.lines → q.lines ≡ p.lines + length (visits_below sources left source) → k.first ≡ length p.draft.table
        → k.count ≡ length q.draft.table - length p.draft.table
        → IsKept names sources q.draft.table source k
    source_kept k at_left lines counted first count =
        let vs = visits_below sources left source in
        let through = read_through names sources vs p q reads in
        let grown = ap (λ t. length t) through.1 in
        let n = length-append p.draft.table (given names sources vs) in
        let many : k.count ≡ length (given names sources vs) = omega (arith, count, grown, n) in record {
          faultless = subst (λ n. are_faultless names sources (visits_below sources n source) ≡ true) (sym at_left) through.0;
          lines = subst (λ n. k.lines ≡ length (visits_below sources n source)) (sym at_left) (omega (arith, lines, counted));
          within = omega (arith, first, many, grown, n);
          definitions = subst (λ n. take k.count (drop k.first q.draft.table) ≡ given names sources (visits_below sources n source)) (sym at_left)
              (ap₂ (λ m t. take k.count (drop m t)) first through.1 ∙ ap (take k.count) (drop-append_seam p.draft.table (given names sources vs)) ∙ ap (λ m. take m (given names sources vs)) many
              ∙ take-length (given names sources vs));
        }

  -- ---- a source that is read again

  module _ (left source : ℕ) (p : Progress) (k : KeptSource) (is : IsKept names sources p.draft.table source k) (levels : k.left ≤ left) (few : left ≤ 8) where
    abbrev before : List Visit
    before = visits_below sources k.left source

    abbrev now : List Visit
    now = visits_below sources left source

    again : IsAgain names sources before now
    again = source_again names sources k.left left source levels few is.faultless

    -- a kept source has the same number of lines if fewer includes lead to it
    pub as_many : k.lines ≡ length now
    as_many = is.lines ∙ sym again.many

    -- with the kept definitions put after the table, reading goes on as if the lines of the source
    -- were read again
    pub read_again : (after : DraftRows) (lines : ℕ) → lines ≡ p.lines + k.lines → p.lines + k.lines ≤ 1000000 → length p.draft.table + k.count ≤ 100000
        → after.table ≡ p.draft.table ++ take k.count (drop k.first p.draft.table)
        → (ws : List Visit) → reading_on names sources p (now ++ ws) ≡ reading_on names sources (read_so_far lines after) ws
    read_again after lines counted l m t ws =
        let gave : take k.count (drop k.first p.draft.table) ≡ given names sources now = is.definitions ∙ sym again.given in
        let many = ap (λ ds. length ds) gave in
        let piece = length-take k.count (drop k.first p.draft.table) in let part = length-drop k.first p.draft.table in
        let whole = is.within in
        let same : p.lines + length now ≡ lines = omega (arith, counted, as_many) in
        faultless_read names sources now p after again.faultless (omega (arith, as_many, l)) (omega (arith, m, many, piece, part, whole)) (t ∙ ap (λ ds. p.draft.table ++ ds) gave) ws
        ∙ ap (λ n. reading_on names sources (read_so_far n after) ws) same
