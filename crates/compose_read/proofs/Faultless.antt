-- The definitions of lines without a fault, and how reading goes on after them.
use Rattle.std.proofs.Common.{◌≡◌, ◌≤◌, ◌+◌, ℕ, List, [], ◌∷◌, ◌++◌, Bool, true, false, cond, ◌&&◌, length, refl, sym, ◌∙◌, ap, ap₂, append_assoc, arith, length-append, nat_le}
use Rattle.std.specs.Prelude.{Option, Some, None, option_to_list, Result, Ok, Err, is_ok}
use Rattle.std.proofs.lemmas.List.{append-nil}
use Rattle.compose_text.specs.Results.{◌>>=◌}
use Rattle.keysym_core.specs.Names.{KeysymNames}
use Rattle.compose_model.specs.Table.{Definition}
use Rattle.compose_read.specs.Lines.{Source, Visit}
use Rattle.compose_read.specs.Read.{line_result, with_room, read_on, max_lines, max_definitions}
use Rattle.compose_read.specs.Rows.{DraftRows, no_row}
use Rattle.compose_read.specs.Progress.{with_prefix, read_so_far, reading_on}
use Rattle.compose_read.specs.Kept.{definitions_in, given, are_faultless}
use Rattle.compose_read.proofs.ReadOn.{nothing_read, definition_read}
use Rattle.compose_read.specs.declared.ReadFault.{ReadFault}
use Rattle.compose_read.specs.declared.ReadFault.TheVariants as faults
use Rattle.compose_read.specs.declared.reading.Progress.{Progress}

abbrev in_ok : Result (List Definition) ReadFault → List Definition
in_ok (Ok table) = table
in_ok (Err e) = []

module _ (names : KeysymNames) (sources : List Source) where
  -- ---- what is read to its end

  module _ (v : Visit) (vs : List Visit) (lines definitions : ℕ) (table : List Definition)
      (others : (n m : ℕ) (t : List Definition) → read_on names sources n m vs ≡ Ok t → (are_faultless names sources vs ≡ true) × (t ≡ given names sources vs)) where
    abbrev goes_on : Option Definition → Result (List Definition) ReadFault
    goes_on found = read_on names sources (1 + lines) (length (option_to_list found) + definitions) vs >>= (λ t. Ok (option_to_list found ++ t))

    by_others : (found : Option Definition) (r : Result (List Definition) ReadFault) → read_on names sources (1 + lines) (length (option_to_list found) + definitions) vs ≡ r
        → (r >>= (λ t. Ok (option_to_list found ++ t))) ≡ Ok table → (are_faultless names sources vs ≡ true) × (table ≡ option_to_list found ++ given names sources vs)
    by_others found (Err f) e h = cc
    by_others found (Ok t) e h = let o = others (1 + lines) (length (option_to_list found) + definitions) t e in (o.0, sym (ap in_ok h) ∙ ap (λ t. option_to_list found ++ t) o.1)

    by_room : (d : Definition) (full : Bool) → (cond full (Err (faults.TooManyDefinitions v.source v.line)) (Ok (Some d)) >>= goes_on) ≡ Ok table
        → (are_faultless names sources vs ≡ true) × (table ≡ d ∷ given names sources vs)
    by_room d true h = cc
    by_room d false h = by_others (Some d) (read_on names sources (1 + lines) (1 + definitions) vs) refl h

    by_line : (many : Bool) (r : Result (Option Definition) ReadFault) → (cond many (Err (faults.TooManyLines v.source v.line)) (r >>= with_room v definitions) >>= goes_on) ≡ Ok table
        → (is_ok r && are_faultless names sources vs ≡ true) × (table ≡ definitions_in r ++ given names sources vs)
    by_line true r h = cc
    by_line false (Err e) h = cc
    by_line false (Ok None) h = by_others None (read_on names sources (1 + lines) (0 + definitions) vs) refl h
    by_line false (Ok (Some d)) h = by_room d (nat_le max_definitions definitions) h

  -- lines that are read to the end have no fault, and what is read is their definitions
  pub read_to_end : (vs : List Visit) (lines definitions : ℕ) (table : List Definition) → read_on names sources lines definitions vs ≡ Ok table
      → (are_faultless names sources vs ≡ true) × (table ≡ given names sources vs)
  read_to_end [] lines definitions table h = (refl, sym (ap in_ok h))
  read_to_end (v ∷ vs) lines definitions table h = by_line v vs lines definitions table (λ n m t e. read_to_end vs n m t e) (nat_le max_lines lines) (line_result names sources v) h

  -- also if others come after them
  pub read_through : (vs : List Visit) (p q : Progress) → ((ws : List Visit) → reading_on names sources p (vs ++ ws) ≡ reading_on names sources q ws)
      → (are_faultless names sources vs ≡ true) × (q.draft.table ≡ p.draft.table ++ given names sources vs)
  read_through vs p q h = go (read_on names sources p.lines (length p.draft.table) vs) refl (ap (reading_on names sources p) (sym (append-nil vs)) ∙ h [] ∙ ap Ok (append-nil q.draft.table))
    where
      go : (r : Result (List Definition) ReadFault) → read_on names sources p.lines (length p.draft.table) vs ≡ r → with_prefix p.draft.table r ≡ Ok q.draft.table
          → (are_faultless names sources vs ≡ true) × (q.draft.table ≡ p.draft.table ++ given names sources vs)
      go (Err f) e k = cc
      go (Ok more) e k = let o = read_to_end vs p.lines (length p.draft.table) more e in (o.0, sym (ap in_ok k) ∙ ap (λ t. p.draft.table ++ t) o.1)

  -- ---- reading on

  abbrev at_table : List Visit → ℕ → List Definition → Result (List Definition) ReadFault
  at_table ws lines table = with_prefix table (read_on names sources lines (length table) ws)

  -- lines without a fault that exceed no limit add their definitions after the others
  pub faultless_read : (vs : List Visit) (p : Progress) (after : DraftRows) → are_faultless names sources vs ≡ true → p.lines + length vs ≤ 1000000
      → length p.draft.table + length (given names sources vs) ≤ 100000
      → after.table ≡ p.draft.table ++ given names sources vs → (ws : List Visit) → reading_on names sources p (vs ++ ws) ≡ reading_on names sources (read_so_far (p.lines + length vs) after) ws
  faultless_read [] p after f l m t ws =
      let none : p.lines ≡ p.lines + 0 = omega arith in ap₂ (at_table ws) none (sym (append-nil p.draft.table) ∙ sym t)
  faultless_read (v ∷ vs) p after f l m t ws = by_gift (λ p f l m t. faultless_read vs p after f l m t ws) (line_result names sources v) refl f m t
    where
      by_gift : ((q : Progress) → are_faultless names sources vs ≡ true → q.lines + length vs ≤ 1000000 → length q.draft.table + length (given names sources vs) ≤ 100000
          → after.table ≡ q.draft.table ++ given names sources vs → reading_on names sources q (vs ++ ws) ≡ reading_on names sources (read_so_far (q.lines + length vs) after) ws)
          → (r : Result (Option Definition) ReadFault) → line_result names sources v ≡ r → is_ok r && are_faultless names sources vs ≡ true
          → length p.draft.table + length (definitions_in r ++ given names sources vs) ≤ 100000
          → after.table ≡ p.draft.table ++ (definitions_in r ++ given names sources vs)
          → reading_on names sources p (v ∷ (vs ++ ws)) ≡ reading_on names sources (read_so_far (p.lines + length (v ∷ vs)) after) ws
      by_gift others (Err e) h f m t = cc
      by_gift others (Ok None) h f m t =
          let one : p.lines + 1 + length vs ≡ p.lines + length (v ∷ vs) = omega arith in
          nothing_read names sources p v (vs ++ ws) (omega (arith, l)) h
          ∙ others (read_so_far (p.lines + 1) p.draft) f (omega (arith, l)) m t
          ∙ ap (λ n. at_table ws n after.table) one
      by_gift others (Ok (Some d)) h f m t =
          let one : p.lines + 1 + length vs ≡ p.lines + length (v ∷ vs) = omega arith in
          let next : DraftRows = record { table = p.draft.table ++ d ∷ []; row = no_row } in
          let more = length-append p.draft.table (d ∷ []) in
          definition_read names sources p next v d (vs ++ ws) refl (omega (arith, l)) h (omega (arith, m))
          ∙ others (read_so_far (p.lines + 1) next) f (omega (arith, l)) (omega (arith, m, more)) (t ∙ sym (append_assoc p.draft.table (d ∷ []) (given names sources vs)))
          ∙ ap (λ n. at_table ws n after.table) one
