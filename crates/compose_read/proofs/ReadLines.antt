-- The lines visited from a source, one line after another.
use Rattle.std.proofs.Common.{◌≡◌, ◌<◌, ◌+◌, ◌-◌, ℕ, zero, suc, List, [], ◌∷◌, ◌++◌, Bool, true, false, cond, nat_lt, length, length-append, refl, sym, ◌∙◌, ap, append_assoc, arith}
use Rattle.std.specs.Prelude.{Option, Some, None, Result, Ok, Err, flat_map, option_map, position, slice_get, get_or}
use Rattle.std.specs.Option.{option_map_or}
use Rattle.std.proofs.lemmas.Option.{slice_get-get_or, same_Some}
use Rattle.compose_text.specs.Lines.{lines_of}
use Rattle.keysym_core.specs.Names.{KeysymNames}
use Rattle.compose_read.specs.Lines.{Source, Visit, included, source_named, visits, max_depth, numbered, own_lines, source_lines, visits_below}
use Rattle.compose_read.specs.Visits.{below, left_to_visit}
use Rattle.compose_read.specs.Rows.{DraftRows, no_row}
use Rattle.compose_read.specs.Progress.{with_prefix, read_so_far, reading_on, ReadsOn}
use Rattle.compose_read.specs.Read.{read_on, definitions_of}
use Rattle.compose_read.specs.ReadReturns.{ReadReturns}
use Rattle.compose_model.specs.Table.{Definition}
use Rattle.std.specs.Str.{bytes_eq}
use Rattle.std.proofs.lemmas.List.{append-nil}
use Rattle.compose_read.specs.declared.ReadFault.{ReadFault}
use Rattle.compose_read.specs.declared.ReadFault.TheVariants as faults
use Rattle.compose_read.specs.declared.reading.Progress.{Progress}

-- if a line includes no source, only the line is visited
pub plain_line : (sources : List Source) (left : ℕ) (v : Visit) → included sources v.bytes ≡ None → below sources left v ≡ v ∷ []
plain_line sources zero v h = refl
plain_line sources (suc left) v h = ap (λ o. v ∷ option_map_or (visits_below sources left) o []) h

-- after a line that includes a source, the lines of that source are visited one level deeper
pub include_below : (sources : List Source) (left : ℕ) (v : Visit) (source : ℕ) → 0 < left → included sources v.bytes ≡ Some source → below sources left v ≡ v ∷ visits_below sources (left - 1) source
include_below sources zero v source l h = absurd (omega arith)
include_below sources (suc left) v source l h =
    let one : left ≡ suc left - 1 = omega arith in
    ap (λ o. v ∷ option_map_or (visits_below sources left) o []) h ∙ ap (λ n. v ∷ visits_below sources n source) one

-- a line is visited before those below it
pub line_first : (sources : List Source) (left : ℕ) (v : Visit) → (more : List Visit) × (below sources left v ≡ v ∷ more)
line_first sources zero v = ([], refl)
line_first sources (suc left) v = (option_map_or (visits_below sources left) (included sources v.bytes) [], refl)

-- ---- a source's lines

alone : (sources : List Source) (vs : List Visit) → vs ≡ flat_map (below sources zero) vs
alone sources [] = refl
alone sources (v ∷ vs) = ap (λ ws. v ∷ ws) (alone sources vs)

-- the lines visited from a source are each of its lines and those below it
pub lines_below : (sources : List Source) (left source : ℕ) → visits_below sources left source ≡ flat_map (below sources left) (own_lines sources source (8 - left))
lines_below sources zero source = alone sources (own_lines sources source max_depth)
lines_below sources (suc left) source = refl

-- the lines visited from a source are each line of its bytes and those below it
pub visits_are : (sources : List Source) (left source : ℕ) (bytes : List ℕ) → source < length sources → option_map (λ (s : Source). s.bytes) (slice_get sources source) ≡ Some bytes
    → visits_below sources left source ≡ flat_map (below sources left) (numbered source (8 - left) 1 (source_lines bytes))
visits_are sources left source bytes l h =
    lines_below sources left source
    ∙ ap (λ bs. flat_map (below sources left) (numbered source (8 - left) 1 (source_lines bs)))
    (same_Some (get_or sources source none).bytes bytes (ap (option_map (λ (s : Source). s.bytes)) (sym (slice_get-get_or sources source none l)) ∙ h))
  where
    none : Source
    none = record { name = []; bytes = [] }

module _ (sources : List Source) (left source depth line : ℕ) (rest bytes behind : List ℕ) (lines : lines_of rest ≡ bytes ∷ lines_of behind) where
  abbrev next : Visit
  next = record { source = source; line = line + 1; bytes = bytes; depth = depth }

  -- what is left of a source is its next line, those below it, and what is left after it
  pub next_line : left_to_visit sources left source depth line rest ≡ below sources left next ++ left_to_visit sources left source depth (line + 1) behind
  next_line =
      let one : 1 + line ≡ line + 1 = omega arith in
      ap (λ ls. flat_map (below sources left) (numbered source depth (1 + line) ls)) lines
      ∙ ap (λ n. flat_map (below sources left) (numbered source depth n (bytes ∷ lines_of behind))) one

  lines_left : length (left_to_visit sources left source depth line rest) ≡ length (below sources left next) + length (left_to_visit sources left source depth (line + 1) behind)
  lines_left = ap (λ vs. length vs) next_line ∙ length-append (below sources left next) (left_to_visit sources left source depth (line + 1) behind)

  module _ (before total : ℕ) (counted : before + length (left_to_visit sources left source depth line rest) ≡ total) where
    -- the number of lines that are read with a line that includes nothing
    pub plain_counted : (after : ℕ) → included sources bytes ≡ None → after ≡ before + 1 → after + length (left_to_visit sources left source depth (line + 1) behind) ≡ total
    plain_counted after h e =
        let all = lines_left in let one = ap (λ vs. length vs) (plain_line sources left next h) in omega arith

    -- and with one that includes a source
    pub include_counted : (between after included_source : ℕ) → 0 < left → included sources bytes ≡ Some included_source → between ≡ before + 1
        → after ≡ between + length (visits_below sources (left - 1) included_source)
        → after + length (left_to_visit sources left source depth (line + 1) behind) ≡ total
    include_counted between after included_source deep h e f =
        let all = lines_left in let more = ap (λ vs. length vs) (include_below sources left next included_source deep h) in omega arith

-- ---- reading on

module _ (names : KeysymNames) (sources : List Source) (left source depth line : ℕ) (rest bytes behind : List ℕ) (lines : lines_of rest ≡ bytes ∷ lines_of behind) (p old : Progress)
    (whole : List Visit)
    (reads : (ws : List Visit) → reading_on names sources p (left_to_visit sources left source depth line rest ++ ws) ≡ reading_on names sources old (whole ++ ws)) where
  abbrev v : Visit
  v = record { source = source; line = line + 1; bytes = bytes; depth = depth }

  abbrev left_after : List Visit
  left_after = left_to_visit sources left source depth (line + 1) behind

  opened : (ws : List Visit) → reading_on names sources p (below sources left v ++ (left_after ++ ws)) ≡ reading_on names sources old (whole ++ ws)
  opened ws =
      ap (reading_on names sources p) (sym (append_assoc (below sources left v) left_after ws) ∙ ap (λ vs. vs ++ ws) (sym (next_line sources left source depth line rest bytes behind lines)))
      ∙ reads ws

  -- a line that includes nothing
  pub plain_turn : (q : Progress) → included sources bytes ≡ None → ((us : List Visit) → reading_on names sources p (v ∷ us) ≡ reading_on names sources q us)
      → (ws : List Visit) → reading_on names sources q (left_after ++ ws) ≡ reading_on names sources old (whole ++ ws)
  plain_turn q h f ws = sym (f (left_after ++ ws)) ∙ ap (λ vs. reading_on names sources p (vs ++ (left_after ++ ws))) (sym (plain_line sources left v h)) ∙ opened ws

  -- its fault
  pub line_refused : (q r : Progress) (fault : ReadFault) → ReadsOn {X = Option ℕ} names sources (v ∷ []) p q (Err fault) → ReadsOn {X = Unit {0}} names sources whole old r (Err fault)
  line_refused q r faults.NoMemory h = tt
  line_refused q r fault h = λ ws.
      let first = line_first sources left v in
      sym (opened ws) ∙ ap (λ vs. reading_on names sources p (vs ++ (left_after ++ ws))) first.1 ∙ h (first.0 ++ (left_after ++ ws))

  module _ (q : Progress) (included_source : ℕ) (deep : 0 < left) (h : included sources bytes ≡ Some included_source)
      (f : (us : List Visit) → reading_on names sources p (v ∷ us) ≡ reading_on names sources q us) where
    into_source : (ws : List Visit) → reading_on names sources q (visits_below sources (left - 1) included_source ++ (left_after ++ ws)) ≡ reading_on names sources old (whole ++ ws)
    into_source ws =
        sym (f (visits_below sources (left - 1) included_source ++ (left_after ++ ws)))
        ∙ ap (λ vs. reading_on names sources p (vs ++ (left_after ++ ws))) (sym (include_below sources left v included_source deep h)) ∙ opened ws

    -- a line that includes a source, and the lines of that source
    pub include_turn : (r : Progress) → ((us : List Visit) → reading_on names sources q (visits_below sources (left - 1) included_source ++ us) ≡ reading_on names sources r us)
        → (ws : List Visit) → reading_on names sources r (left_after ++ ws) ≡ reading_on names sources old (whole ++ ws)
    include_turn r g ws = sym (g (left_after ++ ws)) ∙ into_source ws

    -- a fault in the included source
    pub include_refused : (r s : Progress) (fault : ReadFault) → ReadsOn {X = Unit {0}} names sources (visits_below sources (left - 1) included_source) q r (Err fault)
        → ReadsOn {X = Unit {0}} names sources whole old s (Err fault)
    include_refused r s faults.NoMemory e = tt
    include_refused r s fault e = λ ws. sym (into_source ws) ∙ e (left_after ++ ws)

-- after the last line the whole is read
module _ (names : KeysymNames) (sources : List Source) (left source depth line : ℕ) (rest : List ℕ) (lines : lines_of rest ≡ []) where
  -- if no line is left of a source, nothing is left to visit
  pub none_left : length (left_to_visit sources left source depth line rest) ≡ 0
  none_left = ap (λ ls. length (flat_map (below sources left) (numbered source depth (1 + line) ls))) lines

  -- if no line is left of a source, its lines lead to what was read so far
  pub whole_read : (p old : Progress) (whole : List Visit)
      → ((ws : List Visit) → reading_on names sources p (left_to_visit sources left source depth line rest ++ ws) ≡ reading_on names sources old (whole ++ ws))
      → (ws : List Visit) → reading_on names sources old (whole ++ ws) ≡ reading_on names sources p ws
  whole_read p old whole reads ws = sym (reads ws) ∙ ap (λ ls. reading_on names sources p (flat_map (below sources left) (numbered source depth (1 + line) ls) ++ ws)) lines

-- ---- from the root

abbrev nothing : DraftRows
nothing = record { table = []; row = no_row }

none_before : (r : Result (List Definition) ReadFault) → with_prefix [] r ≡ r
none_before (Ok table) = refl
none_before (Err e) = refl

module _ (names : KeysymNames) (sources : List Source) (root : List ℕ) (source : ℕ) (named : position (λ (s : Source). bytes_eq root s.name) sources ≡ Some source) where
  root_read : definitions_of names sources root ≡ reading_on names sources (read_so_far 0 nothing) (visits_below sources 8 source ++ [])
  root_read =
      go (nat_lt (source_named sources root) (length sources)) named ∙ sym (none_before (read_on names sources 0 0 (visits_below sources 8 source)))
      ∙ ap (λ vs. with_prefix [] (read_on names sources 0 0 vs)) (sym (append-nil (visits_below sources 8 source)))
    where
      go : (b : Bool) → (let o : Option ℕ = cond b (Some (source_named sources root)) None in o) ≡ Some source
          → cond b (read_on names sources 0 0 (visits sources (source_named sources root))) (Err faults.MissingRoot) ≡ read_on names sources 0 0 (visits_below sources 8 source)
      go true h = ap (λ n. read_on names sources 0 0 (visits_below sources 8 n)) (same_Some (source_named sources root) source h)
      go false h = cc

  -- once all lines from the root are read, their definitions are those of the sources
  pub all_read : (draft : DraftRows) (q : Progress) → draft ≡ nothing → ReadsOn {X = Unit {0}} names sources (visits_below sources 8 source) (read_so_far 0 draft) q (Ok tt)
      → definitions_of names sources root ≡ Ok q.draft.table
  all_read draft q e h =
      root_read ∙ ap (λ d. reading_on names sources (read_so_far 0 d) (visits_below sources 8 source ++ [])) (sym e) ∙ h [] ∙ ap Ok (append-nil q.draft.table)

  -- a fault of a line that is read from the root is that of the sources
  pub root_refused : {X : Type 0} (view : X → List Definition) (draft : DraftRows) (q : Progress) (fault : ReadFault) → draft ≡ nothing
      → ReadsOn {X = Unit {0}} names sources (visits_below sources 8 source) (read_so_far 0 draft) q (Err fault)
      → ReadReturns view (Err fault) (definitions_of names sources root)
  root_refused view draft q faults.NoMemory e h = tt
  root_refused view draft q fault e h = root_read ∙ ap (λ d. reading_on names sources (read_so_far 0 d) (visits_below sources 8 source ++ [])) (sym e) ∙ h []
