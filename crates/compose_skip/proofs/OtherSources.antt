-- Sources without their faulty lines, one after another.
use Rattle.std.proofs.Common.{◌≡◌, ◌+◌, ◌<◌, ℕ, List, [], ◌∷◌, ◌++◌, length, map, take, get_or, sym, ◌∙◌, ap, ap₂, subst, append_assoc, arith}
use Rattle.std.specs.Prelude.{◌≤◌, Option, Some, option_map, slice_get, unwrap_or}
use Rattle.std.specs.List.{filter_map}
use Rattle.std.proofs.lemmas.List.{append-nil, length-take-le, take_more}
use Rattle.std.proofs.lemmas.Option.{slice_get-get_or}
use Rattle.keysym_core.specs.Names.{KeysymNames}
use Rattle.compose_read.specs.Lines.{Source, source_lines}
use Rattle.compose_read.specs.declared.ReadFault.{ReadFault}
use Rattle.compose_skip.specs.Faulty.{AreOthersFrom, kept_line, left_fault, lines_in, own_faults_from}

abbrev pub no_source : Source
no_source = record { name = []; bytes = [] }

-- one source more
others_more : (names : KeysymNames) (index k : ℕ) (sources others : List Source) (s o : Source) → k ≡ index + length sources → AreOthersFrom names index sources others
    → o.name ≡ s.name → source_lines o.bytes ≡ map (kept_line names) (lines_in k s.bytes) → AreOthersFrom names index (sources ++ s ∷ []) (others ++ o ∷ [])
others_more names index k [] [] s o e are name lines =
    let here : k ≡ index = omega (arith, e) in (name, subst (λ n. source_lines o.bytes ≡ map (kept_line names) (lines_in n s.bytes)) here lines, tt)
others_more names index k [] (p ∷ others) s o e are name lines = absurd are
others_more names index k (r ∷ sources) [] s o e are name lines = absurd are
others_more names index k (r ∷ sources) (p ∷ others) s o e are name lines =
    (are.0, are.1, others_more names (1 + index) k sources others s o (omega (arith, e)) are.2 name lines)

-- the faults of one source more
faults_more : (names : KeysymNames) (index k : ℕ) (sources : List Source) (s : Source) → k ≡ index + length sources
    → own_faults_from names index (sources ++ s ∷ []) ≡ own_faults_from names index sources ++ filter_map (left_fault names) (lines_in k s.bytes)
faults_more names index k [] s e =
    let here : index ≡ k = omega (arith, e) in append-nil (filter_map (left_fault names) (lines_in index s.bytes)) ∙ ap (λ n. filter_map (left_fault names) (lines_in n s.bytes)) here
faults_more names index k (r ∷ sources) s e =
    ap (λ fs. filter_map (left_fault names) (lines_in index r.bytes) ++ fs) (faults_more names (1 + index) k sources s (omega (arith, e)))
    ∙ sym (append_assoc (filter_map (left_fault names) (lines_in index r.bytes)) (own_faults_from names (1 + index) sources) (filter_map (left_fault names) (lines_in k s.bytes)))

module _ (names : KeysymNames) (sources : List Source) (index : ℕ) (within : index < length sources) where
  abbrev at : Source
  at = get_or sources index no_source

  is_at : slice_get sources index ≡ Some at
  is_at = slice_get-get_or sources index no_source within

  count : index ≡ 0 + length (take index sources)
  count = let few : index ≤ length sources = omega (arith, within) in let n = length-take-le index sources few in omega (arith, n)

  -- the source that is read next, with its name and its bytes
  module _ (name : Option (List ℕ)) (bytes : List ℕ) (named : name ≡ option_map (λ (s : Source). s.name) (slice_get sources index))
      (held : option_map (λ (s : Source). s.bytes) (slice_get sources index) ≡ Some bytes) where
    name_is : unwrap_or name [] ≡ at.name
    name_is = ap (λ (o : Option (List ℕ)). unwrap_or o []) (named ∙ ap (option_map (λ (s : Source). s.name)) is_at)

    bytes_are : bytes ≡ at.bytes
    bytes_are = sym (ap (λ (o : Option (List ℕ)). unwrap_or o []) (sym (ap (option_map (λ (s : Source). s.bytes)) is_at) ∙ held))

    pub others_next : (others more : List Source) (kept : List ℕ) → AreOthersFrom names 0 (take index sources) others
        → source_lines kept ≡ map (kept_line names) (lines_in index bytes) → more ≡ others ++ record { name = unwrap_or name []; bytes = kept } ∷ []
        → AreOthersFrom names 0 (take (index + 1) sources) more
    others_next others more kept are lines e =
        subst (AreOthersFrom names 0 (take (index + 1) sources)) (sym e)
        (subst (λ ss. AreOthersFrom names 0 ss (others ++ record { name = unwrap_or name []; bytes = kept } ∷ [])) (sym (take_more sources index no_source within))
        (others_more names 0 index (take index sources) others at (record { name = unwrap_or name []; bytes = kept }) count are name_is
        (lines ∙ ap (λ bs. map (kept_line names) (lines_in index bs)) bytes_are)))

    pub faults_next : (faults more : List ReadFault) → faults ≡ own_faults_from names 0 (take index sources)
        → more ≡ faults ++ filter_map (left_fault names) (lines_in index bytes) → more ≡ own_faults_from names 0 (take (index + 1) sources)
    faults_next faults more is e =
        e ∙ ap₂ (λ fs bs. fs ++ filter_map (left_fault names) (lines_in index bs)) is bytes_are
        ∙ sym (ap (own_faults_from names 0) (take_more sources index no_source within) ∙ faults_more names 0 index (take index sources) at count)
