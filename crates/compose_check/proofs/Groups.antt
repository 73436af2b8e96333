-- The groups of conditions, one after another: if those so far are met, the first fault is that of
-- the next group.
use Rattle.std.proofs.Common.{◌≡◌, List, ◌++◌, true, ◌&&◌, sym, ◌∙◌}
use Rattle.std.specs.Prelude.{Some, None}
use Rattle.std.proofs.lemmas.Bool.{and_parts}
use Rattle.keysym_core.specs.Names.{KeysymNames}
use Rattle.compose_model.specs.Table.{Definition}
use Rattle.compose_model.specs.Certificate.{Certificate, Repertoire, pairs_rise, pairs_in_range, has_pair, rest_is_kept}
use Rattle.compose_fresh.specs.declared.fault.CheckFault.{CheckFault}
use Rattle.compose_fresh.specs.Conditions.{Condition, first_unmet}
use Rattle.compose_fresh.specs.Fresh.{fresh_conditions}
use Rattle.compose_check.specs.Conditions.{pair_conditions, start_conditions, edge_conditions, bound_conditions, typing_conditions, fault_of}
use Rattle.compose_fresh.proofs.Unmet.{unmet_before, met_before, met_from_none}

module _ (names : KeysymNames) (old new : List Definition) (repertoire : Repertoire) (c : Certificate) where
  abbrev pairs : List Condition
  pairs = pair_conditions old new c.pairs

  abbrev fresh : List Condition
  fresh = fresh_conditions old c.fresh

  abbrev starts : List Condition
  starts = start_conditions names c.fresh old new

  abbrev edges : List Condition
  edges = edge_conditions names old new c.pairs

  abbrev bound : List Condition
  bound = bound_conditions new c.bound

  abbrev typings : List Condition
  typings = typing_conditions names new repertoire repertoire.characters c.typings

  module _ (no_pair : first_unmet pairs ≡ None) where
    behind_pairs : fault_of names old new repertoire c ≡ first_unmet (fresh ++ (starts ++ (edges ++ (bound ++ typings))))
    behind_pairs = met_before pairs (fresh ++ (starts ++ (edges ++ (bound ++ typings)))) no_pair

    -- if the conditions on pairs are met, the first fault of the fresh keysyms is the certificate's
    pub fresh_fault : (fault : CheckFault) → first_unmet fresh ≡ Some fault → Some fault ≡ fault_of names old new repertoire c
    fresh_fault fault h = sym (behind_pairs ∙ unmet_before fresh (starts ++ (edges ++ (bound ++ typings))) fault h)

    -- pairs that have no fault are increasing and in range
    pub pairs_fit : (pairs_rise c.pairs ≡ true) × (pairs_in_range old new c.pairs ≡ true)
    pairs_fit =
        let all = and_parts (pairs_rise c.pairs) (pairs_in_range old new c.pairs && (has_pair c.pairs 0 0 && (rest_is_kept c.pairs && true))) (met_from_none pairs no_pair) in
        (all.0, (and_parts (pairs_in_range old new c.pairs) (has_pair c.pairs 0 0 && (rest_is_kept c.pairs && true)) all.1).0)

    module _ (no_fresh : first_unmet fresh ≡ None) where
      fault_after_fresh : fault_of names old new repertoire c ≡ first_unmet (starts ++ (edges ++ (bound ++ typings)))
      fault_after_fresh = behind_pairs ∙ met_before fresh (starts ++ (edges ++ (bound ++ typings))) no_fresh

      -- if those on pairs and fresh keysyms are met, the first fault of the new starts is the
      -- certificate's
      pub start_fault : (fault : CheckFault) → first_unmet starts ≡ Some fault → Some fault ≡ fault_of names old new repertoire c
      start_fault fault h = sym (fault_after_fresh ∙ unmet_before starts (edges ++ (bound ++ typings)) fault h)

      module _ (no_start : first_unmet starts ≡ None) where
        fault_after_starts : fault_of names old new repertoire c ≡ first_unmet (edges ++ (bound ++ typings))
        fault_after_starts = fault_after_fresh ∙ met_before starts (edges ++ (bound ++ typings)) no_start

        -- if those on pairs, fresh keysyms and starts are met, the first fault at an edge is the
        -- certificate's
        pub edge_fault : (fault : CheckFault) → first_unmet edges ≡ Some fault → Some fault ≡ fault_of names old new repertoire c
        edge_fault fault h = sym (fault_after_starts ∙ unmet_before edges (bound ++ typings) fault h)

        module _ (no_edge : first_unmet edges ≡ None) where
          fault_after_edges : fault_of names old new repertoire c ≡ first_unmet (bound ++ typings)
          fault_after_edges = fault_after_starts ∙ met_before edges (bound ++ typings) no_edge

          -- if all conditions but those on the bound and the typings are met, the first fault of
          -- the bound is the certificate's
          pub bound_fault : (fault : CheckFault) → first_unmet bound ≡ Some fault → Some fault ≡ fault_of names old new repertoire c
          bound_fault fault h = sym (fault_after_edges ∙ unmet_before bound typings fault h)

          -- if all conditions but those on typings are met, the certificate has the fault of its
          -- typings, or none
          pub typing_faults : first_unmet bound ≡ None → first_unmet typings ≡ fault_of names old new repertoire c
          typing_faults h = sym (fault_after_edges ∙ met_before bound typings h)
