-- The definitions of a table from its root.
use Rattle.std.proofs.Common.{◌≡◌, ℕ, List, [], ◌++◌, map, sym, ◌∙◌, subst}
use Rattle.std.proofs.lemmas.List.{append-nil}
use Rattle.compose_model.specs.Table.{Definition}
use Rattle.compose_read.specs.Settle.{IsSettled}
use Rattle.compose_c.specs.Arrays.{AreFirst, LeadsTo, sequences_from}
use Rattle.compose_c.proofs.FirstDefinitions.{none_first}
use Rattle.compose_c.proofs.EdgeTargets.{root_leads}
use Rattle.compose_c.proofs.SequencesFrom.{from_root}

module _ (table : List Definition) (s : IsSettled table) (path : List ℕ) (root : path ≡ []) where
  -- the target 0 is that of no keysyms
  pub begins : LeadsTo table path 0
  begins = subst (λ p. LeadsTo table p 0) (sym root) (root_leads table)

  -- before any is added, all sequences are those from the root
  pub all_left : (ds : List Definition) → ds ≡ [] → AreFirst table ds (sequences_from table path ++ [])
  all_left ds none =
      subst (λ x. AreFirst table x (sequences_from table path ++ [])) (sym none) (subst (λ p. AreFirst table [] (sequences_from table p ++ [])) (sym root)
      (subst (AreFirst table []) (sym (append-nil (sequences_from table []) ∙ from_root table s)) (none_first table)))
