-- The node to which names of keys lead, and the longer sequence that goes on from it.
use Rattle.std.proofs.Common.{◌≡◌, ℕ, ◌<◌, List, [], ◌∷◌, ◌++◌, Bool, true, false, length, refl, sym, ◌∙◌, ap, append_assoc, append-nil}
use Rattle.std.specs.Prelude.{Option, Some, None, MatchOption}
use Rattle.std.specs.Option.{option_map, option_and_then}
use Rattle.std.proofs.lemmas.Bool.{cases_Bool}
use Rattle.std.proofs.lemmas.Option.{same_Some}
use Rattle.std.proofs.Common.{inl, inr}
use Rattle.keysym_core.specs.Names.{KeysymNames, value}
use Rattle.compose_model.specs.Table.{Definition, same, is_table, is_sequence, is_extended, is_proper_prefix}
use Rattle.compose_model.specs.Nodes as nodes_words
use Rattle.compose_model.specs.Nodes.{nodes}
use Rattle.compose_model.proofs.NodeLemmas.{same_is}
use Rattle.compose_model.proofs.Reached.{shorter_prefix}
use Rattle.compose_model.proofs.Tests.{list_any-weaker}
use Rattle.compose_tree.specs.declared.table.NodeId.{NodeId}
use Rattle.compose_places.specs.Counting.{sequence_named}
use Rattle.compose_lookup.specs.Longer.{first_longer}
use Rattle.compose_lookup.proofs.FirstOne.{first_is_least}
use Rattle.compose_diff_rows.specs.Rows.{Written, WrittenSequence, sequence_in, longer_in}

-- ---- nodes

-- if sequences go on from a list, they go on from each prefix of it
extended_before : (table : List Definition) (q r : List ℕ) → is_extended table (q ++ r) ≡ true → is_extended table q ≡ true
extended_before table q r h = list_any-weaker (λ (d : Definition). is_proper_prefix (q ++ r) d.sequence) (λ (d : Definition). is_proper_prefix q d.sequence) (λ d e. shorter_prefix q r d.sequence e) table h

module _ (names : KeysymNames) (table : List Definition) where
  -- the node to which the keys lead from q; or no sequences go on from where they lead
  abbrev pub KeysLead : List ℕ → List (List ℕ) → Option NodeId → Type 0
  KeysLead q keys found = MatchOption found ((s : List ℕ) → sequence_named names keys ≡ Some s → is_extended table (q ++ s) ≡ false)
      (λ node. (s : List ℕ) × (sequence_named names keys ≡ Some s) × (node.0 < length (nodes table)) × (nodes_words.node table node.0 ≡ q ++ s))

  module _ (p key : List ℕ) (rest : List (List ℕ)) where
    -- a name without a keysym leads nowhere
    pub unknown : None ≡ value names key → KeysLead p (key ∷ rest) None
    unknown h s e = absurd (let clash = sym (ap (option_and_then (λ k. option_map (λ t. k ∷ t) (sequence_named names rest))) (sym h)) ∙ e in cc)

    module _ (k : ℕ) (is : Some k ≡ value names key) where
      record Behind (s : List ℕ) : Type 0 where
        tail : List ℕ
        named : sequence_named names rest ≡ Some tail
        whole : s ≡ k ∷ tail

      behind : (s : List ℕ) → sequence_named names (key ∷ rest) ≡ Some s → Behind s
      behind s e = go (sequence_named names rest) refl (sym (ap (option_and_then (λ j. option_map (λ t. j ∷ t) (sequence_named names rest))) (sym is)) ∙ e)
        where
          go : (o : Option (List ℕ)) → sequence_named names rest ≡ o → option_map (λ t. k ∷ t) (sequence_named names rest) ≡ Some s → Behind s
          go None f g = absurd (let clash = sym (ap (option_map (λ t. k ∷ t)) f) ∙ g in cc)
          go (Some t) f g = record { tail = t; named = f; whole = sym (same_Some (k ∷ t) s (sym (ap (option_map (λ t. k ∷ t)) f) ∙ g)) }

      joined : (s : List ℕ) (b : Behind s) → p ++ s ≡ (p ++ k ∷ []) ++ b.tail
      joined s b = ap (λ x. p ++ x) b.whole ∙ sym (append_assoc p (k ∷ []) b.tail)

      -- a key after which no sequence goes on
      pub nowhere : is_extended table (p ++ k ∷ []) ≡ false → KeysLead p (key ∷ rest) None
      nowhere h s e = let b = behind s e in ap (is_extended table) (joined s b) ∙ elim (cases_Bool (is_extended table ((p ++ k ∷ []) ++ b.tail))) [
        | inl f ↦ absurd (let clash = sym (extended_before table (p ++ k ∷ []) b.tail f) ∙ h in cc)
        | inr f ↦ f
      ]

      -- a key that leads to a node
      pub onward : (q : List ℕ) → p ++ k ∷ [] ≡ q → (found : Option NodeId) → KeysLead q rest found → KeysLead p (key ∷ rest) found
      onward q here None h = λ s e. (let b = behind s e in ap (is_extended table) (joined s b ∙ ap (λ x. x ++ b.tail) here) ∙ h b.tail b.named)
      onward q here (Some node) h = (
        k ∷ h.0,
        ap (option_and_then (λ j. option_map (λ t. j ∷ t) (sequence_named names rest))) (sym is) ∙ ap (option_map (λ t. k ∷ t)) h.1,
        h.2,
        h.3 ∙ ap (λ x. x ++ h.0) (sym here) ∙ append_assoc p (k ∷ []) h.0,
      )

  -- without keys, the node stays the same
  pub no_keys : (q : List ℕ) (node : NodeId) → node.0 < length (nodes table) → nodes_words.node table node.0 ≡ q → KeysLead q [] (Some node)
  no_keys q node below is = ([], refl, below, is ∙ sym (append-nil q))

-- ---- the longer sequence

-- nothing if no sequence goes on
pub none_longer : (w : Written) → is_table w.table ≡ true → (s : List ℕ) → is_extended w.table s ≡ false → None ≡ longer_in w s
none_longer w sound s h = go (first_longer w.table s) refl
  where
    go : (o : Option (List ℕ)) → first_longer w.table s ≡ o → None ≡ longer_in w s
    go None e = sym (ap (option_and_then (sequence_in w)) e)
    go (Some t) e =
        let it = first_is_least w.table sound (is_proper_prefix s) t e in
        let longer : is_extended w.table s ≡ true = list_any-weaker (λ (d : Definition). same t d.sequence) (λ (d : Definition). is_proper_prefix s d.sequence)
        (λ d f. ap (is_proper_prefix s) (sym (same_is t d.sequence f)) ∙ it.passes) w.table it.there in
        absurd (let clash = sym longer ∙ h in cc)

-- by the sequence of the names
pub longer_by_name : (w : Written) (o : Option (List ℕ)) (found : Option WrittenSequence) → (o ≡ None → found ≡ None) → ((s : List ℕ) → o ≡ Some s → found ≡ longer_in w s)
    → found ≡ option_and_then (longer_in w) o
longer_by_name w None found none some = none refl
longer_by_name w (Some s) found none some = some s refl
