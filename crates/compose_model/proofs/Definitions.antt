-- The limits of a definition, one by one.
use Rattle.std.proofs.Common.{◌≡◌, ◌≤◌, ◌<◌, ℕ, zero, suc, List, [], ◌∷◌, length, Bool, true, not, ◌&&◌, get_or, arith, ltb-true, leb-true}
use Rattle.std.specs.Prelude.{nat_lt, nat_le}
use Rattle.std.specs.List.{list_all}
use Rattle.std.proofs.lemmas.Bool.{and_parts}
use Rattle.keysym_core.specs.Keysym.{is_keysym, is_ignored}
use Rattle.compose_model.specs.Table.{Definition, is_definition, is_table}

abbrev is_counted : Definition → Bool
is_counted d = nat_lt 0 (length d.sequence) && nat_le (length d.sequence) 32

abbrev is_fed : Definition → Bool
is_fed d = list_all (λ k. is_keysym k && not (is_ignored k)) d.sequence

module _ (d : Definition) (h : is_definition d ≡ true) where
  counted : is_counted d ≡ true
  counted = (and_parts (is_counted d) (is_fed d) (and_parts (is_counted d && is_fed d) (nat_le (length d.text) 255) h).0).0

  -- a definition's sequence has a keysym
  pub sequence_some : 0 < length d.sequence
  sequence_some = ltb-true 0 (length d.sequence) (and_parts (nat_lt 0 (length d.sequence)) (nat_le (length d.sequence) 32) counted).0

  -- the sequence of a definition has at most 32 keysyms
  pub sequence_few : length d.sequence ≤ 32
  sequence_few = leb-true (length d.sequence) 32 (and_parts (nat_lt 0 (length d.sequence)) (nat_le (length d.sequence) 32) counted).1

  -- each keysym of a definition's sequence is in range and not ignored
  pub sequence_fed : list_all (λ k. is_keysym k && not (is_ignored k)) d.sequence ≡ true
  sequence_fed = (and_parts (is_counted d) (is_fed d) (and_parts (is_counted d && is_fed d) (nat_le (length d.text) 255) h).0).1

  -- a definition's text has at most 255 bytes
  pub text_few : length d.text ≤ 255
  text_few = leb-true (length d.text) 255 (and_parts (is_counted d && is_fed d) (nat_le (length d.text) 255) h).1

-- each entry of a table is a definition
pub definition_at : (table : List Definition) (i : ℕ) (d : Definition) → is_table table ≡ true → i < length table → is_definition (get_or table i d) ≡ true
definition_at [] i d t h = absurd (omega arith)
definition_at (e ∷ table) zero d t h = (and_parts (is_definition e) (is_table table) t).0
definition_at (e ∷ table) (suc i) d t h = definition_at table i d (and_parts (is_definition e) (is_table table) t).1 (omega arith)
