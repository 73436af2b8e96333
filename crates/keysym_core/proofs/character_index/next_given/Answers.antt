use Rattle.std.proofs.Common.{ℕ, ◌≡◌, ◌≢◌, ◌+◌, ◌*◌, ◌<◌, ◌≤◌, Some, true, ltb, length, get_or, rules, sym, ap, ◌∙◌, subst}
use Rattle.std.proofs.lemmas.List.Sorted.{IsPartitionPoint-from_clause, IsPartitionedBy-ltb}
use Rattle.std.specs.List.{list_any}
use Rattle.keysym_core.specs.Keysym.{max_keysym}
use Rattle.keysym_core.specs.GivenCharacters.{rank, is_pair}
use Rattle.keysym_core.specs.Next.{IsLeastFrom}
use Rattle.keysym_core.proofs.Index.{none_later, none_of_another, least_at_index}
use Rattle.keysym_core.proofs.character_index.next_given.Goals as goal

pub returns-in_err-keysym : goal.returns-in_err-keysym
returns-in_err-keysym c =
    let split =
    IsPartitionPoint-from_clause
    (λ (e : ℕ × ℕ). ltb (rank e) (c.args.character * 0x1_0000_0000 + c.args.low)) c.args.pairs.now c.partition_point-index.result c.partition_point-index.ensures.partitioned
    (IsPartitionedBy-ltb rank c.args.pairs.now (c.args.character * 0x1_0000_0000 + c.args.low) c.requires.sorted) (λ a r q k. search rules) in
    let past : length c.args.pairs.now ≤ c.partition_point-index.result = search rules in
    let none = none_later c.args.pairs.now (0, 0) c.args.character c.args.low c.partition_point-index.result c.requires.sorted c.requires.keysyms split past in
    subst (IsLeastFrom c.args.low (λ k. list_any (is_pair c.args.character k) c.args.pairs.now ≡ true)) (sym c.from_residual.ensures) none

pub returns-then-found-character : goal.returns-then-found-character
returns-then-found-character c =
    let split =
    IsPartitionPoint-from_clause
    (λ (e : ℕ × ℕ). ltb (rank e) (c.args.character * 0x1_0000_0000 + c.args.low)) c.args.pairs.now c.partition_point-index.result c.partition_point-index.ensures.partitioned
    (IsPartitionedBy-ltb rank c.args.pairs.now (c.args.character * 0x1_0000_0000 + c.args.low) c.requires.sorted) (λ a r q k. search rules) in
    let inside : c.partition_point-index.result < length c.args.pairs.now = search rules in
    let there : c.in_ok-keysym.field-0.now ≡ get_or c.args.pairs.now c.partition_point-index.result c.in_ok-keysym.field-0.now = search rules in
    let other : (get_or c.args.pairs.now c.partition_point-index.result c.in_ok-keysym.field-0.now).1 ≢ c.args.character =
    λ e. c.if-found-character.true (ap (λ (r : ℕ × ℕ). r.1) there ∙ e) in
    none_of_another c.args.pairs.now c.in_ok-keysym.field-0.now c.args.character c.args.low c.partition_point-index.result c.requires.sorted c.requires.keysyms split inside other

pub returns : goal.returns
returns c =
    let split =
    IsPartitionPoint-from_clause
    (λ (e : ℕ × ℕ). ltb (rank e) (c.args.character * 0x1_0000_0000 + c.args.low)) c.args.pairs.now c.partition_point-index.result c.partition_point-index.ensures.partitioned
    (IsPartitionedBy-ltb rank c.args.pairs.now (c.args.character * 0x1_0000_0000 + c.args.low) c.requires.sorted) (λ a r q k. search rules) in
    let inside : c.partition_point-index.result < length c.args.pairs.now = search rules in
    let there : c.in_ok-keysym.field-0.now ≡ get_or c.args.pairs.now c.partition_point-index.result c.in_ok-keysym.field-0.now = search rules in
    let same : (get_or c.args.pairs.now c.partition_point-index.result c.in_ok-keysym.field-0.now).1 ≡ c.args.character =
    sym (ap (λ (r : ℕ × ℕ). r.1) there) ∙ c.if-found-character.false in
    let least = least_at_index c.args.pairs.now c.in_ok-keysym.field-0.now c.args.character c.args.low c.partition_point-index.result c.requires.sorted c.requires.keysyms split inside same in
    let keysym : c.in_ok-keysym.field-0.now.0 ≡ (get_or c.args.pairs.now c.partition_point-index.result c.in_ok-keysym.field-0.now).0 = ap (λ (r : ℕ × ℕ). r.0) there in
    let small = c.requires.keysyms c.args.character (get_or c.args.pairs.now c.partition_point-index.result c.in_ok-keysym.field-0.now).0 least.1 in
    subst (IsLeastFrom c.args.low (λ k. list_any (is_pair c.args.character k) c.args.pairs.now ≡ true)) (sym (c.new.ensures.some (subst (λ k. k ≤ max_keysym) (sym keysym) small) ∙ ap Some keysym)) least
