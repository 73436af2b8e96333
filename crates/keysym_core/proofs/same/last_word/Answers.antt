use Rattle.std.proofs.Common.{◌≡◌, ◌-◌, ◌+◌, ◌<◌, ℕ, List, drop, length, subst, sym, rules}
use Rattle.std.specs.Int.{from_le_bytes, w64}
use Rattle.std.proofs.lemmas.Nat.{le_bytes_8}
use Rattle.std.proofs.lemmas.List.{get_or-drop}
use Rattle.keysym_core.proofs.same.last_word.Goals as goal

pub returns-clause-bytes : goal.returns-clause-bytes
returns-clause-bytes c =
    let bytes : List ℕ = c.args.bytes.now in
    let start : ℕ = length bytes - 8 in
    let number : c.from_le_bytes.result ≡ from_le_bytes w64 (drop start bytes) = search rules in
    le_bytes_8 (drop start bytes) c.from_le_bytes.result (search rules)
    (λ i. subst (λ b. b < 256) (sym (get_or-drop start bytes i 0)) (search (rules, c.type_inv.bytes (start + i)))) number
