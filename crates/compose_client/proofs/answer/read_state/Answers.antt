use Rattle.std.proofs.Common.{◌≡◌, ◌≤◌, ◌*◌, List, ℕ, length, drop, sym, subst, arith, length-drop}
use Rattle.compose_client.specs.Replies.{AreKeysyms}
use Rattle.compose_client.specs.Giving.{keysyms_at}
use Rattle.compose_client.proofs.Keysyms.{no_state, few_keysyms, after_two}
use Rattle.compose_client.proofs.answer.read_state.Goals as goal

pub returns-in_default : goal.returns-in_default
returns-in_default c =
    let bytes = c.args.payload.now in
    no_state bytes (λ all. c.in_default.ensures (subst (λ (xs : List ℕ). AreKeysyms (keysyms_at xs)) (sym (after_two bytes)) all))

pub returns : goal.returns
returns c =
    let bytes = c.args.payload.now in
    let keysyms = subst (λ (xs : List ℕ). (c.in-Some.pending.items ≡ keysyms_at xs) × AreKeysyms (keysyms_at xs)) (after_two bytes) c.in-Some.ensures in
    let few : 4 * length (keysyms_at (drop 2 bytes)) ≤ length (drop 2 bytes) = few_keysyms (drop 2 bytes) in
    let long = length-drop 2 bytes in
    let most = c.requires.few in
    ((c.read_status.ensures, keysyms.0), (keysyms.1, omega arith))
