use Rattle.std.proofs.Common.{◌≡◌, ℕ, List, ◌∷◌, ◌++◌, drop, sym, ◌∙◌, ap, subst}
use Rattle.compose_client.specs.Replies.{AreKeysyms}
use Rattle.compose_client.specs.Giving.{keysyms_at}
use Rattle.compose_client.proofs.Keysyms.{more_keysyms, is_keysym}
use Rattle.compose_client.proofs.answer.read_keysyms.Goals as goal

pub returns-in_default : goal.returns-in_default
returns-in_default c = λ all.
    let rest = c.loop-rest.rest.now in
    let keysyms = c.loop-rest.keysyms.items in
    let number = c.from_be_bytes-number.result in
    let more : keysyms_at rest ≡ number ∷ keysyms_at (drop 4 rest) = more_keysyms rest c.loop-rest-test.true ∙ ap (λ k. k ∷ keysyms_at (drop 4 rest)) (sym c.from_be_bytes-number.ensures) in
    let are : AreKeysyms (keysyms ++ number ∷ keysyms_at (drop 4 rest)) = subst (λ (ks : List ℕ). AreKeysyms ks) (c.loop-rest.invariant.read ∙ ap (λ ks. keysyms ++ ks) more) all in
    let is = c.in_default.is in
    let known = c.new.ensures.some (is_keysym keysyms number (keysyms_at (drop 4 rest)) are) in
    cc
