-- A loop that reads the events after the first one: the events so far come before those of the
-- rest.
use Rattle.std.proofs.Common.{◌≡◌, ℕ, suc, zero, ◌+◌, ◌-◌, ◌<◌, ◌≤◌, List, [], ◌∷◌, ◌++◌, refl, sym, ◌∙◌, ap, arith}
use Rattle.std.specs.Prelude.{Result, Ok, Err}
use Rattle.std.proofs.lemmas.List.{append_assoc}
use Rattle.compose_text.specs.Results.{◌>>=◌}
use Rattle.compose_lex.specs.Fault.{skip_blanks, colon_or, event_at, events_at}
use Rattle.compose_lex.specs.Steps.{with_prefix}
use Rattle.compose_lex.specs.declared.LexFault.{LexFault}
use Rattle.compose_lex.specs.declared.LexFault.TheVariants.{TooManyKeysyms}

abbrev Reads : Type 0
Reads = List ℕ → Result (List (List ℕ) × List ℕ) LexFault

-- the colon ends the events
pub events_end : (n left : ℕ) (rest behind : List ℕ) → ((event : Reads) → colon_or n (skip_blanks rest) event ≡ Ok ([], behind)) → events_at n left rest ≡ Ok ([], behind)
unfolding events_at
events_end n zero rest behind h = h (λ _. Err TooManyKeysyms)
events_end n (suc left) rest behind h = h (λ rest. event_at n rest >>= λ event. events_at n left event.1 >>= λ more. Ok (event.0 ∷ more.0, more.1))

-- neither the colon nor a further event
pub events_fault : (n left : ℕ) (rest : List ℕ) (fault : LexFault) → ((event : Reads) → colon_or n (skip_blanks rest) event ≡ Err fault) → events_at n left rest ≡ Err fault
unfolding events_at
events_fault n zero rest fault h = h (λ _. Err TooManyKeysyms)
events_fault n (suc left) rest fault h = h (λ rest. event_at n rest >>= λ event. events_at n left event.1 >>= λ more. Ok (event.0 ∷ more.0, more.1))

-- an event too many
pub events_full : (n : ℕ) (rest behind : List ℕ) → ((event : Reads) → colon_or n (skip_blanks rest) event ≡ event behind) → events_at n 0 rest ≡ Err TooManyKeysyms
unfolding events_at
events_full n rest behind h = h (λ _. Err TooManyKeysyms)

-- a further event that is not valid
pub events_broken : (n left : ℕ) (rest behind : List ℕ) (fault : LexFault) → ((event : Reads) → colon_or n (skip_blanks rest) event ≡ event behind) → event_at n behind ≡ Err fault
    → events_at n (suc left) rest ≡ Err fault
unfolding events_at
events_broken n left rest behind fault h e = h (λ rest. event_at n rest >>= λ event. events_at n left event.1 >>= λ more. Ok (event.0 ∷ more.0, more.1))
    ∙ ap (λ r. r >>= λ event. events_at n left event.1 >>= λ more. Ok (event.0 ∷ more.0, more.1)) e

put_event : (prefix : List (List ℕ)) (name : List ℕ) (r : Result (List (List ℕ) × List ℕ) LexFault)
    → with_prefix prefix (r >>= λ more. Ok (name ∷ more.0, more.1)) ≡ with_prefix (prefix ++ name ∷ []) r
put_event prefix name (Ok more) = ap (λ x. let r : Result (List (List ℕ) × List ℕ) LexFault = Ok (x, more.1) in r) (sym (append_assoc prefix (name ∷ []) more.0))
put_event prefix name (Err e) = refl

-- a further event
pub events_more : (n left : ℕ) (prefix : List (List ℕ)) (rest behind name after : List ℕ) → ((event : Reads) → colon_or n (skip_blanks rest) event ≡ event behind)
    → event_at n behind ≡ Ok (name, after)
    → with_prefix prefix (events_at n (suc left) rest) ≡ with_prefix (prefix ++ name ∷ []) (events_at n left after)
unfolding events_at
events_more n left prefix rest behind name after h e =
    ap (with_prefix prefix) (h (λ rest. event_at n rest >>= λ event. events_at n left event.1 >>= λ more. Ok (event.0 ∷ more.0, more.1))
    ∙ ap (λ r. r >>= λ event. events_at n left event.1 >>= λ more. Ok (event.0 ∷ more.0, more.1)) e) ∙ put_event prefix name (events_at n left after)

-- the same, with the number of events that may still follow
pub one_more : (n count : ℕ) (prefix : List (List ℕ)) (rest behind name after : List ℕ) → count < 32 → ((event : Reads) → colon_or n (skip_blanks rest) event ≡ event behind)
    → event_at n behind ≡ Ok (name, after)
    → with_prefix prefix (events_at n (32 - count) rest) ≡ with_prefix (prefix ++ name ∷ []) (events_at n (32 - (count + 1)) after)
one_more n count prefix rest behind name after few h e =
    let left : 32 - count ≡ suc (32 - (count + 1)) = omega arith in
    ap (λ x. with_prefix prefix (events_at n x rest)) left ∙ events_more n (32 - (count + 1)) prefix rest behind name after h e

-- if fewer than 32 events come before a faulty one, its fault is that of the events
pub one_broken : (n count : ℕ) (rest behind : List ℕ) (fault : LexFault) → count < 32 → ((event : Reads) → colon_or n (skip_blanks rest) event ≡ event behind) → event_at n behind ≡ Err fault
    → events_at n (32 - count) rest ≡ Err fault
one_broken n count rest behind fault few h e =
    let left : 32 - count ≡ suc (32 - (count + 1)) = omega arith in
    ap (λ x. events_at n x rest) left ∙ events_broken n (32 - (count + 1)) rest behind fault h e

-- an event after 32 others is one too many
pub one_too_many : (n count : ℕ) (rest behind : List ℕ) → 32 ≤ count → ((event : Reads) → colon_or n (skip_blanks rest) event ≡ event behind) → events_at n (32 - count) rest ≡ Err TooManyKeysyms
one_too_many n count rest behind many h =
    let left : 32 - count ≡ 0 = omega arith in
    ap (λ x. events_at n x rest) left ∙ events_full n rest behind h
