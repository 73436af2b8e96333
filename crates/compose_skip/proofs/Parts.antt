-- The faults of a production's parts, one after another.
use Rattle.std.proofs.Common.{◌≡◌, ℕ, suc, ◌+◌, ◌<◌, List, [], ◌∷◌, length, map, drop, get_or, Bor, refl, sym, ◌∙◌, ap, ap₂, drop-cons, arith}
use Rattle.std.proofs.Math.ListN.{drop_of_length-le}
use Rattle.std.proofs.lemmas.List.{get_or-map, length-map}
use Rattle.std.specs.Prelude.{Option, Some, None, Result, Ok, Err, IfOk}
use Rattle.std.specs.Result.{result_err}
use Rattle.compose_text.specs.Results.{◌>>=◌}
use Rattle.keysym_core.specs.Names.{KeysymNames, value}
use Rattle.compose_read.specs.Lines.{Visit}
use Rattle.compose_read.specs.Read.{event_keysym, sequence_of}
use Rattle.compose_read.specs.declared.ReadFault.{ReadFault}

-- ---- one step, and then the next ones

-- a fault of the step is that of both
pub first_fault : {X Y : Type 0} (r : Result X ReadFault) (next : X → Result Y ReadFault) (fault : ReadFault) → Some fault ≡ result_err r → Some fault ≡ result_err (r >>= next)
first_fault (Ok x) next fault h = cc
first_fault (Err e) next fault h = h

-- if the step has no fault, the fault of both is that of the next
pub no_fault : {X Y : Type 0} (r : Result X ReadFault) (next : X → Result Y ReadFault) (fault : Option ReadFault) → None ≡ result_err r → ((x : X) → fault ≡ result_err (next x))
    → fault ≡ result_err (r >>= next)
no_fault (Ok x) next fault h k = k x
no_fault (Err e) next fault h k = cc

-- the fault of the last step
pub last_fault : {X Y : Type 0} (r : Result X ReadFault) (f : X → Y) (fault : Option ReadFault) → fault ≡ result_err r
    → fault ≡ result_err (r >>= (λ x. let y : Result Y ReadFault = Ok (f x) in y))
last_fault (Ok x) f fault h = h
last_fault (Err e) f fault h = h

-- what holds of a value, if there is one
pub ok_map : {X E : Type 0} (P Q : X → Type 0) (r : Result X E) → ((x : X) → P x → Q x) → IfOk r P → IfOk r Q
ok_map P Q (Ok x) f h = f x h
ok_map P Q (Err e) f h = tt

-- ---- events

-- the fault of the events from this index on
abbrev pub fault_from : KeysymNames → Visit → List (Bor (List ℕ)) → ℕ → Option ReadFault
fault_from names v events index = result_err (sequence_of names v index (drop index (map (λ e. e.now) events)))

pub at_event : (events : List (Bor (List ℕ))) (index : ℕ) (d : Bor (List ℕ)) → index < length events
    → drop index (map (λ e. e.now) events) ≡ (get_or events index d).now ∷ drop (index + 1) (map (λ e. e.now) events)
at_event events index d l =
    let next : suc index ≡ index + 1 = omega arith in
    drop-cons (map (λ (e : Bor (List ℕ)). e.now) events) index [] (l_mapped events l)
    ∙ ap₂ (λ n m. n ∷ drop m (map (λ (e : Bor (List ℕ)). e.now) events)) (get_or-map (λ (e : Bor (List ℕ)). e.now) events index d [] l) next
  where
    l_mapped : (xs : List (Bor (List ℕ))) → index < length xs → index < length (map (λ (e : Bor (List ℕ)). e.now) xs)
    l_mapped xs l = omega (arith, length-map xs (λ (e : Bor (List ℕ)). e.now))

put_on : (k : ℕ) (r : Result (List ℕ) ReadFault) → result_err (r >>= (λ s. Ok (k ∷ s))) ≡ result_err r
put_on k (Ok s) = refl
put_on k (Err e) = refl

passed : (r : Result ℕ ReadFault) (rest : Result (List ℕ) ReadFault) → None ≡ result_err r → result_err (r >>= (λ k. rest >>= (λ s. Ok (k ∷ s)))) ≡ result_err rest
passed (Ok k) rest h = put_on k rest
passed (Err e) rest h = cc

-- an event without a fault leaves that of the others
pub event_passed : (names : KeysymNames) (v : Visit) (events : List (Bor (List ℕ))) (index : ℕ) (d : Bor (List ℕ)) → index < length events
    → None ≡ result_err (event_keysym v index (value names (get_or events index d).now)) → fault_from names v events index ≡ fault_from names v events (index + 1)
event_passed names v events index d l h =
    ap (λ es. result_err (sequence_of names v index es)) (at_event events index d l)
    ∙ passed (event_keysym v index (value names (get_or events index d).now)) (sequence_of names v (1 + index) (drop (index + 1) (map (λ e. e.now) events))) h
    ∙ (let n : 1 + index ≡ index + 1 = omega arith in ap (λ m. result_err (sequence_of names v m (drop (index + 1) (map (λ e. e.now) events)))) n)

-- the fault of an event is that of the events from there on
pub event_faulty : (names : KeysymNames) (v : Visit) (events : List (Bor (List ℕ))) (index : ℕ) (d : Bor (List ℕ)) (fault : ReadFault) → index < length events
    → Some fault ≡ result_err (event_keysym v index (value names (get_or events index d).now)) → Some fault ≡ fault_from names v events index
event_faulty names v events index d fault l h =
    first_fault (event_keysym v index (value names (get_or events index d).now))
    (λ k. sequence_of names v (1 + index) (drop (index + 1) (map (λ e. e.now) events)) >>= (λ s. Ok (k ∷ s))) fault h
    ∙ ap (λ es. result_err (sequence_of names v index es)) (sym (at_event events index d l))

-- after the last event there is no fault
pub events_end : (names : KeysymNames) (v : Visit) (events : List (Bor (List ℕ))) (index : ℕ) → index ≡ length events → fault_from names v events index ≡ None
events_end names v events index h =
    ap (λ es. result_err (sequence_of names v index es)) (drop_of_length-le (map (λ (e : Bor (List ℕ)). e.now) events) (omega (arith, length-map events (λ (e : Bor (List ℕ)). e.now))))
