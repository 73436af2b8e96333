-- The events of a production, one after another.
use Rattle.std.proofs.Common.{◌≡◌, ℕ, suc, ◌+◌, ◌<◌, List, [], ◌∷◌, ◌++◌, true, length, map, drop, get_or, Bor, refl, sym, ◌∙◌, ap, ap₂, append_assoc, drop-cons, arith}
use Rattle.std.proofs.Math.ListN.{drop_of_length-le}
use Rattle.std.proofs.lemmas.List.{get_or-map, length-map, append-nil}
use Rattle.std.specs.Prelude.{Result, Ok, Err}
use Rattle.compose_text.specs.Results.{◌>>=◌}
use Rattle.keysym_core.specs.Names.{KeysymNames, value}
use Rattle.compose_read.specs.Lines.{Visit}
use Rattle.compose_read.specs.Read.{event_keysym, sequence_of}
use Rattle.std.specs.List.{list_all}
use Rattle.std.proofs.lemmas.Bool.{and_parts, and_from}
use Rattle.compose_read.specs.Sequence.{is_fed, AreFed}
use Rattle.compose_read.specs.declared.ReadFault.{ReadFault}

-- these keysyms before those that are read
abbrev pub put_prefix : List ℕ → Result (List ℕ) ReadFault → Result (List ℕ) ReadFault
put_prefix ks (Ok more) = Ok (ks ++ more)
put_prefix ks (Err e) = Err e

-- the keysyms of the events from this index on, after these
abbrev pub sequence_after : KeysymNames → Visit → List (Bor (List ℕ)) → List ℕ → ℕ → Result (List ℕ) ReadFault
sequence_after names v events ks index = put_prefix ks (sequence_of names v index (drop index (map (λ e. e.now) events)))

put_one : (ks : List ℕ) (k : ℕ) (r : Result (List ℕ) ReadFault) → put_prefix ks (r >>= (λ s. Ok (k ∷ s))) ≡ put_prefix (ks ++ k ∷ []) r
put_one ks k (Ok s) = ap Ok (sym (append_assoc ks (k ∷ []) s))
put_one ks k (Err e) = refl

at_event : (events : List (Bor (List ℕ))) (index : ℕ) (d : Bor (List ℕ)) → index < length events
    → drop index (map (λ e. e.now) events) ≡ (get_or events index d).now ∷ drop (index + 1) (map (λ e. e.now) events)
at_event events index d l =
    let next : suc index ≡ index + 1 = omega arith in
    drop-cons (map (λ (e : Bor (List ℕ)). e.now) events) index [] (l_mapped events l)
    ∙ ap₂ (λ n m. n ∷ drop m (map (λ (e : Bor (List ℕ)). e.now) events)) (get_or-map (λ (e : Bor (List ℕ)). e.now) events index d [] l) next
  where
    l_mapped : (xs : List (Bor (List ℕ))) → index < length xs → index < length (map (λ (e : Bor (List ℕ)). e.now) xs)
    l_mapped xs l = omega (arith, length-map xs (λ (e : Bor (List ℕ)). e.now))

-- the keysym of an event is put after the others
pub event_taken : (names : KeysymNames) (v : Visit) (events : List (Bor (List ℕ))) (ks : List ℕ) (index : ℕ) (d : Bor (List ℕ)) (k : ℕ) → index < length events
    → event_keysym v index (value names (get_or events index d).now) ≡ Ok k
    → sequence_after names v events ks index ≡ sequence_after names v events (ks ++ k ∷ []) (index + 1)
event_taken names v events ks index d k l f =
    ap (λ es. put_prefix ks (sequence_of names v index es)) (at_event events index d l)
    ∙ ap (λ r. put_prefix ks (r >>= (λ k. sequence_of names v (1 + index) (drop (index + 1) (map (λ e. e.now) events)) >>= (λ s. Ok (k ∷ s))))) f
    ∙ put_one ks k (sequence_of names v (1 + index) (drop (index + 1) (map (λ e. e.now) events)))
    ∙ (let n : 1 + index ≡ index + 1 = omega arith in ap (λ m. put_prefix (ks ++ k ∷ []) (sequence_of names v m (drop (index + 1) (map (λ e. e.now) events)))) n)

-- an event without a keysym is the fault
pub event_refused : (names : KeysymNames) (v : Visit) (events : List (Bor (List ℕ))) (ks : List ℕ) (index : ℕ) (d : Bor (List ℕ)) (fault : ReadFault) → index < length events
    → event_keysym v index (value names (get_or events index d).now) ≡ Err fault
    → sequence_after names v events ks index ≡ Err fault
event_refused names v events ks index d fault l f =
    ap (λ es. put_prefix ks (sequence_of names v index es)) (at_event events index d l)
    ∙ ap (λ r. put_prefix ks (r >>= (λ k. sequence_of names v (1 + index) (drop (index + 1) (map (λ e. e.now) events)) >>= (λ s. Ok (k ∷ s))))) f

-- after the last event nothing is left
pub events_end : (names : KeysymNames) (v : Visit) (events : List (Bor (List ℕ))) (ks : List ℕ) (index : ℕ) → index ≡ length events → sequence_after names v events ks index ≡ Ok ks
events_end names v events ks index h =
    ap (λ es. put_prefix ks (sequence_of names v index es)) (drop_of_length-le (map (λ (e : Bor (List ℕ)). e.now) events) (omega (arith, length-map events (λ (e : Bor (List ℕ)). e.now))))
    ∙ ap Ok (append-nil ks)

-- and nothing is before the first
pub events_all : (names : KeysymNames) (v : Visit) (events : List (Bor (List ℕ))) → sequence_after names v events [] 0 ≡ sequence_of names v 0 (map (λ e. e.now) events)
events_all names v events = none_before (sequence_of names v 0 (map (λ e. e.now) events))
  where
    none_before : (r : Result (List ℕ) ReadFault) → put_prefix [] r ≡ r
    none_before (Ok s) = refl
    none_before (Err e) = refl

-- keysyms of which none is ignored, and one more that is not ignored
pub fed_push : (ks : List ℕ) (k : ℕ) → AreFed ks → is_fed k ≡ true → AreFed (ks ++ k ∷ [])
fed_push [] k a h = and_from (is_fed k) true h refl
fed_push (j ∷ ks) k a h = let parts = and_parts (is_fed j) (list_all is_fed ks) a in and_from (is_fed j) (list_all is_fed (ks ++ k ∷ [])) parts.0 (fed_push ks k parts.1 h)
