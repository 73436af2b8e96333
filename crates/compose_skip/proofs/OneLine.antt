-- The fault of a line, given what is read from it.
use Rattle.std.proofs.Common.{◌≡◌, ◌+◌, ℕ, Bool, true, false, List, [], ◌∷◌, length, cond, refl, sym, ◌∙◌, ap, inl, inr}
use Rattle.std.specs.Prelude.{Option, Some, None, Result, Ok, Err}
use Rattle.std.specs.Option.{option_map_or}
use Rattle.std.specs.Result.{result_err}
use Rattle.std.specs.Str.{IsUtf8, is_utf8}
use Rattle.std.proofs.lemmas.Bool.{cases_Bool}
use Rattle.std.proofs.lemmas.Str.{IsUtf8-from_is_utf8, is_utf8-from_IsUtf8}
use Rattle.compose_text.specs.Results.{◌>>=◌}
use Rattle.keysym_core.specs.Keysym.{is_ignored}
use Rattle.keysym_core.specs.Names.{KeysymNames, text, value}
use Rattle.compose_model.specs.Table.{Definition}
use Rattle.compose_lex.specs.Line.{Reading, blank, include, production}
use Rattle.compose_lex.specs.Escape.{text_of}
use Rattle.compose_lex.specs.Fault.{reading_of}
use Rattle.compose_lex.specs.declared.LexFault.{LexFault}
use Rattle.compose_read.specs.Lines.{Visit}
use Rattle.compose_read.specs.Read.{at_line, definition_of, event_keysym, result_text, reading_result, sequence_of, string_text}
use Rattle.compose_read.specs.declared.ReadFault.{ReadFault}
use Rattle.compose_read.specs.declared.ReadFault.TheVariants.{NotUtf8, Lex, UnknownKeysym, IgnoredKeysym}
use Rattle.compose_skip.specs.Faulty.{own, own_fault}

-- ---- a fault of a production is not that of an include

abbrev IsOwn : {X : Type 0} → Result X ReadFault → Type 0
IsOwn r = own (result_err r) ≡ result_err r

own_then : {X Y : Type 0} (r : Result X ReadFault) (next : X → Result Y ReadFault) → IsOwn r → ((x : X) → IsOwn (next x)) → IsOwn (r >>= next)
own_then (Ok x) next h k = k x
own_then (Err e) next h k = h

own_event_if : (v : Visit) (index k : ℕ) (ignored : Bool) → IsOwn (cond ignored (Err (IgnoredKeysym v.source v.line index)) (Ok k))
own_event_if v index k true = refl
own_event_if v index k false = refl

own_event : (v : Visit) (index : ℕ) (found : Option ℕ) → IsOwn (event_keysym v index found)
own_event v index None = refl
own_event v index (Some k) = own_event_if v index k (is_ignored k)

own_sequence : (names : KeysymNames) (v : Visit) (index : ℕ) (events : List (List ℕ)) → IsOwn (sequence_of names v index events)
own_sequence names v index [] = refl
own_sequence names v index (event ∷ events) =
    own_then (event_keysym v index (value names event)) (λ k. sequence_of names v (1 + index) events >>= (λ s. Ok (k ∷ s))) (own_event v index (value names event))
    (λ k. own_then (sequence_of names v (1 + index) events) (λ s. Ok (k ∷ s)) (own_sequence names v (1 + index) events) (λ s. refl))

own_at : (v : Visit) (r : Result (List ℕ) LexFault) → IsOwn (at_line v r)
own_at v (Ok text) = refl
own_at v (Err e) = refl

own_string : (v : Visit) (raw : Option (List ℕ)) → IsOwn (string_text v raw)
own_string v None = refl
own_string v (Some raw) = own_then (at_line v (text_of raw)) (λ text. Ok (Some text)) (own_at v (text_of raw)) (λ text. refl)

own_named : (names : KeysymNames) (v : Visit) (events : ℕ) (found : Option ℕ) → IsOwn (option_map_or (λ k. Ok (text names k)) found (Err (UnknownKeysym v.source v.line events)))
own_named names v events None = refl
own_named names v events (Some k) = refl

own_result : (names : KeysymNames) (v : Visit) (events : ℕ) (name : Option (List ℕ)) → IsOwn (result_text names v events name)
own_result names v events None = refl
own_result names v events (Some name) = own_named names v events (value names name)

own_definition : (names : KeysymNames) (v : Visit) (events : List (List ℕ)) (raw name : Option (List ℕ)) → IsOwn (definition_of names v events raw name)
own_definition names v events raw name =
    own_then (sequence_of names v 0 events) _ (own_sequence names v 0 events) (λ sequence.
    own_then (string_text v raw) _ (own_string v raw) (λ string.
    own_then (result_text names v (length events) name) _ (own_result names v (length events) name) (λ other. refl)))

put_some : (r : Result Definition ReadFault) → IsOwn r → own (result_err (r >>= (λ d. let x : Result (Option Definition) ReadFault = Ok (Some d) in x))) ≡ result_err r
put_some (Ok d) h = refl
put_some (Err e) h = h

-- ---- a line

module _ (names : KeysymNames) (v : Visit) where
  pub not_utf8 : (IsUtf8 v.bytes → ⊥) → Some (NotUtf8 v.source v.line) ≡ own_fault names v
  not_utf8 n = elim (cases_Bool (is_utf8 v.bytes)) [
    | inl h ↦ absurd (n (IsUtf8-from_is_utf8 v.bytes h))
    | inr h ↦ sym (ap (λ b. own (result_err (cond b (at_line v (reading_of v.bytes) >>= reading_result names [] v) (Err (NotUtf8 v.source v.line))))) h)
  ]

  module _ (u : IsUtf8 v.bytes) where
    given : (r : Result Reading LexFault) → reading_of v.bytes ≡ r → own_fault names v ≡ own (result_err (at_line v r >>= reading_result names [] v))
    given r h =
        ap (λ b. own (result_err (cond b (at_line v (reading_of v.bytes) >>= reading_result names [] v) (Err (NotUtf8 v.source v.line))))) (is_utf8-from_IsUtf8 v.bytes u)
        ∙ ap (λ r. own (result_err (at_line v r >>= reading_result names [] v))) h

    pub blank_line : reading_of v.bytes ≡ Ok blank → None ≡ own_fault names v
    blank_line h = sym (given (Ok blank) h)

    pub include_line : (name : List ℕ) → reading_of v.bytes ≡ Ok (include name) → None ≡ own_fault names v
    include_line name h = sym (given (Ok (include name)) h)

    pub faulty_line : (fault : LexFault) → reading_of v.bytes ≡ Err fault → Some (Lex v.source v.line fault) ≡ own_fault names v
    faulty_line fault h = sym (given (Err fault) h)

    pub production_line : (events : List (List ℕ)) (raw name : Option (List ℕ)) (fault : Option ReadFault) → reading_of v.bytes ≡ Ok (production events raw name)
        → fault ≡ result_err (definition_of names v events raw name) → fault ≡ own_fault names v
    production_line events raw name fault h f =
        f ∙ sym (given (Ok (production events raw name)) h ∙ put_some (definition_of names v events raw name) (own_definition names v events raw name))
