-- If the reader finds a fault in the events of a line, no valid line goes on there.
use Rattle.std.proofs.Common.{◌≡◌, ℕ, suc, zero, ◌+◌, ◌-◌, ◌<◌, ◌≤◌, List, [], ◌∷◌, ◌++◌, length, Bool, true, false, cond, refl, sym, ◌∙◌, ap, subst, arith, append_assoc, ◌⊎◌, inl, inr, eqb-true, lt-ltb}
use Rattle.std.specs.Prelude.{◌==◌, Option, Some, None, is_some, Result, Ok, Err, flat_map, codes}
use Rattle.std.specs.List.{list_all}
use Rattle.std.proofs.lemmas.List.{length_push, append-nil}
use Rattle.std.proofs.lemmas.Bool.{and_from}
use Rattle.std.proofs.lemmas.List.Folds.{list_all-append}
use Rattle.compose_text.specs.Results.{◌>>=◌}
use Rattle.compose_text.specs.Bytes.{is_name_byte, leading, behind, begins}
use Rattle.compose_lex.specs.Line.{production, is_name, is_comment, event_tokens}
use Rattle.compose_lex.specs.Fault.{skip_blanks, byte_at, name_at, closed_or, end_at, event_at, event_fault, colon_or, events_at}
use Rattle.compose_lex.specs.LineFault.{AreFirst, IsLineFault}
use Rattle.compose_lex.specs.declared.LexFault.{LexFault}
use Rattle.compose_lex.specs.declared.LexFault.TheVariants.{BadToken, TooManyKeysyms}
use Rattle.compose_lex.proofs.IncludeWord.{after_stops}
use Rattle.compose_lex.proofs.LineSound.{bind_with, ok_pair, chosen, byte_sound, name_sound, colon_sound}
use Rattle.compose_lex.proofs.Productions.{RightProduction, right_from}
use Rattle.compose_lex.proofs.Stages.{between, opened, named, colon, goes, name_steps, no_token_at}
use Rattle.compose_lex.proofs.LineStops.{Reached, reached_more, whole_before, opened_right, named_right, whole_event, events_right, stops, unlike, no_event}

-- ---- the cause of an Err

-- if two steps one after the other fail, the first one failed, or it returned the value with which
-- the second one failed
pub bind_fails : {A B P : Type 0} (r : Result A LexFault) (f : A → Result B LexFault) (y : LexFault) → (r >>= f) ≡ Err y → (r ≡ Err y → P) → ((x : A) → r ≡ Ok x → f x ≡ Err y → P) → P
bind_fails (Ok x) f y e first then = then x refl e
bind_fails {A} (Err e) f y h first then = let q : e ≡ y = cc in first (ap (λ x. let r : Result A LexFault = Err x in r) q)

-- a name is missing if there is no byte of a name, and the fault has that offset
pub name_fails : (n : ℕ) (bytes : List ℕ) (f : LexFault) → name_at n bytes ≡ Err f → (begins is_name_byte bytes ≡ false) × (BadToken (n - length bytes) ≡ f)
name_fails n bytes f e =
    elim (chosen {A = Result (List ℕ × List ℕ) LexFault} (begins is_name_byte bytes) (Ok (leading is_name_byte bytes, behind is_name_byte bytes)) (Err (BadToken (n - length bytes))) (Err f) e) [
      | inl x ↦ (let w = x.1 in cc)
      | inr x ↦ (x.0, (let w = x.1 in cc))
    ]

-- a byte is missing if there is another one, or none, and the fault has that offset
pub byte_fails : (n wanted : ℕ) (bytes : List ℕ) (f : LexFault) → byte_at n wanted bytes ≡ Err f → (begins (λ b. b == wanted) bytes ≡ false) × (BadToken (n - length bytes) ≡ f)
byte_fails n wanted [] f e = let whole : n - 0 ≡ n = omega arith in (refl, ap BadToken whole ∙ cc)
byte_fails n wanted (b ∷ bytes) f e = elim (chosen {A = Result (List ℕ) LexFault} (b == wanted) (Ok bytes) (Err (BadToken (n - length (b ∷ bytes)))) (Err f) e) [
  | inl x ↦ (let w = x.1 in cc)
  | inr x ↦ (x.0, (let w = x.1 in cc))
]

-- the end is missing if there is something other than a comment, and the fault has that offset
pub end_fails : (n : ℕ) (bytes : List ℕ) (f : LexFault) → end_at n bytes ≡ Err f → (is_comment bytes ≡ false) × (BadToken (n - length bytes) ≡ f)
end_fails n [] f e = cc
end_fails n (b ∷ bytes) f e = elim (chosen {A = Result (Unit {0}) LexFault} (b == 35) (Ok tt) (Err (BadToken (n - length (b ∷ bytes)))) (Err f) e) [
  | inl x ↦ (let w = x.1 in cc)
  | inr x ↦ (x.0, (let w = x.1 in cc))
]

-- if a missing value becomes a fault, it is the given one
pub closed_fails : {A : Type 0} (fault : LexFault) (o : Option A) (f : LexFault) → closed_or fault o ≡ Err f → (o ≡ None) × (fault ≡ f)
closed_fails fault None f e = (refl, cc)
closed_fails fault (Some x) f e = cc

colon_fails : (n : ℕ) (bytes : List ℕ) (event : List ℕ → Result (List (List ℕ) × List ℕ) LexFault) (f : LexFault) → colon_or n bytes event ≡ Err f
    → ((begins (λ b. b == 58) bytes ≡ false) × (begins (λ b. b == 60) bytes ≡ false) × (event_fault n bytes ≡ f)) ⊎ ((rest : List ℕ) × (bytes ≡ 60 ∷ rest) × (event rest ≡ Err f))
colon_fails n [] event f e = let whole : n - 0 ≡ n = omega arith in inl (refl, refl, ap BadToken whole ∙ cc)
colon_fails n (b ∷ bytes) event f e = go (b == 58) refl (b == 60) refl e
  where
    go : (x : Bool) → (b == 58) ≡ x → (y : Bool) → (b == 60) ≡ y → cond x (Ok ([], bytes)) (cond y (event bytes) (Err (event_fault n (b ∷ bytes)))) ≡ Err f
        → (((b == 58) ≡ false) × ((b == 60) ≡ false) × (event_fault n (b ∷ bytes) ≡ f)) ⊎ ((rest : List ℕ) × (b ∷ bytes ≡ 60 ∷ rest) × (event rest ≡ Err f))
    go true h y i e = cc
    go false h true i e = inr (bytes, ap (λ t. t ∷ bytes) (eqb-true b 60 i), e)
    go false h false i e = inl (h, i, cc)

-- no byte of a name follows a name that is read
pub name_whole : (n : ℕ) (bytes name rest : List ℕ) → name_at n bytes ≡ Ok (name, rest) → begins is_name_byte rest ≡ false
name_whole n bytes name rest e =
    elim
    (chosen {A = Result (List ℕ × List ℕ) LexFault} (begins is_name_byte bytes) (Ok (leading is_name_byte bytes, behind is_name_byte bytes)) (Err (BadToken (n - length bytes)))
    (Ok (name, rest)) e) [
      | inl x ↦ ap (begins is_name_byte) (sym (ok_pair (leading is_name_byte bytes) name (behind is_name_byte bytes) rest x.1).1) ∙ after_stops is_name_byte bytes
      | inr x ↦ (let w = x.1 in cc)
    ]

-- if the rest does not begin with a byte of one class, it does not begin with one of a narrower
-- class
pub may_not : (p q : ℕ → Bool) (rest : List ℕ) → ((b : ℕ) → p b ≡ false → q b ≡ false) → begins p rest ≡ false → begins q rest ≡ false
may_not p q [] f h = refl
may_not p q (b ∷ rest) f h = f b h

-- ---- events

abbrev opened_tokens : List (List ℕ) → List (List ℕ)
opened_tokens events = flat_map event_tokens events ++ (60 ∷ []) ∷ []

-- this number of further events may follow
pub record Events (line : List ℕ) (events : List (List ℕ)) (left : ℕ) (rest : List ℕ) : Type 0 where
  pub some : 0 < length events
  pub count : length events + left ≡ 32
  pub names : list_all is_name events ≡ true
  pub reached : Reached line (flat_map event_tokens events) (skip_blanks rest) (between (length events))

not_named : (line : List ℕ) (done : List (List ℕ)) (rest : List ℕ) (k : ℕ) → Reached line done rest (opened k) → begins is_name_byte rest ≡ false
    → IsLineFault line (BadToken (length line - length rest))
not_named line done rest k r none = unlike line done rest (opened k) r (may_not is_name_byte (λ b. is_some (goes (opened k) b)) rest (λ b h. rw h refl) none) (λ e. cc) refl

not_closed : (line : List ℕ) (done : List (List ℕ)) (rest : List ℕ) (k : ℕ) → Reached line done rest (named k) → begins (λ b. b == 62) rest ≡ false
    → IsLineFault line (BadToken (length line - length rest))
not_closed line done rest k r none = unlike line done rest (named k) r (may_not (λ b. b == 62) (λ b. is_some (goes (named k) b)) rest (λ b h. rw h refl) none) (λ e. cc) refl

name_reached : (line : List ℕ) (events : List (List ℕ)) (bytes : List ℕ) (x : List ℕ × List ℕ) → length events < 32 → list_all is_name events ≡ true
    → Reached line (opened_tokens events) bytes (opened (length events))
    → name_at (length line) bytes ≡ Ok x → Reached line (opened_tokens events ++ x.0 ∷ []) (skip_blanks x.1) (named (length events)) × (is_name x.0 ≡ true)
name_reached line events bytes x few names r e =
    let k = length events in
    let s = name_sound (length line) bytes x.0 x.1 e in (
      reached_more line (opened_tokens events) bytes (opened k) (named k) x.0 x.1 r s.0 (whole_before x.0 x.1 (name_whole (length line) bytes x.0 x.1 e)) (name_steps x.0 k s.1)
          (named_right events x.0 few names s.1),
      s.1,
    )

close_reached : (line : List ℕ) (events : List (List ℕ)) (name bytes rest : List ℕ) (left : ℕ) → length events + suc left ≡ 32 → list_all is_name events ≡ true → is_name name ≡ true
    → Reached line (opened_tokens events ++ name ∷ []) bytes (named (length events)) → bytes ≡ 62 ∷ rest → Events line (events ++ name ∷ []) left rest
close_reached line events name bytes rest left count names is r here =
    let k = length events in
    let few : k < 32 = omega (arith, count) in
    let long : length (events ++ name ∷ []) ≡ k + 1 = length_push events name in
    let next : suc k ≡ length (events ++ name ∷ []) = omega (arith, long) in
    record {
      some = omega (arith, long);
      count = omega (arith, long, count);
      names = list_all-append is_name events (name ∷ []) ∙ and_from (list_all is_name events) (list_all is_name (name ∷ [])) names (and_from (is_name name) true is refl);
      reached = subst (λ n. Reached line (flat_map event_tokens (events ++ name ∷ [])) (skip_blanks rest) (between n)) next
          (subst (λ ts. Reached line ts (skip_blanks rest) (between (suc k))) (whole_event events name)
          (reached_more line (opened_tokens events ++ name ∷ []) bytes (named k) (between (suc k)) (62 ∷ []) rest r here refl refl
          (subst AreFirst (sym (whole_event events name)) (events_right events name few names is))));
    }

-- an event that is read after `<` comes after those that were read before
pub event_reached : (line : List ℕ) (events : List (List ℕ)) (rest : List ℕ) (x : List ℕ × List ℕ) (left : ℕ) → length events + suc left ≡ 32 → list_all is_name events ≡ true
    → Reached line (opened_tokens events) (skip_blanks rest) (opened (length events)) → event_at (length line) rest ≡ Ok x → Events line (events ++ x.0 ∷ []) left x.1
event_reached line events rest x left count names r e =
    let n = length line in
    bind_with (name_at n (skip_blanks rest)) (λ y. byte_at n 62 (skip_blanks y.1) >>= λ r. Ok (y.0, r)) x e (λ y named e.
    bind_with (byte_at n 62 (skip_blanks y.1)) (λ r. Ok (y.0, r)) x e (λ more closed e.
    let q : ◌≡◌ {A = List ℕ × List ℕ} (y.0, more) x = cc in
    let s = name_reached line events (skip_blanks rest) y (omega (arith, count)) names r named in
    subst (λ (z : List ℕ × List ℕ). Events line (events ++ z.0 ∷ []) left z.1) q
    (close_reached line events y.0 (skip_blanks y.1) more left count names s.1 s.0 (byte_sound n 62 (skip_blanks y.1) more closed))))

-- if an event after `<` is faulty, the line has that fault
pub event_broken : (line : List ℕ) (events : List (List ℕ)) (rest : List ℕ) (f : LexFault) → length events < 32 → list_all is_name events ≡ true
    → Reached line (opened_tokens events) (skip_blanks rest) (opened (length events))
    → event_at (length line) rest ≡ Err f → IsLineFault line f
event_broken line events rest f few names r e =
    let n = length line in
    bind_fails (name_at n (skip_blanks rest)) (λ y. byte_at n 62 (skip_blanks y.1) >>= λ r. Ok (y.0, r)) f e
    (λ e. let b = name_fails n (skip_blanks rest) f e in subst (IsLineFault line) b.1 (not_named line (opened_tokens events) (skip_blanks rest) (length events) r b.0))
    (λ y named e.
    bind_fails (byte_at n 62 (skip_blanks y.1)) (λ r. Ok (y.0, r)) f e
    (λ e.
    let b = byte_fails n 62 (skip_blanks y.1) f e in
    let s = name_reached line events (skip_blanks rest) y few names r named in
    subst (IsLineFault line) b.1 (not_closed line (opened_tokens events ++ y.0 ∷ []) (skip_blanks y.1) (length events) s.0 b.0))
    (λ more closed e. cc))

open_reached : (line : List ℕ) (events : List (List ℕ)) (left : ℕ) (rest behind : List ℕ) → Events line events (suc left) rest → skip_blanks rest ≡ 60 ∷ behind
    → Reached line (opened_tokens events) (skip_blanks behind) (opened (length events))
open_reached line events left rest behind s here =
    let k = length events in
    let few : k < 32 = let c = s.count in omega (arith, c) in
    let room = lt-ltb k 32 few in
    reached_more line (flat_map event_tokens events) (skip_blanks rest) (between k) (opened k) (60 ∷ []) behind s.reached here refl (rw room refl) (opened_right events few s.names)

-- neither the colon nor a further event
no_colon : (line : List ℕ) (events : List (List ℕ)) (left : ℕ) (rest : List ℕ) → Events line events left rest → begins (λ b. b == 58) (skip_blanks rest) ≡ false
    → begins (λ b. b == 60) (skip_blanks rest) ≡ false
    → IsLineFault line (event_fault (length line) (skip_blanks rest))
no_colon line events left rest s other less =
    let k = length events in
    no_event line events (skip_blanks rest) (between k) s.reached (no_token_at (flat_map event_tokens events) (skip_blanks rest) (between k) s.reached.walked (neither k (skip_blanks rest) other less))
    (λ e. cc) less refl
  where
    neither : (k : ℕ) (rest : List ℕ) → begins (λ b. b == 58) rest ≡ false → begins (λ b. b == 60) rest ≡ false → begins (λ b. is_some (goes (between k) b)) rest ≡ false
    neither k [] c l = refl
    neither k (b ∷ rest) c l = rw (c, l) refl

too_many : (line : List ℕ) (events : List (List ℕ)) (rest behind : List ℕ) → Events line events 0 rest → skip_blanks rest ≡ 60 ∷ behind → IsLineFault line TooManyKeysyms
too_many line events rest behind s here =
    let k = length events in
    let done = flat_map event_tokens events in
    let all : k ≡ 32 = let c = s.count in omega (arith, c) in
    let full : begins (λ b. is_some (goes (between k) b)) (skip_blanks rest) ≡ false = ap (begins (λ b. is_some (goes (between k) b))) here ∙ ap (λ n. is_some (goes (between n) 60)) all in
    record {
      at = length line - length (skip_blanks rest);
      done = done;
      rest = skip_blanks rest;
      stops = stops line done (skip_blanks rest) (between k) s.reached (no_token_at done (skip_blanks rest) (between k) s.reached.walked full) (λ e. cc);
      is = (events, refl, all, ap (begins (λ b. b == 60)) here);
    }

-- if events after others are faulty, the line has that fault
pub events_broken : (line : List ℕ) (left : ℕ) (events : List (List ℕ)) (rest : List ℕ) (f : LexFault) → Events line events left rest → events_at (length line) left rest ≡ Err f → IsLineFault line f
unfolding events_at
events_broken line zero events rest f s e = elim (colon_fails (length line) (skip_blanks rest) (λ _. Err TooManyKeysyms) f e) [
  | inl x ↦ subst (IsLineFault line) x.2 (no_colon line events zero rest s x.0 x.1)
  | inr x ↦ (let fault = x.2 in let is : TooManyKeysyms ≡ f = cc in subst (IsLineFault line) is (too_many line events rest x.0 s x.1))
]
events_broken line (suc left) events rest f s e =
    let n = length line in
    elim (colon_fails n (skip_blanks rest) (λ r. event_at n r >>= λ event. events_at n left event.1 >>= λ more. Ok (event.0 ∷ more.0, more.1)) f e) [
      | inl x ↦ subst (IsLineFault line) x.2 (no_colon line events (suc left) rest s x.0 x.1)
      | inr x ↦
          bind_fails (event_at n x.0) (λ event. events_at n left event.1 >>= λ more. Ok (event.0 ∷ more.0, more.1)) f x.2
          (λ e. event_broken line events x.0 f (let c = s.count in omega (arith, c)) s.names (open_reached line events left rest x.0 s x.1) e)
          (λ event is e.
          bind_fails (events_at n left event.1) (λ more. Ok (event.0 ∷ more.0, more.1)) f e
          (λ e. events_broken line left (events ++ event.0 ∷ []) event.1 f (event_reached line events x.0 event left s.count s.names (open_reached line events left rest x.0 s x.1) is) e)
          (λ more on e. cc))
    ]

-- ---- the colon

-- 1 to 32 events of the line and the colon are read up to this rest
pub record Colon (line : List ℕ) (events : List (List ℕ)) (rest : List ℕ) : Type 0 where
  pub some : 0 < length events
  pub few : length events ≤ 32
  pub names : list_all is_name events ≡ true
  pub reached : Reached line (flat_map event_tokens events ++ (58 ∷ []) ∷ []) (skip_blanks rest) colon

colon_reached : (line : List ℕ) (events : List (List ℕ)) (left : ℕ) (rest behind : List ℕ) → Events line events left rest → skip_blanks rest ≡ 58 ∷ behind → Colon line events behind
colon_reached line events left rest behind s here =
    let done = flat_map event_tokens events in
    let few : length events ≤ 32 = let c = s.count in omega (arith, c) in
    let right : RightProduction events None (Some (codes "a")) = record { some = s.some; few = few; names = s.names; closed = refl; named = refl; result = refl } in
    record {
      some = s.some;
      few = few;
      names = s.names;
      reached = reached_more line done (skip_blanks rest) (between (length events)) colon (58 ∷ []) behind s.reached here refl refl
          (production events None (Some (codes "a")), codes "a" ∷ [], right_from events None (Some (codes "a")) right, sym (append_assoc done ((58 ∷ []) ∷ []) (codes "a" ∷ [])));
    }

last_event : (line : List ℕ) (events : List (List ℕ)) (left : ℕ) (rest : List ℕ) (x : List (List ℕ) × List ℕ) → Events line events left rest
    → (behind : List ℕ) × (skip_blanks rest ≡ 58 ∷ behind) × (x ≡ ([], behind)) → Colon line (events ++ x.0) x.1
last_event line events left rest x s c =
    subst (λ (y : List (List ℕ) × List ℕ). Colon line (events ++ y.0) y.1) (sym c.2) (subst (λ es. Colon line es c.0) (sym (append-nil events)) (colon_reached line events left rest c.0 s c.1))

-- events that are read after others lead to the rest after the colon
pub events_reached : (line : List ℕ) (left : ℕ) (events : List (List ℕ)) (rest : List ℕ) (x : List (List ℕ) × List ℕ) → Events line events left rest → events_at (length line) left rest ≡ Ok x
    → Colon line (events ++ x.0) x.1
unfolding events_at
events_reached line zero events rest x s e = elim (colon_sound (length line) (skip_blanks rest) (λ _. Err TooManyKeysyms) x e) [
  | inl c ↦ last_event line events zero rest x s c
  | inr c ↦ (let w = c.2 in cc)
]
events_reached line (suc left) events rest x s e =
    let n = length line in
    elim (colon_sound n (skip_blanks rest) (λ r. event_at n r >>= λ event. events_at n left event.1 >>= λ more. Ok (event.0 ∷ more.0, more.1)) x e) [
      | inl c ↦ last_event line events (suc left) rest x s c
      | inr c ↦
          bind_with (event_at n c.0) (λ event. events_at n left event.1 >>= λ more. Ok (event.0 ∷ more.0, more.1)) x c.2 (λ event is e.
          bind_with (events_at n left event.1) (λ more. Ok (event.0 ∷ more.0, more.1)) x e (λ more on e.
          let q : ◌≡◌ {A = List (List ℕ) × List ℕ} (event.0 ∷ more.0, more.1) x = cc in
          let later = events_reached line left (events ++ event.0 ∷ []) event.1 more (event_reached line events c.0 event left s.count s.names (open_reached line events left rest c.0 s c.1) is) on in
          subst (λ (y : List (List ℕ) × List ℕ). Colon line (events ++ y.0) y.1) q (subst (λ es. Colon line es more.1) (append_assoc events (event.0 ∷ []) more.0) later)))
    ]
