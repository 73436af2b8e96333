-- How many tokens of a valid reading were read, and the first bytes that the next token may have.
use Rattle.std.proofs.Common.{◌≡◌, ℕ, suc, zero, ◌+◌, ◌<◌, ◌≤◌, List, [], ◌∷◌, ◌++◌, length, Bool, true, false, cond, ◌&&◌, ◌||◌, refl, sym, ◌∙◌, ap, arith, lt-ltb}
use Rattle.std.specs.Prelude.{◌==◌, Option, Some, None, is_some, flat_map, nat_lt}
use Rattle.std.specs.Option.{option_map_or}
use Rattle.std.specs.List.{list_all}
use Rattle.std.proofs.lemmas.Bool.{and_parts}
use Rattle.compose_text.specs.Bytes.{is_name_byte, begins}
use Rattle.compose_lex.specs.Line.{Reading, blank, include, production, is_name, event_tokens, result_tokens, tokens, is_reading}
use Rattle.compose_lex.specs.LineFault.{AreFirst, AreAll, GoesOn}
use Rattle.compose_lex.proofs.Runs.{name_differs}
use Rattle.compose_lex.proofs.Productions.{right_parts}

-- after: nothing; the word `include`; a number of events, the first `<` of a further one, or its
-- name; the colon; a string; the last token
pub data Stage : Type 0 where
  start : Stage
  word : Stage
  between : ℕ → Stage
  opened : ℕ → Stage
  named : ℕ → Stage
  colon : Stage
  text : Stage
  ended : Stage

-- the stage after the token that begins with this byte, if one may begin there
abbrev pub goes : Stage → ℕ → Option Stage
goes start b = cond (b == 60) (Some (opened 0)) (cond (b == 105) (Some word) None)
goes word b = cond (b == 34) (Some ended) None
goes (between k) b = cond (b == 58) (Some colon) (cond (b == 60 && nat_lt k 32) (Some (opened k)) None)
goes (opened k) b = cond (is_name_byte b) (Some (named k)) None
goes (named k) b = cond (b == 62) (Some (between (suc k))) None
goes colon b = cond (b == 34) (Some text) (cond (is_name_byte b) (Some ended) None)
goes text b = cond (is_name_byte b) (Some ended) None
goes ended b = None

-- the stage after the token, if it may come there
abbrev pub step : Stage → List ℕ → Option Stage
step s [] = None
step s (b ∷ t) = goes s b

-- from the stage, if there is one
abbrev pub on : Option Stage → (Stage → Option Stage) → Option Stage
on None f = None
on (Some s) f = f s

-- the stage after these tokens, if each may come where it is
abbrev pub walk : Stage → List (List ℕ) → Option Stage
walk s [] = Some s
walk s (t ∷ ts) = on (step s t) (λ m. walk m ts)

-- a valid reading may end there
abbrev pub is_end : Stage → Bool
is_end start = true
is_end text = true
is_end ended = true
is_end word = false
is_end (between k) = false
is_end (opened k) = false
is_end (named k) = false
is_end colon = false

-- an event, or one too many, may begin there
abbrev pub is_between : Stage → Bool
is_between start = true
is_between (between k) = true
is_between text = false
is_between ended = false
is_between word = false
is_between (opened k) = false
is_between (named k) = false
is_between colon = false

-- the colon was the last token
abbrev pub is_colon : Stage → Bool
is_colon colon = true
is_colon start = false
is_colon (between k) = false
is_colon text = false
is_colon ended = false
is_colon word = false
is_colon (opened k) = false
is_colon (named k) = false

-- the stage after this number of events
abbrev pub after_events : ℕ → Stage
after_events zero = start
after_events (suc k) = between (suc k)

-- a walk over two lists of tokens is one over the second from where the first ends
pub walk_append : (s : Stage) (ts us : List (List ℕ)) → walk s (ts ++ us) ≡ on (walk s ts) (λ m. walk m us)
walk_append s [] us = refl
walk_append s (t ∷ ts) us = go (step s t) (λ m. walk_append m ts us)
  where
    go : (o : Option Stage) → ((m : Stage) → walk m (ts ++ us) ≡ on (walk m ts) (λ m. walk m us)) → on o (λ m. walk m (ts ++ us)) ≡ on (on o (λ m. walk m ts)) (λ m. walk m us)
    go None h = refl
    go (Some m) h = h m

-- ---- the walk of a valid reading

-- after `<` a name leads to the stage at which `>` must follow
pub name_steps : (name : List ℕ) (k : ℕ) → is_name name ≡ true → step (opened k) name ≡ Some (named k)
name_steps [] k h = cc
name_steps (b ∷ name) k h =
    let all = (and_parts (nat_lt 0 (length (b ∷ name))) (list_all is_name_byte (b ∷ name)) h).1 in
    let byte = (and_parts (is_name_byte b) (list_all is_name_byte name) all).0 in
    rw byte refl

-- a name is the last token if each byte of a name begins the last one
pub name_ends : (name : List ℕ) (s : Stage) → ((b : ℕ) → is_name_byte b ≡ true → goes s b ≡ Some ended) → is_name name ≡ true → step s name ≡ Some ended
name_ends [] s f h = cc
name_ends (b ∷ name) s f h =
    let all = (and_parts (nat_lt 0 (length (b ∷ name))) (list_all is_name_byte (b ∷ name)) h).1 in
    f b (and_parts (is_name_byte b) (list_all is_name_byte name) all).0

-- after a string a byte of a name begins the last token
pub past_text : (b : ℕ) → is_name_byte b ≡ true → goes text b ≡ Some ended
past_text b h = rw h refl

-- after the colon a byte of a name begins the last token
pub colon_passed : (b : ℕ) → is_name_byte b ≡ true → goes colon b ≡ Some ended
colon_passed b h = let other = name_differs b 34 refl h in rw (other, h) refl

event_opens : (k : ℕ) → k < 32 → goes (after_events k) 60 ≡ Some (opened k)
event_opens zero l = refl
event_opens (suc k) l = let few = lt-ltb (suc k) 32 l in rw few refl

-- a walk over events goes on from the stage after that many more
pub events_walk : (k : ℕ) (events ts : List (List ℕ)) → k + length events ≤ 32 → list_all is_name events ≡ true
    → walk (after_events k) (flat_map event_tokens events ++ ts) ≡ walk (after_events (k + length events)) ts
events_walk k [] ts l h = let same : k ≡ k + 0 = omega arith in ap (λ n. walk (after_events n) ts) same
events_walk k (e ∷ es) ts l h =
    let parts = and_parts (is_name e) (list_all is_name es) h in
    let same : suc k + length es ≡ k + length (e ∷ es) = omega arith in
    let rest = flat_map event_tokens es ++ ts in
    ap (λ o. on o (λ m. walk m (e ∷ (62 ∷ []) ∷ rest))) (event_opens k (omega (arith, l)))
    ∙ ap (λ o. on o (λ m. walk m ((62 ∷ []) ∷ rest))) (name_steps e k parts.0)
    ∙ events_walk (suc k) es ts (omega (arith, l)) parts.1
    ∙ ap (λ n. walk (after_events n) ts) same

-- the stage after the first tokens of a production
pub events_stage : (events ts : List (List ℕ)) → length events ≤ 32 → list_all is_name events ≡ true → walk start (flat_map event_tokens events ++ ts) ≡ walk (after_events (length events)) ts
events_stage events ts l h = let same : 0 + length events ≡ length events = omega arith in events_walk 0 events ts (omega (arith, l)) h ∙ ap (λ n. walk (after_events n) ts) same

-- these tokens lead from the beginning to a stage at which a reading may end
pub record Walked (ts : List (List ℕ)) : Type 0 where
  pub last : Stage
  pub walked : walk start ts ≡ Some last
  pub ends : is_end last ≡ true

result_walk : (raw name : Option (List ℕ)) → option_map_or is_name name true ≡ true → is_some raw || is_some name ≡ true
    → (last : Stage) × (walk colon (result_tokens raw name) ≡ Some last) × (is_end last ≡ true)
result_walk None None n s = cc
result_walk None (Some name) n s = (ended, ap (λ o. on o (λ m. walk m [])) (name_ends name colon colon_passed n), refl)
result_walk (Some raw) None n s = (text, refl, refl)
result_walk (Some raw) (Some name) n s = (ended, ap (λ o. on o (λ m. walk m [])) (name_ends name text past_text n), refl)

some_events : (n : ℕ) → 0 < n → goes (after_events n) 58 ≡ Some colon
some_events zero l = absurd (omega (arith, l))
some_events (suc n) l = refl

-- the tokens of a valid reading lead to a stage at which it may end
pub right_walk : (r : Reading) → is_reading r ≡ true → Walked (tokens r)
right_walk blank h = record { last = start; walked = refl; ends = refl }
right_walk (include raw) h = record { last = ended; walked = refl; ends = refl }
right_walk (production events raw name) h =
    let p = right_parts events raw name h in
    let result = result_walk raw name p.named p.result in
    record {
      last = result.0;
      walked = events_stage events ((58 ∷ []) ∷ result_tokens raw name) p.few p.names ∙ ap (λ o. on o (λ m. walk m (result_tokens raw name))) (some_events (length events) p.some) ∙ result.1;
      ends = result.2;
    }

-- ---- what may follow

-- a token that follows these in some valid reading may follow at their stage
pub first_steps : (done : List (List ℕ)) (t : List ℕ) (s : Stage) → walk start done ≡ Some s → AreFirst (done ++ t ∷ []) → is_some (step s t) ≡ true
first_steps done t s at f = go (step s t) refl
  where
    go : (o : Option Stage) → step s t ≡ o → is_some o ≡ true
    go (Some m) e = refl
    go None e =
        let w = right_walk f.0 f.2 in
        let stuck : walk start (done ++ t ∷ []) ≡ None = walk_append start done (t ∷ []) ∙ ap (λ o. on o (λ m. walk m (t ∷ []))) at ∙ ap (λ o. on o (λ m. walk m [])) e in
        let none : walk start (tokens f.0) ≡ None = ap (walk start) f.3 ∙ walk_append start (done ++ t ∷ []) f.1 ∙ ap (λ o. on o (λ m. walk m f.1)) stuck in
        let some = w.walked in
        cc

-- at the stage after all tokens of a valid reading, a reading may end
pub all_ends : (done : List (List ℕ)) (s : Stage) → walk start done ≡ Some s → AreAll done → is_end s ≡ true
all_ends done s at a =
    let w = right_walk a.0 a.1 in
    let same : Some w.last ≡ Some s = sym w.walked ∙ ap (walk start) a.2 ∙ at in
    let is : w.last ≡ s = cc in
    ap is_end (sym is) ∙ w.ends

step_may : (s : Stage) (t more : List ℕ) → is_some (step s t) ≡ true → begins (λ b. is_some (goes s b)) (t ++ more) ≡ true
step_may s [] more h = cc
step_may s (b ∷ t) more h = h

-- if the rest does not begin with a byte that may begin a token at the stage, no valid reading goes
-- on
pub no_token_at : (done : List (List ℕ)) (rest : List ℕ) (s : Stage) → walk start done ≡ Some s → begins (λ b. is_some (goes s b)) rest ≡ false → GoesOn done rest → ⊥
no_token_at done rest s at none g =
    let may : begins (λ b. is_some (goes s b)) rest ≡ true = ap (begins (λ b. is_some (goes s b))) g.4 ∙ step_may s g.0 g.1 (first_steps done g.0 s at g.2) in
    cc

-- ---- the tokens are whole events, or end in a colon

through : (k : ℕ) (e : List ℕ) (ts : List (List ℕ)) (s : Stage) → walk (opened k) (e ∷ (62 ∷ []) ∷ ts) ≡ Some s → walk (between (suc k)) ts ≡ Some s
through k [] ts s h = cc
through k (b ∷ e) ts s h = go (is_name_byte b) h
  where
    go : (x : Bool) → on (cond x (Some (named k)) None) (λ m. walk m ((62 ∷ []) ∷ ts)) ≡ Some s → walk (between (suc k)) ts ≡ Some s
    go true h = h
    go false h = cc

between_events : (from : Stage) (events : List (List ℕ)) (s : Stage) → is_between from ≡ true → walk from (flat_map event_tokens events) ≡ Some s → is_between s ≡ true
between_events from [] s b h = let is : from ≡ s = cc in ap is_between (sym is) ∙ b
between_events start (e ∷ es) s b h = between_events (between 1) es s refl (through 0 e (flat_map event_tokens es) s h)
between_events (between k) (e ∷ es) s b h = go (nat_lt k 32) h (λ h. between_events (between (suc k)) es s refl (through k e (flat_map event_tokens es) s h))
  where
    go : (x : Bool) → on (cond x (Some (opened k)) None) (λ m. walk m (e ∷ (62 ∷ []) ∷ flat_map event_tokens es)) ≡ Some s
        → (walk (opened k) (e ∷ (62 ∷ []) ∷ flat_map event_tokens es) ≡ Some s → is_between s ≡ true) → is_between s ≡ true
    go true h again = again h
    go false h again = cc
between_events word (e ∷ es) s b h = cc
between_events (opened k) (e ∷ es) s b h = cc
between_events (named k) (e ∷ es) s b h = cc
between_events colon (e ∷ es) s b h = cc
between_events text (e ∷ es) s b h = cc
between_events ended (e ∷ es) s b h = cc

-- after whole events, or none, an event may begin
pub events_between : (done events : List (List ℕ)) (s : Stage) → walk start done ≡ Some s → done ≡ flat_map event_tokens events → is_between s ≡ true
events_between done events s at is = between_events start events s refl (sym (ap (walk start) is) ∙ at)

colon_goes : (o : Option Stage) (s : Stage) → on o (λ m. walk m ((58 ∷ []) ∷ [])) ≡ Some s → is_colon s ≡ true
colon_goes None s h = cc
colon_goes (Some start) s h = cc
colon_goes (Some word) s h = cc
colon_goes (Some (between k)) s h = let is : colon ≡ s = cc in ap is_colon (sym is)
colon_goes (Some (opened k)) s h = cc
colon_goes (Some (named k)) s h = cc
colon_goes (Some colon) s h = cc
colon_goes (Some text) s h = cc
colon_goes (Some ended) s h = cc

-- the stage after a colon is that of the colon
pub after_a_colon : (done before : List (List ℕ)) (s : Stage) → walk start done ≡ Some s → done ≡ before ++ (58 ∷ []) ∷ [] → is_colon s ≡ true
after_a_colon done before s at is = colon_goes (walk start before) s (sym (walk_append start before ((58 ∷ []) ∷ [])) ∙ sym (ap (walk start) is) ∙ at)
