-- How far a line was read: the tokens so far, with which some valid reading begins; and when no
-- valid reading goes on.
use Rattle.std.proofs.Common.{◌≡◌, ℕ, ◌+◌, ◌-◌, ◌<◌, ◌≤◌, List, [], ◌∷◌, ◌++◌, length, Bool, true, false, cond, not, ◌&&◌, ◌||◌, refl, sym, ◌∙◌, ap, subst, arith, append_assoc, eqb-true}
use Rattle.std.specs.Prelude.{◌==◌, Some, None, is_some, flat_map, codes}
use Rattle.std.specs.List.{list_all}
use Rattle.std.proofs.lemmas.Bool.{and_from, or_right}
use Rattle.std.proofs.lemmas.Grind.{flat_map-append}
use Rattle.std.proofs.lemmas.List.{length_push, length-append}
use Rattle.std.proofs.lemmas.List.Folds.{list_all-append}
use Rattle.compose_text.specs.Bytes.{is_blank, is_name_byte, leading, begins}
use Rattle.compose_lex.specs.Line.{blank, production, is_name, is_comment, quoted, event_tokens}
use Rattle.compose_lex.specs.Fault.{skip_blanks, inside_from, event_fault}
use Rattle.compose_lex.specs.LineFault.{AreFirst, is_whole, BeginsWith, GoesOn, StopsAt, is_modifier_first, IsLineFault}
use Rattle.compose_lex.specs.declared.LexFault.TheVariants.{BadToken, ModifierList, UnclosedString}
use Rattle.compose_lex.proofs.Runs.{parts_of, prefix_passes}
use Rattle.compose_lex.proofs.IncludeWord.{after_stops}
use Rattle.compose_lex.proofs.Productions.{RightProduction, right_from}
use Rattle.compose_lex.proofs.Tokens.{right_tokens, IsToken, AllTokens, next_token, quoted_of}
use Rattle.compose_lex.proofs.Stages.{Stage, start, goes, step, on, walk, walk_append, is_end, is_between, is_colon, first_steps, all_ends, no_token_at, events_between, after_a_colon}

-- ---- lines read so far

-- these tokens are at the beginning of the line up to this rest, some valid reading begins with
-- them, and they lead to this stage
pub record Reached (line : List ℕ) (done : List (List ℕ)) (rest : List ℕ) (stage : Stage) : Type 0 where
  pub begun : BeginsWith done line rest
  pub right : AreFirst done
  pub walked : walk start done ≡ Some stage

begins_more : (ts : List (List ℕ)) (t bytes rest more : List ℕ) → BeginsWith ts bytes rest → rest ≡ t ++ more → is_whole t more ≡ true → BeginsWith (ts ++ t ∷ []) bytes (skip_blanks more)
begins_more [] t bytes rest more b here w =
    (b.0, more, b.1, w, b.3 ∙ ap (λ x. b.0 ++ x) here, (leading is_blank more, prefix_passes is_blank more, ap not (after_stops is_blank more), parts_of is_blank more))
begins_more (u ∷ us) t bytes rest more b here w = (b.0, b.1, b.2, b.3, b.4, begins_more us t b.1 rest more b.5 here w)

begins_fits : (ts : List (List ℕ)) (bytes rest : List ℕ) → BeginsWith ts bytes rest → length rest ≤ length bytes
begins_fits [] bytes rest b = let e : length bytes ≡ length b.0 + length rest = ap length b.3 ∙ length-append b.0 rest in omega (arith, e)
begins_fits (t ∷ ts) bytes rest b =
    let e : length bytes ≡ length b.0 + (length t + length b.1) = ap length b.4 ∙ length-append b.0 (t ++ b.1) ∙ ap (λ x. length b.0 + x) (length-append t b.1) in
    let f = begins_fits ts b.1 rest b.5 in
    omega (arith, e, f)

-- a whole token that may follow leads one stage further, to what follows it and its blanks
pub reached_more : (line : List ℕ) (done : List (List ℕ)) (rest : List ℕ) (s m : Stage) (t more : List ℕ) → Reached line done rest s → rest ≡ t ++ more → is_whole t more ≡ true → step s t ≡ Some m
    → AreFirst (done ++ t ∷ [])
    → Reached line (done ++ t ∷ []) (skip_blanks more) m
reached_more line done rest s m t more r here w steps right = record {
  begun = begins_more done t line rest more r.begun here w;
  right = right;
  walked = walk_append start done (t ∷ []) ∙ ap (λ o. on o (λ m. walk m (t ∷ []))) r.walked ∙ ap (λ o. on o (λ m. walk m [])) steps;
}

-- at the first byte that is not a blank, no token was read yet
pub at_start : (line : List ℕ) → Reached line [] (skip_blanks line) start
at_start line = record { begun = (leading is_blank line, prefix_passes is_blank line, ap not (after_stops is_blank line), parts_of is_blank line); right = (blank, [], refl, refl); walked = refl }

-- a token is whole if what follows it does not begin with a byte of a name
pub whole_before : (t rest : List ℕ) → begins is_name_byte rest ≡ false → is_whole t rest ≡ true
whole_before t rest h = rw h (go (is_name t))
  where
    go : (x : Bool) → not (x && false) ≡ true
    go true = refl
    go false = refl

-- ---- valid readings that begin with these tokens

more_right : (events : List (List ℕ)) (name : List ℕ) → length events < 32 → list_all is_name events ≡ true → is_name name ≡ true → RightProduction (events ++ name ∷ []) None (Some (codes "a"))
more_right events name few names h =
    let long = length_push events name in
    record {
      some = omega (arith, long);
      few = omega (arith, long, few);
      names = list_all-append is_name events (name ∷ []) ∙ and_from (list_all is_name events) (list_all is_name (name ∷ [])) names (and_from (is_name name) true h refl);
      closed = refl;
      named = refl;
      result = refl;
    }

more_tokens : (events : List (List ℕ)) (name : List ℕ) (rest : List (List ℕ))
    → flat_map event_tokens (events ++ name ∷ []) ++ rest ≡ flat_map event_tokens events ++ ((60 ∷ []) ∷ name ∷ (62 ∷ []) ∷ rest)
more_tokens events name rest = ap (λ x. x ++ rest) (flat_map-append event_tokens events (name ∷ [])) ∙ append_assoc (flat_map event_tokens events) ((60 ∷ []) ∷ name ∷ (62 ∷ []) ∷ []) rest

last_tokens : List (List ℕ)
last_tokens = (58 ∷ []) ∷ codes "a" ∷ []

-- fewer than 32 events and `<` begin some valid reading
pub opened_right : (events : List (List ℕ)) → length events < 32 → list_all is_name events ≡ true → AreFirst (flat_map event_tokens events ++ (60 ∷ []) ∷ [])
unfolding last_tokens
opened_right events few names =
    let es = flat_map event_tokens events in
    let name = codes "a" in (
      production (events ++ name ∷ []) None (Some name),
      name ∷ (62 ∷ []) ∷ last_tokens,
      right_from (events ++ name ∷ []) None (Some name) (more_right events name few names refl),
      more_tokens events name last_tokens ∙ sym (append_assoc es ((60 ∷ []) ∷ []) (name ∷ (62 ∷ []) ∷ last_tokens)),
    )

-- fewer than 32 events, `<` and a name begin some valid reading
pub named_right : (events : List (List ℕ)) (name : List ℕ) → length events < 32 → list_all is_name events ≡ true → is_name name ≡ true
    → AreFirst ((flat_map event_tokens events ++ (60 ∷ []) ∷ []) ++ name ∷ [])
unfolding last_tokens
named_right events name few names h =
    let es = flat_map event_tokens events in (
      production (events ++ name ∷ []) None (Some (codes "a")),
      (62 ∷ []) ∷ last_tokens,
      right_from (events ++ name ∷ []) None (Some (codes "a")) (more_right events name few names h),
      more_tokens events name last_tokens ∙ sym (append_assoc es ((60 ∷ []) ∷ []) (name ∷ (62 ∷ []) ∷ last_tokens)) ∙ sym (append_assoc (es ++ (60 ∷ []) ∷ []) (name ∷ []) ((62 ∷ []) ∷ last_tokens)),
    )

-- events, `<`, a name and `>` are the tokens of the events and that one
pub whole_event : (events : List (List ℕ)) (name : List ℕ) → ((flat_map event_tokens events ++ (60 ∷ []) ∷ []) ++ name ∷ []) ++ (62 ∷ []) ∷ [] ≡ flat_map event_tokens (events ++ name ∷ [])
whole_event events name =
    let es = flat_map event_tokens events in
    append_assoc (es ++ (60 ∷ []) ∷ []) (name ∷ []) ((62 ∷ []) ∷ []) ∙ append_assoc es ((60 ∷ []) ∷ []) (name ∷ (62 ∷ []) ∷ []) ∙ sym (flat_map-append event_tokens events (name ∷ []))

-- fewer than 32 events and one more begin some valid reading
pub events_right : (events : List (List ℕ)) (name : List ℕ) → length events < 32 → list_all is_name events ≡ true → is_name name ≡ true → AreFirst (flat_map event_tokens (events ++ name ∷ []))
unfolding last_tokens
events_right events name few names
    h = (production (events ++ name ∷ []) None (Some (codes "a")), last_tokens, right_from (events ++ name ∷ []) None (Some (codes "a")) (more_right events name few names h), refl)

-- ---- lines that go no further

-- a line stops if no token may follow, and, in case the reading may end there, there is no comment
pub stops : (line : List ℕ) (done : List (List ℕ)) (rest : List ℕ) (s : Stage) → Reached line done rest s → (GoesOn done rest → ⊥) → (is_end s ≡ true → is_comment rest ≡ false)
    → StopsAt line (length line - length rest) done rest
stops line done rest s r no_token comment =
    let fits = begins_fits done line rest r.begun in
    record { begun = r.begun; right = r.right; offset = omega (arith, fits); no_token = no_token; no_end = λ all c. (let e = comment (all_ends done s r.walked all) in cc) }

mark_first : (p : ℕ → Bool) (rest : List ℕ) → (p 34 ≡ true) → begins p rest ≡ false → begins (λ b. b == 34) rest ≡ false
mark_first p [] h none = refl
mark_first p (b ∷ rest) h none = go (b == 34) refl
  where
    go : (x : Bool) → (b == 34) ≡ x → x ≡ false
    go false e = refl
    go true e = let same : p b ≡ p 34 = ap p (eqb-true b 34 e) in cc

-- nothing there has the form of another fault
pub record IsPlain (done : List (List ℕ)) (rest : List ℕ) (s : Stage) : Type 0 where
  pub no_token : GoesOn done rest → ⊥
  pub comment : is_end s || is_colon s ≡ true → is_comment rest ≡ false
  pub event : is_between s ≡ true → (begins is_modifier_first rest ≡ false) × (begins (λ b. b == 60) rest ≡ false)
  pub string : is_some (goes s 34) ≡ true → begins (λ b. b == 34) rest ≡ false

-- a line that stops, with no other fault there, has a bad token there
pub bad_token : (line : List ℕ) (done : List (List ℕ)) (rest : List ℕ) (s : Stage) → Reached line done rest s → IsPlain done rest s → IsLineFault line (BadToken (length line - length rest))
bad_token line done rest s r p = record {
  at = length line - length rest;
  done = done;
  rest = rest;
  stops = stops line done rest s r p.no_token (λ e. p.comment (ap (λ x. x || is_colon s) e));
  is = (
    refl,
    record {
      no_modifier_list = λ m. (let e = p.event (events_between done m.0.0 s r.walked m.0.1) in let f = e.0 in let t = m.1 in cc);
      no_unclosed_string = λ u. (let e = p.string (first_steps done (quoted u.0) s r.walked u.1) in let t = u.2 in cc);
      no_missing_result = λ n. (let e = p.comment (or_right (is_end s) (is_colon s) (after_a_colon done (flat_map event_tokens n.0) s r.walked n.1)) in let t = n.2 in cc);
      no_33rd_event = λ m. (let e = p.event (events_between done m.0 s r.walked m.1) in let f = e.1 in let t = m.3 in cc);
    },
  );
}

-- a first byte that begins no token there
pub unlike : (line : List ℕ) (done : List (List ℕ)) (rest : List ℕ) (s : Stage) → Reached line done rest s → begins (λ b. is_some (goes s b)) rest ≡ false
    → (is_end s || is_colon s ≡ true → is_comment rest ≡ false) → is_between s ≡ false → IsLineFault line (BadToken (length line - length rest))
unlike line done rest s r none comment inside =
    bad_token line done rest s r (record { no_token = no_token_at done rest s r.walked none; comment = comment; event = λ e. cc; string = λ e. mark_first (λ b. is_some (goes s b)) rest e none })

-- where an event may begin
pub no_event : (line : List ℕ) (events : List (List ℕ)) (rest : List ℕ) (s : Stage) → Reached line (flat_map event_tokens events) rest s → (GoesOn (flat_map event_tokens events) rest → ⊥)
    → (is_end s || is_colon s ≡ true → is_comment rest ≡ false) → begins (λ b. b == 60) rest ≡ false → is_some (goes s 34) ≡ false → IsLineFault line (event_fault (length line) rest)
no_event line events rest s r no_token comment less string = go (begins is_modifier_first rest) refl
  where
    go : (x : Bool) → begins is_modifier_first rest ≡ x → IsLineFault line (cond x (ModifierList (length line - length rest)) (BadToken (length line - length rest)))
    go true e = record {
      at = length line - length rest;
      done = flat_map event_tokens events;
      rest = rest;
      stops = stops line (flat_map event_tokens events) rest s r no_token (λ e. comment (ap (λ x. x || is_colon s) e));
      is = (refl, ((events, refl), e));
    }
    go false e = bad_token line (flat_map event_tokens events) rest s r (record { no_token = no_token; comment = comment; event = λ b. (e, less); string = λ b. cc })

-- ---- strings

last_token : (ts : List (List ℕ)) (t : List ℕ) (us : List (List ℕ)) → AllTokens ((ts ++ t ∷ []) ++ us) → IsToken t
last_token [] t us a = a.0
last_token (u ∷ ts) t us a = last_token ts t us a.1

-- a quote that is never closed does not begin a token
pub no_string_at : (done : List (List ℕ)) (rest : List ℕ) → inside_from false rest ≡ None → GoesOn done (34 ∷ rest) → ⊥
no_string_at done rest none g =
    let f = g.2 in
    let is = last_token done g.0 f.1 (subst AllTokens f.3 (right_tokens f.0 f.2)) in
    let next : next_token (34 ∷ rest) ≡ [] = ap quoted_of none in
    let no : g.0 ≡ [] = sym (is.read g.1 g.3) ∙ ap next_token (sym g.4) ∙ next in
    empty g.0 no is
  where
    empty : (t : List ℕ) → t ≡ [] → IsToken t → ⊥
    empty [] e is = let some = is.first [] in cc
    empty (b ∷ t) e is = cc

-- a quote that is never closed, where a string may begin, is the line's fault, unless the reading
-- may end there
pub unclosed : (line : List ℕ) (done : List (List ℕ)) (rest : List ℕ) (s : Stage) → Reached line done (34 ∷ rest) s → inside_from false rest ≡ None → (raw : List ℕ)
    → AreFirst (done ++ quoted raw ∷ []) → is_end s ≡ false
    → IsLineFault line (UnclosedString (length line - length (34 ∷ rest)))
unclosed line done rest s r none raw may inside = record {
  at = length line - length (34 ∷ rest);
  done = done;
  rest = 34 ∷ rest;
  stops = stops line done (34 ∷ rest) s r (no_string_at done rest none) (λ e. cc);
  is = (refl, (raw, may, refl));
}
