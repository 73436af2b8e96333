-- If the reader finds a fault after the colon of a line, no valid line goes on there.
use Rattle.std.proofs.Common.{◌≡◌, ℕ, ◌-◌, ◌<◌, ◌≤◌, List, [], ◌∷◌, ◌++◌, length, Bool, true, false, cond, not, ◌&&◌, refl, sym, ◌∙◌, ap, subst, append_assoc, eqb-true}
use Rattle.std.specs.Prelude.{◌==◌, Option, Some, None, is_some, Result, Ok, Err, flat_map}
use Rattle.std.specs.List.{list_all}
use Rattle.std.proofs.lemmas.List.{append-nil}
use Rattle.compose_text.specs.Results.{◌>>=◌}
use Rattle.compose_text.specs.Bytes.{is_blank, is_name_byte, leading, behind, begins}
use Rattle.compose_lex.specs.Line.{production, is_name, is_inside, is_comment, quoted, event_tokens}
use Rattle.compose_lex.specs.Fault.{skip_blanks, name_at, inside_from, string_at, end_at, name_if, result_at}
use Rattle.compose_lex.specs.LineFault.{AreFirst, is_whole, IsLineFault}
use Rattle.compose_lex.specs.declared.LexFault.{LexFault}
use Rattle.compose_lex.specs.declared.LexFault.TheVariants.{UnclosedString, NoResult, TooManyKeysyms}
use Rattle.compose_lex.proofs.LineSound.{bind_with, name_sound, name_is, string_sound, taken, after_twice}
use Rattle.compose_lex.proofs.IncludeWord.{after_stops}
use Rattle.compose_lex.proofs.Productions.{right_from}
use Rattle.compose_lex.proofs.Tokens.{quoted_no_name}
use Rattle.compose_lex.proofs.Stages.{Stage, colon, text, ended, goes, is_between, name_ends, past_text, colon_passed, no_token_at}
use Rattle.compose_lex.proofs.LineStops.{Reached, reached_more, whole_before, stops, unlike, unclosed}
use Rattle.compose_lex.proofs.LineEvents.{bind_fails, name_fails, end_fails, closed_fails, name_whole, may_not, Colon}

-- ---- the end of a line

-- only a comment may follow
pub record End (line : List ℕ) (rest : List ℕ) : Type 0 where
  pub done : List (List ℕ)
  pub stage : Stage
  pub reached : Reached line done (skip_blanks rest) stage
  pub none : begins (λ b. is_some (goes stage b)) (skip_blanks rest) ≡ false
  pub behind : is_between stage ≡ false

-- if something other than a comment is at the end of a reading, the line has that fault
pub end_broken : (line rest : List ℕ) (f : LexFault) → End line rest → end_at (length line) (skip_blanks rest) ≡ Err f → IsLineFault line f
end_broken line rest f s e = let b = end_fails (length line) (skip_blanks rest) f e in subst (IsLineFault line) b.1 (unlike line s.done (skip_blanks rest) s.stage s.reached s.none (λ _. b.0) s.behind)

-- after the last token no further one may begin
pub never : (rest : List ℕ) → begins (λ b. is_some (goes ended b)) rest ≡ false
never [] = refl
never (b ∷ rest) = refl

-- a string in quotes is whole, whatever follows it
pub string_whole : (raw more : List ℕ) → is_whole (quoted raw) more ≡ true
string_whole raw more = ap (λ x. not (x && begins is_name_byte more)) (quoted_no_name raw)

-- ---- the result

abbrev colon_tokens : List (List ℕ) → List (List ℕ)
colon_tokens events = flat_map event_tokens events ++ (58 ∷ []) ∷ []

name_right : (events : List (List ℕ)) (name : List ℕ) → 0 < length events → length events ≤ 32 → list_all is_name events ≡ true → is_name name ≡ true → AreFirst (colon_tokens events ++ name ∷ [])
name_right events name some few names is = (
  production events None (Some name),
  [],
  right_from events None (Some name) (record { some = some; few = few; names = names; closed = refl; named = is; result = refl }),
  sym (append_assoc (flat_map event_tokens events) ((58 ∷ []) ∷ []) (name ∷ [])) ∙ sym (append-nil (colon_tokens events ++ name ∷ [])),
)

string_right : (events : List (List ℕ)) (raw : List ℕ) → 0 < length events → length events ≤ 32 → list_all is_name events ≡ true → is_inside raw ≡ true
    → AreFirst (colon_tokens events ++ quoted raw ∷ [])
string_right events raw some few names is = (
  production events (Some raw) None,
  [],
  right_from events (Some raw) None (record { some = some; few = few; names = names; closed = is; named = refl; result = refl }),
  sym (append_assoc (flat_map event_tokens events) ((58 ∷ []) ∷ []) (quoted raw ∷ [])) ∙ sym (append-nil (colon_tokens events ++ quoted raw ∷ [])),
)

both_right : (events : List (List ℕ)) (raw name : List ℕ) → 0 < length events → length events ≤ 32 → list_all is_name events ≡ true → is_inside raw ≡ true → is_name name ≡ true
    → AreFirst ((colon_tokens events ++ quoted raw ∷ []) ++ name ∷ [])
both_right events raw name some few names is named = (
  production events (Some raw) (Some name),
  [],
  right_from events (Some raw) (Some name) (record { some = some; few = few; names = names; closed = is; named = named; result = refl }),
  sym (append_assoc (flat_map event_tokens events) ((58 ∷ []) ∷ []) (quoted raw ∷ name ∷ [])) ∙ sym (append_assoc (colon_tokens events) (quoted raw ∷ []) (name ∷ []))
      ∙ sym (append-nil ((colon_tokens events ++ quoted raw ∷ []) ++ name ∷ [])),
)

no_result : (line : List ℕ) (events : List (List ℕ)) (rest : List ℕ) → Reached line (colon_tokens events) rest colon → is_comment rest ≡ true → IsLineFault line NoResult
no_result line events rest r comment = record {
  at = length line - length rest;
  done = colon_tokens events;
  rest = rest;
  stops = stops line (colon_tokens events) rest colon r (no_token_at (colon_tokens events) rest colon r.walked (neither rest comment)) (λ e. cc);
  is = (events, refl, comment);
}
  where
    neither : (rest : List ℕ) → is_comment rest ≡ true → begins (λ b. is_some (goes colon b)) rest ≡ false
    neither [] h = refl
    neither (b ∷ rest) h = ap (λ x. is_some (goes colon x)) (eqb-true b 35 h)

-- if the result after the colon is faulty, the line has that fault
pub result_broken : (line : List ℕ) (events : List (List ℕ)) (rest : List ℕ) (f : LexFault) → Colon line events rest → result_at (length line) (skip_blanks rest) ≡ Err f → IsLineFault line f
result_broken line events rest f s e = go (skip_blanks rest) s.reached e
  where
    by : (b : ℕ) (rest : List ℕ) (c : Bool) → (b == 35) ≡ c → (d : Bool) → (b == 34) ≡ d → Reached line (colon_tokens events) (b ∷ rest) colon
        → cond {A = Result (Option (List ℕ) × Option (List ℕ) × List ℕ) LexFault} c (Err NoResult) (cond {A = Result (Option (List ℕ) × Option (List ℕ) × List ℕ) LexFault} d
        (string_at (length line) rest >>= λ string. Ok (Some string.0, (name_if (skip_blanks string.1)).0, (name_if (skip_blanks string.1)).1))
        (name_at (length line) (b ∷ rest) >>= λ name. Ok (None, Some name.0, name.1))) ≡ Err f → IsLineFault line f
    by b rest true h d i r e = let is : NoResult ≡ f = cc in subst (IsLineFault line) is (no_result line events (b ∷ rest) r h)
    by b rest false h true i r e =
        bind_fails (string_at (length line) rest) (λ string. Ok (Some string.0, (name_if (skip_blanks string.1)).0, (name_if (skip_blanks string.1)).1)) f e
        (λ e.
        let q = closed_fails (UnclosedString (length line - length (34 ∷ rest))) (inside_from false rest) f e in
        let quote : Reached line (colon_tokens events) (34 ∷ rest) colon = subst (λ x. Reached line (colon_tokens events) (x ∷ rest) colon) (eqb-true b 34 i) r in
        subst (IsLineFault line) q.1 (unclosed line (colon_tokens events) rest colon quote q.0 [] (string_right events [] s.some s.few s.names refl) refl))
        (λ string is e. cc)
    by b rest false h false i r e =
        bind_fails (name_at (length line) (b ∷ rest)) (λ name. Ok (None, Some name.0, name.1)) f e
        (λ e.
        let q = name_fails (length line) (b ∷ rest) f e in
        let none = q.0 in
        subst (IsLineFault line) q.1 (unlike line (colon_tokens events) (b ∷ rest) colon r (rw (i, none) refl) (λ _. h) refl))
        (λ name is e. cc)

    go : (bytes : List ℕ) → Reached line (colon_tokens events) bytes colon → result_at (length line) bytes ≡ Err f → IsLineFault line f
    go [] r e = let is : NoResult ≡ f = cc in subst (IsLineFault line) is (no_result line events [] r refl)
    go (b ∷ rest) r e = by b rest (b == 35) refl (b == 34) refl r e

-- after a string, perhaps a name
after_string : (line : List ℕ) (events : List (List ℕ)) (rest raw more : List ℕ) → Colon line events rest → Reached line (colon_tokens events ++ quoted raw ∷ []) (skip_blanks more) text
    → is_inside raw ≡ true → End line (name_if (skip_blanks more)).1
after_string line events rest raw more s r is = go (begins is_name_byte (skip_blanks more)) refl
  where
    go : (x : Bool) → begins is_name_byte (skip_blanks more) ≡ x
        → End line (let y : Option (List ℕ) × List ℕ = cond x (Some (leading is_name_byte (skip_blanks more)), behind is_name_byte (skip_blanks more)) (None, skip_blanks more) in y).1
    go true e =
        let name = leading is_name_byte (skip_blanks more) in
        let after = behind is_name_byte (skip_blanks more) in
        let t = taken is_name_byte TooManyKeysyms (skip_blanks more) name after (rw e refl) in
        let named = name_is name t.1 t.2 in
        record {
          done = (colon_tokens events ++ quoted raw ∷ []) ++ name ∷ [];
          stage = ended;
          reached =
              reached_more line (colon_tokens events ++ quoted raw ∷ []) (skip_blanks more) text ended name after r t.0 (whole_before name after (after_stops is_name_byte (skip_blanks more)))
              (name_ends name text past_text named)
              (both_right events raw name s.some s.few s.names is named);
          none = never (skip_blanks after);
          behind = refl;
        }
    go false e =
        let same : skip_blanks more ≡ skip_blanks (skip_blanks more) = sym (after_twice is_blank more) in
        record {
          done = colon_tokens events ++ quoted raw ∷ [];
          stage = text;
          reached = subst (λ x. Reached line (colon_tokens events ++ quoted raw ∷ []) x text) same r;
          none = ap (begins (λ b. is_some (goes text b))) (sym same) ∙ may_not is_name_byte (λ b. is_some (goes text b)) (skip_blanks more) (λ b h. rw h refl) e;
          behind = refl;
        }

-- a result that is read after the colon leads to the end of the reading
pub result_reached : (line : List ℕ) (events : List (List ℕ)) (rest : List ℕ) (x : Option (List ℕ) × Option (List ℕ) × List ℕ) → Colon line events rest
    → result_at (length line) (skip_blanks rest) ≡ Ok x → End line x.2
result_reached line events rest x s e = go (skip_blanks rest) s.reached e
  where
    by : (b : ℕ) (bytes : List ℕ) (c : Bool) (d : Bool) → (b == 34) ≡ d → Reached line (colon_tokens events) (b ∷ bytes) colon
        → cond {A = Result (Option (List ℕ) × Option (List ℕ) × List ℕ) LexFault} c (Err NoResult) (cond {A = Result (Option (List ℕ) × Option (List ℕ) × List ℕ) LexFault} d
        (string_at (length line) bytes >>= λ string. Ok (Some string.0, (name_if (skip_blanks string.1)).0, (name_if (skip_blanks string.1)).1))
        (name_at (length line) (b ∷ bytes) >>= λ name. Ok (None, Some name.0, name.1))) ≡ Ok x → End line x.2
    by b bytes true d i r e = cc
    by b bytes false true i r e =
        bind_with (string_at (length line) bytes) (λ string. Ok (Some string.0, (name_if (skip_blanks string.1)).0, (name_if (skip_blanks string.1)).1)) x e (λ string is e.
        let q : ◌≡◌ {A = Option (List ℕ) × Option (List ℕ) × List ℕ} (Some string.0, (name_if (skip_blanks string.1)).0, (name_if (skip_blanks string.1)).1) x = cc in
        let t = string_sound (length line) bytes string.0 string.1 is in
        let here : b ∷ bytes ≡ quoted string.0 ++ string.1 = ap (λ y. y ∷ bytes) (eqb-true b 34 i) ∙ t.0 in
        let next =
        reached_more line (colon_tokens events) (b ∷ bytes) colon text (quoted string.0) string.1 r here (string_whole string.0 string.1) refl
        (string_right events string.0 s.some s.few s.names t.1) in
        subst (λ (y : Option (List ℕ) × Option (List ℕ) × List ℕ). End line y.2) q (after_string line events rest string.0 string.1 s next t.1))
    by b bytes false false i r e =
        bind_with (name_at (length line) (b ∷ bytes)) (λ name. Ok (None, Some name.0, name.1)) x e (λ name is e.
        let q : ◌≡◌ {A = Option (List ℕ) × Option (List ℕ) × List ℕ} (None, Some name.0, name.1) x = cc in
        let t = name_sound (length line) (b ∷ bytes) name.0 name.1 is in
        let next =
        reached_more line (colon_tokens events) (b ∷ bytes) colon ended name.0 name.1 r t.0 (whole_before name.0 name.1 (name_whole (length line) (b ∷ bytes) name.0 name.1 is))
        (name_ends name.0 colon colon_passed t.1)
        (name_right events name.0 s.some s.few s.names t.1) in
        subst (λ (y : Option (List ℕ) × Option (List ℕ) × List ℕ). End line y.2) q
        (record { done = colon_tokens events ++ name.0 ∷ []; stage = ended; reached = next; none = never (skip_blanks name.1); behind = refl }))

    go : (bytes : List ℕ) → Reached line (colon_tokens events) bytes colon → result_at (length line) bytes ≡ Ok x → End line x.2
    go [] r e = cc
    go (b ∷ bytes) r e = by b bytes (b == 35) (b == 34) refl r e
