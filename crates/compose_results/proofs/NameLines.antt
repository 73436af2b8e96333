-- The name of a result on a line that is a definition: it stands behind the first colon, after a
-- string or without one.
use Rattle.std.proofs.Common.{◌≡◌, ◌<◌, ◌+◌, ◌∙◌, ℕ, suc, List, [], ◌∷◌, ◌++◌, length, drop, Bool, true, false, cond, refl, sym, ap, subst, arith}
use Rattle.std.specs.Prelude.{◌==◌, Option, Some, None, Result, Ok, Err, flat_map, nat_lt, slice_get}
use Rattle.std.specs.List.{list_all, All, prefix_len}
use Rattle.std.specs.Str.{IsUtf8, is_utf8}
use Rattle.std.proofs.lemmas.Bool.{and_parts}
use Rattle.std.proofs.lemmas.Bool.Decides.{nat_tests}
use Rattle.std.proofs.lemmas.List.Elements.{All-nil, All-cons}
use Rattle.std.proofs.lemmas.Str.{IsUtf8-from_ascii}
use Rattle.std.proofs.lemmas.Str.Ascii.{IsAscii-from_all}
use Rattle.compose_text.specs.Bytes.{is_blank, is_name_byte, leading, behind}
use Rattle.compose_lex.specs.Line.{Reading, blank, include, production, is_name, event_tokens, result_tokens, AreTokens}
use Rattle.compose_lex.specs.Fault.{skip_blanks, inside_from, string_at, name_if, result_at, reading_of}
use Rattle.compose_lex.specs.declared.LexFault.{LexFault}
use Rattle.compose_lex.proofs.Productions.{right_parts}
use Rattle.compose_lex.proofs.LineSound.{bind_with, closed_sound, reading_sound}
use Rattle.compose_lex.proofs.LineRead.{result_again}
use Rattle.compose_lex.proofs.Runs.{prefix_passes}
use Rattle.compose_results.specs.Names.{is_before_colon}
use Rattle.compose_places.specs.Events.{events_of, line_events}
use Rattle.compose_results.specs.Results.{name_of, result_name}

-- ---- a name is a text

names_below : (name : List ℕ) → list_all is_name_byte name ≡ true → All (λ b. b < 128) name
names_below [] h = All-nil (λ b. b < 128)
names_below (b ∷ name) h =
    let parts = and_parts (is_name_byte b) (list_all is_name_byte name) h in
    All-cons (λ b. b < 128) b name (below b parts.0) (names_below name parts.1)
  where
    below : (b : ℕ) → is_name_byte b ≡ true → b < 128
    below b h = grind (arith, nat_tests)

pub name_text : (rest : List ℕ) → IsUtf8 (leading is_name_byte rest)
name_text rest = let name = leading is_name_byte rest in IsUtf8-from_ascii name (IsAscii-from_all name (names_below name (prefix_passes is_name_byte rest)))

-- a name that is not empty is there
pub name_there : (rest : List ℕ) → false ≡ (length (leading is_name_byte rest) == 0) → (name_if rest).0 ≡ Some (leading is_name_byte rest)
name_there [] some = cc
name_there (b ∷ rest) some = go (is_name_byte b) some
  where
    go : (x : Bool) → false ≡ (length (cond x (b ∷ leading is_name_byte rest) []) == 0)
        → (cond {A = Option (List ℕ) × List ℕ} x (Some (cond x (b ∷ leading is_name_byte rest) []), cond x (behind is_name_byte rest) (b ∷ rest)) (None, b ∷ rest)).0
        ≡ Some (cond x (b ∷ leading is_name_byte rest) [])
    go true some = refl
    go false some = cc

-- ---- up to the colon

-- what follows the first colon
abbrev pub behind_colon : List ℕ → List ℕ
behind_colon line = drop (1 + prefix_len is_before_colon line) line

-- bytes before that are no colons
skipped : (bytes rest : List ℕ) → list_all is_before_colon bytes ≡ true → behind_colon (bytes ++ rest) ≡ behind_colon rest
skipped [] rest h = refl
skipped (b ∷ bytes) rest h =
    let parts = and_parts (is_before_colon b) (list_all is_before_colon bytes) h in
    let len = prefix_len is_before_colon (bytes ++ rest) in
    let one : 1 + (1 + len) ≡ suc (1 + len) = omega arith in
    rw parts.0 (ap (λ n. drop n (b ∷ (bytes ++ rest))) one ∙ skipped bytes rest parts.1)

blanks_before : (blanks : List ℕ) → list_all is_blank blanks ≡ true → list_all is_before_colon blanks ≡ true
blanks_before [] h = refl
blanks_before (b ∷ blanks) h =
    let parts = and_parts (is_blank b) (list_all is_blank blanks) h in
    rw (before b parts.0) (blanks_before blanks parts.1)
  where
    before : (b : ℕ) → is_blank b ≡ true → is_before_colon b ≡ true
    before b h = grind (arith, nat_tests)

name_before : (name : List ℕ) → list_all is_name_byte name ≡ true → list_all is_before_colon name ≡ true
name_before [] h = refl
name_before (b ∷ name) h =
    let parts = and_parts (is_name_byte b) (list_all is_name_byte name) h in
    rw (before b parts.0) (name_before name parts.1)
  where
    before : (b : ℕ) → is_name_byte b ≡ true → is_before_colon b ≡ true
    before b h = grind (arith, nat_tests)

-- a token without a colon
token_skipped : (token : List ℕ) (tokens : List (List ℕ)) (bytes : List ℕ) → list_all is_before_colon token ≡ true → (t : AreTokens (token ∷ tokens) bytes)
    → behind_colon bytes ≡ behind_colon t.1
token_skipped token tokens bytes h t =
    ap behind_colon t.3 ∙ skipped t.0 (token ++ t.1) (blanks_before t.0 t.2) ∙ skipped token t.1 h

-- the tokens behind the colon are those of the result
pub behind_events : (events : List (List ℕ)) (tokens : List (List ℕ)) (bytes : List ℕ) → list_all is_name events ≡ true
    → AreTokens (flat_map event_tokens events ++ (58 ∷ []) ∷ tokens) bytes → AreTokens tokens (behind_colon bytes)
behind_events [] tokens bytes h t =
    let e : behind_colon bytes ≡ t.1 = ap behind_colon t.3 ∙ skipped t.0 (58 ∷ t.1) (blanks_before t.0 t.2) in
    subst (AreTokens tokens) (sym e) t.4
behind_events (name ∷ events) tokens bytes h t =
    let parts = and_parts (is_name name) (list_all is_name events) h in
    let later = flat_map event_tokens events ++ (58 ∷ []) ∷ tokens in
    let after_open = t.4 in
    let after_name = after_open.4 in
    let letters : list_all is_before_colon name ≡ true = name_before name (and_parts (nat_lt 0 (length name)) (list_all is_name_byte name) parts.0).1 in
    let e : behind_colon bytes ≡ behind_colon after_name.1 =
    token_skipped (60 ∷ []) (name ∷ (62 ∷ []) ∷ later) bytes refl t
    ∙ token_skipped name ((62 ∷ []) ∷ later) t.1 letters after_open
    ∙ token_skipped (62 ∷ []) later after_open.1 refl after_name in
    subst (AreTokens tokens) (sym e) (behind_events events tokens after_name.1 parts.1 after_name.4)

-- ---- the name in a result

second_is : {A B C : Type 0} (a d : A) (b e : B) (c f : C) → ◌≡◌ {A = Result (A × B × C) LexFault} (Ok (a, b, c)) (Ok (d, e, f)) → b ≡ e
second_is {A} {B} {C} a d b e c f h = let q : ◌≡◌ {A = A × B × C} (a, b, c) (d, e, f) = cc in ap (λ (x : A × B × C). x.1) q

-- the first byte, and what follows it
pub first_quote : (bytes : List ℕ) (b : ℕ) → Some b ≡ slice_get bytes 0 → b ≡ 34 → bytes ≡ 34 ∷ drop 1 bytes
first_quote [] b is quote = cc
first_quote (x ∷ bytes) b is quote = let same : x ≡ 34 = cc in ap (λ y. y ∷ bytes) same

module _ (n : ℕ) (raw name : Option (List ℕ)) (left : List ℕ) where
  -- a string, and perhaps a name
  pub record AfterString (rest : List ℕ) : Type 0 where
    pub inside : List ℕ
    pub behind_it : List ℕ
    pub closed : inside_from false rest ≡ Some (inside, behind_it)
    pub is : (name_if (skip_blanks behind_it)).0 ≡ name

  pub after_string : (rest : List ℕ) → result_at n (34 ∷ rest) ≡ Ok (raw, name, left) → AfterString rest
  after_string rest is =
      bind_with (string_at n rest) (λ string. Ok (Some string.0, (name_if (skip_blanks string.1)).0, (name_if (skip_blanks string.1)).1)) (raw, name, left) is (λ string found e.
      let more = name_if (skip_blanks string.1) in
      let q : more.0 ≡ name = second_is (Some string.0) raw more.0 name more.1 left e in
      record { inside = string.0; behind_it = string.1; closed = closed_sound _ (inside_from false rest) string found; is = q })

-- ---- the name on a line

-- the result behind the colon has this name
pub record HasName (line : List ℕ) (name : Option (List ℕ)) : Type 0 where
  pub raw : Option (List ℕ)
  pub left : List ℕ
  pub is : result_at 0 (skip_blanks (behind_colon line)) ≡ Ok (raw, name, left)

pub named : (line : List ℕ) (events : List (List ℕ)) → line_events line ≡ Some events → HasName line (result_name line)
named line events = go (is_utf8 line) (reading_of line) refl
  where
    go : (text : Bool) (r : Result Reading LexFault) → reading_of line ≡ r → cond text (events_of r) None ≡ Some events → HasName line (cond text (name_of r) None)
    go false r is h = cc
    go true (Err fault) is h = cc
    go true (Ok blank) is h = cc
    go true (Ok (include file)) is h = cc
    go true (Ok (production keys raw name)) is h =
        let l = reading_sound line (production keys raw name) is in
        let p = right_parts keys raw name l.right in
        let found = result_again 0 raw name (behind_colon line) p.closed p.named p.result (behind_events keys (result_tokens raw name) line p.names l.content) in
        record { raw = raw; left = found.0; is = found.1 }
