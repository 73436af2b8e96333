-- The tokens that a line begins with are determined by the line.
use Rattle.std.proofs.Common.{◌≡◌, ℕ, List, [], ◌∷◌, ◌++◌, length, Bool, true, false, cond, not, ◌&&◌, refl, sym, ◌∙◌, ap, subst, append_assoc, ◌⊎◌, inl, inr}
use Rattle.std.specs.Prelude.{◌==◌, Option, Some, None, flat_map, nat_lt, codes}
use Rattle.std.specs.Option.{option_map_or}
use Rattle.std.specs.List.{list_all}
use Rattle.std.proofs.lemmas.Bool.{and_parts, not-true}
use Rattle.std.proofs.lemmas.List.{append_cancel_left}
use Rattle.compose_text.specs.Bytes.{is_blank, is_name_byte, leading, behind, begins}
use Rattle.compose_lex.specs.Line.{Reading, blank, include, production, is_name, is_inside, is_comment, quoted, event_tokens, result_tokens, tokens, is_reading, AreTokens}
use Rattle.compose_lex.specs.LineFault.{is_whole, BeginsWith}
use Rattle.compose_lex.specs.Fault.{skip_blanks, inside_from}
use Rattle.compose_lex.proofs.Runs.{prefix_all, name_no_blank, name_differs, blank_no_name, comment_first, blanks_first, skip_to}
use Rattle.compose_lex.proofs.Productions.{right_parts}
use Rattle.compose_lex.proofs.LineRead.{inside_again, end_first}

-- ---- the token at the beginning

-- the string in its quotes, or nothing if there is none
abbrev pub quoted_of : Option (List ℕ × List ℕ) → List ℕ
quoted_of None = []
quoted_of (Some x) = quoted x.0

-- the token at the beginning: a name, a string, or a single byte
abbrev pub next_token : List ℕ → List ℕ
next_token [] = []
next_token (b ∷ rest) = cond (is_name_byte b) (leading is_name_byte (b ∷ rest)) (cond (b == 34) (quoted_of (inside_from false rest)) (b ∷ []))

-- neither a blank nor `#`
abbrev pub is_token_first : ℕ → Bool
is_token_first b = not (is_blank b) && not (b == 35)

-- if it is whole, it is the token at the beginning
pub record IsToken (t : List ℕ) : Type 0 where
  pub read : (rest : List ℕ) → is_whole t rest ≡ true → next_token (t ++ rest) ≡ t
  pub first : (rest : List ℕ) → begins is_token_first (t ++ rest) ≡ true

-- each of these is a token
abbrev pub AllTokens : List (List ℕ) → Type 0
AllTokens [] = Unit {0}
AllTokens (t ∷ ts) = IsToken t × AllTokens ts

less_token : IsToken (60 ∷ [])
less_token = record { read = λ rest w. refl; first = λ rest. refl }

greater_token : IsToken (62 ∷ [])
greater_token = record { read = λ rest w. refl; first = λ rest. refl }

colon_token : IsToken (58 ∷ [])
colon_token = record { read = λ rest w. refl; first = λ rest. refl }

-- a closed string in quotes is a token
pub string_token : (raw : List ℕ) → is_inside raw ≡ true → IsToken (quoted raw)
string_token raw h = record { read = λ rest w. ap (λ x. quoted_of (inside_from false x)) (append_assoc raw (34 ∷ []) rest) ∙ ap quoted_of (inside_again false raw rest h); first = λ rest. refl }

-- a name is a token
pub name_token : (name : List ℕ) → is_name name ≡ true → IsToken name
name_token [] h = cc
name_token (b ∷ name) h =
    let all : list_all is_name_byte (b ∷ name) ≡ true = (and_parts (nat_lt 0 (length (b ∷ name))) (list_all is_name_byte (b ∷ name)) h).1 in
    let byte : is_name_byte b ≡ true = (and_parts (is_name_byte b) (list_all is_name_byte name) all).0 in
    record {
      read = λ rest w. (
          let ends : begins is_name_byte rest ≡ false = ends_there rest w in
          ap (λ x. cond x (leading is_name_byte (b ∷ name ++ rest)) (cond (b == 34) (quoted_of (inside_from false (name ++ rest))) (b ∷ []))) byte
          ∙ prefix_all is_name_byte (b ∷ name) rest all ends);
      first = λ rest. (let plain = name_no_blank b byte in let other = name_differs b 35 refl byte in rw (plain, other) refl);
    }
  where
    ends_there : (rest : List ℕ) → is_whole (b ∷ name) rest ≡ true → begins is_name_byte rest ≡ false
    ends_there rest w = let n = not-true (is_name (b ∷ name) && begins is_name_byte rest) w in let i : is_name (b ∷ name) ≡ true = h in sym (ap (λ x. x && begins is_name_byte rest) i) ∙ n

-- ---- the tokens of a valid reading

events_tokens : (events ts : List (List ℕ)) → list_all is_name events ≡ true → AllTokens ts → AllTokens (flat_map event_tokens events ++ ts)
events_tokens [] ts h a = a
events_tokens (e ∷ es) ts h a =
    let parts = and_parts (is_name e) (list_all is_name es) h in
    (less_token, (name_token e parts.0, (greater_token, events_tokens es ts parts.1 a)))

result_all : (raw name : Option (List ℕ)) → option_map_or is_inside raw true ≡ true → option_map_or is_name name true ≡ true → AllTokens (result_tokens raw name)
result_all None None r n = tt
result_all None (Some name) r n = (name_token name n, tt)
result_all (Some raw) None r n = (string_token raw r, tt)
result_all (Some raw) (Some name) r n = (string_token raw r, (name_token name n, tt))

-- the tokens of a valid reading are tokens
pub right_tokens : (r : Reading) → is_reading r ≡ true → AllTokens (tokens r)
right_tokens blank h = tt
right_tokens (include raw) h = (name_token (codes "include") refl, (string_token raw h, tt))
right_tokens (production events raw name) h =
    let parts = right_parts events raw name h in
    events_tokens events ((58 ∷ []) ∷ result_tokens raw name) parts.names (colon_token, result_all raw name parts.closed parts.named)

-- ---- a name is never the next token after a name

-- a string in quotes is not a name
pub quoted_no_name : (raw : List ℕ) → is_name (quoted raw) ≡ false
quoted_no_name raw = go (nat_lt 0 (length (quoted raw)))
  where
    go : (x : Bool) → (x && false) ≡ false
    go true = refl
    go false = refl

abbrev NoName : List ℕ → List (List ℕ) → Type 0
NoName t [] = Unit {0}
NoName t (u ∷ us) = is_name t ≡ true → (rest : List ℕ) → begins is_name_byte (u ++ rest) ≡ false

abbrev Separated : List (List ℕ) → Type 0
Separated [] = Unit {0}
Separated (t ∷ ts) = NoName t ts × Separated ts

after_mark : (t : List ℕ) (ts : List (List ℕ)) → is_name t ≡ false → NoName t ts
after_mark t [] h = tt
after_mark t (u ∷ us) h = λ is rest. cc

events_separated : (events ts : List (List ℕ)) → Separated ts → Separated (flat_map event_tokens events ++ ts)
events_separated [] ts s = s
events_separated (e ∷ es) ts s =
    (after_mark (60 ∷ []) (e ∷ (62 ∷ []) ∷ (flat_map event_tokens es ++ ts)) refl, (λ is rest. refl, (after_mark (62 ∷ []) (flat_map event_tokens es ++ ts) refl, events_separated es ts s)))

result_separated : (raw name : Option (List ℕ)) → Separated (result_tokens raw name)
result_separated None None = tt
result_separated None (Some name) = (tt, tt)
result_separated (Some raw) None = (tt, tt)
result_separated (Some raw) (Some name) = (after_mark (quoted raw) (name ∷ []) (quoted_no_name raw), (tt, tt))

separated : (r : Reading) → Separated (tokens r)
separated blank = tt
separated (include raw) = (λ is rest. refl, (tt, tt))
separated (production events raw name) = events_separated events ((58 ∷ []) ∷ result_tokens raw name) (after_mark (58 ∷ []) (result_tokens raw name) refl, result_separated raw name)

-- so each token of a line is whole
pub record Whole (ts : List (List ℕ)) (bytes : List ℕ) : Type 0 where
  pub rest : List ℕ
  pub begun : BeginsWith ts bytes rest
  pub comment : is_comment rest ≡ true

token_whole : (t : List ℕ) (ts : List (List ℕ)) (more : List ℕ) → NoName t ts → AreTokens ts more → is_whole t more ≡ true
token_whole t ts more n a = go (is_name t) refl
  where
    ends : (ts : List (List ℕ)) → NoName t ts → AreTokens ts more → is_name t ≡ true → begins is_name_byte more ≡ false
    ends [] n a is = end_first is_name_byte more blank_no_name refl a
    ends (u ∷ us) n a is = ap (begins is_name_byte) a.3 ∙ blanks_first is_name_byte a.0 (u ++ a.1) blank_no_name a.2 (n is a.1)

    go : (x : Bool) → is_name t ≡ x → not (x && begins is_name_byte more) ≡ true
    go true is = ap not (ends ts n a is)
    go false is = refl

all_whole : (ts : List (List ℕ)) (bytes : List ℕ) → Separated ts → AreTokens ts bytes → Whole ts bytes
all_whole [] bytes s a = record { rest = a.1; begun = (a.0, a.2, ap not (comment_first is_blank a.1 refl a.3), a.4); comment = a.3 }
all_whole (t ∷ ts) bytes s a =
    let later = all_whole ts a.1 s.1 a.4 in
    record { rest = later.rest; begun = (a.0, a.1, a.2, token_whole t ts a.1 s.0 a.4, a.3, later.begun); comment = later.comment }

-- in a line with the tokens of a reading each of them is whole, and a comment or nothing follows
-- the last
pub reading_whole : (r : Reading) (line : List ℕ) → AreTokens (tokens r) line → Whole (tokens r) line
reading_whole r line a = all_whole (tokens r) line (separated r) a

-- ---- two ways to begin a line

-- the first tokens of a list of tokens are tokens
pub all_before : (ts us : List (List ℕ)) → AllTokens (ts ++ us) → AllTokens ts
all_before [] us a = tt
all_before (t ∷ ts) us a = (a.0, all_before ts us a.1)

-- the second list has a further token, which begins where the first list ends
pub record Ahead (ts us : List (List ℕ)) (rest : List ℕ) : Type 0 where
  pub token : List ℕ
  pub more : List (List ℕ)
  pub behind : List ℕ
  pub longer : us ≡ ts ++ token ∷ more
  pub here : rest ≡ token ++ behind
  pub whole : is_whole token behind ≡ true
  pub is : IsToken token

token_no_blank : (bytes : List ℕ) → begins is_token_first bytes ≡ true → begins is_blank bytes ≡ false
token_no_blank [] h = refl
token_no_blank (b ∷ bytes) h = not-true (is_blank b) (and_parts (not (is_blank b)) (not (b == 35)) h).0

first_at : (t : List ℕ) (ts : List (List ℕ)) (bytes rest : List ℕ) → IsToken t → (b : BeginsWith (t ∷ ts) bytes rest) → skip_blanks bytes ≡ t ++ b.1
first_at t ts bytes rest is b = skip_to bytes b.0 (t ++ b.1) b.2 b.4 (token_no_blank (t ++ b.1) (is.first b.1))

rest_at : (bytes rest : List ℕ) → BeginsWith [] bytes rest → skip_blanks bytes ≡ rest
rest_at bytes rest b = skip_to bytes b.0 rest b.1 b.3 (not-true (begins is_blank rest) b.2)

same_token : (t u more behind : List ℕ) → IsToken t → IsToken u → is_whole t more ≡ true → is_whole u behind ≡ true → t ++ more ≡ u ++ behind → t ≡ u
same_token t u more behind a b v w e = sym (a.read more v) ∙ ap next_token e ∙ b.read behind w

one_further : (t : List ℕ) (ts us : List (List ℕ)) (rest : List ℕ) → Ahead ts us rest → Ahead (t ∷ ts) (t ∷ us) rest
one_further t ts us rest a = record { token = a.token; more = a.more; behind = a.behind; longer = ap (λ x. t ∷ x) a.longer; here = a.here; whole = a.whole; is = a.is }

-- the tokens and what follows them are the same, or one list goes on where the other ends
abbrev pub Compared : List (List ℕ) → List (List ℕ) → List ℕ → List ℕ → Type 0
Compared ts us rest rest2 = ((ts ≡ us) × (rest ≡ rest2)) ⊎ (Ahead ts us rest ⊎ Ahead us ts rest2)

compared_further : (t : List ℕ) (ts us : List (List ℕ)) (rest rest2 : List ℕ) → Compared ts us rest rest2 → Compared (t ∷ ts) (t ∷ us) rest rest2
compared_further t ts us rest rest2 (inl e) = inl (ap (λ x. t ∷ x) e.0, e.1)
compared_further t ts us rest rest2 (inr (inl a)) = inr (inl (one_further t ts us rest a))
compared_further t ts us rest rest2 (inr (inr a)) = inr (inr (one_further t us ts rest2 a))

-- of two beginnings of one line, one goes on where the other ends, or they are the same
pub compare : (ts us : List (List ℕ)) (bytes rest rest2 : List ℕ) → AllTokens ts → AllTokens us → BeginsWith ts bytes rest → BeginsWith us bytes rest2 → Compared ts us rest rest2
compare [] [] bytes rest rest2 a b v w = inl (refl, sym (rest_at bytes rest v) ∙ rest_at bytes rest2 w)
compare [] (u ∷ us) bytes rest rest2 a b v w =
    inr (inl (record { token = u; more = us; behind = w.1; longer = refl; here = sym (rest_at bytes rest v) ∙ first_at u us bytes rest2 b.0 w; whole = w.3; is = b.0 }))
compare (t ∷ ts) [] bytes rest rest2 a b v w =
    inr (inr (record { token = t; more = ts; behind = v.1; longer = refl; here = sym (rest_at bytes rest2 w) ∙ first_at t ts bytes rest a.0 v; whole = v.3; is = a.0 }))
compare (t ∷ ts) (u ∷ us) bytes rest rest2 a b v w =
    let e : t ++ v.1 ≡ u ++ w.1 = sym (first_at t ts bytes rest a.0 v) ∙ first_at u us bytes rest2 b.0 w in
    let is : t ≡ u = same_token t u v.1 w.1 a.0 b.0 v.3 w.3 e in
    let behind : v.1 ≡ w.1 = append_cancel_left u v.1 w.1 (ap (λ x. x ++ v.1) (sym is) ∙ e) in
    let later = compare ts us v.1 rest rest2 a.1 b.1 v.5 (subst (λ x. BeginsWith us x rest2) (sym behind) w.5) in
    subst (λ x. Compared (t ∷ ts) (x ∷ us) rest rest2) is (compared_further t ts us rest rest2 later)
