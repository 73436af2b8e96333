-- What is read from a line is its meaning.
use Rattle.std.proofs.Common.{◌≡◌, ℕ, suc, zero, ◌<◌, ◌≤◌, ◌-◌, List, [], ◌∷◌, ◌++◌, length, take, drop, Bool, true, false, cond, not, ◌||◌, refl, sym, ◌∙◌, ap, subst, arith, append_assoc, ◌⊎◌, inl, inr, eqb-true, lt-ltb, take-append-drop}
use Rattle.std.specs.Prelude.{◌==◌, nat_eq, Option, Some, None, is_some, Result, Ok, Err, flat_map, nat_lt, codes}
use Rattle.std.specs.Option.{option_map_or, option_map}
use Rattle.std.specs.List.{list_all, starts_with}
use Rattle.std.specs.Cmp.Lexicographic.{bytes_decides}
use Rattle.std.proofs.lemmas.Bool.{and_parts, and_from}
use Rattle.compose_text.specs.Results.{◌>>=◌}
use Rattle.compose_text.specs.Bytes.{is_blank, is_name_byte, leading, behind, begins}
use Rattle.compose_lex.specs.Line.{Reading, blank, include, production, is_name, is_inside, is_inside_from, is_comment, quoted, event_tokens, result_tokens, AreTokens, IsLine}
use Rattle.compose_lex.specs.Fault.{skip_blanks, byte_at, name_at, inside_from, closed_or, string_at, end_at, event_at, event_fault, colon_or, events_at, name_if, result_at, production_at, include_at, is_include, reading_of, reading_at}
use Rattle.compose_lex.specs.declared.LexFault.{LexFault}
use Rattle.compose_lex.specs.declared.LexFault.TheVariants.{BadToken, TooManyKeysyms, NoResult}
use Rattle.compose_lex.proofs.Productions.{right_from}
use Rattle.compose_lex.proofs.Runs.{parts_of, prefix_passes}

-- ---- the cause of an Ok

-- if two steps one after the other succeed, the first one returned the value with which the second
-- one succeeded
pub bind_with : {A B P : Type 0} (r : Result A LexFault) (f : A → Result B LexFault) (y : B) → (r >>= f) ≡ Ok y → ((x : A) → r ≡ Ok x → f x ≡ Ok y → P) → P
bind_with (Ok x) f y e k = k x refl e
bind_with (Err e) f y h k = cc

-- equal pairs have equal parts
pub pair_is : {A B : Type 0} (a c : A) (b d : B) → ◌≡◌ {A = A × B} (a, b) (c, d) → (a ≡ c) × (b ≡ d)
pair_is {A} {B} a c b d e = (ap (λ (x : A × B). x.0) e, ap (λ (x : A × B). x.1) e)

-- equal successes with pairs have equal parts
pub ok_pair : {A B : Type 0} (a c : A) (b d : B) → ◌≡◌ {A = Result (A × B) LexFault} (Ok (a, b)) (Ok (c, d)) → (a ≡ c) × (b ≡ d)
ok_pair {A} {B} a c b d e = let q : ◌≡◌ {A = A × B} (a, b) (c, d) = cc in pair_is a c b d q

some_pair : {A B : Type 0} (a c : A) (b d : B) → ◌≡◌ {A = Option (A × B)} (Some (a, b)) (Some (c, d)) → (a ≡ c) × (b ≡ d)
some_pair {A} {B} a c b d e = let q : ◌≡◌ {A = A × B} (a, b) (c, d) = cc in pair_is a c b d q

-- the value of a choice is its first branch if the test passes, and its second one if it fails
pub chosen : {A : Type 0} (b : Bool) (x y z : A) → cond b x y ≡ z → ((b ≡ true) × (x ≡ z)) ⊎ ((b ≡ false) × (y ≡ z))
chosen true x y z e = inl (refl, e)
chosen false x y z e = inr (refl, e)

mapped : {P : Type 0} (b : ℕ) (o : Option (List ℕ × List ℕ)) (raw rest : List ℕ) → option_map (λ x. let y : List ℕ × List ℕ = (b ∷ x.0, x.1) in y) o ≡ Some (raw, rest)
    → ((leading more : List ℕ) → o ≡ Some (leading, more) → b ∷ leading ≡ raw → more ≡ rest → P) → P
mapped b None raw rest e k = cc
mapped b (Some x) raw rest e k = let q = some_pair (b ∷ x.0) raw x.1 rest e in k x.0 x.1 refl q.0 q.1

-- ---- tokens

put_token : (t : List ℕ) (ts : List (List ℕ)) (bytes rest : List ℕ) → skip_blanks bytes ≡ t ++ rest → AreTokens ts rest → AreTokens (t ∷ ts) bytes
put_token t ts bytes rest e u = (leading is_blank bytes, rest, prefix_passes is_blank bytes, parts_of is_blank bytes ∙ ap (λ x. leading is_blank bytes ++ x) e, u)

put_end : (bytes comment : List ℕ) → skip_blanks bytes ≡ comment → is_comment comment ≡ true → AreTokens [] bytes
put_end bytes comment e h = (leading is_blank bytes, comment, prefix_passes is_blank bytes, h, parts_of is_blank bytes ∙ ap (λ x. leading is_blank bytes ++ x) e)

-- if the end is read, there is a comment or nothing
pub comment_sound : (n : ℕ) (bytes : List ℕ) (u : Unit {0}) → end_at n bytes ≡ Ok u → is_comment bytes ≡ true
comment_sound n [] u e = refl
comment_sound n (b ∷ bytes) u e = elim (chosen (b == 35) (Ok tt) (Err (BadToken (n - length (b ∷ bytes)))) (Ok u) e) [ inl x ↦ x.0 | inr x ↦ (let w = x.1 in cc) ]

end_sound : (n : ℕ) (bytes : List ℕ) (u : Unit {0}) → end_at n (skip_blanks bytes) ≡ Ok u → AreTokens [] bytes
end_sound n bytes u e = put_end bytes (skip_blanks bytes) refl (comment_sound n (skip_blanks bytes) u e)

-- if a byte is read, it is there, and the rest is what follows it
pub byte_sound : (n wanted : ℕ) (bytes rest : List ℕ) → byte_at n wanted bytes ≡ Ok rest → bytes ≡ wanted ∷ rest
byte_sound n wanted [] rest e = cc
byte_sound n wanted (b ∷ bytes) rest e = elim (chosen (b == wanted) (Ok bytes) (Err (BadToken (n - length (b ∷ bytes)))) (Ok rest) e) [
  | inl x ↦ (let is : b ≡ wanted = eqb-true b wanted x.0 in let w = x.1 in cc)
  | inr x ↦ (let w = x.1 in cc)
]

prefix_some : (p : ℕ → Bool) (b : ℕ) (bytes : List ℕ) → p b ≡ true → 0 < length (leading p (b ∷ bytes))
prefix_some p b bytes h = rw h (omega arith)

-- the bytes that are read by a test are at least one, all of them pass it, and the rest is what
-- follows them
pub taken : (p : ℕ → Bool) (f : LexFault) (bytes name rest : List ℕ) → cond {A = Result (List ℕ × List ℕ) LexFault} (begins p bytes) (Ok (leading p bytes, behind p bytes)) (Err f) ≡ Ok (name, rest)
    → (bytes ≡ name ++ rest) × (0 < length name) × (list_all p name ≡ true)
taken p f [] name rest e = cc
taken p f (b ∷ bytes) name rest e = elim (chosen {A = Result (List ℕ × List ℕ) LexFault} (p b) (Ok (leading p (b ∷ bytes), behind p (b ∷ bytes))) (Err f) (Ok (name, rest)) e) [
  | inl x ↦ (let q = ok_pair (leading p (b ∷ bytes)) name (behind p (b ∷ bytes)) rest x.1 in (
    parts_of p (b ∷ bytes) ∙ ap (λ t. t ++ behind p (b ∷ bytes)) q.0 ∙ ap (λ t. name ++ t) q.1,
    subst (λ (t : List ℕ). 0 < length t) q.0 (prefix_some p b bytes x.0),
    ap (list_all p) (sym q.0) ∙ prefix_passes p (b ∷ bytes),
  ))
  | inr x ↦ (let w = x.1 in cc)
]

-- one or more bytes of a name are a name
pub name_is : (name : List ℕ) → 0 < length name → list_all is_name_byte name ≡ true → is_name name ≡ true
name_is name l a = and_from (nat_lt 0 (length name)) (list_all is_name_byte name) (lt-ltb 0 (length name) l) a

-- if a name is read, it is there, and the rest is what follows it
pub name_sound : (n : ℕ) (bytes name rest : List ℕ) → name_at n bytes ≡ Ok (name, rest) → (bytes ≡ name ++ rest) × (is_name name ≡ true)
name_sound n bytes name rest e = let t = taken is_name_byte (BadToken (n - length bytes)) bytes name rest e in (t.0, name_is name t.1 t.2)

inside_sound : (kept : Bool) (bytes raw rest : List ℕ) → inside_from kept bytes ≡ Some (raw, rest) → (bytes ≡ raw ++ 34 ∷ rest) × (is_inside_from kept raw ≡ true)
inside_sound true [] raw rest e = cc
inside_sound false [] raw rest e = cc
inside_sound true (b ∷ bytes) raw rest e = mapped b (inside_from false bytes) raw rest e (λ first more found is on.
    let r = inside_sound false bytes first more found in
    (ap (λ t. b ∷ t) r.0 ∙ ap (λ t. t ++ 34 ∷ more) is ∙ ap (λ t. raw ++ 34 ∷ t) on, ap (is_inside_from true) (sym is) ∙ r.1))
inside_sound false (b ∷ bytes) raw rest e = go (b == 34) refl e (inside_sound (b == 92) bytes)
  where
    go : (x : Bool) → (b == 34) ≡ x
        → cond {A = Option (List ℕ × List ℕ)} x (Some ([], bytes)) (option_map (λ y. let z : List ℕ × List ℕ = (b ∷ y.0, y.1) in z) (inside_from (b == 92) bytes)) ≡ Some (raw, rest)
        → ((raw rest : List ℕ) → inside_from (b == 92) bytes ≡ Some (raw, rest) → (bytes ≡ raw ++ 34 ∷ rest) × (is_inside_from (b == 92) raw ≡ true))
        → (b ∷ bytes ≡ raw ++ 34 ∷ rest) × (is_inside_from false raw ≡ true)
    go true h e f =
        let q = some_pair [] raw bytes rest e in
        let mark : b ≡ 34 = eqb-true b 34 h in
        (ap (λ t. t ∷ bytes) mark ∙ ap (λ t. 34 ∷ t) q.1 ∙ ap (λ t. t ++ 34 ∷ rest) q.0, ap (is_inside_from false) (sym q.0))
    go false h e f = mapped b (inside_from (b == 92) bytes) raw rest e (λ first more found is on.
        let r = f first more found in (
          ap (λ t. b ∷ t) r.0 ∙ ap (λ t. t ++ 34 ∷ more) is ∙ ap (λ t. raw ++ 34 ∷ t) on,
          ap (is_inside_from false) (sym is) ∙ and_from (not (b == 34)) (is_inside_from (b == 92) first) (ap not h) r.1,
        ))

-- a value that does not become a fault was there
pub closed_sound : {A : Type 0} (f : LexFault) (o : Option A) (x : A) → closed_or f o ≡ Ok x → o ≡ Some x
closed_sound f None x e = cc
closed_sound f (Some y) x e = cc

-- if a string is read after its opening quote, it is there and closed, and the rest is what follows
-- it
pub string_sound : (n : ℕ) (bytes raw rest : List ℕ) → string_at n bytes ≡ Ok (raw, rest) → (34 ∷ bytes ≡ quoted raw ++ rest) × (is_inside raw ≡ true)
string_sound n bytes raw rest e =
    let r = inside_sound false bytes raw rest (closed_sound _ (inside_from false bytes) (raw, rest) e) in
    (ap (λ t. 34 ∷ t) (r.0 ∙ sym (append_assoc raw (34 ∷ []) rest)), r.1)

-- ---- events

event_sound : (n : ℕ) (bytes name rest : List ℕ) (ts : List (List ℕ)) → event_at n bytes ≡ Ok (name, rest) → AreTokens ts rest → AreTokens (name ∷ (62 ∷ []) ∷ ts) bytes × (is_name name ≡ true)
event_sound n bytes name rest ts e u =
    bind_with (name_at n (skip_blanks bytes)) (λ x. byte_at n 62 (skip_blanks x.1) >>= λ r. Ok (x.0, r)) (name, rest) e (λ x named e.
    bind_with (byte_at n 62 (skip_blanks x.1)) (λ r. Ok (x.0, r)) (name, rest) e (λ r closed e.
    let q = ok_pair x.0 name r rest e in
    let s = name_sound n (skip_blanks bytes) x.0 x.1 named in (
      put_token name ((62 ∷ []) ∷ ts) bytes x.1 (s.0 ∙ ap (λ t. t ++ x.1) q.0)
          (put_token (62 ∷ []) ts x.1 rest (byte_sound n 62 (skip_blanks x.1) r closed ∙ ap (λ t. 62 ∷ t) q.1) u),
      ap is_name (sym q.0) ∙ s.1,
    )))

-- if the events go on, there is a colon that ends them, or `<` after which the next one is read
pub colon_sound : (n : ℕ) (bytes : List ℕ) (f : List ℕ → Result (List (List ℕ) × List ℕ) LexFault) (x : List (List ℕ) × List ℕ) → colon_or n bytes f ≡ Ok x
    → ((rest : List ℕ) × (bytes ≡ 58 ∷ rest) × (x ≡ ([], rest))) ⊎ ((rest : List ℕ) × (bytes ≡ 60 ∷ rest) × (f rest ≡ Ok x))
colon_sound n [] f x e = cc
colon_sound n (b ∷ rest) f x e = go (b == 58) refl (b == 60) refl e
  where
    go : (c : Bool) → (b == 58) ≡ c → (d : Bool) → (b == 60) ≡ d → cond c (Ok ([], rest)) (cond d (f rest) (Err (event_fault n (b ∷ rest)))) ≡ Ok x
        → ((r : List ℕ) × (b ∷ rest ≡ 58 ∷ r) × (x ≡ ([], r))) ⊎ ((r : List ℕ) × (b ∷ rest ≡ 60 ∷ r) × (f r ≡ Ok x))
    go true h d i e = inl (rest, ap (λ t. t ∷ rest) (eqb-true b 58 h), cc)
    go false h true i e = inr (rest, ap (λ t. t ∷ rest) (eqb-true b 60 i), e)
    go false h false i e = cc

-- the bytes are the tokens of at most this number of events by name, the colon, and these tokens
pub record Events (left : ℕ) (bytes : List ℕ) (events ts : List (List ℕ)) : Type 0 where
  pub are : AreTokens (flat_map event_tokens events ++ (58 ∷ []) ∷ ts) bytes
  pub few : length events ≤ left
  pub names : list_all is_name events ≡ true

no_events : (left : ℕ) (bytes : List ℕ) (events ts : List (List ℕ)) (rest : List ℕ) → AreTokens ts rest
    → (r : List ℕ) × (skip_blanks bytes ≡ 58 ∷ r) × (◌≡◌ {A = List (List ℕ) × List ℕ} (events, rest) ([], r)) → Events left bytes events ts
no_events left bytes events ts rest u x =
    let q = pair_is events [] rest x.0 x.2 in
    subst (λ es. Events left bytes es ts) (sym q.0) (record { are = put_token (58 ∷ []) ts bytes rest (x.1 ∙ ap (λ t. 58 ∷ t) (sym q.1)) u; few = omega arith; names = refl })

more_events : (n left : ℕ) (bytes r : List ℕ) (events ts : List (List ℕ)) (rest : List ℕ) → skip_blanks bytes ≡ 60 ∷ r
    → ◌≡◌ {A = Result (List (List ℕ) × List ℕ) LexFault} (event_at n r >>= λ event. events_at n left event.1 >>= λ more. Ok (event.0 ∷ more.0, more.1)) (Ok (events, rest)) → AreTokens ts rest
    → ((bytes : List ℕ) (events : List (List ℕ)) (rest : List ℕ) → events_at n left bytes ≡ Ok (events, rest) → AreTokens ts rest → Events left bytes events ts) → Events (suc left) bytes events ts
more_events n left bytes r events ts rest first e u again =
    bind_with (event_at n r) (λ event. events_at n left event.1 >>= λ more. Ok (event.0 ∷ more.0, more.1)) (events, rest) e (λ event is e.
    bind_with (events_at n left event.1) (λ more. Ok (event.0 ∷ more.0, more.1)) (events, rest) e (λ more on e.
    let q = ok_pair (event.0 ∷ more.0) events more.1 rest e in
    let later = again event.1 more.0 more.1 on (subst (AreTokens ts) (sym q.1) u) in
    let a = event_sound n r event.0 event.1 (flat_map event_tokens more.0 ++ (58 ∷ []) ∷ ts) is later.are in
    subst (λ es. Events (suc left) bytes es ts) q.0 (record {
      are = put_token (60 ∷ []) (event.0 ∷ (62 ∷ []) ∷ (flat_map event_tokens more.0 ++ (58 ∷ []) ∷ ts)) bytes r first a.0;
      few = (let l : length more.0 ≤ left = later.few in omega arith);
      names = and_from (is_name event.0) (list_all is_name more.0) a.1 later.names;
    })))

events_sound : (n left : ℕ) (bytes : List ℕ) (events ts : List (List ℕ)) (rest : List ℕ) → events_at n left bytes ≡ Ok (events, rest) → AreTokens ts rest → Events left bytes events ts
unfolding events_at
events_sound n zero bytes events ts rest e u = elim (colon_sound n (skip_blanks bytes) (λ _. Err TooManyKeysyms) (events, rest) e) [
  | inl x ↦ no_events zero bytes events ts rest u x
  | inr x ↦ (let w = x.2 in cc)
]
events_sound n (suc left) bytes events ts rest e u =
    elim (colon_sound n (skip_blanks bytes) (λ r. event_at n r >>= λ event. events_at n left event.1 >>= λ more. Ok (event.0 ∷ more.0, more.1)) (events, rest) e) [
      | inl x ↦ no_events (suc left) bytes events ts rest u x
      | inr x ↦ more_events n left bytes x.0 events ts rest x.1 x.2 u (λ bytes events rest e u. events_sound n left bytes events ts rest e u)
    ]

-- ---- the result

-- the bytes are the tokens of a valid result
pub record ResultTokens (bytes : List ℕ) (raw name : Option (List ℕ)) : Type 0 where
  pub are : AreTokens (result_tokens raw name) bytes
  pub closed : option_map_or is_inside raw true ≡ true
  pub named : option_map_or is_name name true ≡ true
  pub some : is_some raw || is_some name ≡ true

-- what follows a run does not begin with a further run
pub after_twice : (p : ℕ → Bool) (xs : List ℕ) → behind p (behind p xs) ≡ behind p xs
after_twice p [] = refl
after_twice p (x ∷ xs) = go (p x) refl (after_twice p xs)
  where
    go : (b : Bool) → p x ≡ b → behind p (behind p xs) ≡ behind p xs → behind p (cond b (behind p xs) (x ∷ xs)) ≡ cond b (behind p xs) (x ∷ xs)
    go true h e = e
    go false h e = rw h refl

after_string : (n : ℕ) (bytes raw more : List ℕ) (name : Option (List ℕ)) (rest : List ℕ) (u : Unit {0}) → skip_blanks bytes ≡ quoted raw ++ more → is_inside raw ≡ true
    → ◌≡◌ {A = Option (List ℕ) × List ℕ} (name_if (skip_blanks more)) (name, rest) → end_at n (skip_blanks rest) ≡ Ok u → ResultTokens bytes (Some raw) name
after_string n bytes raw more name rest u first h e ended =
    elim
    (chosen {A = Option (List ℕ) × List ℕ} (begins is_name_byte (skip_blanks more)) (Some (leading is_name_byte (skip_blanks more)), behind is_name_byte (skip_blanks more))
    (None, skip_blanks more) (name, rest) e) [
      | inl x ↦ (
          let q = pair_is (Some (leading is_name_byte (skip_blanks more))) name (behind is_name_byte (skip_blanks more)) rest x.1 in
          let t = taken is_name_byte TooManyKeysyms (skip_blanks more) (leading is_name_byte (skip_blanks more)) (behind is_name_byte (skip_blanks more)) (rw x.0 refl) in
          let end : AreTokens [] (behind is_name_byte (skip_blanks more)) = subst (AreTokens []) (sym q.1) (end_sound n rest u ended) in
          subst (ResultTokens bytes (Some raw)) q.0 (record {
            are =
                put_token (quoted raw) (leading is_name_byte (skip_blanks more) ∷ []) bytes more first
                (put_token (leading is_name_byte (skip_blanks more)) [] more (behind is_name_byte (skip_blanks more)) t.0 end);
            closed = h;
            named = name_is (leading is_name_byte (skip_blanks more)) t.1 t.2;
            some = refl;
          }))
      | inr x ↦ (
          let q = pair_is None name (skip_blanks more) rest x.1 in
          let end : end_at n (skip_blanks more) ≡ Ok u = ap (end_at n) (sym (after_twice is_blank more) ∙ ap skip_blanks q.1) ∙ ended in
          subst (ResultTokens bytes (Some raw)) q.0 (record { are = put_token (quoted raw) [] bytes more first (end_sound n more u end); closed = h; named = refl; some = refl }))
    ]

triple_is : {A B C : Type 0} (a d : A) (b e : B) (c f : C) → ◌≡◌ {A = Result (A × B × C) LexFault} (Ok (a, b, c)) (Ok (d, e, f)) → (a ≡ d) × (b ≡ e) × (c ≡ f)
triple_is {A} {B} {C} a d b e c f h = let q : ◌≡◌ {A = A × B × C} (a, b, c) (d, e, f) = cc in (ap (λ (x : A × B × C). x.0) q, ap (λ (x : A × B × C). x.1) q, ap (λ (x : A × B × C). x.2) q)

result_sound : (n : ℕ) (bytes rest : List ℕ) (raw name : Option (List ℕ)) (left : List ℕ) (u : Unit {0}) → skip_blanks bytes ≡ rest → result_at n rest ≡ Ok (raw, name, left)
    → end_at n (skip_blanks left) ≡ Ok u → ResultTokens bytes raw name
result_sound n bytes [] raw name left u first e ended = cc
result_sound n bytes (b ∷ rest) raw name left u first e ended = go (b == 35) (b == 34) refl e
  where
    go : (c d : Bool) → (b == 34) ≡ d
        → cond {A = Result (Option (List ℕ) × Option (List ℕ) × List ℕ) LexFault} c (Err NoResult) (cond {A = Result (Option (List ℕ) × Option (List ℕ) × List ℕ) LexFault} d
        (string_at n rest >>= λ string. Ok (Some string.0, (name_if (skip_blanks string.1)).0, (name_if (skip_blanks string.1)).1))
        (name_at n (b ∷ rest) >>= λ name. Ok (None, Some name.0, name.1))) ≡ Ok (raw, name, left)
        → ResultTokens bytes raw name
    go true d h e = cc
    go false true h e = bind_with (string_at n rest) (λ string. Ok (Some string.0, (name_if (skip_blanks string.1)).0, (name_if (skip_blanks string.1)).1)) (raw, name, left) e (λ string is e.
        let q = triple_is (Some string.0) raw (name_if (skip_blanks string.1)).0 name (name_if (skip_blanks string.1)).1 left e in
        let s = string_sound n rest string.0 string.1 is in
        subst (λ r. ResultTokens bytes r name) q.0 (after_string n bytes string.0 string.1 name left u (first ∙ ap (λ t. t ∷ rest) (eqb-true b 34 h) ∙ s.0) s.1 (λ i. (q.1 i, q.2 i)) ended))
    go false false h e = bind_with (name_at n (b ∷ rest)) (λ name. Ok (None, Some name.0, name.1)) (raw, name, left) e (λ x is e.
        let q = triple_is None raw (Some x.0) name x.1 left e in
        let s = name_sound n (b ∷ rest) x.0 x.1 is in
        let end : AreTokens [] x.1 = subst (AreTokens []) (sym q.2) (end_sound n left u ended) in
        subst (λ r. ResultTokens bytes r name) q.0 (subst (ResultTokens bytes None) q.1 (record { are = put_token x.0 [] bytes x.1 (first ∙ s.0) end; closed = refl; named = s.1; some = refl })))

-- ---- lines

production_sound : (line rest : List ℕ) (n : ℕ) (r : Reading) → skip_blanks line ≡ 60 ∷ rest → production_at n rest ≡ Ok r → IsLine line r
production_sound line rest n r first e =
    bind_with (event_at n rest)
    (λ event. events_at n 31 event.1 >>= λ more. result_at n (skip_blanks more.1) >>= λ result. end_at n (skip_blanks result.2) >>= λ end. Ok (production (event.0 ∷ more.0) result.0 result.1)) r e
    (λ event is e.
    bind_with (events_at n 31 event.1) (λ more. result_at n (skip_blanks more.1) >>= λ result. end_at n (skip_blanks result.2) >>= λ end. Ok (production (event.0 ∷ more.0) result.0 result.1)) r e
    (λ more on e.
    bind_with (result_at n (skip_blanks more.1)) (λ result. end_at n (skip_blanks result.2) >>= λ end. Ok (production (event.0 ∷ more.0) result.0 result.1)) r e (λ result gives e.
    bind_with (end_at n (skip_blanks result.2)) (λ end. Ok (production (event.0 ∷ more.0) result.0 result.1)) r e (λ end ended e.
    let q : production (event.0 ∷ more.0) result.0 result.1 ≡ r = cc in
    let last = result_sound n more.1 (skip_blanks more.1) result.0 result.1 result.2 end refl gives ended in
    let later = events_sound n 31 event.1 more.0 (result_tokens result.0 result.1) more.1 on last.are in
    let a = event_sound n rest event.0 event.1 (flat_map event_tokens more.0 ++ (58 ∷ []) ∷ result_tokens result.0 result.1) is later.are in
    let few : length more.0 ≤ 31 = later.few in
    let right = right_from (event.0 ∷ more.0) result.0 result.1 (record {
      some = omega arith;
      few = omega arith;
      names = and_from (is_name event.0) (list_all is_name more.0) a.1 later.names;
      closed = last.closed;
      named = last.named;
      result = last.some;
    }) in
    let content = put_token (60 ∷ []) (event.0 ∷ (62 ∷ []) ∷ (flat_map event_tokens more.0 ++ (58 ∷ []) ∷ result_tokens result.0 result.1)) line rest first a.0 in
    subst (IsLine line) q (record { right = right; content = content })))))

-- what begins with `include` is that word and what follows it
pub starts_is : (xs : List ℕ) → starts_with nat_eq xs (codes "include") ≡ true → xs ≡ codes "include" ++ drop 7 xs
starts_is xs h = sym (take-append-drop 7 xs) ∙ ap (λ t. t ++ drop 7 xs) (sym ((bytes_decides (codes "include") (take 7 xs)).0 h))

include_sound : (line rest : List ℕ) (n : ℕ) (r : Reading) → skip_blanks line ≡ codes "include" ++ rest → include_at n rest ≡ Ok r → IsLine line r
include_sound line rest n r first e =
    bind_with (byte_at n 34 (skip_blanks rest)) (λ rest. string_at n rest >>= λ string. end_at n (skip_blanks string.1) >>= λ end. Ok (include string.0)) r e (λ after_quote is e.
    bind_with (string_at n after_quote) (λ string. end_at n (skip_blanks string.1) >>= λ end. Ok (include string.0)) r e (λ string on e.
    bind_with (end_at n (skip_blanks string.1)) (λ end. Ok (include string.0)) r e (λ end ended e.
    let q : include string.0 ≡ r = cc in
    let s = string_sound n after_quote string.0 string.1 on in
    subst (IsLine line) q (record {
      right = s.1;
      content = put_token (codes "include") (quoted string.0 ∷ []) line rest first
          (put_token (quoted string.0) [] rest string.1 (byte_sound n 34 (skip_blanks rest) after_quote is ∙ s.0) (end_sound n string.1 end ended));
    }))))

blank_sound : (line comment : List ℕ) (r : Reading) → skip_blanks line ≡ comment → is_comment comment ≡ true → ◌≡◌ {A = Result Reading LexFault} (Ok blank) (Ok r) → IsLine line r
blank_sound line comment r first h e = let q : blank ≡ r = cc in subst (IsLine line) q (record { right = refl; content = put_end line comment first h })

-- what is read from a line is a reading whose tokens are those of the line
pub reading_sound : (line : List ℕ) (r : Reading) → reading_of line ≡ Ok r → IsLine line r
reading_sound line r e = go (length line) (skip_blanks line) refl e
  where
    go : (n : ℕ) (rest : List ℕ) → skip_blanks line ≡ rest → reading_at n rest ≡ Ok r → IsLine line r
    go n [] first e = blank_sound line [] r first refl e
    go n (b ∷ rest) first e = by (b == 35) refl (is_include (b ∷ rest)) refl (b == 60) refl e
      where
        by : (x : Bool) → (b == 35) ≡ x → (y : Bool) → is_include (b ∷ rest) ≡ y → (z : Bool) → (b == 60) ≡ z
            → cond x (Ok blank) (cond y (include_at n (drop 7 (b ∷ rest))) (cond z (production_at n rest) (Err (event_fault n (b ∷ rest))))) ≡ Ok r → IsLine line r
        by true h y i z j e = blank_sound line (b ∷ rest) r first h e
        by false h true i z j e = include_sound line (drop 7 (b ∷ rest)) n r
            (first ∙ starts_is (b ∷ rest) (and_parts (starts_with nat_eq (b ∷ rest) (codes "include")) (not (begins is_name_byte (drop 7 (b ∷ rest)))) i).0) e
        by false h false i true j e = production_sound line rest n r (first ∙ ap (λ t. t ∷ rest) (eqb-true b 60 j)) e
        by false h false i false j e = cc
