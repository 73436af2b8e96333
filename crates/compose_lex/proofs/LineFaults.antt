-- The reader finds a fault in a line exactly if it is its fault by the grammar.
use Rattle.std.proofs.Common.{◌≡◌, ℕ, ◌-◌, List, [], ◌∷◌, ◌++◌, length, drop, Bool, true, false, cond, not, refl, sym, ◌∙◌, ap, subst, arith, append_assoc, ◌⊎◌, inl, inr, eqb-true}
use Rattle.std.specs.Prelude.{◌==◌, nat_eq, is_some, Result, Ok, Err, codes}
use Rattle.std.specs.List.{starts_with}
use Rattle.std.proofs.lemmas.List.{append-nil}
use Rattle.std.proofs.lemmas.Bool.{and_parts, not-true}
use Rattle.compose_text.specs.Results.{◌>>=◌}
use Rattle.compose_text.specs.Bytes.{is_name_byte, begins}
use Rattle.compose_lex.specs.Line.{Reading, blank, include, production, is_comment, quoted, tokens, is_reading, IsLine}
use Rattle.compose_lex.specs.Fault.{skip_blanks, byte_at, inside_from, string_at, end_at, event_at, event_fault, events_at, result_at, production_at, include_at, is_include, reading_of, reading_at}
use Rattle.compose_lex.specs.LineFault.{AreFirst, is_whole, GoesOn, StopsAt, is_modifier_first, IsBadToken, IsFaultAt, IsLineFault}
use Rattle.compose_lex.specs.declared.LexFault.{LexFault}
use Rattle.compose_lex.specs.declared.LexFault.TheVariants.{BadToken, ModifierList, UnclosedString, UnknownEscape, BadCode, NoResult, TooManyKeysyms, EmptyText, TextTooLong, TextNotUtf8, NoMemory}
use Rattle.compose_lex.proofs.Runs.{comment_first}
use Rattle.compose_lex.proofs.LineSound.{byte_sound, string_sound, starts_is, reading_sound}
use Rattle.compose_lex.proofs.Tokens.{AllTokens, right_tokens, all_before, reading_whole, is_token_first, Ahead, compare}
use Rattle.compose_lex.proofs.Stages.{start, word, opened, ended, goes}
use Rattle.compose_lex.proofs.LineStops.{Reached, reached_more, at_start, whole_before, opened_right, unlike, no_event, unclosed}
use Rattle.compose_lex.proofs.LineEvents.{bind_fails, byte_fails, closed_fails, may_not, Events, event_reached, event_broken, Colon, events_broken, events_reached}
use Rattle.compose_lex.proofs.LineResults.{End, end_broken, never, string_whole, result_broken, result_reached}

-- ---- the fault that the reader finds

production_broken : (line rest : List ℕ) (f : LexFault) → skip_blanks line ≡ 60 ∷ rest → production_at (length line) rest ≡ Err f → IsLineFault line f
production_broken line rest f first e =
    let n = length line in
    let less = reached_more line [] (skip_blanks line) start (opened 0) (60 ∷ []) rest (at_start line) first refl refl (opened_right [] (omega arith) refl) in
    bind_fails (event_at n rest)
    (λ event. events_at n 31 event.1 >>= λ more. result_at n (skip_blanks more.1) >>= λ result. end_at n (skip_blanks result.2) >>= λ end. Ok (production (event.0 ∷ more.0) result.0 result.1)) f e
    (λ e. event_broken line [] rest f (omega arith) refl less e)
    (λ event is e.
    let s : Events line (event.0 ∷ []) 31 event.1 = event_reached line [] rest event 31 (omega arith) refl less is in
    bind_fails (events_at n 31 event.1) (λ more. result_at n (skip_blanks more.1) >>= λ result. end_at n (skip_blanks result.2) >>= λ end. Ok (production (event.0 ∷ more.0) result.0 result.1)) f e
    (λ e. events_broken line 31 (event.0 ∷ []) event.1 f s e)
    (λ more on e.
    let c : Colon line (event.0 ∷ more.0) more.1 = events_reached line 31 (event.0 ∷ []) event.1 more s on in
    bind_fails (result_at n (skip_blanks more.1)) (λ result. end_at n (skip_blanks result.2) >>= λ end. Ok (production (event.0 ∷ more.0) result.0 result.1)) f e
    (λ e. result_broken line (event.0 ∷ more.0) more.1 f c e)
    (λ result gives e.
    bind_fails (end_at n (skip_blanks result.2)) (λ end. Ok (production (event.0 ∷ more.0) result.0 result.1)) f e
    (λ e. end_broken line result.2 f (result_reached line (event.0 ∷ more.0) more.1 result c gives) e)
    (λ end last e. cc))))

include_broken : (line rest : List ℕ) (f : LexFault) → skip_blanks line ≡ codes "include" ++ rest → begins is_name_byte rest ≡ false → include_at (length line) rest ≡ Err f → IsLineFault line f
include_broken line rest f first ends e =
    let n = length line in
    let done = codes "include" ∷ [] in
    let r = reached_more line [] (skip_blanks line) start word (codes "include") rest (at_start line) first (whole_before (codes "include") rest ends) refl (include [], quoted [] ∷ [], refl, refl) in
    bind_fails (byte_at n 34 (skip_blanks rest)) (λ rest. string_at n rest >>= λ string. end_at n (skip_blanks string.1) >>= λ end. Ok (include string.0)) f e
    (λ e.
    let b = byte_fails n 34 (skip_blanks rest) f e in
    subst (IsLineFault line) b.1 (unlike line done (skip_blanks rest) word r (may_not (λ b. b == 34) (λ b. is_some (goes word b)) (skip_blanks rest) (λ b h. rw h refl) b.0) (λ e. cc) refl))
    (λ behind is e.
    let here = byte_sound n 34 (skip_blanks rest) behind is in
    bind_fails (string_at n behind) (λ string. end_at n (skip_blanks string.1) >>= λ end. Ok (include string.0)) f e
    (λ e.
    let q = closed_fails (UnclosedString (n - length (34 ∷ behind))) (inside_from false behind) f e in
    subst (IsLineFault line) q.1 (unclosed line done behind word (subst (λ x. Reached line done x word) here r) q.0 [] (include [], [], refl, refl) refl))
    (λ string on e.
    let t = string_sound n behind string.0 string.1 on in
    let last = reached_more line done (skip_blanks rest) word ended (quoted string.0) string.1 r (here ∙ t.0) (string_whole string.0 string.1) refl (include string.0, [], t.1, refl) in
    let end : End line string.1 = record { done = done ++ quoted string.0 ∷ []; stage = ended; reached = last; none = never (skip_blanks string.1); behind = refl } in
    bind_fails (end_at n (skip_blanks string.1)) (λ end. Ok (include string.0)) f e
    (λ e. end_broken line string.1 f end e)
    (λ u is e. cc)))

-- neither an event nor the word `include`
pub nothing_begins : (b : ℕ) (rest : List ℕ) → is_include (b ∷ rest) ≡ false → (b == 60) ≡ false → GoesOn [] (b ∷ rest) → ⊥
nothing_begins b rest i l g = go g.2.0 g.2.2 g.2.3
  where
    go : (r : Reading) → is_reading r ≡ true → tokens r ≡ g.0 ∷ g.2.1 → ⊥
    go blank h e = cc
    go (include raw) h e =
        let is : codes "include" ≡ g.0 = cc in
        let here : is_include (b ∷ rest) ≡ is_whole (codes "include") g.1 = ap is_include (g.4 ∙ ap (λ t. t ++ g.1) (sym is)) in
        let whole : is_whole (codes "include") g.1 ≡ true = ap (λ t. is_whole t g.1) is ∙ g.3 in
        cc
    go (production [] raw name) h e = cc (h)
    go (production (event ∷ events) raw name) h e =
        let is : 60 ∷ [] ≡ g.0 = cc in
        let here : b ∷ rest ≡ 60 ∷ g.1 = g.4 ∙ ap (λ t. t ++ g.1) (sym is) in
        let same : b ≡ 60 = cc in
        let mark : (b == 60) ≡ true = ap (λ x. x == 60) same in
        cc

-- the fault that is read from a line is one that the grammar finds in it
pub line_fault_sound : (line : List ℕ) (f : LexFault) → reading_of line ≡ Err f → IsLineFault line f
line_fault_sound line f e = go (skip_blanks line) refl e
  where
    by : (b : ℕ) (rest : List ℕ) → skip_blanks line ≡ b ∷ rest → (x : Bool) → (b == 35) ≡ x → (y : Bool) → is_include (b ∷ rest) ≡ y → (z : Bool) → (b == 60) ≡ z
        → cond x (Ok blank) (cond y (include_at (length line) (drop 7 (b ∷ rest))) (cond z (production_at (length line) rest) (Err (event_fault (length line) (b ∷ rest))))) ≡ Err f
        → IsLineFault line f
    by b rest first true h y i z j e = cc
    by b rest first false h true i z j e =
        let parts = and_parts (starts_with nat_eq (b ∷ rest) (codes "include")) (not (begins is_name_byte (drop 7 (b ∷ rest)))) i in
        include_broken line (drop 7 (b ∷ rest)) f (first ∙ starts_is (b ∷ rest) parts.0) (not-true (begins is_name_byte (drop 7 (b ∷ rest))) parts.1) e
    by b rest first false h false i true j e = production_broken line rest f (first ∙ ap (λ t. t ∷ rest) (eqb-true b 60 j)) e
    by b rest first false h false i false j e =
        let is : event_fault (length line) (b ∷ rest) ≡ f = cc in
        subst (IsLineFault line) is (no_event line [] (b ∷ rest) start (subst (λ x. Reached line [] x start) first (at_start line)) (nothing_begins b rest i j) (λ _. h) j refl)

    go : (rest : List ℕ) → skip_blanks line ≡ rest → reading_at (length line) rest ≡ Err f → IsLineFault line f
    go [] first e = cc
    go (b ∷ rest) first e = by b rest first (b == 35) refl (is_include (b ∷ rest)) refl (b == 60) refl e

-- ---- one place

first_tokens : (done : List (List ℕ)) → AreFirst done → AllTokens done
first_tokens done f = all_before done f.1 (subst AllTokens f.3 (right_tokens f.0 f.2))

no_further : (line : List ℕ) (at : ℕ) (done : List (List ℕ)) (rest : List ℕ) (all : List (List ℕ)) → StopsAt line at done rest → AreFirst all → Ahead done all rest → ⊥
no_further line at done rest all s f a = s.no_token (
  a.token,
  a.behind,
  (f.0, a.more ++ f.1, f.2, f.3 ∙ ap (λ x. x ++ f.1) a.longer ∙ append_assoc done (a.token ∷ a.more) f.1 ∙ sym (append_assoc done (a.token ∷ []) (a.more ++ f.1))),
  a.whole,
  a.here,
)

one_place : (line : List ℕ) (at at2 : ℕ) (done done2 : List (List ℕ)) (rest rest2 : List ℕ) → StopsAt line at done rest → StopsAt line at2 done2 rest2 → (done ≡ done2) × (rest ≡ rest2)
one_place line at at2 done done2 rest rest2 s t = elim (compare done done2 line rest rest2 (first_tokens done s.right) (first_tokens done2 t.right) s.begun t.begun) [
  | inl e ↦ e
  | inr (inl a) ↦ absurd (no_further line at done rest done2 s t.right a)
  | inr (inr a) ↦ absurd (no_further line at2 done2 rest2 done t s.right a)
]

-- a line of the grammar stops nowhere
no_stop : (line : List ℕ) (r : Reading) (at : ℕ) (done : List (List ℕ)) (rest : List ℕ) → IsLine line r → StopsAt line at done rest → ⊥
no_stop line r at done rest l s =
    let w = reading_whole r line l.content in
    elim (compare (tokens r) done line w.rest rest (right_tokens r l.right) (first_tokens done s.right) w.begun s.begun) [
      | inl e ↦ s.no_end (r, l.right, e.0) (ap is_comment (sym e.1) ∙ w.comment)
      | inr (inl a) ↦ (
          let token : begins is_token_first w.rest ≡ true = ap (begins is_token_first) a.here ∙ a.is.first a.behind in
          let other = comment_first is_token_first w.rest refl w.comment in
          cc)
      | inr (inr a) ↦ no_further line at done rest (tokens r) s (r, [], l.right, sym (append-nil (tokens r))) a
    ]

-- ---- one fault at a place

-- the fault other than a bad token that the first byte of the rest indicates
special : ℕ → List ℕ → LexFault
special n [] = NoResult
special n (b ∷ rest) = cond (b == 34) (UnclosedString n) (cond (b == 35) NoResult (cond (b == 60) TooManyKeysyms (ModifierList n)))

modifier_special : (n : ℕ) (rest : List ℕ) → begins is_modifier_first rest ≡ true → special n rest ≡ ModifierList n
unfolding special
modifier_special n [] h = cc
modifier_special n (b ∷ rest) h = let x = differs 34 refl in let y = differs 35 refl in let z = differs 60 refl in rw (x, y, z) refl
  where
    differs : (c : ℕ) → is_modifier_first c ≡ false → (b == c) ≡ false
    differs c other = go (b == c) refl
      where
        go : (x : Bool) → (b == c) ≡ x → x ≡ false
        go false e = refl
        go true e = let same : is_modifier_first b ≡ is_modifier_first c = ap is_modifier_first (eqb-true b c e) in cc

string_special : (n : ℕ) (rest : List ℕ) → begins (λ b. b == 34) rest ≡ true → special n rest ≡ UnclosedString n
unfolding special
string_special n [] h = cc
string_special n (b ∷ rest) h = rw h refl

comment_special : (n : ℕ) (rest : List ℕ) → is_comment rest ≡ true → special n rest ≡ NoResult
unfolding special
comment_special n [] h = refl
comment_special n (b ∷ rest) h = ap (λ x. special n (x ∷ rest)) (eqb-true b 35 h)

event_special : (n : ℕ) (rest : List ℕ) → begins (λ b. b == 60) rest ≡ true → special n rest ≡ TooManyKeysyms
unfolding special
event_special n [] h = cc
event_special n (b ∷ rest) h = ap (λ x. special n (x ∷ rest)) (eqb-true b 60 h)

abbrev Kind : ℕ → List (List ℕ) → List ℕ → LexFault → Type 0
Kind n done rest f = ((f ≡ BadToken n) × IsBadToken done rest) ⊎ ((f ≡ special n rest) × (IsBadToken done rest → ⊥))

kind_of : (n : ℕ) (done : List (List ℕ)) (rest : List ℕ) (f : LexFault) → IsFaultAt n done rest f → Kind n done rest f
kind_of n done rest (BadToken at) x = inl (ap BadToken x.0, x.1)
kind_of n done rest (ModifierList at) x = inr (ap ModifierList x.0 ∙ sym (modifier_special n rest x.1.1), λ b. b.no_modifier_list x.1)
kind_of n done rest (UnclosedString at) x = inr (ap UnclosedString x.0 ∙ sym (string_special n rest x.1.2), λ b. b.no_unclosed_string x.1)
kind_of n done rest NoResult x = inr (sym (comment_special n rest x.2), λ b. b.no_missing_result x)
kind_of n done rest TooManyKeysyms x = inr (sym (event_special n rest x.3), λ b. b.no_33rd_event x)
kind_of n done rest (UnknownEscape at) x = absurd x
kind_of n done rest (BadCode at) x = absurd x
kind_of n done rest EmptyText x = absurd x
kind_of n done rest TextTooLong x = absurd x
kind_of n done rest TextNotUtf8 x = absurd x
kind_of n done rest NoMemory x = absurd x

same_kind : (n : ℕ) (done : List (List ℕ)) (rest : List ℕ) (f g : LexFault) → Kind n done rest f → Kind n done rest g → f ≡ g
same_kind n done rest f g (inl x) (inl y) = x.0 ∙ sym y.0
same_kind n done rest f g (inr x) (inr y) = x.0 ∙ sym y.0
same_kind n done rest f g (inl x) (inr y) = absurd (y.1 x.1)
same_kind n done rest f g (inr x) (inl y) = absurd (x.1 y.1)

-- a line has at most one fault
pub one_line_fault : (line : List ℕ) (f g : LexFault) → IsLineFault line f → IsLineFault line g → f ≡ g
one_line_fault line f g x y =
    let p = one_place line x.at y.at x.done y.done x.rest y.rest x.stops y.stops in
    let long : length x.rest ≡ length y.rest = ap length p.1 in
    let a = x.stops.offset in
    let b = y.stops.offset in
    let place : x.at ≡ y.at = omega (arith, a, b, long) in
    let here : IsFaultAt y.at y.done y.rest f = subst (λ n. IsFaultAt n y.done y.rest f) place (subst (λ d. IsFaultAt x.at d y.rest f) p.0 (subst (λ r. IsFaultAt x.at x.done r f) p.1 x.is)) in
    same_kind y.at y.done y.rest f g (kind_of y.at y.done y.rest f here) (kind_of y.at y.done y.rest g y.is)

-- the fault that the grammar finds in a line is read from it
pub line_fault_read : (line : List ℕ) (f : LexFault) → IsLineFault line f → reading_of line ≡ Err f
line_fault_read line f x = go (reading_of line) refl
  where
    go : (r : Result Reading LexFault) → reading_of line ≡ r → r ≡ Err f
    go (Ok content) h = absurd (no_stop line content x.at x.done x.rest (reading_sound line content h) x.stops)
    go (Err g) h = ap (λ e. let r : Result Reading LexFault = Err e in r) (one_line_fault line g f (line_fault_sound line g h) x)
