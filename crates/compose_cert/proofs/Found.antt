-- A text that is read as a certificate spells it.
use Rattle.std.proofs.Common.{◌≡◌, ℕ, zero, suc, ◌+◌, List, [], ◌∷◌, ◌++◌, length, drop, map, Bool, true, false, cond, ◌&&◌, refl, sym, subst, ◌∙◌, ap, arith, append_assoc, append-nil, length-append, eqb-true}
use Rattle.std.specs.Prelude.{◌==◌, if◌then◌else◌, nat_eq, nat_lt, nat_le, Option, Some, None, Result, Ok, Err, IfOk, bytes_eq, flat_map, codes}
use Rattle.std.specs.Option.{option_map, option_map_or}
use Rattle.std.specs.Cmp.Lexicographic.{bytes_decides}
use Rattle.std.specs.List.{list_all, starts_with}
use Rattle.std.specs.Fmt.{decimal}
use Rattle.std.specs.Str.Parse.{digits_value}
use Rattle.std.proofs.lemmas.Bool.{and_parts, and_from, ltb-false, le-leb, lt-ltb, eqb-false}
use Rattle.std.proofs.lemmas.List.{length-map}
use Rattle.std.proofs.lemmas.Option.{some_pair_parts}
use Rattle.compose_text.specs.Results.{◌>>=◌}
use Rattle.keysym_core.specs.Keysym.{is_keysym}
use Rattle.compose_text.specs.Lines.{divide}
use Rattle.compose_model.specs.Certificate.{Typing, Certificate}
use Rattle.compose_cert.specs.declared.CertFault.{CertFault}
use Rattle.compose_cert.specs.declared.CertFault.TheVariants.{NotText, TooLarge}
use Rattle.compose_cert.specs.Spelling.{counted, character_text, keysym_text, pair_text, typing_text, version_line, fresh_lines, lines_of_text, ended, max_count, is_number, are_numbers, is_character, is_spelled, is_typing, is_typed, are_counted, is_counted, is_certificate, Spells}
use Rattle.compose_cert.specs.Reading.{number_of, keysym_of, character_of, number_after, both, pair_of, pair_of_words, keysyms_of, typing_of, typing_of_words, version_of, line_at, if_few, count_at, typing_at, times, if_some, end_at, some_fresh_at, fresh_at, certificate_of}
use Rattle.compose_cert.specs.CertificateReturns.{CertificateReturns}
use Rattle.compose_cert.proofs.LineRead.{join, join_divide, written_was}
use Rattle.compose_cert.proofs.TextRead.{spelled_is_read, typing_parts, certificate_parts, after_fresh, after_typings, after_typing_count, after_pairs, after_count, after_bound, after_version}

-- ---- forms of lines

number_was : (word : List ℕ) (n : ℕ) → number_of word ≡ Some n → (is_number n ≡ true) × (word ≡ decimal n)
number_was word n h = written_was decimal is_number (digits_value 10 word) word n h

keysym_was : (word : List ℕ) (k : ℕ) → keysym_of word ≡ Some k → (is_keysym k ≡ true) × (word ≡ keysym_text k)
keysym_was word k h = written_was keysym_text is_keysym (digits_value 16 word) word k h

character_was : (word : List ℕ) (c : ℕ) → character_of word ≡ Some c → (is_character c ≡ true) × (word ≡ character_text c)
character_was word c h = written_was character_text is_character (digits_value 16 (drop 2 word)) word c h

-- both options have their values
both_were : {A B : Type 0} (x : Option A) (y : Option B) (v : A × B) → both x y ≡ Some v → (x ≡ Some v.0) × (y ≡ Some v.1)
both_were None None v h = cc
both_were None (Some b) v h = cc
both_were (Some a) None v h = cc
both_were (Some a) (Some b) v h = let parts = some_pair_parts a v.0 b v.1 h in (ap Some parts.0, ap Some parts.1)

pair_was : (line : List ℕ) (p : ℕ × ℕ) → pair_of line ≡ Some p → (are_numbers p ≡ true) × (line ≡ pair_text p)
pair_was line p h = go (divide 32 line) h (join_divide 32 line)
  where
    go : (words : List (List ℕ)) → pair_of_words words ≡ Some p → join 32 words ≡ line → (are_numbers p ≡ true) × (line ≡ pair_text p)
    go [] h j = cc
    go (i ∷ []) h j = cc
    go (i ∷ k ∷ []) h j =
        let parts = both_were (number_of i) (number_of k) p h in
        let a = number_was i p.0 parts.0 in
        let b = number_was k p.1 parts.1 in
        (and_from (is_number p.0) (is_number p.1) a.0 b.0, sym j ∙ ap (λ ds. ds ++ 32 ∷ k) a.1 ∙ ap (λ ds. decimal p.0 ++ 32 ∷ ds) b.1)
    go (i ∷ k ∷ l ∷ ws) h j = cc

keysyms_were : (words : List (List ℕ)) (keys : List ℕ) → keysyms_of words ≡ Some keys → (list_all is_keysym keys ≡ true) × (words ≡ map keysym_text keys)
keysyms_were [] keys h = let e : [] ≡ keys = cc in (ap (list_all is_keysym) (sym e), ap (map keysym_text) e)
keysyms_were (word ∷ words) keys h = go (keysym_of word) (keysyms_of words) refl refl h (λ ks e. keysyms_were words ks e)
  where
    go : (x : Option ℕ) (y : Option (List ℕ)) → keysym_of word ≡ x → keysyms_of words ≡ y → option_map (λ x. x.0 ∷ x.1) (both x y) ≡ Some keys
        → ((ks : List ℕ) → keysyms_of words ≡ Some ks → (list_all is_keysym ks ≡ true) × (words ≡ map keysym_text ks))
        → (list_all is_keysym keys ≡ true) × (word ∷ words ≡ map keysym_text keys)
    go None None d e h f = cc
    go None (Some ks) d e h f = cc
    go (Some k) None d e h f = cc
    go (Some k) (Some ks) d e h f =
        let a = keysym_was word k d in
        let b = f ks e in
        let same : k ∷ ks ≡ keys = cc in
        (ap (list_all is_keysym) (sym same) ∙ and_from (is_keysym k) (list_all is_keysym ks) a.0 b.0, ap (λ ds. ds ∷ words) a.1 ∙ ap (λ ws. keysym_text k ∷ ws) b.1 ∙ ap (map keysym_text) same)

-- the words of a typing, joined again
keys_joined : (word : List ℕ) (keys : List ℕ) → join 32 (word ∷ map keysym_text keys) ≡ word ++ flat_map (λ k. 32 ∷ keysym_text k) keys
keys_joined word [] = sym (append-nil word)
keys_joined word (k ∷ keys) = ap (λ ds. word ++ 32 ∷ ds) (keys_joined (keysym_text k) keys)

-- a typing of any number of keys
abbrev is_any_typing : Typing → Bool
is_any_typing t = is_spelled t && nat_lt 0 (length t.keys)

typing_was : (line : List ℕ) (t : Typing) → typing_of line ≡ Some t → (is_any_typing t ≡ true) × (line ≡ typing_text t)
typing_was line t h = go (divide 32 line) h (join_divide 32 line)
  where
    reported : (c k : List ℕ) (ks : List (List ℕ)) (x : Option ℕ) (y : Option (List ℕ)) → character_of c ≡ x → keysyms_of (k ∷ ks) ≡ y
        → option_map (λ x. let t : Typing = record { character = x.0; keys = x.1 } in t) (both x y) ≡ Some t → join 32 (c ∷ k ∷ ks) ≡ line → (is_any_typing t ≡ true) × (line ≡ typing_text t)
    reported c k ks None None d e h j = cc
    reported c k ks None (Some keys) d e h j = cc
    reported c k ks (Some x) None d e h j = cc
    reported c k ks (Some x) (Some keys) d e h j =
        let made : Typing = record { character = x; keys = keys } in
        let same : made ≡ t = cc in
        let a = character_was c x d in
        let b = keysyms_were (k ∷ ks) keys e in
        let some : nat_lt 0 (length keys) ≡ true = lt-ltb 0 (length keys) (omega (arith, ap length b.1, length-map keys keysym_text)) in
        let is : is_any_typing made ≡ true = and_from (is_spelled made) (nat_lt 0 (length keys)) (and_from (is_character x) (list_all is_keysym keys) a.0 b.0) some in (
          ap is_any_typing (sym same) ∙ is,
          sym j ∙ ap (λ ws. join 32 (c ∷ ws)) b.1 ∙ ap (λ ds. join 32 (ds ∷ map keysym_text keys)) a.1 ∙ keys_joined (character_text x) keys ∙ ap typing_text same,
        )

    go : (words : List (List ℕ)) → typing_of_words words ≡ Some t → join 32 words ≡ line → (is_any_typing t ≡ true) × (line ≡ typing_text t)
    go [] h j = cc
    go (c ∷ []) h j = cc
    go (c ∷ k ∷ ks) h j = reported c k ks (character_of c) (keysyms_of (k ∷ ks)) refl refl h j

-- a line that starts with these bytes, and what follows
starts_was : (word line : List ℕ) → starts_with nat_eq line word ≡ true → line ≡ word ++ drop (length word) line
starts_was [] line h = refl
starts_was (b ∷ word) [] h = cc
starts_was (b ∷ word) (c ∷ line) h =
    let parts = and_parts (b == c) (starts_with nat_eq line word) h in
    ap (λ x. x ∷ line) (sym (eqb-true b c parts.0)) ∙ ap (λ ds. b ∷ ds) (starts_was word line parts.1)

number_after_was : (word line : List ℕ) (n : ℕ) → number_after word line ≡ Some n → (is_number n ≡ true) × (line ≡ counted word n)
number_after_was word line n h = go (starts_with nat_eq line (word ++ 32 ∷ [])) refl h
  where
    go : (t : Bool) → starts_with nat_eq line (word ++ 32 ∷ []) ≡ t → cond t (number_of (drop (length word + 1) line)) None ≡ Some n → (is_number n ≡ true) × (line ≡ counted word n)
    go false e h = cc
    go true e h =
        let a = number_was (drop (length word + 1) line) n h in (
          a.0,
          starts_was (word ++ 32 ∷ []) line e ∙ ap (λ k. (word ++ 32 ∷ []) ++ drop k line) (length-append word (32 ∷ [])) ∙ ap (λ ds. (word ++ 32 ∷ []) ++ ds) a.1
              ∙ append_assoc word (32 ∷ []) (decimal n),
        )

abbrev version_text : ℕ → List ℕ
version_text v = if v == 1 then codes "compose-certificate 1" else codes "compose-certificate 2"

version_was : (line : List ℕ) (v : ℕ) → version_of line ≡ Some v → line ≡ version_text v
version_was line v h = go (bytes_eq line (codes "compose-certificate 1")) (bytes_eq line (codes "compose-certificate 2")) refl refl h
  where
    go : (s t : Bool) → bytes_eq line (codes "compose-certificate 1") ≡ s → bytes_eq line (codes "compose-certificate 2") ≡ t → cond s (Some 1) (cond t (Some 2) None) ≡ Some v → line ≡ version_text v
    go true t d e h = let is : 1 ≡ v = cc in (bytes_decides line (codes "compose-certificate 1")).0 d ∙ ap version_text is
    go false true d e h = let is : 2 ≡ v = cc in (bytes_decides line (codes "compose-certificate 2")).0 e ∙ ap version_text is
    go false false d e h = cc

-- ---- lines in a row

ok_same : {A : Type 0} (x y : A) → ◌≡◌ {A = Result A CertFault} (Ok x) (Ok y) → x ≡ y
ok_same x y h = cc

bind_with : {A B P : Type 0} (r : Result A CertFault) (f : A → Result B CertFault) (y : B) → (r >>= f) ≡ Ok y → ((x : A) → r ≡ Ok x → f x ≡ Ok y → P) → P
bind_with (Ok x) f y h on = on x refl h
bind_with (Err e) f y h on = cc

line_was : {A : Type 0} (form : List ℕ → Option A) (n : ℕ) (lines : List (List ℕ)) (x : A × List (List ℕ)) → line_at form n lines ≡ Ok x
    → (line : List ℕ) × (lines ≡ line ∷ x.1) × (form line ≡ Some x.0)
line_was form n [] x h = cc
line_was form n (line ∷ []) x h = cc
line_was {A} form n (line ∷ next ∷ lines) x h = go (form line) refl h
  where
    go : (o : Option A) → form line ≡ o → option_map_or (λ v. Ok (v, next ∷ lines)) o (Err (NotText n)) ≡ Ok x → (l : List ℕ) × (line ∷ next ∷ lines ≡ l ∷ x.1) × (form l ≡ Some x.0)
    go None e h = cc
    go (Some v) e h =
        let same = ok_same (v, next ∷ lines) x h in
        (line, ap (λ ls. line ∷ ls) (ap (λ z. z.1) same), e ∙ ap Some (ap (λ z. z.0) same))

few_was : {A : Type 0} (size : A → ℕ) (x y : A × List (List ℕ)) → if_few size x ≡ Ok y → (nat_le (size y.0) max_count ≡ true) × (x ≡ y)
few_was size x y h = go (nat_lt max_count (size x.0)) refl h
  where
    go : (t : Bool) → nat_lt max_count (size x.0) ≡ t → cond t (Err TooLarge) (Ok x) ≡ Ok y → (nat_le (size y.0) max_count ≡ true) × (x ≡ y)
    go true e h = cc
    go false e h = let same = ok_same x y h in (ap (λ z. nat_le (size z.0) max_count) (sym same) ∙ le-leb (size x.0) max_count (ltb-false max_count (size x.0) e), same)

count_was : (word : List ℕ) (n : ℕ) (lines : List (List ℕ)) (x : ℕ × List (List ℕ)) → count_at word n lines ≡ Ok x → (nat_le x.0 max_count ≡ true) × (lines ≡ counted word x.0 ∷ x.1)
count_was word n lines x h = bind_with (line_at (number_after word) n lines) (if_few (λ count. count)) x h (λ y e f.
    let few = few_was (λ count. count) y x f in
    let was = line_was (number_after word) n lines y e in
    let line = number_after_was word was.0 y.0 was.2 in
    (few.0, was.1 ∙ ap (λ l. l ∷ y.1) line.1 ∙ ap (λ z. counted word z.0 ∷ z.1) few.1))

typing_at_was : (n : ℕ) (lines : List (List ℕ)) (x : Typing × List (List ℕ)) → typing_at n lines ≡ Ok x → (is_typing x.0 ≡ true) × (lines ≡ typing_text x.0 ∷ x.1)
typing_at_was n lines x h = bind_with (line_at typing_of n lines) (if_few (λ (t : Typing). length t.keys)) x h (λ y e f.
    let few = few_was (λ (t : Typing). length t.keys) y x f in
    let was = line_was typing_of n lines y e in
    let line = typing_was was.0 y.0 was.2 in
    (whole x.0 (ap (λ z. is_any_typing z.0) (sym few.1) ∙ line.0) few.0, was.1 ∙ ap (λ l. l ∷ y.1) line.1 ∙ ap (λ z. typing_text z.0 ∷ z.1) few.1))
  where
    whole : (t : Typing) → is_any_typing t ≡ true → nat_le (length t.keys) max_count ≡ true → is_typing t ≡ true
    whole t a l =
        let p = and_parts (is_spelled t) (nat_lt 0 (length t.keys)) a in
        let q = and_parts (is_character t.character) (list_all is_keysym t.keys) p.0 in
        and_from (is_character t.character && nat_lt 0 (length t.keys) && nat_le (length t.keys) max_count) (list_all is_keysym t.keys)
        (and_from (is_character t.character && nat_lt 0 (length t.keys)) (nat_le (length t.keys) max_count) (and_from (is_character t.character) (nat_lt 0 (length t.keys)) q.0 p.1) l) q.1

times_were : {A : Type 0} (one : ℕ → List (List ℕ) → Result (A × List (List ℕ)) CertFault) (text : A → List ℕ) (good : A → Bool)
    → ((n : ℕ) (lines : List (List ℕ)) (x : A × List (List ℕ)) → one n lines ≡ Ok x → (good x.0 ≡ true) × (lines ≡ text x.0 ∷ x.1))
    → (count n : ℕ) (lines : List (List ℕ)) (xs : List A × List (List ℕ)) → times one count n lines ≡ Ok xs → (list_all good xs.0 ≡ true) × (length xs.0 ≡ count) × (lines ≡ map text xs.0 ++ xs.1)
times_were one text good each zero n lines xs h = let same = ok_same ([], lines) xs h in
    (ap (λ z. list_all good z.0) (sym same), ap (λ z. length z.0) (sym same), ap (λ z. map text z.0 ++ z.1) same)
times_were one text good each (suc count) n lines xs h =
    bind_with (one n lines) (λ first. times one count (1 + n) first.1 >>= λ more. Ok (first.0 ∷ more.0, more.1)) xs h (λ x e f.
    bind_with (times one count (1 + n) x.1) (λ more. Ok (x.0 ∷ more.0, more.1)) xs f (λ more d g.
    let same = ok_same (x.0 ∷ more.0, more.1) xs g in
    let a = each n lines x e in
    let b = times_were one text good each count (1 + n) x.1 more d in (
      ap (λ z. list_all good z.0) (sym same) ∙ and_from (good x.0) (list_all good more.0) a.0 b.0,
      ap (λ z. length z.0) (sym same) ∙ ap suc b.1,
      a.1 ∙ ap (λ ls. text x.0 ∷ ls) b.2 ∙ ap (λ z. map text z.0 ++ z.1) same,
    )))

end_was : (n : ℕ) (lines : List (List ℕ)) (x : Unit {0}) → end_at n lines ≡ Ok x → lines ≡ [] ∷ []
end_was n [] x h = cc
end_was n ([] ∷ []) x h = refl
end_was n ([] ∷ l ∷ ls) x h = cc
end_was n ((b ∷ l) ∷ ls) x h = cc

-- ---- the fresh keysyms

record AreFreshLines (version : ℕ) (lines : List (List ℕ)) (fresh : List ℕ) : Type 0 where
  keysyms : list_all is_keysym fresh ≡ true
  few : nat_le (length fresh) max_count ≡ true
  lines_are : lines ≡ fresh_lines fresh ++ [] ∷ []
  version_is : version_text version ≡ version_line fresh

some_were : (n : ℕ) (x y : ℕ × List (List ℕ)) → if_some n x ≡ Ok y → (x ≡ y) × ((x.0 == 0) ≡ false)
some_were n x y h = go (x.0 == 0) refl h
  where
    go : (t : Bool) → (x.0 == 0) ≡ t → cond t (Err (NotText n)) (Ok x) ≡ Ok y → (x ≡ y) × ((x.0 == 0) ≡ false)
    go true e h = cc
    go false e h = (ok_same x y h, e)

keysym_line_was : (n : ℕ) (lines : List (List ℕ)) (x : ℕ × List (List ℕ)) → line_at keysym_of n lines ≡ Ok x → (is_keysym x.0 ≡ true) × (lines ≡ keysym_text x.0 ∷ x.1)
keysym_line_was n lines x h =
    let was = line_was keysym_of n lines x h in
    let line = keysym_was was.0 x.0 was.2 in
    (line.0, was.1 ∙ ap (λ l. l ∷ x.1) line.1)

pair_line_was : (n : ℕ) (lines : List (List ℕ)) (x : (ℕ × ℕ) × List (List ℕ)) → line_at pair_of n lines ≡ Ok x → (are_numbers x.0 ≡ true) × (lines ≡ pair_text x.0 ∷ x.1)
pair_line_was n lines x h =
    let was = line_was pair_of n lines x h in
    let line = pair_was was.0 x.0 was.2 in
    (line.0, was.1 ∙ ap (λ l. l ∷ x.1) line.1)

-- counted keysyms, and nothing after them
fresh_joined : (version count : ℕ) (lines rest : List (List ℕ)) (fresh : List ℕ) → (version == 1) ≡ false
    → (count == 0) ≡ false → nat_le count max_count ≡ true → lines ≡ counted (codes "fresh") count ∷ rest
    → list_all is_keysym fresh ≡ true → length fresh ≡ count → rest ≡ map keysym_text fresh ++ [] ∷ [] → AreFreshLines version lines fresh
fresh_joined version count lines rest [] v s few l a size r = absurd (eqb-false count 0 s (sym size))
fresh_joined version count lines rest (k ∷ ks) v s few l a size r = record {
  keysyms = a;
  few = ap (λ n. nat_le n max_count) size ∙ few;
  lines_are = l ∙ ap (λ n. counted (codes "fresh") n ∷ rest) (sym size) ∙ ap (λ ls. counted (codes "fresh") (length (k ∷ ks)) ∷ ls) r;
  version_is = ap (λ t. cond t (codes "compose-certificate 1") (codes "compose-certificate 2")) v;
}

some_fresh_were : (version n : ℕ) (lines : List (List ℕ)) (fresh : List ℕ) → (version == 1) ≡ false → some_fresh_at n lines ≡ Ok fresh → AreFreshLines version lines fresh
some_fresh_were version n lines fresh v h =
    let keys_behind = λ (count : ℕ × List (List ℕ)). times (line_at keysym_of) count.0 (1 + n) count.1 >>= λ keys. end_at (1 + n + count.0) keys.1 >>= λ _. Ok keys.0 in
    bind_with (count_at (codes "fresh") n lines >>= if_some n) keys_behind fresh h (λ count e f.
    bind_with (count_at (codes "fresh") n lines) (if_some n) count e (λ x d g.
    bind_with (times (line_at keysym_of) count.0 (1 + n) count.1) (λ keys. end_at (1 + n + count.0) keys.1 >>= λ _. Ok keys.0) fresh f (λ keys i j.
    bind_with (end_at (1 + n + count.0) keys.1) (λ _. Ok keys.0) fresh j (λ u k l.
    let some = some_were n x count g in
    let was = count_was (codes "fresh") n lines x d in
    let all = times_were (line_at keysym_of) keysym_text is_keysym keysym_line_was count.0 (1 + n) count.1 keys i in
    let end = end_was (1 + n + count.0) keys.1 u k in
    let same = ok_same keys.0 fresh l in
    fresh_joined version count.0 lines count.1 fresh v (ap (λ z. z.0 == 0) (sym some.0) ∙ some.1) (ap (λ z. nat_le z.0 max_count) (sym some.0) ∙ was.0)
    (was.1 ∙ ap (λ z. counted (codes "fresh") z.0 ∷ z.1) some.0) (ap (list_all is_keysym) (sym same) ∙ all.0) (ap length (sym same) ∙ all.1)
    (all.2 ∙ ap (λ ls. map keysym_text keys.0 ++ ls) end ∙ ap (λ ks. map keysym_text ks ++ [] ∷ []) same)))))

fresh_were : (version n : ℕ) (lines : List (List ℕ)) (fresh : List ℕ) → fresh_at version n lines ≡ Ok fresh → AreFreshLines version lines fresh
fresh_were version n lines fresh h = go (version == 1) refl h
  where
    go : (t : Bool) → (version == 1) ≡ t → cond t (end_at n lines >>= λ _. Ok []) (some_fresh_at n lines) ≡ Ok fresh → AreFreshLines version lines fresh
    go true v h = bind_with (end_at n lines) (λ _. Ok []) fresh h (λ x e f. none (ok_same [] fresh f) (end_was n lines x e))
      where
        none : [] ≡ fresh → lines ≡ [] ∷ [] → AreFreshLines version lines fresh
        none same l = record {
          keysyms = ap (list_all is_keysym) (sym same);
          few = ap (λ ks. nat_le (length ks) max_count) (sym same);
          lines_are = l ∙ ap (λ ks. fresh_lines ks ++ [] ∷ []) same;
          version_is = ap (λ t. cond t (codes "compose-certificate 1") (codes "compose-certificate 2")) v ∙ ap version_line same;
        }
    go false v h = some_fresh_were version n lines fresh v h

-- ---- the text

lines_joined : (lines : List (List ℕ)) → join 10 (lines ++ [] ∷ []) ≡ ended lines
lines_joined [] = refl
lines_joined (line ∷ []) = sym (append-nil (line ++ 10 ∷ []))
lines_joined (line ∷ next ∷ lines) = ap (λ text. line ++ 10 ∷ text) (lines_joined (next ∷ lines)) ∙ sym (append_assoc line (10 ∷ []) (ended (next ∷ lines)))

-- the parts that were read, one after another, are the lines of the certificate
parts_spell : (bytes : List ℕ) (version bound p q : ℕ × List (List ℕ)) (pairs : List (ℕ × ℕ) × List (List ℕ)) (typings : List Typing × List (List ℕ)) (fresh : List ℕ)
    → divide 10 bytes ≡ version_text version.0 ∷ version.1
    → (is_number bound.0 ≡ true) × (version.1 ≡ counted (codes "bound") bound.0 ∷ bound.1)
    → (nat_le p.0 max_count ≡ true) × (bound.1 ≡ counted (codes "pairs") p.0 ∷ p.1)
    → (list_all are_numbers pairs.0 ≡ true) × (length pairs.0 ≡ p.0) × (p.1 ≡ map pair_text pairs.0 ++ pairs.1)
    → (nat_le q.0 max_count ≡ true) × (pairs.1 ≡ counted (codes "typings") q.0 ∷ q.1)
    → (list_all is_typing typings.0 ≡ true) × (length typings.0 ≡ q.0) × (q.1 ≡ map typing_text typings.0 ++ typings.1)
    → AreFreshLines version.0 typings.1 fresh
    → Spells bytes (record { bound = bound.0; pairs = pairs.0; typings = typings.0; fresh = fresh })
parts_spell bytes version bound p q pairs typings fresh v b n ps m ts f =
    let c : Certificate = record { bound = bound.0; pairs = pairs.0; typings = typings.0; fresh = fresh } in
    let x1 = is_number c.bound in
    let x2 = x1 && nat_le (length c.pairs) max_count in
    let x3 = x2 && list_all are_numbers c.pairs in
    let x4 = x3 && nat_le (length c.typings) max_count in
    let x5 = x4 && list_all is_typing c.typings in
    let x6 = x5 && nat_le (length c.fresh) max_count in
    let fits = and_from x6 (list_all is_keysym c.fresh)
    (and_from x5 (nat_le (length c.fresh) max_count)
    (and_from x4 (list_all is_typing c.typings)
    (and_from x3 (nat_le (length c.typings) max_count)
    (and_from x2 (list_all are_numbers c.pairs)
    (and_from x1 (nat_le (length c.pairs) max_count) b.0 (ap (λ k. nat_le k max_count) ps.1 ∙ n.0)) ps.0) (ap (λ k. nat_le k max_count) ts.1 ∙ m.0)) ts.0) f.few) f.keysyms in
    let head = λ (ls : List (List ℕ)). version_line fresh ∷ counted (codes "bound") bound.0 ∷ counted (codes "pairs") (length pairs.0) ∷ ls in
    let behind_pairs = λ (ls : List (List ℕ)). head (map pair_text pairs.0 ++ (counted (codes "typings") (length typings.0) ∷ ls)) in
    let lines : divide 10 bytes ≡ behind_pairs (map typing_text typings.0 ++ (fresh_lines fresh ++ [] ∷ [])) =
    v ∙ ap (λ l. l ∷ version.1) f.version_is ∙ ap (λ ls. version_line fresh ∷ ls) b.1 ∙ ap (λ ls. version_line fresh ∷ counted (codes "bound") bound.0 ∷ ls) n.1
    ∙ ap (λ k. version_line fresh ∷ counted (codes "bound") bound.0 ∷ counted (codes "pairs") k ∷ p.1) (sym ps.1)
    ∙ ap head (ps.2 ∙ ap (λ ls. map pair_text pairs.0 ++ ls) (m.1 ∙ ap (λ k. counted (codes "typings") k ∷ q.1) (sym ts.1)))
    ∙ ap behind_pairs (ts.2 ∙ ap (λ ls. map typing_text typings.0 ++ ls) f.lines_are) in
    let grouped : behind_pairs (map typing_text typings.0 ++ (fresh_lines fresh ++ [] ∷ [])) ≡ lines_of_text c ++ [] ∷ [] =
    ap behind_pairs (sym (append_assoc (map typing_text typings.0) (fresh_lines fresh) ([] ∷ [])))
    ∙ ap head (sym (append_assoc (map pair_text pairs.0) (counted (codes "typings") (length typings.0) ∷ (map typing_text typings.0 ++ fresh_lines fresh)) ([] ∷ []))) in
    record { fits = fits; is = sym (join_divide 10 bytes) ∙ ap (join 10) (lines ∙ grouped) ∙ lines_joined (lines_of_text c) }

-- a certificate that is read is one that the bytes spell
pub read_is_spelled : (bytes : List ℕ) (c : Certificate) → certificate_of bytes ≡ Ok c → Spells bytes c
read_is_spelled bytes c h =
    bind_with (line_at version_of 1 (divide 10 bytes)) after_version c h (λ version e0 h0.
    bind_with (line_at (number_after (codes "bound")) 2 version.1) (after_bound version.0) c h0 (λ bound e1 h1.
    bind_with (count_at (codes "pairs") 3 bound.1) (after_count version.0 bound.0) c h1 (λ p e2 h2.
    bind_with (times (line_at pair_of) p.0 4 p.1) (after_pairs version.0 bound.0 p.0) c h2 (λ pairs e3 h3.
    bind_with (count_at (codes "typings") (4 + p.0) pairs.1) (after_typing_count version.0 bound.0 p.0 pairs.0) c h3 (λ q e4 h4.
    bind_with (times typing_at q.0 (5 + p.0) q.1) (after_typings version.0 bound.0 p.0 pairs.0 q.0) c h4 (λ typings e5 h5.
    bind_with (fresh_at version.0 (5 + p.0 + q.0) typings.1) (after_fresh bound.0 pairs.0 typings.0) c h5 (λ fresh e6 h6.
    let a = line_was version_of 1 (divide 10 bytes) version e0 in
    let b = line_was (number_after (codes "bound")) 2 version.1 bound e1 in
    let n = number_after_was (codes "bound") b.0 bound.0 b.2 in
    let spelled = parts_spell bytes version bound p q pairs typings fresh (a.1 ∙ ap (λ l. l ∷ version.1) (version_was a.0 version.0 a.2)) (n.0, b.1 ∙ ap (λ l. l ∷ bound.1) n.1)
    (count_was (codes "pairs") 3 bound.1 p e2) (times_were (line_at pair_of) pair_text are_numbers pair_line_was p.0 4 p.1 pairs e3)
    (count_was (codes "typings") (4 + p.0) pairs.1 q e4) (times_were typing_at typing_text is_typing typing_at_was q.0 (5 + p.0) q.1 typings e5)
    (fresh_were version.0 (5 + p.0 + q.0) typings.1 fresh e6) in
    subst (Spells bytes) (ok_same (record { bound = bound.0; pairs = pairs.0; typings = typings.0; fresh = fresh }) c h6) spelled)))))))

-- a certificate that has a text is counted
pub is_counted-certificate : (c : Certificate) → is_certificate c ≡ true → is_counted c ≡ true
is_counted-certificate c h =
    let p = certificate_parts c h in
    and_from (are_counted c.pairs c.typings) (nat_le (length c.fresh) max_count)
    (and_from (nat_le (length c.pairs) max_count && nat_le (length c.typings) max_count) (list_all is_typed c.typings)
    (and_from (nat_le (length c.pairs) max_count) (nat_le (length c.typings) max_count) p.few_pairs p.few_typings) (all c.typings p.typings)) p.few_fresh
  where
    all : (ts : List Typing) → list_all is_typing ts ≡ true → list_all is_typed ts ≡ true
    all [] h = refl
    all (t ∷ ts) h =
        let a = and_parts (is_typing t) (list_all is_typing ts) h in
        let p = typing_parts t a.0 in
        and_from (is_typed t) (list_all is_typed ts) (and_from (nat_lt 0 (length t.keys)) (nat_le (length t.keys) max_count) p.some p.few) (all ts a.1)

-- ---- what an exact reader returns for a spelled text

-- a reader that returns what is read returns only a certificate that the bytes spell
pub found_from_exact : (bytes : List ℕ) (r : Result Certificate CertFault) → CertificateReturns r (certificate_of bytes) → IfOk r (λ c. Spells bytes c)
found_from_exact bytes (Ok c) e = read_is_spelled bytes c e
found_from_exact bytes (Err f) e = tt

-- a reader that returns what is read returns the certificate that the bytes spell, unless memory
-- runs out
pub only_from_exact : (bytes : List ℕ) (c : Certificate) (r : Result Certificate CertFault) → Spells bytes c → CertificateReturns r (certificate_of bytes) → CertificateReturns r (Ok c)
only_from_exact bytes c r s e = subst (CertificateReturns r) (spelled_is_read bytes c s) e
