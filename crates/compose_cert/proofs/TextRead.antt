-- Reading the text of a certificate returns that certificate.
use Rattle.std.proofs.Common.{◌≡◌, ℕ, ◌+◌, ◌<◌, ◌^◌, List, [], ◌∷◌, ◌++◌, length, map, Bool, true, false, not, ◌&&◌, refl, ◌∙◌, ap, arith, append_assoc, append-nil, eqb-true, lt-ltb}
use Rattle.std.specs.Prelude.{◌==◌, Option, Some, Result, Ok, nat_lt, nat_le, flat_map, codes}
use Rattle.std.specs.Option.{option_map}
use Rattle.std.specs.List.{list_all}
use Rattle.std.specs.Fmt.{decimal}
use Rattle.std.proofs.lemmas.Bool.{and_parts, and_from, ltb-true, leb-true}
use Rattle.compose_text.specs.Results.{◌>>=◌}
use Rattle.keysym_core.specs.Keysym.{is_keysym}
use Rattle.compose_text.specs.Lines.{divide}
use Rattle.compose_model.specs.Certificate.{Typing, Certificate}
use Rattle.compose_cert.specs.Spelling.{counted, character_text, keysym_text, pair_text, typing_text, version_line, fresh_lines, lines_of_text, text_of, max_count, is_number, is_character, is_typing, is_certificate, Spells}
use Rattle.compose_cert.specs.Reading.{number_of, keysym_of, number_after, both, pair_of, pair_of_words, keysyms_of, typing_of, typing_of_words, version_of, line_at, if_few, count_at, typing_at, times, fresh_at, certificate_at, certificate_of}
use Rattle.compose_cert.specs.declared.CertFault.{CertFault}
use Rattle.compose_cert.proofs.Words.{plain, word_divided, word_alone, is_line, lines_divided, plain_line, decimal_plain, hex_plain, number_again, keysym_again, character_again, character_plain}

not_more : (n m : ℕ) → nat_le n m ≡ true → nat_lt m n ≡ false
not_more n m h = go (nat_lt m n) refl
  where
    go : (x : Bool) → nat_lt m n ≡ x → x ≡ false
    go true e = absurd (omega (arith, ltb-true m n e, leb-true n m h))
    go false e = refl

-- ---- forms of lines

pair_again : (p : ℕ × ℕ) → (is_number p.0 && is_number p.1) ≡ true → pair_of (pair_text p) ≡ Some p
pair_again p h =
    let parts = and_parts (is_number p.0) (is_number p.1) h in
    let a = ltb-true p.0 0x100000000 parts.0 in
    let b = ltb-true p.1 0x100000000 parts.1 in
    let words : divide 32 (pair_text p) ≡ decimal p.0 ∷ decimal p.1 ∷ [] =
    word_divided (decimal p.0) (decimal p.1) (decimal_plain p.0 (omega arith)) ∙ ap (λ ws. decimal p.0 ∷ ws) (word_alone (decimal p.1) (decimal_plain p.1 (omega arith))) in
    let first : number_of (decimal p.0) ≡ Some p.0 = number_again p.0 parts.0 in
    let second : number_of (decimal p.1) ≡ Some p.1 = number_again p.1 parts.1 in
    ap pair_of_words words ∙ ap (λ o. both o (number_of (decimal p.1))) first ∙ ap (both (Some p.0)) second

keysym_plain : (k : ℕ) → is_keysym k ≡ true → plain (keysym_text k) ≡ true
keysym_plain k h = let l = leb-true k 0x1fffffff h in hex_plain false k (omega arith)

words_divided : (word : List ℕ) (keys : List ℕ) → plain word ≡ true → list_all is_keysym keys ≡ true → divide 32 (word ++ flat_map (λ k. 32 ∷ keysym_text k) keys) ≡ word ∷ map keysym_text keys
words_divided word [] h a = ap (divide 32) (append-nil word) ∙ word_alone word h
words_divided word (k ∷ keys) h a =
    let parts = and_parts (is_keysym k) (list_all is_keysym keys) a in
    word_divided word (keysym_text k ++ flat_map (λ k. 32 ∷ keysym_text k) keys) h ∙ ap (λ ws. word ∷ ws) (words_divided (keysym_text k) keys (keysym_plain k parts.0) parts.1)

keysyms_again : (keys : List ℕ) → list_all is_keysym keys ≡ true → keysyms_of (map keysym_text keys) ≡ Some keys
keysyms_again [] a = refl
keysyms_again (k ∷ keys) a =
    let parts = and_parts (is_keysym k) (list_all is_keysym keys) a in
    let first : keysym_of (keysym_text k) ≡ Some k = keysym_again k parts.0 in
    rw (first, keysyms_again keys parts.1) refl

-- the conditions on a typing, part by part
pub record IsTyping (t : Typing) : Type 0 where
  pub character : is_character t.character ≡ true
  pub some : nat_lt 0 (length t.keys) ≡ true
  pub few : nat_le (length t.keys) max_count ≡ true
  pub keysyms : list_all is_keysym t.keys ≡ true

-- a typing meets the conditions
pub typing_parts : (t : Typing) → is_typing t ≡ true → IsTyping t
typing_parts t h =
    let a = and_parts (is_character t.character && nat_lt 0 (length t.keys) && nat_le (length t.keys) max_count) (list_all is_keysym t.keys) h in
    let b = and_parts (is_character t.character && nat_lt 0 (length t.keys)) (nat_le (length t.keys) max_count) a.0 in
    let c = and_parts (is_character t.character) (nat_lt 0 (length t.keys)) b.0 in
    record { character = c.0; some = c.1; few = b.1; keysyms = a.1 }

typing_words : (c : ℕ) (keys : List ℕ) → is_character c ≡ true → nat_lt 0 (length keys) ≡ true → list_all is_keysym keys ≡ true
    → typing_of_words (character_text c ∷ map keysym_text keys) ≡ Some (record { character = c; keys = keys })
typing_words c [] h s a = cc
typing_words c (k ∷ keys) h s a =
    let first = character_again c h in
    let more = keysyms_again (k ∷ keys) a in
    ap (λ o. option_map (λ x. let t : Typing = record { character = x.0; keys = x.1 } in t) (both o (keysyms_of (map keysym_text (k ∷ keys))))) first
    ∙ ap (λ o. option_map (λ x. let t : Typing = record { character = x.0; keys = x.1 } in t) (both (Some c) o)) more

typing_again : (t : Typing) → is_typing t ≡ true → typing_of (typing_text t) ≡ Some t
typing_again t h =
    let p = typing_parts t h in
    ap typing_of_words (words_divided (character_text t.character) t.keys (character_plain t.character p.character) p.keysyms) ∙ typing_words t.character t.keys p.character p.some p.keysyms

-- ---- lines in a row

line_again : {A : Type 0} (form : List ℕ → Option A) (n : ℕ) (line : List ℕ) (rest : List (List ℕ)) (x : A) → form line ≡ Some x → 0 < length rest → line_at form n (line ∷ rest) ≡ Ok (x, rest)
line_again form n line [] x e l = absurd (omega arith)
line_again form n line (r ∷ rest) x e l = rw e refl

count_again : (word : List ℕ) (n count : ℕ) (rest : List (List ℕ)) → number_after word (counted word count) ≡ Some count → nat_le count max_count ≡ true → 0 < length rest
    → count_at word n (counted word count ∷ rest) ≡ Ok (count, rest)
count_again word n count rest e few l = ap (λ r. r >>= if_few (λ count. count)) (line_again (number_after word) n (counted word count) rest count e l) ∙ rw (not_more count max_count few) refl

typing_line : (n : ℕ) (t : Typing) (rest : List (List ℕ)) → is_typing t ≡ true → 0 < length rest → typing_at n (typing_text t ∷ rest) ≡ Ok (t, rest)
typing_line n t rest h l =
    ap (λ r. r >>= if_few (λ (t : Typing). length t.keys)) (line_again typing_of n (typing_text t) rest t (typing_again t h) l) ∙ rw (not_more (length t.keys) max_count (typing_parts t h).few) refl

times_again : {A : Type 0} (one : ℕ → List (List ℕ) → Result (A × List (List ℕ)) CertFault) (text : A → List ℕ) (good : A → Bool)
    → ((n : ℕ) (x : A) (rest : List (List ℕ)) → good x ≡ true → 0 < length rest → one n (text x ∷ rest) ≡ Ok (x, rest))
    → (xs : List A) (n : ℕ) (rest : List (List ℕ)) → list_all good xs ≡ true → 0 < length rest → times one (length xs) n (map text xs ++ rest) ≡ Ok (xs, rest)
times_again one text good each [] n rest a l = refl
times_again one text good each (x ∷ xs) n rest a l =
    let parts = and_parts (good x) (list_all good xs) a in
    rw (each n x (map text xs ++ rest) parts.0 (some_left (map text xs)), times_again one text good each xs (1 + n) rest parts.1 l) refl
  where
    some_left : (ys : List (List ℕ)) → 0 < length (ys ++ rest)
    some_left [] = l
    some_left (y ∷ ys) = omega arith

-- ---- lines without newlines

all_append : {X : Type 0} (p : X → Bool) (a b : List X) → list_all p a ≡ true → list_all p b ≡ true → list_all p (a ++ b) ≡ true
all_append p [] b g h = h
all_append p (x ∷ a) b g h = let parts = and_parts (p x) (list_all p a) g in and_from (p x) (list_all p (a ++ b)) parts.0 (all_append p a b parts.1 h)

all_cons : (x : List ℕ) (xs : List (List ℕ)) → is_line x ≡ true → list_all is_line xs ≡ true → list_all is_line (x ∷ xs) ≡ true
all_cons x xs h g = and_from (is_line x) (list_all is_line xs) h g

all_map : {X : Type 0} (f : X → List ℕ) (good : X → Bool) → ((x : X) → good x ≡ true → is_line (f x) ≡ true) → (xs : List X) → list_all good xs ≡ true → list_all is_line (map f xs) ≡ true
all_map f good each [] h = refl
all_map f good each (x ∷ xs) h = let parts = and_parts (good x) (list_all good xs) h in all_cons (f x) (map f xs) (each x parts.0) (all_map f good each xs parts.1)

decimal_line : (n : ℕ) → n < 10 ^ 64 → is_line (decimal n) ≡ true
decimal_line n h = plain_line (decimal n) (decimal_plain n h)

pair_line : (p : ℕ × ℕ) → (is_number p.0 && is_number p.1) ≡ true → is_line (pair_text p) ≡ true
pair_line p h =
    let parts = and_parts (is_number p.0) (is_number p.1) h in
    let a = ltb-true p.0 0x100000000 parts.0 in
    let b = ltb-true p.1 0x100000000 parts.1 in
    all_append (λ b. not (b == 10)) (decimal p.0) (32 ∷ decimal p.1) (decimal_line p.0 (omega arith)) (decimal_line p.1 (omega arith))

keysym_line : (k : ℕ) → is_keysym k ≡ true → is_line (keysym_text k) ≡ true
keysym_line k h = plain_line (keysym_text k) (keysym_plain k h)

keys_line : (keys : List ℕ) → list_all is_keysym keys ≡ true → is_line (flat_map (λ k. 32 ∷ keysym_text k) keys) ≡ true
keys_line [] h = refl
keys_line (k ∷ keys) h =
    let parts = and_parts (is_keysym k) (list_all is_keysym keys) h in
    all_append (λ b. not (b == 10)) (keysym_text k) (flat_map (λ k. 32 ∷ keysym_text k) keys) (keysym_line k parts.0) (keys_line keys parts.1)

typing_is_line : (t : Typing) → is_typing t ≡ true → is_line (typing_text t) ≡ true
typing_is_line t h =
    let p = typing_parts t h in
    all_append (λ b. not (b == 10)) (character_text t.character) (flat_map (λ k. 32 ∷ keysym_text k) t.keys) (plain_line (character_text t.character) (character_plain t.character p.character))
    (keys_line t.keys p.keysyms)

-- ---- the whole

version : List ℕ → ℕ
version [] = 1
version (k ∷ fresh) = 2

version_again : (fresh : List ℕ) (rest : List (List ℕ)) → 0 < length rest → line_at version_of 1 (version_line fresh ∷ rest) ≡ Ok (version fresh, rest)
unfolding version
version_again [] rest l = line_again version_of 1 (codes "compose-certificate 1") rest 1 refl l
version_again (k ∷ fresh) rest l = line_again version_of 1 (codes "compose-certificate 2") rest 2 refl l

left_over : (xs ys : List (List ℕ)) → 0 < length ys → 0 < length (xs ++ ys)
left_over [] ys l = l
left_over (x ∷ xs) ys l = omega arith

not_zero : (k : ℕ) (ks : List ℕ) → (length (k ∷ ks) == 0) ≡ false
not_zero k ks = go (length (k ∷ ks) == 0) refl
  where
    go : (x : Bool) → (length (k ∷ ks) == 0) ≡ x → x ≡ false
    go true e = absurd (omega (arith, eqb-true (length (k ∷ ks)) 0 e))
    go false e = refl

small : (n : ℕ) → nat_le n max_count ≡ true → is_number n ≡ true
small n h = lt-ltb n 0x100000000 (omega (arith, leb-true n max_count h))

fresh_again : (fresh : List ℕ) (n : ℕ) → nat_le (length fresh) max_count ≡ true → list_all is_keysym fresh ≡ true → fresh_at (version fresh) n (fresh_lines fresh ++ [] ∷ []) ≡ Ok fresh
unfolding version
fresh_again [] n few a = refl
fresh_again (k ∷ ks) n few a =
    let rest = map keysym_text (k ∷ ks) ++ [] ∷ [] in
    let counts : count_at (codes "fresh") n (counted (codes "fresh") (length (k ∷ ks)) ∷ rest) ≡ Ok (length (k ∷ ks), rest) =
    count_again (codes "fresh") n (length (k ∷ ks)) rest (number_again (length (k ∷ ks)) (small (length (k ∷ ks)) few)) few (omega arith) in
    let keys : times (line_at keysym_of) (length (k ∷ ks)) (1 + n) rest ≡ Ok (k ∷ ks, [] ∷ []) =
    times_again (line_at keysym_of) keysym_text is_keysym (λ n k rest h l. line_again keysym_of n (keysym_text k) rest k (keysym_again k h) l) (k ∷ ks) (1 + n) ([] ∷ []) a (omega arith) in
    rw (counts, not_zero k ks, keys) refl

-- the conditions on a certificate, part by part
pub record IsCertificate (c : Certificate) : Type 0 where
  pub bound : is_number c.bound ≡ true
  pub few_pairs : nat_le (length c.pairs) max_count ≡ true
  pub pairs : list_all (λ (p : ℕ × ℕ). is_number p.0 && is_number p.1) c.pairs ≡ true
  pub few_typings : nat_le (length c.typings) max_count ≡ true
  pub typings : list_all is_typing c.typings ≡ true
  pub few_fresh : nat_le (length c.fresh) max_count ≡ true
  pub fresh : list_all is_keysym c.fresh ≡ true

-- a certificate meets the conditions
pub certificate_parts : (c : Certificate) → is_certificate c ≡ true → IsCertificate c
certificate_parts c h =
    let x1 = is_number c.bound in
    let x2 = x1 && nat_le (length c.pairs) max_count in
    let x3 = x2 && list_all (λ (p : ℕ × ℕ). is_number p.0 && is_number p.1) c.pairs in
    let x4 = x3 && nat_le (length c.typings) max_count in
    let x5 = x4 && list_all is_typing c.typings in
    let x6 = x5 && nat_le (length c.fresh) max_count in
    let a = and_parts x6 (list_all is_keysym c.fresh) h in
    let b = and_parts x5 (nat_le (length c.fresh) max_count) a.0 in
    let d = and_parts x4 (list_all is_typing c.typings) b.0 in
    let e = and_parts x3 (nat_le (length c.typings) max_count) d.0 in
    let f = and_parts x2 (list_all (λ (p : ℕ × ℕ). is_number p.0 && is_number p.1) c.pairs) e.0 in
    let g = and_parts x1 (nat_le (length c.pairs) max_count) f.0 in
    record { bound = g.0; few_pairs = g.1; pairs = f.1; few_typings = e.1; typings = d.1; few_fresh = b.1; fresh = a.1 }

version_is_line : (fresh : List ℕ) → is_line (version_line fresh) ≡ true
version_is_line [] = refl
version_is_line (k ∷ fresh) = refl

fresh_are_lines : (fresh : List ℕ) → nat_le (length fresh) max_count ≡ true → list_all is_keysym fresh ≡ true → list_all is_line (fresh_lines fresh) ≡ true
fresh_are_lines [] few a = refl
fresh_are_lines (k ∷ ks) few a =
    let l = leb-true (length (k ∷ ks)) max_count few in
    all_cons (counted (codes "fresh") (length (k ∷ ks))) (map keysym_text (k ∷ ks)) (decimal_line (length (k ∷ ks)) (omega arith)) (all_map keysym_text is_keysym keysym_line (k ∷ ks) a)

lines_are : (c : Certificate) → IsCertificate c → list_all is_line (lines_of_text c) ≡ true
lines_are c p =
    let fourth = map typing_text c.typings ++ fresh_lines c.fresh in
    let third = map pair_text c.pairs ++ (counted (codes "typings") (length c.typings) ∷ fourth) in
    let a = ltb-true c.bound 0x100000000 p.bound in
    let b = leb-true (length c.pairs) max_count p.few_pairs in
    let d = leb-true (length c.typings) max_count p.few_typings in
    all_cons (version_line c.fresh) (counted (codes "bound") c.bound ∷ counted (codes "pairs") (length c.pairs) ∷ third) (version_is_line c.fresh)
    (all_cons (counted (codes "bound") c.bound) (counted (codes "pairs") (length c.pairs) ∷ third) (decimal_line c.bound (omega arith))
    (all_cons (counted (codes "pairs") (length c.pairs)) third (decimal_line (length c.pairs) (omega arith))
    (all_append is_line (map pair_text c.pairs) (counted (codes "typings") (length c.typings) ∷ fourth) (all_map pair_text (λ (p : ℕ × ℕ). is_number p.0 && is_number p.1) pair_line c.pairs p.pairs)
    (all_cons (counted (codes "typings") (length c.typings)) fourth (decimal_line (length c.typings) (omega arith))
    (all_append is_line (map typing_text c.typings) (fresh_lines c.fresh) (all_map typing_text is_typing typing_is_line c.typings p.typings) (fresh_are_lines c.fresh p.few_fresh p.fresh))))))

-- the steps of reading, each after the one before
abbrev pub after_fresh : ℕ → List (ℕ × ℕ) → List Typing → List ℕ → Result Certificate CertFault
after_fresh bound pairs typings fresh = Ok (record { bound = bound; pairs = pairs; typings = typings; fresh = fresh })

-- the certificate that is read after the typings
abbrev pub after_typings : ℕ → ℕ → ℕ → List (ℕ × ℕ) → ℕ → List Typing × List (List ℕ) → Result Certificate CertFault
after_typings version bound p pairs q typings = fresh_at version (5 + p + q) typings.1 >>= after_fresh bound pairs typings.0

-- the certificate that is read after the number of typings
abbrev pub after_typing_count : ℕ → ℕ → ℕ → List (ℕ × ℕ) → ℕ × List (List ℕ) → Result Certificate CertFault
after_typing_count version bound p pairs q = times typing_at q.0 (5 + p) q.1 >>= after_typings version bound p pairs q.0

-- the certificate that is read after the pairs
abbrev pub after_pairs : ℕ → ℕ → ℕ → List (ℕ × ℕ) × List (List ℕ) → Result Certificate CertFault
after_pairs version bound p pairs = count_at (codes "typings") (4 + p) pairs.1 >>= after_typing_count version bound p pairs.0

-- the certificate that is read after the number of pairs
abbrev pub after_count : ℕ → ℕ → ℕ × List (List ℕ) → Result Certificate CertFault
after_count version bound p = times (line_at pair_of) p.0 4 p.1 >>= after_pairs version bound p.0

-- the certificate that is read after the bound
abbrev pub after_bound : ℕ → ℕ × List (List ℕ) → Result Certificate CertFault
after_bound version bound = count_at (codes "pairs") 3 bound.1 >>= after_count version bound.0

-- the certificate that is read after the version
abbrev pub after_version : ℕ × List (List ℕ) → Result Certificate CertFault
after_version version = line_at (number_after (codes "bound")) 2 version.1 >>= after_bound version.0

lines_again : (c : Certificate) → IsCertificate c → certificate_at (lines_of_text c ++ [] ∷ []) ≡ Ok c
lines_again c p =
    let fifth = fresh_lines c.fresh ++ [] ∷ [] in
    let fourth = map typing_text c.typings ++ fifth in
    let third = counted (codes "typings") (length c.typings) ∷ fourth in
    let second = map pair_text c.pairs ++ third in
    let first = counted (codes "pairs") (length c.pairs) ∷ second in
    let n5 = left_over (fresh_lines c.fresh) ([] ∷ []) (omega arith) in
    let n4 = left_over (map typing_text c.typings) fifth n5 in
    let n3 : 0 < length third = omega arith in
    let n2 = left_over (map pair_text c.pairs) third n3 in
    let all : (map pair_text c.pairs ++ (counted (codes "typings") (length c.typings) ∷ (map typing_text c.typings ++ fresh_lines c.fresh))) ++ [] ∷ [] ≡ second =
    append_assoc (map pair_text c.pairs) (counted (codes "typings") (length c.typings) ∷ (map typing_text c.typings ++ fresh_lines c.fresh)) ([] ∷ [])
    ∙ ap (λ ls. map pair_text c.pairs ++ (counted (codes "typings") (length c.typings) ∷ ls)) (append_assoc (map typing_text c.typings) (fresh_lines c.fresh) ([] ∷ [])) in
    let versions = version_again c.fresh (counted (codes "bound") c.bound ∷ first) (omega arith) in
    let bounds : line_at (number_after (codes "bound")) 2 (counted (codes "bound") c.bound ∷ first) ≡ Ok (c.bound, first) =
    line_again (number_after (codes "bound")) 2 (counted (codes "bound") c.bound) first c.bound (number_again c.bound p.bound) (omega arith) in
    let counts : count_at (codes "pairs") 3 first ≡ Ok (length c.pairs, second) =
    count_again (codes "pairs") 3 (length c.pairs) second (number_again (length c.pairs) (small (length c.pairs) p.few_pairs)) p.few_pairs n2 in
    let pairs : times (line_at pair_of) (length c.pairs) 4 second ≡ Ok (c.pairs, third) =
    times_again (line_at pair_of) pair_text (λ (p : ℕ × ℕ). is_number p.0 && is_number p.1) (λ n p rest h l. line_again pair_of n (pair_text p) rest p (pair_again p h) l) c.pairs 4 third p.pairs n3 in
    let typing_counts : count_at (codes "typings") (4 + length c.pairs) third ≡ Ok (length c.typings, fourth) =
    count_again (codes "typings") (4 + length c.pairs) (length c.typings) fourth (number_again (length c.typings) (small (length c.typings) p.few_typings)) p.few_typings n4 in
    let typings : times typing_at (length c.typings) (5 + length c.pairs) fourth ≡ Ok (c.typings, fifth) =
    times_again typing_at typing_text is_typing (λ n t rest h l. typing_line n t rest h l) c.typings (5 + length c.pairs) fifth p.typings n5 in
    let fresh = fresh_again c.fresh (5 + length c.pairs + length c.typings) p.few_fresh p.fresh in
    ap (λ ls. certificate_at (version_line c.fresh ∷ counted (codes "bound") c.bound ∷ counted (codes "pairs") (length c.pairs) ∷ ls)) all
    ∙ ap (λ r. r >>= after_version) versions ∙ ap (λ r. r >>= after_bound (version c.fresh)) bounds ∙ ap (λ r. r >>= after_count (version c.fresh) c.bound) counts
    ∙ ap (λ r. r >>= after_pairs (version c.fresh) c.bound (length c.pairs)) pairs ∙ ap (λ r. r >>= after_typing_count (version c.fresh) c.bound (length c.pairs) c.pairs) typing_counts
    ∙ ap (λ r. r >>= after_typings (version c.fresh) c.bound (length c.pairs) c.pairs (length c.typings)) typings ∙ ap (λ r. r >>= after_fresh c.bound c.pairs c.typings) fresh

-- reading the text of a certificate returns the certificate
pub certificate_again : (c : Certificate) → is_certificate c ≡ true → certificate_of (text_of c) ≡ Ok c
certificate_again c h = let p = certificate_parts c h in ap certificate_at (lines_divided (lines_of_text c) (lines_are c p)) ∙ lines_again c p

-- reading bytes that spell a certificate returns it
pub spelled_is_read : (bytes : List ℕ) (c : Certificate) → Spells bytes c → certificate_of bytes ≡ Ok c
spelled_is_read bytes c s = ap certificate_of s.is ∙ certificate_again c s.fits

-- bytes spell at most one certificate
pub spells_one : (bytes : List ℕ) (c d : Certificate) → Spells bytes c → Spells bytes d → c ≡ d
spells_one bytes c d s t = let e = spelled_is_read bytes c s in let f = spelled_is_read bytes d t in cc
