-- A line is read part by part.
use Rattle.std.proofs.Common.{◌≡◌, ℕ, ◌<◌, ◌≤◌, List, [], ◌∷◌, ◌++◌, length, Bool, true, false, cond, ◌&&◌, refl, sym, ◌∙◌, ap, arith, eqb-true}
use Rattle.std.specs.Prelude.{◌==◌, Some, None, Option, Result, Ok, Err, bytes_eq}
use Rattle.std.specs.Option.{option_map, option_map_or, ok_or}
use Rattle.std.specs.Cmp.Lexicographic.{bytes_decides}
use Rattle.std.specs.Fmt.{decimal}
use Rattle.std.specs.Str.Parse.{digits_value}
use Rattle.std.proofs.lemmas.Bool.{and_parts, ltb-true, lt-ltb, le-ltb}
use Rattle.compose_text.specs.Results.{◌>>=◌}
use Rattle.compose_text.specs.Lines.{divide, onto_first}
use Rattle.compose_model.specs.Certificate.{Typing}
use Rattle.compose_cert.specs.Spelling.{is_number, max_count}
use Rattle.compose_cert.specs.Reading.{written, number_of, keysyms_of, both, pair_of, pair_of_words, typing_of, typing_of_words, character_of, line_at, typing_at, if_few, end_at}
use Rattle.compose_cert.specs.declared.CertFault.{CertFault}
use Rattle.compose_cert.specs.declared.CertFault.TheVariants.{NotText, TooLarge}
use Rattle.compose_cert.proofs.Words.{plain, decimal_plain, word_alone}

-- ---- parts and their bytes

-- there is always a first part
pub record HasFirst (parts : List (List ℕ)) : Type 0 where
  pub first : List ℕ
  pub others : List (List ℕ)
  pub is : parts ≡ first ∷ others

-- divided bytes have a first part
pub divide_first : (at : ℕ) (bytes : List ℕ) → HasFirst (divide at bytes)
divide_first at [] = record { first = []; others = []; is = refl }
divide_first at (b ∷ bytes) = go (b == at) (divide_first at bytes)
  where
    go : (t : Bool) → HasFirst (divide at bytes) → HasFirst (cond t ([] ∷ divide at bytes) (onto_first b (divide at bytes)))
    go true h = record { first = []; others = divide at bytes; is = refl }
    go false h = record { first = b ∷ h.first; others = h.others; is = ap (onto_first b) h.is }

-- the parts with this byte between them
abbrev pub join : ℕ → List (List ℕ) → List ℕ
join at [] = []
join at (part ∷ []) = part
join at (part ∷ next ∷ parts) = part ++ at ∷ join at (next ∷ parts)

-- bytes that were divided are joined again
pub join_divide : (at : ℕ) (bytes : List ℕ) → join at (divide at bytes) ≡ bytes
join_divide at [] = refl
join_divide at (b ∷ bytes) = go (b == at) refl (divide_first at bytes) (join_divide at bytes)
  where
    go : (t : Bool) → (b == at) ≡ t → HasFirst (divide at bytes) → join at (divide at bytes) ≡ bytes → join at (cond t ([] ∷ divide at bytes) (onto_first b (divide at bytes))) ≡ b ∷ bytes
    go true e h j = ap (λ parts. join at ([] ∷ parts)) h.is ∙ ap (λ x. x ∷ join at (h.first ∷ h.others)) (sym (eqb-true b at e)) ∙ ap (λ parts. b ∷ join at parts) (sym h.is) ∙ ap (λ ds. b ∷ ds) j
    go false e h j = ap (λ parts. join at (onto_first b parts)) h.is ∙ onto h.first h.others ∙ ap (λ parts. b ∷ join at parts) (sym h.is) ∙ ap (λ ds. b ∷ ds) j
      where
        onto : (first : List ℕ) (others : List (List ℕ)) → join at ((b ∷ first) ∷ others) ≡ b ∷ join at (first ∷ others)
        onto first [] = refl
        onto first (next ∷ others) = refl

-- a single part is the whole
pub divide_alone : (at : ℕ) (bytes part : List ℕ) → divide at bytes ≡ part ∷ [] → part ≡ bytes
divide_alone at bytes part e = ap (join at) (sym e) ∙ join_divide at bytes

-- ---- two numbers

-- a value that is read of a word passes its test, and the word is its text
pub written_was : (text : ℕ → List ℕ) (test : ℕ → Bool) (x : ℕ) (word : List ℕ) (v : ℕ) → written text test x word ≡ Some v → (test v ≡ true) × (word ≡ text v)
written_was text test x word v h = go (test x && bytes_eq word (text x)) refl h
  where
    go : (t : Bool) → (test x && bytes_eq word (text x)) ≡ t → cond t (Some x) None ≡ Some v → (test v ≡ true) × (word ≡ text v)
    go true e h =
        let parts = and_parts (test x) (bytes_eq word (text x)) e in
        let same : x ≡ v = cc in
        (ap test (sym same) ∙ parts.0, (bytes_decides word (text x)).0 parts.1 ∙ ap text same)
    go false e h = cc

-- a number has no blank
number_alone : (word : List ℕ) (n : ℕ) → number_of word ≡ Some n → divide 32 word ≡ word ∷ []
number_alone word n h =
    let was = written_was decimal is_number (digits_value 10 word) word n h in
    let small = ltb-true n 0x100000000 was.0 in
    word_alone word (ap plain was.1 ∙ decimal_plain n (omega arith))

-- two words are a pair if both are numbers; the second is never two words
pub pair_by_words : (line old new : List ℕ) → divide 32 line ≡ old ∷ divide 32 new → pair_of line ≡ both (number_of old) (number_of new)
pair_by_words line old new e = ap pair_of_words e ∙ go (divide 32 new) refl
  where
    no_number : (w x : List ℕ) (ws : List (List ℕ)) → divide 32 new ≡ w ∷ x ∷ ws → (o : Option ℕ) → number_of new ≡ o → None ≡ both (number_of old) o
    no_number w x ws d None is = none (number_of old)
      where
        none : (o : Option ℕ) → ◌≡◌ {A = Option (ℕ × ℕ)} None (both o None)
        none None = refl
        none (Some n) = refl
    no_number w x ws d (Some n) is = let alone = number_alone new n is in cc

    go : (parts : List (List ℕ)) → divide 32 new ≡ parts → pair_of_words (old ∷ parts) ≡ both (number_of old) (number_of new)
    go [] d = let h = divide_first 32 new in let is = h.is in cc
    go (w ∷ []) d = ap (λ ds. both (number_of old) (number_of ds)) (divide_alone 32 new w d)
    go (w ∷ x ∷ ws) d = no_number w x ws d (number_of new) refl

-- a character and the keys after it
pub typing_by_parts : (line character keys : List ℕ) → divide 32 line ≡ character ∷ divide 32 keys
    → typing_of line ≡ option_map (λ x. let t : Typing = record { character = x.0; keys = x.1 } in t) (both (character_of character) (keysyms_of (divide 32 keys)))
typing_by_parts line character keys e =
    let h = divide_first 32 keys in
    ap typing_of_words (e ∙ ap (λ ds. character ∷ ds) h.is)
    ∙ ap (λ ds. option_map (λ x. let t : Typing = record { character = x.0; keys = x.1 } in t) (both (character_of character) (keysyms_of ds))) (sym h.is)

-- a result of an option came from its value
pub some_from_ok : {X : Type 0} (o : Option X) (e : CertFault) (x : X) → option_map_or (λ v. Ok v) o (Err e) ≡ Ok x → o ≡ Some x
some_from_ok None e x h = cc
some_from_ok (Some v) e x h = cc

-- a line of a character and keysyms, each of which can be read, is read as their typing
pub typing_read : (line word words : List ℕ) (character : ℕ) (keys : List ℕ) (n : ℕ) → divide 32 line ≡ word ∷ divide 32 words → Some character ≡ character_of word
    → option_map_or (λ v. Ok v) (keysyms_of (divide 32 words)) (Err (NotText n)) ≡ Ok keys
    → option_map_or (λ v. Ok v) (typing_of line) (Err (NotText n)) ≡ Ok (record { character = character; keys = keys })
typing_read line word words character keys n d c k =
    let reported = typing_by_parts line word words d in
    let some = some_from_ok (keysyms_of (divide 32 words)) (NotText n) keys k in
    rw (reported, ← c, some) refl

-- ---- a line before others

-- a line of this form that is followed by another part is read, and the lines after it are left
pub line_read : {A : Type 0} (form : List ℕ → Option A) (n : ℕ) (bytes line rest : List ℕ) (x : A) → divide 10 bytes ≡ line ∷ divide 10 rest → form line ≡ Some x
    → line_at form n (divide 10 bytes) ≡ Ok (x, divide 10 rest)
line_read form n bytes line rest x d e =
    let h = divide_first 10 rest in
    let parts : divide 10 bytes ≡ line ∷ h.first ∷ h.others = d ∙ ap (λ ls. line ∷ ls) h.is in
    ap (line_at form n) parts ∙ rw (h.is, e) refl

-- a line of another form is the fault, with its number
pub line_refused : {A : Type 0} (form : List ℕ → Option A) (n : ℕ) (bytes line rest : List ℕ) → divide 10 bytes ≡ line ∷ divide 10 rest → form line ≡ None
    → line_at form n (divide 10 bytes) ≡ Err (NotText n)
line_refused form n bytes line rest d e =
    let h = divide_first 10 rest in
    let parts : divide 10 bytes ≡ line ∷ h.first ∷ h.others = d ∙ ap (λ ls. line ∷ ls) h.is in
    ap (line_at form n) parts ∙ rw e refl

-- a last line without a newline is the fault, with its number
pub line_missing : {A : Type 0} (form : List ℕ → Option A) (n : ℕ) (bytes : List ℕ) → divide 10 bytes ≡ bytes ∷ [] → line_at form n (divide 10 bytes) ≡ Err (NotText n)
line_missing form n bytes d = ap (line_at form n) d

-- an option whose lack is the fault had no value
pub none_from_err : {X : Type 0} (o : Option X) (e f : CertFault) → ◌≡◌ {A = Result X CertFault} (Err f) (ok_or o e) → (o ≡ None) × (f ≡ e)
none_from_err None e f h = (refl, cc)
none_from_err (Some x) e f h = cc

-- ---- the end

-- if bytes are left, the end is missing, and the fault has the number of their line
pub end_missing : (n : ℕ) (bytes : List ℕ) → 0 < length bytes → end_at n (divide 10 bytes) ≡ Err (NotText n)
end_missing n bytes l = go (divide 10 bytes) refl
  where
    go : (parts : List (List ℕ)) → divide 10 bytes ≡ parts → end_at n parts ≡ Err (NotText n)
    go [] d = refl
    go ([] ∷ []) d = absurd (omega (arith, ap length (divide_alone 10 bytes [] d)))
    go ([] ∷ part ∷ parts) d = refl
    go ((b ∷ part) ∷ parts) d = refl

typing_line : (n : ℕ) (bytes line rest : List ℕ) (t : Typing) → divide 10 bytes ≡ line ∷ divide 10 rest → option_map_or (λ v. Ok v) (typing_of line) (Err (NotText n)) ≡ Ok t
    → line_at typing_of n (divide 10 bytes) ≡ Ok (t, divide 10 rest)
typing_line n bytes line rest t d h = line_read typing_of n bytes line rest t d (some_from_ok (typing_of line) (NotText n) t h)

-- a typing that doesn't have too many keysyms is read, and the lines after it are left
pub typing_few : (n : ℕ) (bytes line rest : List ℕ) (t : Typing) → divide 10 bytes ≡ line ∷ divide 10 rest → option_map_or (λ v. Ok v) (typing_of line) (Err (NotText n)) ≡ Ok t
    → length t.keys ≤ max_count → typing_at n (divide 10 bytes) ≡ Ok (t, divide 10 rest)
typing_few n bytes line rest t d h l = ap (λ r. r >>= if_few (λ (t : Typing). length t.keys)) (typing_line n bytes line rest t d h) ∙ rw (le-ltb max_count (length t.keys) l) refl

-- a typing that has too many keysyms is too large
pub typing_many : (n : ℕ) (bytes line rest : List ℕ) (t : Typing) → divide 10 bytes ≡ line ∷ divide 10 rest → option_map_or (λ v. Ok v) (typing_of line) (Err (NotText n)) ≡ Ok t
    → max_count < length t.keys → typing_at n (divide 10 bytes) ≡ Err TooLarge
typing_many n bytes line rest t d h l = ap (λ r. r >>= if_few (λ (t : Typing). length t.keys)) (typing_line n bytes line rest t d h) ∙ rw (lt-ltb max_count (length t.keys) l) refl
