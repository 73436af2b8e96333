-- The line that is written for one that only libxkbcommon reads is a line with the definition that
-- libxkbcommon reads.
use Rattle.std.proofs.Common.{◌≡◌, ℕ, ◌≤◌, ◌<◌, List, [], ◌∷◌, ◌++◌, Bool, true, false, not, ◌&&◌, ◌||◌, cond, length, map, refl, sym, ◌∙◌, ap, subst, arith, append_assoc, append-nil, nat_lt, nat_le, lt-ltb, le-leb, ◌≢◌}
use Rattle.std.specs.Prelude.{◌==◌, Option, Some, None, is_some, unwrap_or, Result, Ok, Err, codes, flat_map, encode_utf8}
use Rattle.std.specs.List.{list_all, list_any}
use Rattle.std.specs.Option.{option_map_or, option_and_then}
use Rattle.std.specs.Str.{IsUtf8, is_utf8}
use Rattle.std.proofs.lemmas.Bool.{and_parts, and_from, leb-true, eqb-false, ne_eqb, not-true}
use Rattle.std.proofs.lemmas.Str.{IsUtf8-append, IsUtf8-from_is_utf8, is_utf8-from_IsUtf8}
use Rattle.std.proofs.lemmas.List.{length-map}
use Rattle.std.proofs.lemmas.List.Folds.{list_all-append}
use Rattle.std.proofs.lemmas.Option.{same_Some}
use Rattle.compose_text.specs.Bytes.{is_blank}
use Rattle.compose_text.specs.Lines.{in_line}
use Rattle.compose_text.specs.Results.{◌>>=◌}
use Rattle.keysym_core.specs.Names.{KeysymNames, character_of, text, value}
use Rattle.compose_model.specs.Table.{Definition}
use Rattle.compose_lex.specs.Line.{production, is_name, is_inside, event_tokens, result_tokens, AreTokens, IsLine}
use Rattle.compose_lex.specs.Escape.{quote, quote_inside, IsText}
use Rattle.compose_lex.specs.Fault.{reading_of}
use Rattle.compose_lex.proofs.LineRead.{reads}
use Rattle.compose_lex.proofs.TextRead.{quote_again}
use Rattle.compose_read.specs.Lines.{Source, Visit}
use Rattle.compose_read.specs.Read.{at_line, definition_of, line_result, reading_result, result_text, string_text}
use Rattle.compose_read.specs.declared.ReadFault.{ReadFault}
use Rattle.compose_read.specs.declared.ReadFault.TheVariants.{NotUtf8}
use Rattle.compose_xkbcommon.specs.Grammar.{Parts, parts_of}
use Rattle.compose_xkbcommon.specs.Right.{AreParts}
use Rattle.compose_xkbcommon.specs.Text.{typed, is_typed}
use Rattle.compose_xkbcommon.proofs.Right.{parts_right}
use Rattle.compose_skip.specs.Libxkbcommon.{are_known, is_key, is_result, is_string, is_void, keys_text, keysym_named, line_written, parts_definition, parts_text, read_by_libxkbcommon, result_written, rewritten, strict_name, string_written, void}
use Rattle.compose_skip.proofs.Quoted.{ascii_utf8, quote_closed, quote_in_line, quote_utf8}
use Rattle.compose_skip.proofs.Named.{all_strict, keys_in_line, keys_known, keys_utf8, name_in_line, name_utf8, strict_right}

-- ---- the result

-- the result that is written is one token, and these are its string and its name, which give this
-- text
record IsWritten (names : KeysymNames) (token given : List ℕ) : Type 0 where
  raw : Option (List ℕ)
  name : Option (List ℕ)
  token_is : result_tokens raw name ≡ token ∷ []
  closed : option_map_or is_inside raw true ≡ true
  named : option_map_or is_name name true ≡ true
  some : (is_some raw || is_some name) ≡ true
  utf8 : IsUtf8 token
  plain : list_all in_line token ≡ true
  string : Option (List ℕ)
  other : List ℕ
  string_is : (v : Visit) → string_text v raw ≡ Ok string
  other_is : (v : Visit) (events : ℕ) → result_text names v events name ≡ Ok other
  text_is : option_map_or (λ s. s) string other ≡ given

-- a name of a keysym
named_result : (names : KeysymNames) (name given : List ℕ) (k : ℕ) → is_name name ≡ true → value names name ≡ Some k → text names k ≡ given → IsWritten names name given
named_result names name given k n is t = record {
  raw = None;
  name = Some name;
  token_is = refl;
  closed = refl;
  named = n;
  some = refl;
  utf8 = name_utf8 name n;
  plain = name_in_line name n;
  string = None;
  other = text names k;
  string_is = λ v. refl;
  other_is = λ v events. rw is refl;
  text_is = t;
}

-- a text
quoted_result : (names : KeysymNames) (bytes : List ℕ) → IsText bytes → list_all (λ b. nat_lt 0 b) bytes ≡ true → IsWritten names (quote bytes) bytes
quoted_result names bytes t h = record {
  raw = Some (quote_inside bytes);
  name = None;
  token_is = refl;
  closed = quote_closed bytes;
  named = refl;
  some = refl;
  utf8 = quote_utf8 bytes t.utf8;
  plain = quote_in_line bytes;
  string = Some bytes;
  other = [];
  string_is = λ v. rw (quote_again bytes t h) refl;
  other_is = λ v events. refl;
  text_is = refl;
}

none_zero : (bytes : List ℕ) → list_any (λ b. b == 0) bytes ≡ false → list_all (λ b. nat_lt 0 b) bytes ≡ true
none_zero [] h = refl
none_zero (b ∷ bytes) h = go (b == 0) refl h (none_zero bytes)
  where
    go : (x : Bool) → b == 0 ≡ x → (x || list_any (λ b. b == 0) bytes) ≡ false → (list_any (λ b. b == 0) bytes ≡ false → list_all (λ b. nat_lt 0 b) bytes ≡ true)
        → list_all (λ b. nat_lt 0 b) (b ∷ bytes) ≡ true
    go true e h again = cc
    go false e h again =
        let some : 0 < b = (let differs : b ≢ 0 = eqb-false b 0 e in omega (arith, differs)) in
        and_from (nat_lt 0 b) (list_all (λ b. nat_lt 0 b) bytes) (lt-ltb 0 b some) (again h)

void_result : (names : KeysymNames) (bytes : List ℕ) → bytes ≡ [] → (found : Option ℕ) → value names void ≡ found → option_map_or (λ k. not (is_some (character_of names k))) found false ≡ true
    → IsWritten names void bytes
void_result names bytes e None is h = cc
void_result names bytes e (Some k) is h = named_result names void bytes k refl is (go (character_of names k) h ∙ sym e)
  where
    go : (c : Option ℕ) → not (is_some c) ≡ true → option_map_or encode_utf8 c [] ≡ []
    go None h = refl
    go (Some c) h = cc

string_result : (names : KeysymNames) (raw : List ℕ) → is_string names raw ≡ true → IsWritten names (string_written (typed raw)) (typed raw)
string_result names raw h = go (typed raw) (and_parts (is_typed (typed raw)) (nat_lt 0 (length (typed raw)) || is_void names) h).0 (and_parts (is_typed (typed raw)) (nat_lt 0 (length (typed raw)) || is_void names) h).1
  where
    go : (bytes : List ℕ) → is_typed bytes ≡ true → (nat_lt 0 (length bytes) || is_void names) ≡ true → IsWritten names (string_written bytes) bytes
    go [] t s = void_result names [] refl (value names void) refl s
    go (b ∷ bytes) t s =
        let outer = and_parts (nat_le (length (b ∷ bytes)) 255 && is_utf8 (b ∷ bytes)) (not (list_any (λ b. b == 0) (b ∷ bytes))) t in
        let inner = and_parts (nat_le (length (b ∷ bytes)) 255) (is_utf8 (b ∷ bytes)) outer.0 in
        let few : length (b ∷ bytes) ≤ 255 = leb-true (length (b ∷ bytes)) 255 inner.0 in
        let some : (length (b ∷ bytes) == 0) ≡ false = ne_eqb (length (b ∷ bytes)) 0 (omega arith) in
        subst (λ token. IsWritten names token (b ∷ bytes)) (sym (ap (λ x. let token : List ℕ = cond x void (quote (b ∷ bytes)) in token) some))
        (quoted_result names (b ∷ bytes) (record { some = omega arith; few = few; utf8 = IsUtf8-from_is_utf8 (b ∷ bytes) inner.1 })
        (none_zero (b ∷ bytes) (not-true (list_any (λ b. b == 0) (b ∷ bytes)) outer.1)))

keysym_result : (names : KeysymNames) (name : List ℕ) → is_name name ≡ true → (found : Option ℕ) → keysym_named names name ≡ found → option_map_or (λ k. nat_lt 0 k) found false ≡ true
    → IsWritten names (strict_name names name) (option_map_or (text names) found [])
keysym_result names name n None is h = cc
keysym_result names name n (Some k) is h = named_result names (strict_name names name) (text names k) k (strict_right names name n) is refl

result_is : (names : KeysymNames) (p : Parts) → option_map_or (is_result names) p.name true ≡ true → option_map_or (is_string names) p.string true ≡ true
    → option_map_or is_name p.name true ≡ true → (is_some p.string || is_some p.name) ≡ true → IsWritten names (result_written names p) (parts_text names p)
result_is names p known string named some = go p.string p.name known string named some
  where
    go : (string name : Option (List ℕ)) → option_map_or (is_result names) name true ≡ true → option_map_or (is_string names) string true ≡ true → option_map_or is_name name true ≡ true
        → (is_some string || is_some name) ≡ true
        → IsWritten names (option_map_or (λ raw. string_written (typed raw)) string (option_map_or (strict_name names) name []))
        (option_map_or typed string (option_map_or (text names) (option_and_then (keysym_named names) name) []))
    go (Some raw) name known string named some = string_result names raw string
    go None (Some name) known string named some = keysym_result names name named (keysym_named names name) refl known
    go None None known string named some = cc

-- ---- the tokens

keys_tokenized : (keys ts : List (List ℕ)) (blanks rest : List ℕ) → list_all is_blank blanks ≡ true → ((bs : List ℕ) → list_all is_blank bs ≡ true → AreTokens ts (bs ++ rest))
    → AreTokens (flat_map event_tokens keys ++ ts) (blanks ++ (keys_text keys ++ rest))
keys_tokenized [] ts blanks rest ok more = more blanks ok
keys_tokenized (key ∷ keys) ts blanks rest ok more =
    let apart : (key ++ codes "> ") ++ keys_text keys ++ rest ≡ key ++ (62 ∷ 32 ∷ (keys_text keys ++ rest)) =
    append_assoc (key ++ codes "> ") (keys_text keys) rest ∙ append_assoc key (codes "> ") (keys_text keys ++ rest) in (
      blanks,
      key ++ (62 ∷ 32 ∷ (keys_text keys ++ rest)),
      ok,
      ap (λ t. blanks ++ 60 ∷ t) apart,
      (
        [],
        62 ∷ 32 ∷ (keys_text keys ++ rest),
        refl,
        refl,
        (
          [],
          32 ∷ (keys_text keys ++ rest),
          refl,
          refl,
          keys_tokenized keys ts (32 ∷ []) rest refl more,
        ),
      ),
    )

line_tokens : (keys : List (List ℕ)) (token : List ℕ) → AreTokens (flat_map event_tokens keys ++ (58 ∷ []) ∷ token ∷ []) (keys_text keys ++ (codes ": " ++ token))
line_tokens keys token =
    keys_tokenized keys ((58 ∷ []) ∷ token ∷ []) [] (codes ": " ++ token) refl
    (λ bs ok. (bs, 32 ∷ token, ok, refl, (32 ∷ [], [], refl, ap (λ t. 32 ∷ t) (sym (append-nil token)), ([], [], refl, refl, refl))))

-- ---- the line

module _ (names : KeysymNames) (p : Parts) (right : AreParts p) (known : are_known names p ≡ true) where
  abbrev keys : List (List ℕ)
  keys = map (strict_name names) p.keys

  abbrev token : List ℕ
  token = result_written names p

  all_keys : list_all (is_key names) p.keys ≡ true
  all_keys = (and_parts (list_all (is_key names) p.keys) (option_map_or (is_result names) p.name true) (and_parts (list_all (is_key names) p.keys && option_map_or (is_result names) p.name true) (option_map_or (is_string names) p.string true) known).0).0

  is_named : option_map_or (is_result names) p.name true ≡ true
  is_named = (and_parts (list_all (is_key names) p.keys) (option_map_or (is_result names) p.name true) (and_parts (list_all (is_key names) p.keys && option_map_or (is_result names) p.name true) (option_map_or (is_string names) p.string true) known).0).1

  is_text : option_map_or (is_string names) p.string true ≡ true
  is_text = (and_parts (list_all (is_key names) p.keys && option_map_or (is_result names) p.name true) (option_map_or (is_string names) p.string true) known).1

  result : IsWritten names token (parts_text names p)
  result = result_is names p is_named is_text right.named right.result

  strict : list_all is_name keys ≡ true
  strict = all_strict names p.keys right.names

  counted : nat_lt 0 (length keys) && nat_le (length keys) 32 ≡ true
  counted =
      let n = length-map p.keys (strict_name names) in let some = right.some in let few = right.few in
      let low : nat_lt 0 (length keys) ≡ true = lt-ltb 0 (length keys) (omega (arith, n, some)) in
      let high : nat_le (length keys) 32 ≡ true = le-leb (length keys) 32 (omega (arith, n, few)) in
      and_from _ _ low high

  line_is : IsLine (line_written names p) (production keys result.raw result.name)
  line_is = record {
    right = and_from _ _ (and_from _ _ (and_from _ _ (and_from _ _ counted strict) result.closed) result.named) result.some;
    content = subst (λ ts. AreTokens (flat_map event_tokens keys ++ (58 ∷ []) ∷ ts) (line_written names p)) (sym result.token_is) (line_tokens keys token);
  }

  line_read : reading_of (line_written names p) ≡ Ok (production keys result.raw result.name)
  line_read = reads (line_written names p) (production keys result.raw result.name) line_is

  line_utf8 : is_utf8 (line_written names p) ≡ true
  line_utf8 =
      is_utf8-from_IsUtf8 (line_written names p)
      (IsUtf8-append (keys_text keys) (codes ": " ++ token) (keys_utf8 keys strict) (IsUtf8-append (codes ": ") token (ascii_utf8 (codes ": ") (omega arith, (omega arith, tt))) result.utf8))

  line_plain : list_all in_line (line_written names p) ≡ true
  line_plain = list_all-append in_line (keys_text keys) (codes ": " ++ token) ∙ and_from _ _ (keys_in_line keys strict) result.plain

  defines : (v : Visit) → definition_of names v keys result.raw result.name ≡ Ok (parts_definition names p)
  defines v =
      let made : List ℕ → Option (List ℕ) → List ℕ → Result Definition ReadFault = λ sequence string other. Ok (record { sequence = sequence; text = option_map_or (λ s. s) string other }) in
      let sequence : List ℕ = map (λ n. unwrap_or (keysym_named names n) 0) p.keys in
      ap (λ r. r >>= (λ s. string_text v result.raw >>= (λ string. result_text names v (length keys) result.name >>= (λ other. made s string other)))) (keys_known names v 0 p.keys all_keys)
      ∙ ap (λ r. r >>= (λ string. result_text names v (length keys) result.name >>= (λ other. made sequence string other))) (result.string_is v)
      ∙ ap (λ r. r >>= (λ other. made sequence result.string other)) (result.other_is v (length keys))
      ∙ ap (λ t. let r : Result Definition ReadFault = Ok (record { sequence = sequence; text = t }) in r) result.text_is

  line_result_is : (sources : List Source) (v : Visit) → v.bytes ≡ line_written names p → line_result names sources v ≡ Ok (Some (parts_definition names p))
  line_result_is sources v e =
      ap (λ bytes. let r : Result (Option Definition) ReadFault = cond (is_utf8 bytes) (at_line v (reading_of bytes) >>= reading_result names sources v) (Err (NotUtf8 v.source v.line)) in r) e
      ∙ ap (λ b. let r : Result (Option Definition) ReadFault = cond b (at_line v (reading_of (line_written names p)) >>= reading_result names sources v) (Err (NotUtf8 v.source v.line)) in r) line_utf8
      ∙ ap (λ r. at_line v r >>= reading_result names sources v) line_read
      ∙ ap (λ d. d >>= (λ d. let o : Result (Option Definition) ReadFault = Ok (Some d) in o)) (defines v)

-- ---- any line

-- what is known of a line that is rewritten as `written`, and of one that isn't
pub record IsRewritten (names : KeysymNames) (line written : List ℕ) : Type 0 where
  pub utf8 : is_utf8 written ≡ true
  pub events : List (List ℕ)
  pub raw : Option (List ℕ)
  pub name : Option (List ℕ)
  pub reading : reading_of written ≡ Ok (production events raw name)
  pub plain : list_all in_line written ≡ true
  pub result : (sources : List Source) (v : Visit) → v.bytes ≡ written → line_result names sources v ≡ Ok (read_by_libxkbcommon names line)

chosen_line : (names : KeysymNames) (p : Parts) → AreParts p → (known : Bool) → are_known names p ≡ known → (line written : List ℕ) → parts_of line ≡ Some p
    → cond known (Some (line_written names p)) None ≡ Some written → IsRewritten names line written
chosen_line names p right false k line written is h = cc
chosen_line names p right true k line written is h =
    let same : line_written names p ≡ written = same_Some (line_written names p) written h in
    let whole : read_by_libxkbcommon names line ≡ Some (parts_definition names p) =
    ap (λ (o : Option Parts). option_and_then (λ p. let d : Option Definition = cond (are_known names p) (Some (parts_definition names p)) None in d) o) is
    ∙ ap (λ b. let d : Option Definition = cond b (Some (parts_definition names p)) None in d) k in
    let r = result names p right k in
    record {
      utf8 = subst (λ bytes. is_utf8 bytes ≡ true) same (line_utf8 names p right k);
      events = map (strict_name names) p.keys;
      raw = r.raw;
      name = r.name;
      reading = subst (λ bytes. reading_of bytes ≡ Ok (production (map (strict_name names) p.keys) r.raw r.name)) same (line_read names p right k);
      plain = subst (λ bytes. list_all in_line bytes ≡ true) same (line_plain names p right k);
      result = λ sources v e. line_result_is names p right k sources v (e ∙ sym same) ∙ ap (λ o. let q : Result (Option Definition) ReadFault = Ok o in q) (sym whole);
    }

pub is_rewritten : (names : KeysymNames) (line written : List ℕ) → rewritten names line ≡ Some written → IsRewritten names line written
is_rewritten names line written h = go (parts_of line) refl h
  where
    go : (o : Option Parts) → parts_of line ≡ o → option_and_then (λ p. let w : Option (List ℕ) = cond (are_known names p) (Some (line_written names p)) None in w) o ≡ Some written → IsRewritten names line written
    go None e h = cc
    go (Some p) e h = chosen_line names p (parts_right line p e) (are_known names p) refl line written e h

pub not_rewritten : (names : KeysymNames) (line : List ℕ) → rewritten names line ≡ None → read_by_libxkbcommon names line ≡ None
not_rewritten names line h = go (parts_of line) h
  where
    by : (p : Parts) (b : Bool) → (let w : Option (List ℕ) = cond b (Some (line_written names p)) None in w) ≡ None → (let d : Option Definition = cond b (Some (parts_definition names p)) None in d) ≡ None
    by p true h = cc
    by p false h = refl

    go : (o : Option Parts) → option_and_then (λ p. let w : Option (List ℕ) = cond (are_known names p) (Some (line_written names p)) None in w) o ≡ None
        → option_and_then (λ p. let d : Option Definition = cond (are_known names p) (Some (parts_definition names p)) None in d) o ≡ None
    go None h = refl
    go (Some p) h = by p (are_known names p) h
