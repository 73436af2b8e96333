-- A listed line is read as the production of its keys and its text.
use Rattle.std.proofs.Common.{◌≡◌, ℕ, ◌+◌, ◌/◌, ◌%◌, ◌≤◌, ◌<◌, List, [], ◌∷◌, ◌++◌, Bool, true, false, not, ◌&&◌, ◌||◌, cond, length, refl, sym, ◌∙◌, ap, subst, inl, inr, arith, append_assoc, nat_lt, nat_le}
use Rattle.std.specs.Prelude.{◌==◌, Option, Some, None, Result, Ok, Err, flat_map, codes, unwrap_or}
use Rattle.std.specs.Fmt.{decimal}
use Rattle.std.specs.List.{list_all}
use Rattle.std.specs.Str.{is_utf8}
use Rattle.std.specs.Option.{option_or, option_map_or, option_and_then}
use Rattle.std.proofs.lemmas.Bool.{and_parts, and_from, cases_Bool, or_cases, or_parts, ne_eqb}
use Rattle.compose_text.specs.Bytes.{is_blank}
use Rattle.keysym_core.specs.Names.{KeysymNames}
use Rattle.compose_model.specs.Table.{same}
use Rattle.compose_model.proofs.NodeLemmas.{same_is}
use Rattle.compose_lex.specs.Line.{Reading, blank, include, production, is_name, is_inside, is_inside_from, is_comment, quoted, event_tokens, tokens, is_reading, AreTokens, IsLine}
use Rattle.compose_lex.specs.Escape.{quote, quote_inside, quote_byte, octal_escape}
use Rattle.compose_lex.specs.Fault.{reading_of}
use Rattle.compose_lex.specs.declared.LexFault.{LexFault}
use Rattle.compose_lex.proofs.LineRead.{reads}
use Rattle.compose_lex.proofs.LineSound.{reading_sound}
use Rattle.compose_read.specs.Lines.{Visit}
use Rattle.compose_places.specs.Events.{line_events, events_of}
use Rattle.compose_places.specs.Counting.{WrittenLine, written_line, sequence_named, defined_sequence, defines, counting_line}
use Rattle.compose_shown.specs.Shown.{shown_text}
use Rattle.compose_listing.specs.Line.{keys_text, place_comment, listed_line}

-- ---- the characters between the quotes

inside_octal : (b : ℕ) (rest : List ℕ) → is_inside_from false (octal_escape b ++ rest) ≡ is_inside_from false rest
inside_octal b rest =
    let second : (48 + b / 8 % 8) == 34 ≡ false = ne_eqb (48 + b / 8 % 8) 34 (omega arith) in
    let third : (48 + b % 8) == 34 ≡ false = ne_eqb (48 + b % 8) 34 (omega arith) in
    let fourth : (48 + b / 8 % 8) == 92 ≡ false = ne_eqb (48 + b / 8 % 8) 92 (omega arith) in
    let fifth : (48 + b % 8) == 92 ≡ false = ne_eqb (48 + b % 8) 92 (omega arith) in
    rw (second, fourth) (rw (third, fifth) refl)

inside_byte : (b : ℕ) (rest : List ℕ) → is_inside_from false (quote_byte b ++ rest) ≡ is_inside_from false rest
inside_byte b rest = by (b == 92) (b == 34) (nat_lt b 32 || b == 127) refl refl refl
  where
    by : (s t u : Bool) → b == 92 ≡ s → b == 34 ≡ t → nat_lt b 32 || b == 127 ≡ u → is_inside_from false (quote_byte b ++ rest) ≡ is_inside_from false rest
    by true t u d e f = rw d refl
    by false true u d e f = rw (d, e) refl
    by false false true d e f = rw (d, e, f) (inside_octal b rest)
    by false false false d e f = rw (d, e, f) (rw (e, d) refl)

pub quote_closed : (text : List ℕ) → is_inside (quote_inside text) ≡ true
quote_closed [] = refl
quote_closed (b ∷ text) = inside_byte b (quote_inside text) ∙ quote_closed text

-- ---- the tokens

keys_tokenized : (keys ts : List (List ℕ)) (blanks rest : List ℕ) → list_all is_blank blanks ≡ true → ((bs : List ℕ) → list_all is_blank bs ≡ true → AreTokens ts (bs ++ rest))
    → AreTokens (flat_map event_tokens keys ++ ts) (blanks ++ (keys_text keys ++ rest))
keys_tokenized [] ts blanks rest ok more = more blanks ok
keys_tokenized (key ∷ keys) ts blanks rest ok more =
    let apart : (key ++ codes "> ") ++ keys_text keys ++ rest ≡ key ++ (62 ∷ 32 ∷ (keys_text keys ++ rest)) =
    append_assoc (key ++ codes "> ") (keys_text keys) rest ∙ append_assoc key (codes "> ") (keys_text keys ++ rest) in (
      blanks,
      key ++ (62 ∷ 32 ∷ (keys_text keys ++ rest)),
      ok,
      ap (λ t. blanks ++ 60 ∷ t) apart,
      (
        [],
        62 ∷ 32 ∷ (keys_text keys ++ rest),
        refl,
        refl,
        (
          [],
          32 ∷ (keys_text keys ++ rest),
          refl,
          refl,
          keys_tokenized keys ts (32 ∷ []) rest refl more,
        ),
      ),
    )

-- ---- the line

module _ (keys : List (List ℕ)) (text path : List ℕ) (line : ℕ) (some : length text == 0 ≡ false)
    (named : nat_lt 0 (length keys) && nat_le (length keys) 32 && list_all is_name keys ≡ true) where
  pub says : IsLine (listed_line keys text path line) (production keys (Some (quote_inside text)) None)
  says = record {
    right = and_from _ _ (and_from _ _ (and_from _ _ named (quote_closed text)) refl) refl;
    content = subst (λ r. AreTokens (tokens (production keys (Some (quote_inside text)) None)) (keys_text keys ++ (codes ": " ++ (r ++ place_comment path line))))
        (sym (ap (λ b. cond b (codes "VoidSymbol") (quote text)) some))
        (keys_tokenized keys ((58 ∷ []) ∷ quoted (quote_inside text) ∷ []) [] (codes ": " ++ (quote text ++ place_comment path line)) refl
        (λ bs ok. (
          bs,
          32 ∷ (quote text ++ place_comment path line),
          ok,
          refl,
          (
            32 ∷ [],
            place_comment path line,
            refl,
            refl,
            (
              32 ∷ 32 ∷ [],
              35 ∷ 32 ∷ (shown_text path ++ (codes ":" ++ decimal line)),
              refl,
              refl,
              refl,
            ),
          ),
        )));
  }

  pub is_read : reading_of (listed_line keys text path line) ≡ Ok (production keys (Some (quote_inside text)) None)
  is_read = reads (listed_line keys text path line) (production keys (Some (quote_inside text)) None) says

-- ---- the line that counts

-- its keys are names, and their sequence is this one
pub record IsNamed (names : KeysymNames) (s : List ℕ) (line : WrittenLine) : Type 0 where
  pub keys : nat_lt 0 (length line.keys) && nat_le (length line.keys) 32 && list_all is_name line.keys ≡ true
  pub sequence : sequence_named names line.keys ≡ Some s

module _ (names : KeysymNames) (s : List ℕ) where
  right_keys : (bytes : List ℕ) (r : Result Reading LexFault) → reading_of bytes ≡ r → (keys : List (List ℕ)) → events_of r ≡ Some keys
      → nat_lt 0 (length keys) && nat_le (length keys) 32 && list_all is_name keys ≡ true
  right_keys bytes (Err f) e keys h = cc
  right_keys bytes (Ok blank) e keys h = cc
  right_keys bytes (Ok (include name)) e keys h = cc
  right_keys bytes (Ok (production events raw name)) e keys h =
      let right : is_reading (production events raw name) ≡ true = (reading_sound bytes (production events raw name) e).right in
      let is : events ≡ keys = cc in
      subst (λ ks. nat_lt 0 (length ks) && nat_le (length ks) 32 && list_all is_name ks ≡ true) is
      (and_parts _ _ (and_parts _ _ (and_parts _ _ right).0).0).0

  by_events : (bytes : List ℕ) (v : Visit) → v.bytes ≡ bytes → (u : Bool) → is_utf8 bytes ≡ u → (o : Option (List (List ℕ))) → events_of (reading_of bytes) ≡ o
      → option_map_or (same s) (option_and_then (sequence_named names) (cond u o None)) false ≡ true
      → IsNamed names s (record { place = (written_line v).place; keys = unwrap_or (cond u o None) [] })
  by_events bytes v b false d o e h = cc
  by_events bytes v b true d None e h = cc
  by_events bytes v b true d (Some keys) e h = by_sequence (sequence_named names keys) refl h
    where
      by_sequence : (q : Option (List ℕ)) → sequence_named names keys ≡ q → option_map_or (same s) q false ≡ true → IsNamed names s (record { place = (written_line v).place; keys = keys })
      by_sequence None g k = cc
      by_sequence (Some t) g k = record { keys = right_keys bytes (reading_of bytes) refl keys e; sequence = g ∙ ap Some (sym (same_is s t k)) }

  pub counts_named : (visits : List Visit) (line : WrittenLine) → counting_line names visits s ≡ Some line → IsNamed names s line
  counts_named [] line h = cc
  counts_named (v ∷ vs) line h = by_later (λ l g. counts_named vs l g) (counting_line names vs s) refl h
    where
      here : (b : Bool) → defines names s v.bytes ≡ b → (let o : Option WrittenLine = cond b (Some (written_line v)) None in o) ≡ Some line → IsNamed names s line
      here false e h = cc
      here true e h = subst (IsNamed names s) (let is : written_line v ≡ line = cc in is) (by_events v.bytes v refl (is_utf8 v.bytes) refl (events_of (reading_of v.bytes)) refl e)

      by_later : ((l : WrittenLine) → counting_line names vs s ≡ Some l → IsNamed names s l) → (o : Option WrittenLine) → counting_line names vs s ≡ o
          → option_or o (cond (defines names s v.bytes) (Some (written_line v)) None) ≡ Some line → IsNamed names s line
      by_later later None e h = here (defines names s v.bytes) refl h
      by_later later (Some l) e h = later line (e ∙ h)
