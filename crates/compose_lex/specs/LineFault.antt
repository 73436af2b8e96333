-- The faults of a line, defined with the grammar and not with the function that reads a line: how
-- many of its tokens begin a valid line, and what follows them.
use Rattle.std.specs.Prelude.{◌≡◌, ℕ, Bool, not, ◌+◌, ◌&&◌, ◌||◌, ◌==◌, List, [], ◌∷◌, ◌++◌, length, flat_map, IsTrue}
use Rattle.std.specs.Char.{is_ascii_alphabetic}
use Rattle.std.specs.List.{list_all}
use Rattle.compose_text.specs.Bytes.{is_blank, is_name_byte, begins}
use Rattle.compose_lex.specs.Line.{Reading, is_name, is_comment, quoted, event_tokens, tokens, is_reading}
use Rattle.compose_lex.specs.declared.LexFault.{LexFault}
use Rattle.compose_lex.specs.declared.LexFault.TheVariants.{BadToken, ModifierList, UnclosedString, NoResult, TooManyKeysyms}

-- ---- the tokens before a fault

-- some valid reading begins with these tokens
abbrev pub AreFirst : List (List ℕ) → Type 0
AreFirst done = (reading : Reading) × (more : List (List ℕ)) × IsTrue (is_reading reading) × (tokens reading ≡ done ++ more)

-- some valid reading has exactly these tokens
abbrev pub AreAll : List (List ℕ) → Type 0
AreAll done = (reading : Reading) × IsTrue (is_reading reading) × (tokens reading ≡ done)

-- no byte of a name follows a name or the word `include`
abbrev pub is_whole : List ℕ → List ℕ → Bool
is_whole token rest = not (is_name token && begins is_name_byte rest)

-- the bytes are these tokens, each one whole, with blanks before, between and after them; then this
-- rest, which does not begin with a blank
abbrev pub BeginsWith : List (List ℕ) → List ℕ → List ℕ → Type 0
BeginsWith [] bytes rest = (blanks : List ℕ) × IsTrue (list_all is_blank blanks) × IsTrue (not (begins is_blank rest)) × (bytes ≡ blanks ++ rest)
BeginsWith (t ∷ ts) bytes rest = (blanks : List ℕ) × (more : List ℕ) × IsTrue (list_all is_blank blanks) × IsTrue (is_whole t more) × (bytes ≡ blanks ++ (t ++ more)) × BeginsWith ts more rest

-- the rest begins with a token that comes after these tokens in some valid reading
abbrev pub GoesOn : List (List ℕ) → List ℕ → Type 0
GoesOn done rest = (token : List ℕ) × (more : List ℕ) × AreFirst (done ++ token ∷ []) × IsTrue (is_whole token more) × (rest ≡ token ++ more)

-- after these tokens of a valid reading, at this offset, the line neither goes on with a token that
-- may follow nor ends
pub record StopsAt (line : List ℕ) (at : ℕ) (done : List (List ℕ)) (rest : List ℕ) : Type 0 where
  pub begun : BeginsWith done line rest
  pub right : AreFirst done
  pub offset : length line ≡ at + length rest
  pub no_token : GoesOn done rest → ⊥
  pub no_end : AreAll done → IsTrue (is_comment rest) → ⊥

-- ---- the kind of fault

-- after whole events, or none: here an event may begin, or the one too many
abbrev pub AreEvents : List (List ℕ) → Type 0
AreEvents done = (events : List (List ℕ)) × (done ≡ flat_map event_tokens events)

-- `!`, `~` or a letter (codes 33 and 126)
abbrev pub is_modifier_first : ℕ → Bool
is_modifier_first b = b == 33 || b == 126 || is_ascii_alphabetic b

-- a modifier list in place of an event
abbrev pub IsModifierList : List (List ℕ) → List ℕ → Type 0
IsModifierList done rest = AreEvents done × IsTrue (begins is_modifier_first rest)

-- a quote (code 34) where a string may begin; since the line stops there, no closing quote follows
-- it
abbrev pub IsUnclosedString : List (List ℕ) → List ℕ → Type 0
IsUnclosedString done rest = (raw : List ℕ) × AreFirst (done ++ quoted raw ∷ []) × IsTrue (begins (λ b. b == 34) rest)

-- events and a colon (code 58), and then only a comment
abbrev pub IsNoResult : List (List ℕ) → List ℕ → Type 0
IsNoResult done rest = (events : List (List ℕ)) × (done ≡ flat_map event_tokens events ++ (58 ∷ []) ∷ []) × IsTrue (is_comment rest)

-- 32 events, and then `<` (code 60)
abbrev pub IsTooManyKeysyms : List (List ℕ) → List ℕ → Type 0
IsTooManyKeysyms done rest = (events : List (List ℕ)) × (done ≡ flat_map event_tokens events) × (length events ≡ 32) × IsTrue (begins (λ b. b == 60) rest)

-- none of these
pub record IsBadToken (done : List (List ℕ)) (rest : List ℕ) : Type 0 where
  pub no_modifier_list : IsModifierList done rest → ⊥
  pub no_unclosed_string : IsUnclosedString done rest → ⊥
  pub no_missing_result : IsNoResult done rest → ⊥
  pub no_33rd_event : IsTooManyKeysyms done rest → ⊥

-- the kind of fault of a line that stops at this offset
abbrev pub IsFaultAt : ℕ → List (List ℕ) → List ℕ → LexFault → Type 0
IsFaultAt offset done rest (BadToken at) = (at ≡ offset) × IsBadToken done rest
IsFaultAt offset done rest (ModifierList at) = (at ≡ offset) × IsModifierList done rest
IsFaultAt offset done rest (UnclosedString at) = (at ≡ offset) × IsUnclosedString done rest
IsFaultAt offset done rest NoResult = IsNoResult done rest
IsFaultAt offset done rest TooManyKeysyms = IsTooManyKeysyms done rest
IsFaultAt offset done rest fault = ⊥

-- the line stops with this fault
pub record IsLineFault (line : List ℕ) (fault : LexFault) : Type 0 where
  pub at : ℕ
  pub done : List (List ℕ)
  pub rest : List ℕ
  pub stops : StopsAt line at done rest
  pub is : IsFaultAt at done rest fault
