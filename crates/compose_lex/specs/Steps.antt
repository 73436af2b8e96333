-- What the steps of the lexer return: values of the code beside the parts of the definition.
use Rattle.std.specs.Prelude.{◌≡◌, ◌==◌, ◌||◌, nat_lt, if◌then◌else◌, ℕ, Bool, not, List, [], ◌∷◌, ◌++◌, length, take, drop, Option, Some, None, Result, Ok, Err}
use Rattle.compose_lex.specs.Fault.{colon_or}
use Rattle.compose_lex.specs.Escape.{escape, escape_len, piece, first_len}
use Rattle.compose_lex.specs.declared.LexFault.{LexFault}
use Rattle.compose_lex.specs.declared.LexFault.TheVariants.{EmptyText, TextTooLong}
use Rattle.compose_lex.specs.declared.lexer.Next.{Next}
use Rattle.compose_lex.specs.declared.lexer.Next.TheVariants.{Colon, Event}

-- a byte of a string that is neither a quote nor a backslash (codes 34 and 92)
abbrev pub is_plain : ℕ → Bool
is_plain b = not (b == 34 || b == 92)

-- the result with these events put before its own
abbrev pub with_prefix : List (List ℕ) → Result (List (List ℕ) × List ℕ) LexFault → Result (List (List ℕ) × List ℕ) LexFault
with_prefix prefix (Ok x) = Ok (prefix ++ x.0, x.1)
with_prefix prefix (Err e) = Err e

-- how reading goes on after an event: it ends at the colon, or the next event is read
abbrev pub follow : Next → (List ℕ → Result (List (List ℕ) × List ℕ) LexFault) → Result (List (List ℕ) × List ℕ) LexFault
follow (Colon rest) event = Ok ([], rest.now)
follow (Event rest) event = event rest.now

-- what comes next is what the definition finds next, however events are read
abbrev pub IsNext : Result Next LexFault → ℕ → List ℕ → Type 0
IsNext (Ok next) n rest = (event : List ℕ → Result (List (List ℕ) × List ℕ) LexFault) → colon_or n rest event ≡ follow next event
IsNext (Err e) n rest = (event : List ℕ → Result (List (List ℕ) × List ℕ) LexFault) → colon_or n rest event ≡ Err e

-- the result with these bytes put before its own
abbrev pub with_bytes : List ℕ → Result (List ℕ) LexFault → Result (List ℕ) LexFault
with_bytes done (Ok bytes) = Ok (done ++ bytes)
with_bytes done (Err e) = Err e

-- the first 255 of these bytes, and their number
abbrev pub IsDecoded : List ℕ → ℕ → List ℕ → Type 0
IsDecoded kept len bytes = (kept ≡ take 255 bytes) × (len ≡ length bytes)

-- the byte that an escape stands for, after its backslash
abbrev pub escape_byte : List ℕ → Option ℕ
escape_byte rest = escape (take (escape_len rest) rest) (drop (escape_len rest) rest)

-- the byte that the piece with this first byte stands for
abbrev pub piece_byte : ℕ → List ℕ → Option ℕ
piece_byte b rest = let len = first_len (b ∷ rest) in piece (b ∷ take len rest) (drop len rest)

-- the result is the byte and the number of bytes that it takes, or the fault if there is no byte
abbrev pub IsByte : Option ℕ → ℕ → LexFault → Result (ℕ × ℕ) LexFault → Type 0
IsByte byte len fault (Ok x) = (byte ≡ Some x.0) × (x.1 ≡ len)
IsByte byte len fault (Err e) = (byte ≡ None) × (e ≡ fault)

-- a text has 1 to 255 bytes
abbrev pub len_check : ℕ → Result (Unit {0}) LexFault
len_check len = if len == 0 then Err EmptyText else if nat_lt 255 len then Err TextTooLong else Ok tt
