-- The path to which the text of an include expands (Compose(5): `%H`, `%L`, `%S` and `%%`).
use Rattle.std.specs.Prelude.{ℕ, Bool, true, false, not, ◌==◌, if◌then◌else◌, List, [], ◌∷◌, ◌++◌, Option, Some, None, Result, Ok, Err}
use Rattle.std.specs.List.{list_any}
use Rattle.compose_text.specs.Bytes.{begins}
use Rattle.compose_text.specs.Results.{◌>>=◌}
use Rattle.compose_lex.specs.Escape.{text_of}
use Rattle.compose_lex.specs.declared.LexFault.{LexFault}
use Rattle.compose_find.specs.declared.fault.IncludeFault.{IncludeFault}
use Rattle.compose_find.specs.declared.fault.IncludeFault.TheVariants.{Text, UnknownPercent, NoLocale, NoHome}

-- the values of `%S`, `%L` and `%H`, and the folder below which an absolute path is looked for
-- first; only the system's folder has to be known
pub record Words : Type 0 where
  pub system : List ℕ
  pub locale : Option (List ℕ)
  pub home : Option (List ℕ)
  pub root : Option (List ℕ)

-- any byte but the percent sign (code 37)
abbrev pub is_plain : ℕ → Bool
is_plain b = not (b == 37)

abbrev pub known_or : IncludeFault → Option (List ℕ) → Result (List ℕ) IncludeFault
known_or fault None = Err fault
known_or fault (Some word) = Ok word

-- the value of a percent sign and this byte: `%%`, `%S`, `%L` and `%H`
abbrev pub meaning : Words → ℕ → Result (List ℕ) IncludeFault
meaning words b =
    if b == 37 then Ok (37 ∷ []) else
    if b == 83 then Ok words.system else
    if b == 76 then known_or NoLocale words.locale else
    if b == 72 then known_or NoHome words.home else Err UnknownPercent

-- the path to which a text expands; the flag is true if a percent sign comes before the text
abbrev pub path_from : Words → Bool → List ℕ → Result (List ℕ) IncludeFault
path_from words false [] = Ok []
path_from words true [] = Err UnknownPercent
path_from words false (b ∷ rest) = if b == 37 then path_from words true rest else (do
  more ← path_from words false rest
  Ok (b ∷ more))
path_from words true (b ∷ rest) = do
  prefix ← meaning words b
  more ← path_from words false rest
  Ok (prefix ++ more)

abbrev pub path_of : Words → List ℕ → Result (List ℕ) IncludeFault
path_of words text = path_from words false text

-- after a percent sign: the value of the sign with the first byte, and what follows that byte
abbrev pub meaning_at : Words → List ℕ → Result (List ℕ × List ℕ) IncludeFault
meaning_at words [] = Err UnknownPercent
meaning_at words (b ∷ rest) = do
  prefix ← meaning words b
  Ok (prefix, rest)

-- ---- the include's string

abbrev pub as_text : Result (List ℕ) LexFault → Result (List ℕ) IncludeFault
as_text (Ok text) = Ok text
as_text (Err fault) = Err (Text fault)

-- the path of the raw text of an include
abbrev pub include_path : Words → List ℕ → Result (List ℕ) IncludeFault
include_path words raw = do
  text ← as_text (text_of raw)
  path_of words text

-- ---- folders

-- the path up to its last slash (code 47), with the slash
abbrev pub folder_of : List ℕ → List ℕ
folder_of [] = []
folder_of (b ∷ rest) = if list_any (λ b. b == 47) (b ∷ rest) then b ∷ folder_of rest else []

-- a relative path as seen from the folder of the including file; an absolute one as it is
abbrev pub beside : List ℕ → List ℕ → List ℕ
beside from path = if begins (λ b. b == 47) path then path else folder_of from ++ path

-- a relative path as seen from a folder; an absolute one as it is
abbrev pub in_folder : List ℕ → List ℕ → List ℕ
in_folder folder path = if begins (λ b. b == 47) path then path else folder ++ 47 ∷ path

-- an absolute path below the root, if a root is given
abbrev pub below_root : Option (List ℕ) → List ℕ → Option (List ℕ)
below_root None path = None
below_root (Some root) path = if begins (λ b. b == 47) path then Some (root ++ path) else None
