-- What the values of the lexer mean, and what its functions return.
use Rattle.std.specs.Prelude.{◌≡◌, ℕ, List, [], ◌++◌, map, Result, Ok, Err, option_copied}
use Rattle.compose_lex.specs.Line.{Reading, blank, include, production}
use Rattle.compose_lex.specs.declared.LexFault.{LexFault}
use Rattle.compose_lex.specs.declared.LexFault.TheVariants.{NoMemory}
use Rattle.compose_lex.specs.declared.Line.{Line}
use Rattle.compose_lex.specs.declared.Line.TheVariants.{Blank, Include, Production}
use Rattle.compose_lex.specs.declared.lexer.LineContent.{LineContent}
use Rattle.compose_lex.specs.declared.lexer.LineContent.TheVariants as content

-- the meaning of a line
abbrev pub reading : Line → Reading
reading Blank = blank
reading (Include raw) = include raw.now
reading (Production events raw name) = production (map (λ e. e.now) events.items) (option_copied raw) (option_copied name)

-- the meaning of a line with these names of events
abbrev pub content_reading : List (List ℕ) → LineContent → Reading
content_reading events content.Blank = blank
content_reading events (content.Include raw) = include raw.now
content_reading events (content.Production raw name) = production events (option_copied raw) (option_copied name)

-- the names of the events
abbrev pub event_names : Reading → List (List ℕ)
event_names blank = []
event_names (include raw) = []
event_names (production events raw name) = events

-- the same; a faulty line has none
abbrev pub names_in : Result Reading LexFault → List (List ℕ)
names_in (Ok content) = event_names content
names_in (Err e) = []

-- the function returns the value of the definition
abbrev pub Is : {X Y : Type 0} → (X → Y) → Result X LexFault → Result Y LexFault → Type 0
Is view (Ok x) content = content ≡ Ok (view x)
Is view (Err e) content = content ≡ Err e

-- the function returns the value of the definition, unless memory ran out
abbrev pub Returns : {X Y : Type 0} → (X → Y) → Result X LexFault → Result Y LexFault → Type 0
Returns view (Ok x) content = content ≡ Ok (view x)
Returns view (Err NoMemory) content = Unit {0}
Returns view (Err e) content = content ≡ Err e

-- the function appends the value of the definition to the old text; an error, which is that of the
-- definition or that memory ran out, leaves the text as it was
abbrev pub PushReturns : List ℕ → List ℕ → Result (Unit {0}) LexFault → Result (List ℕ) LexFault → Type 0
PushReturns old new (Ok u) content = (bytes : List ℕ) × (content ≡ Ok bytes) × (new ≡ old ++ bytes)
PushReturns old new (Err NoMemory) content = new ≡ old
PushReturns old new (Err e) content = (content ≡ Err e) × (new ≡ old)
