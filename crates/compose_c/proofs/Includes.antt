-- A line that is anything else is not an include.
use Rattle.std.proofs.Common.{◌≡◌, ℕ, List, Option, Err}
use Rattle.compose_lex.specs.Line.{IsLine, blank, include, production}
use Rattle.compose_lex.specs.Fault.{reading_of}
use Rattle.compose_lex.specs.declared.LexFault.{LexFault}
use Rattle.compose_lex.proofs.LineRead.{one_reading, no_fault}

pub none_blank : (line : List ℕ) → IsLine line blank → (name : List ℕ) → IsLine line (include name) → ⊥
none_blank line h name g = let e : include name ≡ blank = one_reading line (include name) blank g h in cc

pub none_production : (line : List ℕ) (events : List (List ℕ)) (raw result : Option (List ℕ)) → IsLine line (production events raw result) → (name : List ℕ) → IsLine line (include name) → ⊥
none_production line events raw result h name g = let e : include name ≡ production events raw result = one_reading line (include name) (production events raw result) g h in cc

pub none_fault : (line : List ℕ) (fault : LexFault) → reading_of line ≡ Err fault → (name : List ℕ) → IsLine line (include name) → ⊥
none_fault line fault h name g = no_fault line (include name) fault g h
