-- What is still to be visited of open sources, as one is opened, read further and closed.
use Rattle.std.proofs.Common.{◌≡◌, ◌≤◌, ◌<◌, ◌+◌, ◌-◌, ℕ, List, [], ◌∷◌, ◌++◌, Bool, true, false, cond, length, refl, sym, ◌∙◌, ap, ap₂, append_assoc, arith}
use Rattle.std.specs.Prelude.{Option, Some, None, Result, Ok, Err, option_map, slice_get, flat_map}
use Rattle.std.specs.Option.{option_and_then}
use Rattle.std.specs.Str.{is_utf8}
use Rattle.std.proofs.lemmas.List.{append-nil}
use Rattle.compose_text.specs.Lines.{lines_of}
use Rattle.compose_lex.specs.Line.{Reading, blank, include, production}
use Rattle.compose_lex.specs.Fault.{reading_of}
use Rattle.compose_lex.specs.declared.LexFault.{LexFault}
use Rattle.compose_read.specs.Lines.{Source, Visit, included, included_by, numbered, source_lines, visits_below}
use Rattle.compose_read.specs.Visits.{include_text, raw_include, below, left_to_visit, left_in, left_from}
use Rattle.compose_read.proofs.ReadLines.{visits_are, next_line, plain_line, include_below}
use Rattle.compose_read.specs.declared.open_source.OpenSource.{OpenSource}

-- a line includes the source with the name in its raw text
pub included_is : (sources : List Source) (bytes : List ℕ) (name : Option (List ℕ)) → name ≡ raw_include bytes
    → option_and_then (λ n. included_by sources (Ok (include n))) name ≡ included sources bytes
included_is sources bytes name e = ap (option_and_then (λ n. included_by sources (Ok (include n)))) e ∙ go (is_utf8 bytes) (reading_of bytes)
  where
    go : (text : Bool) (r : Result Reading LexFault)
        → option_and_then (λ n. included_by sources (Ok (include n))) (let o : Option (List ℕ) = cond text (include_text r) None in o)
        ≡ (let o : Option ℕ = cond text (included_by sources r) None in o)
    go false r = refl
    go true (Err fault) = refl
    go true (Ok blank) = refl
    go true (Ok (include n)) = refl
    go true (Ok (production events raw n)) = refl

module _ (sources : List Source) where
  -- the lines of the last one come first
  left_from-append : (depth : ℕ) (os : List OpenSource) (o : OpenSource) → left_from sources depth (os ++ o ∷ []) ≡ left_in sources (depth + length os) o ++ left_from sources depth os
  left_from-append depth [] o =
      let none : depth ≡ depth + 0 = omega arith in
      ap (λ d. left_in sources d o) none ∙ sym (append-nil (left_in sources (depth + 0) o))
  left_from-append depth (p ∷ os) o =
      let one : 1 + depth + length os ≡ depth + length (p ∷ os) = omega arith in
      ap (λ vs. vs ++ left_in sources depth p) (left_from-append (1 + depth) os o)
      ∙ append_assoc (left_in sources (1 + depth + length os) o) (left_from sources (1 + depth) os) (left_in sources depth p)
      ∙ ap (λ d. left_in sources d o ++ (left_from sources (1 + depth) os ++ left_in sources depth p)) one

  left_from-last : (os before : List OpenSource) (o : OpenSource) → before ≡ os ++ o ∷ [] → left_from sources 0 before ≡ left_in sources (length os) o ++ left_from sources 0 os
  left_from-last os before o last =
      let none : 0 + length os ≡ length os = omega arith in
      ap (left_from sources 0) last ∙ left_from-append 0 os o ∙ ap (λ d. left_in sources d o ++ left_from sources 0 os) none

  module _ (os before : List OpenSource) (o : OpenSource) (popped : before ≡ os ++ o ∷ []) where
    opened_last : left_from sources 0 before ≡ left_in sources (length os) o ++ left_from sources 0 os
    opened_last = left_from-last os before o popped

    -- one whose lines are all visited
    pub closed : lines_of o.rest.now ≡ [] → left_from sources 0 before ≡ left_from sources 0 os
    closed none = opened_last ∙ ap (λ ls. flat_map (below sources (8 - length os)) (numbered o.source (length os) (1 + o.line) ls) ++ left_from sources 0 os) none

    -- one that has a further line
    pub read_further : (after : List OpenSource) (p : OpenSource) (bytes : List ℕ) → after ≡ os ++ p ∷ [] → lines_of o.rest.now ≡ bytes ∷ lines_of p.rest.now → p.source ≡ o.source
        → p.line ≡ o.line + 1
        → left_from sources 0 before ≡ below sources (8 - length os) (record { source = p.source; line = p.line; bytes = bytes; depth = length os }) ++ left_from sources 0 after
    read_further after p bytes pushed lines same next =
        let depth = length os in
        opened_last
        ∙ ap (λ vs. vs ++ left_from sources 0 os)
        (next_line sources (8 - depth) o.source depth o.line o.rest.now bytes p.rest.now lines
        ∙ ap₂ (λ s l. below sources (8 - depth) (record { source = s; line = l; bytes = bytes; depth = depth }) ++ left_to_visit sources (8 - depth) s depth l p.rest.now) (sym same) (sym next))
        ∙ append_assoc (below sources (8 - depth) (record { source = p.source; line = p.line; bytes = bytes; depth = depth })) (left_in sources depth p) (left_from sources 0 os)
        ∙ ap (λ vs. below sources (8 - depth) (record { source = p.source; line = p.line; bytes = bytes; depth = depth }) ++ vs) (sym (left_from-last os after p pushed))

  -- one with no line visited yet
  pub all_left : (source depth : ℕ) (bytes : List ℕ) → depth ≤ 8 → source < length sources → option_map (λ (s : Source). s.bytes) (slice_get sources source) ≡ Some bytes
      → flat_map (below sources (8 - depth)) (numbered source depth 1 (source_lines bytes)) ≡ visits_below sources (8 - depth) source
  all_left source depth bytes few within is =
      let deep : depth ≡ 8 - (8 - depth) = omega arith in
      ap (λ d. flat_map (below sources (8 - depth)) (numbered source d 1 (source_lines bytes))) deep ∙ sym (visits_are sources (8 - depth) source bytes within is)

  -- ---- the next line

  module _ (v : Visit) (old taken : List Visit) (took : old ≡ below sources (8 - v.depth) v ++ taken) where
    -- if no level is left, what is to be visited is the line and what was left before
    pub deepest_line : 8 ≤ v.depth → old ≡ v ∷ taken
    deepest_line deep = let none : 8 - v.depth ≡ 0 = omega arith in took ∙ ap (λ n. below sources n v ++ taken) none

    -- after a line that includes nothing, what is to be visited is what was left before
    pub other_line : included sources v.bytes ≡ None → old ≡ v ∷ taken
    other_line h = took ∙ ap (λ vs. vs ++ taken) (plain_line sources (8 - v.depth) v h)

    -- at an include, what is to be visited is the line, all of the source that it opens, and then
    -- what was left before
    pub include_line : (source : ℕ) (os after : List OpenSource) (o : OpenSource) → v.depth < 8 → included sources v.bytes ≡ Some source → taken ≡ left_from sources 0 os → length os ≡ v.depth + 1
        → after ≡ os ++ o ∷ []
        → ((depth : ℕ) → depth ≤ 8 → left_in sources depth o ≡ visits_below sources (8 - depth) source) → old ≡ v ∷ left_from sources 0 after
    include_line source os after o deep h rest long pushed opened =
        let less : 8 - v.depth - 1 ≡ 8 - length os = omega arith in
        took
        ∙ ap (λ vs. vs ++ taken) (include_below sources (8 - v.depth) v source (omega arith) h)
        ∙ ap (λ n. v ∷ (visits_below sources n source ++ taken)) less
        ∙ ap (λ vs. v ∷ (vs ++ taken)) (sym (opened (length os) (omega arith)))
        ∙ ap (λ vs. v ∷ (left_in sources (length os) o ++ vs)) rest
        ∙ ap (λ vs. v ∷ vs) (sym (left_from-last os after o pushed))
