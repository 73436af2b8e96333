-- Whole runs of a service that keeps its table, and cuts of them.
use Rattle.std.specs.Prelude.{◌≡◌, ◌⊎◌, ℕ, ◌&&◌, if◌then◌else◌, List, [], ◌∷◌, ◌++◌, IsTrue}
use Rattle.std.specs.List.{AllByRecursion}
use Rattle.keysym_core.specs.Names.{KeysymNames}
use Rattle.compose_model.specs.Table.{Definition}
use Rattle.compose_model.specs.Follows.{Follows}
use Rattle.compose_model.specs.Certificate.{Certificate}
use Rattle.compose_model.specs.declared.Rule.{Rule}
use Rattle.compose_wire.specs.Messages.{Body, close, load, Request, ReplyBody, closed, loaded, refused, no_memory, Reply}
use Rattle.compose_machine.specs.Machine.{ServiceState, parts, are_allowed, Accepts, Answers, Run, one_more, with_sessions}
use Rattle.compose_machine.specs.Laws.{Exchange, is_load, is_loaded, parts_of, fresh_in}
use Rattle.compose_machine.specs.Late.{seen}
use Rattle.compose_service.specs.Reading.{reading}
use Rattle.compose_keep.specs.Kept.{Kept}
use Rattle.compose_keep.specs.Keeping.{Keeping, HasTable, IsServed, IsNext, KeepsStep}

-- requests, one after another, with their replies
abbrev pub KeepsAll : Keeping → List Exchange → Keeping → Type 0
KeepsAll old [] new = new ≡ old
KeepsAll old (x ∷ h) new = (mid : Keeping) × KeepsStep old x.request x.reply mid × KeepsAll mid h new

-- the fresh keysyms of a load that is accepted, and of all of them
abbrev pub fresh_at : KeysymNames → Body → ReplyBody → List ℕ
fresh_at names body answer = if is_load body && is_loaded answer then fresh_in (parts_of reading names body) else []

abbrev pub fresh_of : KeysymNames → List Exchange → List ℕ
fresh_of names [] = []
fresh_of names (x ∷ h) = fresh_at names x.request.body x.reply.answer ++ fresh_of names h

-- at a cut a start finds k: what is kept, or a table that the service was about to take. It serves
-- a table that follows the one that was served, except for the fresh keysyms of that load, and the
-- one of the start
pub record Leaves (start mid : Keeping) (before : List ℕ) (k : Kept) : Type 0 where
  pub table : List Definition
  pub has : HasTable start.service.names k table
  pub fresh : List ℕ
  pub fresh_are : ((k ≡ mid.kept) × (fresh ≡ [])) ⊎ (fresh ≡ fresh_in (reading k.rule start.service.names k.payload))
  pub allowed : IsTrue (are_allowed mid.service.allowed fresh)
  pub follows : Follows start.service.names fresh mid.service.table table
  pub follows_start : Follows start.service.names (before ++ fresh) start.service.table table

-- after any requests, what is kept is what is served
abbrev pub StaysServed : Type 0
StaysServed = (start new : Keeping) (h : List Exchange) → IsServed start → KeepsAll start h new → IsServed new

-- a cut after any requests, before or while or after the next one is answered
abbrev pub CutsLeave : Type 0
CutsLeave = (start mid new : Keeping) (h : List Exchange) (q : Request) (r : Reply) → IsServed start → KeepsAll start h mid → (s : KeepsStep mid q r new)
    → AllByRecursion (Leaves start mid (fresh_of start.service.names h)) (mid.kept ∷ s.during)

-- ---- one service after another

-- a service: its start, the requests that it answered, its state when it is cut, the request that
-- it was about to answer, what the next start finds, and the fresh keysyms of the load that was cut
-- off, if that is what it finds
pub record Life : Type 0 where
  pub start : Keeping
  pub answered : List Exchange
  pub cut : Keeping
  pub body : Body
  pub found : Kept
  pub fresh : List ℕ

-- it started on what is kept
pub record IsLife (names : KeysymNames) (k : Kept) (l : Life) : Type 0 where
  pub names_are : l.start.service.names ≡ names
  pub starts_on : l.start.kept ≡ k
  pub served : IsServed l.start
  pub run : KeepsAll l.start l.answered l.cut
  pub finds : ((l.found ≡ l.cut.kept) × (l.fresh ≡ [])) ⊎ (IsNext l.cut.service l.body l.found × (l.fresh ≡ fresh_in (parts_of reading names l.body)))

-- each starts on what the one before it left
abbrev pub AreLives : KeysymNames → Kept → List Life → Kept → Type 0
AreLives names k [] last = last ≡ k
AreLives names k (l ∷ ls) last = IsLife names k l × AreLives names l.found ls last

-- the fresh keysyms of all loads that were taken
abbrev pub all_fresh : KeysymNames → List Life → List ℕ
all_fresh names [] = []
all_fresh names (l ∷ ls) = (fresh_of names l.answered ++ l.fresh) ++ all_fresh names ls

-- after any number of cuts, what is kept is a table that follows the one of the first start
abbrev pub LivesFollow : Type 0
LivesFollow = (names : KeysymNames) (k last : Kept) (ls : List Life) (table : List Definition) → HasTable names k table → AreLives names k ls last
    → (found : List Definition) × HasTable names last found × Follows names (all_fresh names ls) table found

-- ---- the next load

-- a load whose table follows the one that is served is refused for memory, or since it can't be
-- kept, and for nothing else
abbrev pub NextLoadGoesThrough : Type 0
NextLoadGoesThrough = (old new : ServiceState) (n : ℕ) (rule : Rule) (bytes : List ℕ) (table : List Definition) (certificate : Certificate) (answer : ReplyBody)
    → reading rule old.names bytes ≡ parts table certificate → Accepts old table certificate → Answers reading old n (load rule bytes) answer new
    → (answer ≡ loaded (one_more old.loads)) ⊎ (answer ≡ refused no_memory)
