-- A service that keeps its table, as a machine.
use Rattle.std.specs.Prelude.{◌≡◌, ◌⊎◌, ℕ, List, [], ◌++◌, Result, Ok, Err, Some}
use Rattle.std.specs.List.{AllByRecursion}
use Rattle.keysym_core.specs.Names.{KeysymNames}
use Rattle.compose_model.specs.Table.{Definition}
use Rattle.compose_model.specs.Certificate.{Certificate, Repertoire}
use Rattle.compose_model.specs.declared.Rule.{Rule}
use Rattle.compose_wire.specs.Messages.{Body, load, Request, ReplyBody, loaded, Reply}
use Rattle.compose_machine.specs.Machine.{ServiceState, parts, Step}
use Rattle.compose_machine.specs.Late.{seen}
use Rattle.compose_service.specs.Reading.{reading}
use Rattle.compose_service.specs.Start.{at_start}
use Rattle.compose_service.specs.Answered.{IsJudged}
use Rattle.compose_keep.specs.Kept.{Kept}

-- the service, what is kept, and what a start might have found at each moment so far
pub record Keeping : Type 0 where
  pub service : ServiceState
  pub kept : Kept
  pub moments : List Kept

-- a start on what is kept serves this table
abbrev pub HasTable : KeysymNames → Kept → List Definition → Type 0
HasTable names k table = (certificate : Certificate) × (reading k.rule names k.payload ≡ parts table certificate)

-- what is kept and what is served are the same table
abbrev pub IsServed : Keeping → Type 0
IsServed s = HasTable s.service.names s.kept s.service.table

-- the load of this body, as it is kept, if it was judged and found to follow the table that is
-- served
abbrev pub IsNext : ServiceState → Body → Kept → Type 0
IsNext s (load rule bytes) k = (table : List Definition) × (certificate : Certificate) × IsJudged s rule bytes table certificate × (k ≡ record { rule = rule; payload = bytes })
IsNext s _ k = ⊥

-- what a start may find while this request is answered
abbrev pub MayBeFound : Keeping → Body → Kept → Type 0
MayBeFound s body k = (k ≡ s.kept) ⊎ IsNext s.service body k

-- what is kept after the answer: the load, if it was accepted, and otherwise what was kept before
abbrev pub kept_after : Kept → Body → ReplyBody → Kept
kept_after old (load rule bytes) (loaded count) = record { rule = rule; payload = bytes }
kept_after old _ _ = old

-- one request: a step of the machine, what may be found during it, and what is kept after it
pub record KeepsStep (old : Keeping) (q : Request) (r : Reply) (new : Keeping) : Type 0 where
  pub step : Step reading (seen old.service) q r (seen new.service)
  pub during : List Kept
  pub longer : new.moments ≡ old.moments ++ during
  pub found : AllByRecursion (MayBeFound old q.body) during
  pub kept : new.kept ≡ kept_after old.kept q.body r.answer

-- ---- a start

-- the service without sessions over the table that is kept
pub record Resumed (names : KeysymNames) (repertoire : Repertoire) (kept : Kept) (moments : List Kept) (new : Keeping) : Type 0 where
  pub table : List Definition
  pub has : HasTable names kept table
  pub service : new.service ≡ at_start table names repertoire
  pub kept_is : new.kept ≡ kept
  pub moments_are : new.moments ≡ moments

-- a load may list only these keysyms as fresh
abbrev pub allowing : Keeping → List ℕ → Keeping
allowing s keysyms = record {
  service = record {
    table = s.service.table;
    names = s.service.names;
    repertoire = s.service.repertoire;
    allowed = Some keysyms;
    loads = s.service.loads;
    sessions =
        s.service.sessions;
  };
  kept = s.kept;
  moments = s.moments;
}
