-- A step of the program and the model's step. Definitions for private functions.
use Rattle.std.specs.Prelude.{◌≡◌, ℕ, not, ◌&&◌, ◌==◌, if◌then◌else◌, List, Option, Some, None}
use Rattle.keysym_core.specs.Names.{KeysymNames}
use Rattle.compose_model.specs.Table.{Definition, same}
use Rattle.compose_model.specs.Step.{step, is_cancel}
use Rattle.compose_model.specs.Nodes.{number_of}
use Rattle.compose_walk.specs.declared.evidence.Kind.{Kind}
use Rattle.compose_walk.specs.declared.evidence.Kind.TheVariants.{Text, Cancelled, Waiting}
use Rattle.compose_walk.specs.declared.step.KeyText.{KeyText}
use Rattle.compose_walk.specs.declared.step.KeyText.TheVariants.{Own, Sequence}
use Rattle.compose_walk.specs.declared.step.KeyStep.{KeyStep}

abbrev pub text_bytes : KeyText → List ℕ
text_bytes (Own own) = own.bytes
text_bytes (Sequence text) = text.now

-- s is the step of the table at the key k when the node p is pending
pub record IsStep (names : KeysymNames) (table : List Definition) (p : List ℕ) (k : ℕ) (s : KeyStep) : Type 0 where
  pub cancels : s.cancels ≡ is_cancel (step names table p k).effect
  pub text : text_bytes s.text ≡ (step names table p k).text
  pub next : s.next.0 ≡ number_of table (step names table p k).pending

-- the first condition that fails, if one does
abbrev pub difference_of : KeyStep → KeyStep → Option Kind
difference_of old new =
    if new.cancels then Some Cancelled else
    if not (same (text_bytes new.text) (text_bytes old.text)) then Some Text else
    if old.next.0 == 0 && not (new.next.0 == 0) then Some Waiting else None
