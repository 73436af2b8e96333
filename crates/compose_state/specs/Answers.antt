-- The answer of a state to a key (xkb_compose_state_feed, xkb_compose_state_get_status,
-- xkb_compose_state_get_utf8).
use Rattle.std.specs.Prelude.{◌≡◌, ◌≢◌, ℕ, not, List, [], ◌∷◌, ◌++◌, if◌then◌else◌, codes, unwrap_or}
use Rattle.keysym_core.specs.Keysym.{is_ignored}
use Rattle.keysym_core.specs.Names.{KeysymNames}
use Rattle.compose_model.specs.Table.{Definition, text_at}
use Rattle.compose_model.specs.Step.{Effect, ignores, extends, completes, passes, cancels, effect, step}
use Rattle.compose_model.specs.Session.{Session, fed}
use Rattle.compose_model.specs.declared.Status.{Status}
use Rattle.compose_model.specs.declared.Status.TheVariants.{Nothing, Composing, Composed, Cancelled}
use Rattle.compose_state.specs.declared.fed.Fed.{Fed}
use Rattle.compose_state.specs.declared.fed.FedText.{FedText}
use Rattle.compose_state.specs.declared.fed.FedText.TheVariants.{Empty, Char, Slice}
use Rattle.compose_state.specs.Texts.{text_bytes}

-- the origin of the text: the table if a sequence completes, the key itself if it passes; else
-- there is no text
abbrev pub ComesFrom : Effect → FedText → Type 0
ComesFrom x (Slice text) = x ≡ completes
ComesFrom x (Char character) = x ≡ passes
ComesFrom x Empty = x ≢ completes

-- the answer to the keysym k: whether it was accepted, the status after it, and the text that it
-- commits
pub record IsFed (names : KeysymNames) (table : List Definition) (before : Session) (k : ℕ) (answer : Fed) : Type 0 where
  pub accepted : answer.accepted ≡ not (is_ignored k)
  pub status : answer.status ≡ (fed table before k).status
  pub text : text_bytes answer.text ≡ (step names table before.pending k).text
  pub source : ComesFrom (effect table before.pending k) answer.text

-- the text of the sequence that a key with this effect completes, if it does
abbrev pub sequence_text : Effect → List Definition → List ℕ → ℕ → List ℕ
sequence_text ignores table u k = []
sequence_text extends table u k = []
sequence_text completes table u k = unwrap_or (text_at table (u ++ k ∷ [])) []
sequence_text passes table u k = []
sequence_text cancels table u k = []

-- the answer to the keysym k without keysym names (xkb_compose_state_get_utf8): as IsFed, but a key
-- that passes has no text
pub record IsFedAlone (table : List Definition) (before : Session) (k : ℕ) (answer : Fed) : Type 0 where
  pub accepted : answer.accepted ≡ not (is_ignored k)
  pub status : answer.status ≡ (fed table before k).status
  pub text : text_bytes answer.text ≡ sequence_text (effect table before.pending k) table before.pending k

abbrev pub status_word : Status → List ℕ
status_word Nothing = codes "nothing"
status_word Composing = codes "composing"
status_word Composed = codes "composed"
status_word Cancelled = codes "cancelled"

-- the word for an answer: `ignored` if the key was not accepted, else the status
abbrev pub fed_word : Fed → List ℕ
fed_word answer = if answer.accepted then status_word answer.status else codes "ignored"
