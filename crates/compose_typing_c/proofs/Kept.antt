-- Numbers mean what was put into them.
use Rattle.std.proofs.Common.{◌≡◌, ℕ, ◌≤◌, ◌==◌, Bool, true, false, List, take, refl, ap, ap₂}
use Rattle.std.specs.Prelude.{IsUtf8}
use mir.Val.{bool_byte}
use Rattle.std.proofs.lemmas.Bool.{le-leb}
use Rattle.std.proofs.lemmas.Str.{is_utf8-from_IsUtf8}
use Rattle.keysym_core.specs.Keysym.{is_keysym}
use Rattle.compose_model.specs.declared.Status.{Status}
use Rattle.compose_model.specs.declared.Status.TheVariants.{Nothing, Composing, Composed, Cancelled}
use Rattle.compose_typing.specs.declared.stage.Waiting.{Waiting}
use Rattle.compose_typing.specs.declared.stage.KeyAnswer.{KeyAnswer}
use Rattle.compose_typing.specs.declared.stage.Stage.TheVariants.{Connecting, Opening, Feeding, Asking}
use Rattle.compose_typing_c.specs.declared.stage.AnswerRecord.{AnswerRecord}
use Rattle.compose_typing_c.specs.declared.stage.StageRecord.{StageRecord}
use Rattle.compose_typing_c.specs.Numbers.{status_of, status_number, front, text_of}
use Rattle.compose_typing_c.specs.Clients.{answer_of, waiting_of, stage_of}

status_kept : (s : Status) → status_of (status_number s) ≡ s
status_kept Nothing = refl
status_kept Composing = refl
status_kept Composed = refl
status_kept Cancelled = refl

flag_kept : (b : Bool) → (bool_byte b == 1) ≡ b
flag_kept true = refl
flag_kept false = refl

text_kept : (n : ℕ) (target text : List ℕ) → n ≤ 255 → IsUtf8 text → take n target ≡ text → text_of (front 255 n target) ≡ text
text_kept n target text few utf8 e = rw (le-leb n 255 few) (rw e (rw (is_utf8-from_IsUtf8 text utf8) refl))

pub answer_kept : (r : AnswerRecord) (a : KeyAnswer) → r.status ≡ status_number a.status → r.accepted ≡ bool_byte a.accepted → r.text_length ≤ 255 → IsUtf8 a.text → take r.text_length r.text ≡ a.text
    → answer_of r ≡ a
answer_kept r a status accepted few utf8 text =
    let s : status_of r.status ≡ a.status = rw status (status_kept a.status) in
    let f : (r.accepted == 1) ≡ a.accepted = rw accepted (flag_kept a.accepted) in
    let t : text_of (front 255 r.text_length r.text) ≡ a.text = text_kept r.text_length r.text a.text few utf8 text in
    λ i. record { status = s i; accepted = f i; text = t i }

-- a key that waits
module _ (s : StageRecord) (w : Waiting) (known : is_keysym s.key ≡ true) (waiting : waiting_of s ≡ w) where
  pub connecting_kept : s.number ≡ 2 → stage_of s ≡ Connecting w
  connecting_kept n = rw n (rw known (ap Connecting waiting))

  pub opening_kept : s.number ≡ 3 → stage_of s ≡ Opening w
  opening_kept n = rw n (rw known (ap Opening waiting))

  pub feeding_kept : (left : ℕ) → s.number ≡ 4 → s.left ≡ left → stage_of s ≡ Feeding w left
  feeding_kept left n l = rw n (rw known (ap₂ Feeding waiting l))

  pub asking_kept : (answer : KeyAnswer) → s.number ≡ 5 → answer_of s.answer ≡ answer → stage_of s ≡ Asking w answer
  asking_kept answer n a = rw n (rw known (ap₂ Asking waiting a))
