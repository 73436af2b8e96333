-- The effect of a key on a session without keysym names.
use Rattle.std.proofs.Common.{◌≡◌, ℕ, List, [], Bool, true, false, not, sym, refl, ◌∙◌, ap, Some, None}
use Rattle.keysym_core.specs.Keysym.{is_ignored}
use Rattle.keysym_core.specs.Names.{KeysymNames}
use Rattle.compose_model.specs.Table.{Definition}
use Rattle.compose_model.specs.Step.{is_empty, text_by}
use Rattle.compose_model.specs.Session.{Session}
use Rattle.compose_tree.specs.declared.table.Target.{Target}
use Rattle.compose_tree.specs.declared.table.Target.TheVariants.{Node, Leaf}
use Rattle.compose_tree.specs.Targets.{target_of}
use Rattle.compose_tree.proofs.Steps.{effect_at}
use Rattle.compose_state.specs.declared.fed.Fed.{Fed}
use Rattle.compose_state.specs.Texts.{text_bytes}
use Rattle.compose_state.specs.Answers.{IsFed, IsFedAlone, sequence_text}
use Rattle.compose_state.proofs.Feeding.{effect_is_by, session_apart, fed_apart}

no_names : KeysymNames
no_names = record { names = []; characters = [] }

module _ (table : List Definition) (s : Session) (k : ℕ) (accepted : is_ignored k ≡ false) where
  -- the answer to a key that leads nowhere
  pub alone_apart : target_of table s.pending k ≡ None → (answer : Fed) → answer.accepted ≡ true → answer.status ≡ (session_apart s).status → text_bytes answer.text ≡ [] → IsFedAlone table s k answer
  alone_apart nowhere answer e f g = record {
    accepted = e ∙ ap not (sym accepted);
    status = f ∙ ap (λ z. z.status) (fed_apart table s k accepted nowhere);
    text = g ∙ none (is_empty s.pending) ∙ ap (λ x. sequence_text x table s.pending k) (sym (effect_is_by table s.pending k None accepted nowhere));
  }
    where
      none : (b : Bool) → [] ≡ sequence_text (effect_at b None) table s.pending k
      none true = refl
      none false = refl

  -- the answer to a key that leads somewhere is the same with any names
  pub alone_to : (t : Target) → target_of table s.pending k ≡ Some t → (answer : Fed) → ((names : KeysymNames) → IsFed names table s k answer) → IsFedAlone table s k answer
  alone_to t leads answer h = record {
    accepted = (h no_names).accepted;
    status = (h no_names).status;
    text = (h no_names).text ∙ ap (λ x. text_by x no_names table s.pending k) (effect_is_by table s.pending k (Some t) accepted leads) ∙ same t
        ∙ ap (λ x. sequence_text x table s.pending k) (sym (effect_is_by table s.pending k (Some t) accepted leads));
  }
    where
      same : (t : Target) → text_by (effect_at (is_empty s.pending) (Some t)) no_names table s.pending k ≡ sequence_text (effect_at (is_empty s.pending) (Some t)) table s.pending k
      same (Node n) = refl
      same (Leaf l) = refl
