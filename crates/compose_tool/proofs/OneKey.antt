-- The line of an answer is the line of the step at its key.
use Rattle.std.proofs.Common.{◌≡◌, ℕ, ◌∷◌, [], ◌++◌, List, Bool, true, false, not, refl, sym, ◌∙◌, ap, ap₂, ◌<◌, ◌+◌, length, drop, get_or}
use Rattle.std.specs.List.{flat_map}
use Rattle.std.proofs.lemmas.List.{drop_more, append_assoc}
use Rattle.std.specs.Prelude.{codes, if◌then◌else◌}
use Rattle.keysym_core.specs.Keysym.{is_ignored}
use Rattle.keysym_core.specs.Names.{KeysymNames}
use Rattle.compose_model.specs.Table.{Definition}
use Rattle.compose_model.specs.Step.{Effect, ignores, extends, completes, passes, cancels, effect, status_by, step, steps_from}
use Rattle.compose_model.specs.Session.{Session, fed}
use Rattle.compose_model.specs.declared.Status.{Status}
use Rattle.compose_model.proofs.Steps.{effect_tests, ignored_key}
use Rattle.compose_lex.specs.Escape.{quote}
use Rattle.compose_state.specs.declared.fed.Fed.{Fed}
use Rattle.compose_state.specs.Answers.{IsFed, status_word, fed_word}
use Rattle.compose_tool.specs.Typed.{effect_word, typed_line, fed_line}

-- the word for the status that the effect led to, and `ignored` if the key was not accepted
word_is : (i : Bool) (x : Effect) (before : Status) → ((i ≡ true) → x ≡ ignores) → (x ≡ ignores → i ≡ true) → (if not i then status_word (status_by x before) else codes "ignored") ≡ effect_word x
word_is true x before a b = ap effect_word (sym (a refl))
word_is false ignores before a b = let clash : false ≡ true = b refl in cc
word_is false extends before a b = refl
word_is false completes before a b = refl
word_is false passes before a b = refl
word_is false cancels before a b = refl

-- the line that is made of an answer to a key is the line of the table's step at that key
pub line_is : (names : KeysymNames) (table : List Definition) (s : Session) (k : ℕ) (answer : Fed) → IsFed names table s k answer → fed_line answer ≡ typed_line (step names table s.pending k)
line_is names table s k answer reported =
    let word : fed_word answer ≡ effect_word (effect table s.pending k) =
    ap₂ (λ a st. if a then status_word st else codes "ignored") reported.accepted reported.status
    ∙ word_is (is_ignored k) (effect table s.pending k) s.status (ignored_key table s.pending k) (λ e. effect_tests table s.pending k ignores e) in
    ap₂ (λ w t. w ++ (32 ∷ (quote t ++ (10 ∷ [])))) word reported.text

-- one key more: its line follows the lines so far
pub lines_more : (names : KeysymNames) (table : List Definition) (s next : Session) (keys : List ℕ) (i k d : ℕ) (text line more total : List ℕ) → i < length keys → k ≡ get_or keys i d
    → next ≡ fed table s k → line ≡ typed_line (step names table s.pending k) → more ≡ text ++ line
    → text ++ flat_map typed_line (steps_from names table s.pending (drop i keys)) ≡ total → more ++ flat_map typed_line (steps_from names table next.pending (drop (i + 1) keys)) ≡ total
lines_more names table s next keys i k d text line more total less is fed_so expected grown all =
    let rest = flat_map typed_line (steps_from names table (fed table s k).pending (drop (i + 1) keys)) in
    let here : drop i keys ≡ k ∷ drop (i + 1) keys = drop_more keys i d less ∙ ap (λ x. x ∷ drop (i + 1) keys) (sym is) in
    ap₂ (λ m (x : Session). m ++ flat_map typed_line (steps_from names table x.pending (drop (i + 1) keys))) (grown ∙ ap (λ x. text ++ x) expected) fed_so
    ∙ append_assoc text (typed_line (step names table s.pending k)) rest
    ∙ ap (λ x. text ++ flat_map typed_line (steps_from names table s.pending x)) (sym here) ∙ all
