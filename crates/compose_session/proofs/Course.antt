-- An exchange after one more reply.
use Rattle.std.proofs.Common.{◌≡◌, ◌≤◌, ◌<◌, ◌+◌, ℕ, List, [], ◌∷◌, length, drop, get_or, refl, sym, ◌∙◌, ap, ap₂}
use Rattle.std.specs.Prelude.{Option, Some, None}
use Rattle.std.proofs.lemmas.List.{drop_more, drop_all}
use Rattle.keysym_core.specs.Names.{KeysymNames}
use Rattle.compose_wire.specs.declared.request.Request.{Request}
use Rattle.compose_wire.specs.declared.reply.Reply.{Reply}
use Rattle.compose_session.specs.declared.reply_line.End.{End}
use Rattle.compose_session.specs.declared.reply_line.End.TheVariants.{Answered, Closed}
use Rattle.compose_session.specs.ReplyLine.{Reported, goes_on, ended, after, reply_line, course_of, reported_on}

-- nothing follows the end of an exchange
stopped : (names : KeysymNames) (requests : List Request) (replies : List Reply) (report : Reported) → reported_on names requests replies (ended report) ≡ report
stopped names [] replies report = refl
stopped names (q ∷ requests) [] report = refl
stopped names (q ∷ requests) (r ∷ replies) report = refl

module _ (names : KeysymNames) (requests : List Request) (replies : List Reply) (i : ℕ) (text : List ℕ) (all : Reported)
    (so_far : reported_on names (drop i requests) (drop i replies) (goes_on text) ≡ all) where
  -- no reply is left
  pub closed : (q : Request) → i < length requests → length replies ≤ i → record { text = text; end = Closed } ≡ all
  closed q less end = sym (ap₂ (λ qs rs. reported_on names qs rs (goes_on text)) (drop_more requests i q less) (drop_all i replies end)) ∙ so_far

  -- no request is left
  pub answered : length requests ≤ i → record { text = text; end = Answered } ≡ all
  answered end = sym (ap (λ qs. reported_on names qs (drop i replies) (goes_on text)) (drop_all i requests end)) ∙ so_far

  module _ (q : Request) (r : Reply) (less : i < length requests) (there : i < length replies) (more : List ℕ) (end : Option End)
      (is : course_of more end ≡ after text (reply_line names (get_or requests i q) (get_or replies i r))) where
    one_more : reported_on names (drop (i + 1) requests) (drop (i + 1) replies) (course_of more end) ≡ all
    one_more =
        ap (reported_on names (drop (i + 1) requests) (drop (i + 1) replies)) is
        ∙ (sym (ap₂ (λ qs rs. reported_on names qs rs (goes_on text)) (drop_more requests i q less) (drop_more replies i r there)) ∙ so_far)

    -- the next request and its reply, and it goes on
    pub goes_further : end ≡ None → reported_on names (drop (i + 1) requests) (drop (i + 1) replies) (goes_on more) ≡ all
    goes_further none = ap (λ e. reported_on names (drop (i + 1) requests) (drop (i + 1) replies) (course_of more e)) (sym none) ∙ one_more

    -- or they are the last ones
    pub ends_there : (last : End) → end ≡ Some last → record { text = more; end = last } ≡ all
    ends_there last some =
        sym (stopped names (drop (i + 1) requests) (drop (i + 1) replies) (record { text = more; end = last }))
        ∙ (ap (λ e. reported_on names (drop (i + 1) requests) (drop (i + 1) replies) (course_of more e)) (sym some) ∙ one_more)
