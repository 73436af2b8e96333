-- A table that a service is to load follows the one in use.
use Rattle.std.proofs.Common.{◌≡◌, ◌∙◌, refl, sym, ap, subst, ℕ, List, inl, inr}
use Rattle.std.specs.Prelude.{[], Option, Some, None, Result, Ok, Err, option_map, string_bytes, unwrap_or}
use Rattle.std.specs.declared.alloc.Global.{Global}
use Rattle.std.specs.declared.string.String.{String}
use Rattle.std.specs.declared.vec.Vec.{Vec}
use Rattle.compose_answer.specs.declared.answer.Answer.{Answer}
use Rattle.compose_answer.specs.declared.answer.Answer.TheVariants as answers
use Rattle.compose_answer.specs.Parts.{make_parts}
use Rattle.compose_bundle.specs.Bundle.{Bundle, IsBundle}
use Rattle.compose_diff_rows.specs.declared.asking.DiffFault.{DiffFault}
use Rattle.compose_diff_rows.specs.declared.asking.DiffFault.TheVariants as differing
use Rattle.compose_merging.specs.Merges.{AnswersMerge}
use Rattle.compose_merging.specs.declared.asking.Merging.{Merging}
use Rattle.compose_merging.specs.declared.asking.MergingFault.{MergingFault}
use Rattle.compose_read.specs.Lines.{Source}
use Rattle.compose_report.specs.declared.outcome.Outcome.{Outcome}
use Rattle.compose_runs.specs.Updating.{IsCurrent, IsDecisionDone, IsDoneIfIntended, IsIntendedAnswer, IsRefusedAs, IsUpdateRun, update_given}
use Rattle.compose_runs.specs.declared.updating.IntendedChanges.{IntendedChanges}
use Rattle.compose_runs.specs.declared.updating.UpdateFiles.{UpdateFiles}
use Rattle.compose_runs.specs.declared.updating.UpdateRun.{UpdateRun}
use Rattle.compose_runs.specs.declared.updating.UpdateRun.TheVariants.{Replaced, Meant, Refused}
use Rattle.compose_table_file.specs.TableFile.{TableFile}
use Rattle.compose_update.specs.Update.{GivenUpdate, IsMove, Replaces, Updates, move_from}
use Rattle.compose_update.specs.declared.deciding.Update.{Update}
use Rattle.compose_update.specs.declared.deciding.Update.TheVariants as updates
use Rattle.compose_update.specs.declared.deciding.UpdateFault.{UpdateFault}
use Rattle.compose_update.specs.declared.deciding.UpdateFault.TheVariants as faults
use Rattle.compose_service_runs.specs.Following.{FollowsInUse, MergeFollows}
use Rattle.compose_service_runs.specs.Merged.{IsMergeDone, merge_asked}
use Rattle.compose_service_runs.specs.Taking.{Asked, Becomes, BecomesMerged}
use Rattle.compose_service_runs.specs.declared.client.ClientRequests.{ClientRequests}
use Rattle.compose_service_runs.specs.declared.merged.MergedUpdate.TheVariants as merges
use Rattle.compose_service_runs.specs.declared.taking.Decision.{Decision}
use Rattle.compose_service_runs.specs.declared.taking.Taking.{Taking}
use Rattle.compose_service_runs.specs.declared.taking.Taking.TheVariants as takings

abbrev Kept : Type 0
Kept = Vec ℕ Global

-- what a run that replaces the table in use stores, and by what a service loads it
abbrev stored_in : UpdateRun → Kept → Kept
stored_in (Replaced stored certificate) other = stored
stored_in (Meant stored) other = other
stored_in (Refused outcome) other = other

abbrev certificate_in : UpdateRun → Option (String Global) → Option (String Global)
certificate_in (Replaced stored certificate) other = certificate
certificate_in (Meant stored) other = other
certificate_in (Refused outcome) other = other

-- a run that is refused replaces nothing
never : (Prints : Outcome → Type 0) (run : UpdateRun) (stored : Kept) (certificate : Option (String Global)) → IsRefusedAs Prints run → run ≡ Replaced stored certificate → ⊥
never Prints run stored certificate refused e = subst (IsRefusedAs Prints) e refused

-- nor does one whose changes are intended
never_meant : (files : UpdateFiles) (fresh : List (List ℕ)) (decided : Result Update UpdateFault) (run : UpdateRun) (stored : Kept) (certificate : Option (String Global))
    → IsDoneIfIntended files fresh decided run → run ≡ Replaced stored certificate → ⊥
never_meant files fresh (Ok (updates.Replaced s c)) run stored certificate done e = let clash : Meant s ≡ Replaced stored certificate = sym done ∙ e in cc
never_meant files fresh (Ok (updates.Refused text)) run stored certificate done e = never _ run stored certificate done e
never_meant files fresh (Err (faults.Input refusal)) run stored certificate done e = never _ run stored certificate done e
never_meant files fresh (Err faults.TooLarge) run stored certificate done e = never _ run stored certificate done e

never_intended : (files : UpdateFiles) (fresh : List (List ℕ)) (meant : IntendedChanges) (answered : Result Answer DiffFault) (run : UpdateRun) (stored : Kept) (certificate : Option (String Global))
    → IsIntendedAnswer files fresh meant answered run → run ≡ Replaced stored certificate → ⊥
never_intended files fresh meant (Ok (answers.Yes text)) run stored certificate done e = never_meant files fresh done.decided run stored certificate done.done e
never_intended files fresh meant (Ok (answers.No text)) run stored certificate done e = never _ run stored certificate done e
never_intended files fresh meant (Ok (answers.Invalid fault)) run stored certificate done e = never _ run stored certificate done e
never_intended files fresh meant (Ok (answers.FreshNotAllowed keysym)) run stored certificate done e = never _ run stored certificate done e
never_intended files fresh meant (Err (differing.Input refusal)) run stored certificate done e = never _ run stored certificate done e
never_intended files fresh meant (Err (differing.Accept fault)) run stored certificate done e = never _ run stored certificate done e

-- a run that replaces the table in use is by a decision that does
replaced : (given : GivenUpdate) (files : UpdateFiles) (fresh : List (List ℕ)) (meant : Option IntendedChanges) (current : Option (List Source)) (decided : Result Update UpdateFault) (run : UpdateRun)
    (stored : Kept) (certificate : Option (String Global)) → Updates given decided → IsDecisionDone files fresh meant current decided run → run ≡ Replaced stored certificate
    → Replaces given stored.items (option_map string_bytes certificate)
replaced given files fresh meant current (Ok (updates.Replaced s c)) run stored certificate is done e =
    let same : Replaced s c ≡ Replaced stored certificate = sym done ∙ e in
    subst (λ x. Replaces given stored.items (option_map string_bytes x)) (ap (λ r. certificate_in r c) same)
    (subst (λ (x : Kept). Replaces given x.items (option_map string_bytes c)) (ap (λ r. stored_in r s) same) is)
replaced given files fresh None current (Ok (updates.Refused text)) run stored certificate is done e = absurd (never _ run stored certificate done e)
replaced given files fresh (Some meant) None (Ok (updates.Refused text)) run stored certificate is done e = absurd (never _ run stored certificate done e)
replaced given files fresh (Some meant) (Some current) (Ok (updates.Refused text)) run stored certificate is done e =
    absurd (never_intended files fresh meant done.answered run stored certificate done.done e)
replaced given files fresh meant current (Err (faults.Input refusal)) run stored certificate is done e = absurd (never _ run stored certificate done e)
replaced given files fresh meant current (Err faults.TooLarge) run stored certificate is done e = absurd (never _ run stored certificate done e)

-- by the move for which it is
by_move : (files : UpdateFiles) (fresh : List (List ℕ)) (payload : List ℕ) (current : Option (List Source)) (certificate : Option (List ℕ)) → IsCurrent (Some payload) current
    → IsMove (update_given files fresh current) certificate → FollowsInUse files fresh payload
by_move files fresh payload current None (bundle, is, e) move = let clash : None ≡ Some bundle.sources = sym move ∙ e in absurd (cc)
by_move files fresh payload current (Some text) (bundle, is, e) (old, has, made) =
    let same : old ≡ bundle.sources = ap (λ (o : Option (List Source)). unwrap_or o []) (sym has ∙ e) in
    record {
      in_use = bundle;
      is = is;
      needs = made.0;
      read = subst (λ (s : List Source). make_parts (move_from (update_given files fresh (Some s)) s) files.repertoire.items ≡ Ok made.0) same made.1;
      follows = made.2.made.follows;
    }

pub followed : (files : UpdateFiles) (fresh : List (List ℕ)) (payload : List ℕ) (stored : Kept) (certificate : Option (String Global)) → IsUpdateRun files fresh (Some payload) (Replaced stored certificate)
    → FollowsInUse files fresh payload
followed files fresh payload stored certificate ran =
    by_move files fresh payload ran.current (option_map string_bytes certificate) ran.is_current
    (replaced (update_given files fresh ran.current) files fresh files.meant ran.current ran.is.decided (Replaced stored certificate) stored certificate ran.is.is ran.is.done refl).0

-- ---- beside a table in use

pub loaded : (a : Asked) (fresh : List (List ℕ)) (current : TableFile) (files : UpdateFiles) (taking : Taking) (file : Kept) (load : Option ClientRequests)
    → Becomes a fresh (Some current) files taking → taking ≡ takings.Follows file load → FollowsInUse files fresh current.payload
loaded a fresh current files taking file load becomes e =
    let b : Becomes a fresh (Some current) files (takings.Follows file load) = subst (Becomes a fresh (Some current) files) e becomes in followed files fresh current.payload b.0 b.1 b.2

by_merge : (current : TableFile) (files merged : UpdateFiles) (fresh : List (List ℕ)) (report : String Global) (old : Bundle) (merging : Result Merging MergingFault) → IsBundle current.payload old
    → AnswersMerge (merge_asked files fresh old.sources) merging → IsMergeDone old.sources files fresh merging (merges.Merged merged report) → FollowsInUse merged fresh current.payload
    → MergeFollows files fresh current.payload
by_merge current files merged fresh report old (Ok merging) is answers done follows = record {
  old = old;
  in_use = is;
  merging = merging;
  merges = answers;
  merged = merged;
  has = done.0;
  follows = follows;
}
by_merge current files merged fresh report old (Err fault) is answers done follows = absurd done

pub loaded_merged : (a : Asked) (fresh : List (List ℕ)) (current : TableFile) (files : UpdateFiles) (decision : Decision) (file : Kept) (load : Option ClientRequests)
    → BecomesMerged a fresh current files decision → decision.taking ≡ takings.Follows file load → MergeFollows files fresh current.payload
loaded_merged a fresh current files decision file load (inl same) e = let clash : takings.Same ≡ takings.Follows file load = sym same.0.taken ∙ e in absurd (cc)
loaded_merged a fresh current files decision file load (inr (inl unread)) e = let clash : takings.Refused unread.0 ≡ takings.Follows file load = sym unread.1.taken ∙ e in absurd (cc)
loaded_merged a fresh current files decision file load (inr (inr (merges.Merged merged report, into, becomes))) e =
    by_merge current files merged fresh report into.bundle into.merging into.in_use into.is into.done (loaded a fresh current merged decision.taking file load becomes.0 e)
loaded_merged a fresh current files decision file load (inr (inr (merges.Refused outcome, into, unsaid))) e =
    let clash : takings.Refused outcome ≡ takings.Follows file load = sym unsaid.taken ∙ e in absurd (cc)
