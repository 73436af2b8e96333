use Rattle.std.proofs.Common.{map, inr, refl}
use Rattle.compose_service_runs.specs.declared.merged.MergedUpdate.TheVariants as merges
use Rattle.compose_service_runs.proofs.Merges.{known_same, merged_of, refused_merged, unread_merged}
use Rattle.compose_service_runs.proofs.taking.decide_merged.Goals as goal

pub returns-then-is_known : goal.returns-then-is_known
returns-then-is_known g c = λ a current is kept other.
    known_same a (map (λ name. name.now) c.args.wanted.fresh.now) current c.args.files.now c.unnoted.result c.is_meant-is_meant.result (c.is_meant-is_meant.ensures a current other)
    c.if-not-is_meant.true c.unnoted.ensures (c.is_known.ensures current is c.if-is_known.true)

pub returns-in_ok-taking-in-Merged : goal.returns-in_ok-taking-in-Merged
returns-in_ok-taking-in-Merged g c = λ a current is kept other.
    let fresh = map (λ name. name.now) c.args.wanted.fresh.now in let merged = merges.Merged c.in-Merged.files c.in-Merged.report in
    inr (inr (
      merged,
      merged_of current c.args.payload.now c.args.files.now fresh c.in_ok-files.field-0 merged is c.in-Merged.is c.in_ok-files.ensures,
      (c.in_ok-taking-in-Merged.ensures a current is kept other, refl),
    ))

pub returns-then-is_unreadable : goal.returns-then-is_unreadable
returns-then-is_unreadable g c = λ a current is kept other.
    unread_merged a (map (λ name. name.now) c.args.wanted.fresh.now) current c.args.files.now c.unnoted-then-is_unreadable.result c.in_ok-unread_outcome.field-0 c.args.is_other c.deref.result.now
    c.args.payload.now is c.deref.ensures.value other c.if-is_other.true (c.is_unreadable.ensures c.if-is_unreadable.true) c.in_ok-unread_outcome.ensures c.unnoted-then-is_unreadable.ensures

pub returns-in-Refused : goal.returns-in-Refused
returns-in-Refused g c = λ a current is kept other.
    refused_merged a (map (λ name. name.now) c.args.wanted.fresh.now) current c.args.payload.now c.args.files.now c.unnoted-in-Refused.result c.in-Refused.outcome c.in_ok-files.field-0 is
    c.in-Refused.is c.in_ok-files.ensures c.unnoted-in-Refused.ensures
