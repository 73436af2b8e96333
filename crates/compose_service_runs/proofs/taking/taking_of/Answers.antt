use Rattle.std.proofs.Common.{sym, subst, inl, inr}
use Rattle.compose_service_runs.specs.Taking.{IsFile}
use Rattle.compose_service_runs.proofs.taking.taking_of.Goals as goal

pub returns-then-is_meant : goal.returns-then-is_meant
returns-then-is_meant c = (
  c.in-Replaced.stored,
  inr (c.in-Replaced.certificate, sym c.in-Replaced.is, c.if-is_meant.true),
  subst (λ payload. IsFile c.args.files.now c.args.fresh.now payload c.in_ok-file-in-Replaced.file.items) c.deref-in-Replaced.ensures.value c.in_ok-file-in-Replaced.ensures,
)

pub returns-in_ok-file-in-Meant : goal.returns-in_ok-file-in-Meant
returns-in_ok-file-in-Meant c = (
  c.in-Meant.stored,
  inl (sym c.in-Meant.is),
  subst (λ payload. IsFile c.args.files.now c.args.fresh.now payload c.in_ok-file-in-Meant.file.items) c.deref.ensures.value c.in_ok-file-in-Meant.ensures,
)

pub returns-in_ok-load-in-Replaced : goal.returns-in_ok-load-in-Replaced
returns-in_ok-load-in-Replaced c = (
  c.in-Replaced.stored,
  c.in-Replaced.certificate,
  sym c.in-Replaced.is,
  c.if-is_meant.false,
  subst (λ payload. IsFile c.args.files.now c.args.fresh.now payload c.in_ok-file-in-Replaced.file.items) c.deref-in-Replaced.ensures.value c.in_ok-file-in-Replaced.ensures,
  c.in_ok-load-in-Replaced.ensures,
)
