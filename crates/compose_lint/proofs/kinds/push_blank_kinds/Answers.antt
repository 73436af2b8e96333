use Rattle.std.proofs.Common.{◌≡◌, ◌∙◌, ◌++◌, Bool, true, false, ◌&&◌, sym, refl, ap₂}
use Rattle.std.proofs.lemmas.List.{append-nil}
use Rattle.compose_lint.specs.Findings.{when}
use Rattle.compose_lint.specs.declared.finding.FindingKind.{FindingKind}
use Rattle.compose_lint.specs.declared.finding.FindingKind.TheVariants.{Reader}
use Rattle.compose_lint.specs.declared.reader.Reader.TheVariants.{LibX11, Libxkbcommon}
use Rattle.compose_lint.specs.declared.reader.Class.TheVariants.{CarriageReturn, SpacedName}
use Rattle.compose_lint.proofs.Unsigned.{never_returned, never_spaced}
use Rattle.compose_lint.proofs.kinds.push_blank_kinds.Goals as goal

none : (b : Bool) → (b && false) ≡ false
none true = refl
none false = refl

pub returns-then-not-has_sign_pair : goal.returns-then-not-has_sign_pair
returns-then-not-has_sign_pair c =
    let line = c.args.line.now in let unsigned = sym c.has_sign_pair.ensures ∙ c.if-not-has_sign_pair.true in let readers = c.args.readers in
    sym (ap₂ (λ a b. c.args.kinds.now.items ++ (when (readers.libx11 && a) (Reader LibX11 CarriageReturn) ++ when (readers.libxkbcommon && b) (Reader Libxkbcommon SpacedName))) (never_returned line c.args.written.now unsigned) (never_spaced line unsigned)
    ∙ ap₂ (λ a b. c.args.kinds.now.items ++ (when a (Reader LibX11 CarriageReturn) ++ when b (Reader Libxkbcommon SpacedName))) (none readers.libx11) (none readers.libxkbcommon)
    ∙ append-nil c.args.kinds.now.items)
