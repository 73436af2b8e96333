use Rattle.std.proofs.Common.{◌≡◌, ◌∙◌, take, ap, arith, sym}
use Rattle.std.specs.List.{suffix_len}
use Rattle.std.proofs.lemmas.List.Sums.{suffix_len-take_yes, suffix_len-take_no}
use Rattle.compose_text.specs.Bytes.{is_blank}
use Rattle.compose_lint.proofs.listed.without_last_blanks.Goals as goal
use Rattle.compose_lint.proofs.listed.without_last_blanks.Goals.{then-loop-end-test+else-is_blank, else-loop-end-test}

pub loop-end-preserved : goal.loop-end-preserved
loop-end-preserved c =
    let end = c.loop-end.end in let line = c.args.line.now in let within = c.loop-end.invariant.within in let some = c.loop-end-test.true in let blank = c.loop-end.invariant.blank in
    let more = suffix_len-take_yes is_blank line end 0 some within (sym c.is_blank.ensures ∙ c.if-is_blank.true) in
    record { within = omega (arith, within); blank = omega (arith, within, some, blank, more) }

pub returns : goal.returns
returns c =
    let end = c.loop-end.end in let line = c.args.line.now in let within = c.loop-end.invariant.within in let blank = c.loop-end.invariant.blank in
    let none : suffix_len is_blank (take end line) ≡ 0 = elim c.loop-end-test.branch [
      | then-loop-end-test+else-is_blank w ↦ suffix_len-take_no is_blank line end 0 w.loop-end-test.true within (sym w.is_blank.ensures ∙ w.if-is_blank.false)
      | else-loop-end-test w ↦ let zero : end ≡ 0 = omega (arith, w.loop-end-test.false) in ap (λ n. suffix_len is_blank (take n line)) zero
    ] in
    ap (λ n. take n line) (omega (arith, within, blank, none))
