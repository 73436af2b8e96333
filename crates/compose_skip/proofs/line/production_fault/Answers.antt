use Rattle.std.proofs.Common.{◌∙◌, sym, ap, map, length, List, ℕ, Bor}
use Rattle.std.proofs.lemmas.List.{length-map}
use Rattle.std.specs.Prelude.{option_copied}
use Rattle.std.specs.Result.{result_err}
use Rattle.compose_read.specs.Read.{result_text, sequence_of, string_text}
use Rattle.compose_skip.specs.Places.{visit}
use Rattle.compose_skip.proofs.Parts.{last_fault, no_fault}
use Rattle.compose_skip.proofs.line.production_fault.Goals as goal

pub returns : goal.returns
returns c = λ bytes.
    let names = c.args.names.now in let v = visit c.args.place bytes in let events = map (λ e. e.now) c.args.events.now in
    let raw = option_copied c.args.raw_text in let name = option_copied c.args.result_name in let fault = c.result_fault.result in
    no_fault (sequence_of names v 0 events) _ fault (c.in_default.ensures bytes) (λ sequence.
    no_fault (string_text v raw) _ fault (sym c.in_default-2.is ∙ c.in_ok-fault.ensures bytes) (λ string.
    last_fault (result_text names v (length events) name) _ fault
    (c.result_fault.ensures bytes ∙ ap (λ n. result_err (result_text names v n name)) (sym (length-map c.args.events.now (λ (e : Bor (List ℕ)). e.now))))))
