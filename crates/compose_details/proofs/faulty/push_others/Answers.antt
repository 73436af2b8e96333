use Rattle.std.proofs.Common.{◌≡◌, ◌∙◌, ◌++◌, ◌∷◌, [], ◌<◌, false, length, take, sym, ap, rules, arith, string_bytes}
use Rattle.std.specs.Prelude.{flat_map}
use Rattle.std.proofs.lemmas.List.{length_push}
use Rattle.compose_details.specs.Faulty.{line_of_fault, is_among, each_once}
use Rattle.compose_details.proofs.Faults.{reported_more}
use Rattle.compose_details.proofs.faulty.push_others.Goals as goal

pub loop-fault-preserved : goal.loop-fault-preserved
loop-fault-preserved c =
    let reported = c.loop-fault.reported.items in
    let place = c.place_of-place.result in
    let no : c.is_among.result ≡ false = search rules in
    let fresh : is_among reported place ≡ false = ap (λ ps. is_among ps place) (sym c.deref.ensures.0) ∙ sym c.is_among.ensures ∙ no in
    let few : length reported < 20 = search rules in
    let longer = length_push reported place in
    let is = c.push-in-loop-fault.ensures.items in
    record {
      lines = reported_more (line_of_fault c.args.table.now) reported c.push-in-loop-fault.new.self.items c.args.others.now c.loop-fault.fault-index _ place
          (string_bytes c.loop-fault.text) (string_bytes c.push_fault.new.text)
          (string_bytes c.args.text.now ++ flat_map (line_of_fault c.args.table.now) (take 19 (each_once (c.args.first ∷ []) c.args.others.now)))
          (omega (arith, c.loop-fault-test.true)) c.place_of-place.ensures fresh few is c.in_ok-push_fault.ensures c.loop-fault.invariant.lines;
      few = let n = ap length is in omega (arith, n, longer, few);
    }
