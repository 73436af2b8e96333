use Rattle.std.proofs.Common.{◌≡◌, ◌<◌, List, length, get_or, sym, ◌∙◌, ap, subst, arith}
use Rattle.compose_walk.specs.Stands.{IsPlace}
use Rattle.compose_walk.specs.declared.pass.Found.{Found}
use Rattle.compose_walk.proofs.Traces.{reported, reported_more}
use Rattle.compose_walk.proofs.pass.Pass.all_evidence.Goals as goal

pub loop-found-preserved : goal.loop-found-preserved
loop-found-preserved g c =
    let names = c.args.names.now in
    let old = g.T.ComposeTable.definitions c.args.old.now in
    let new = g.U.ComposeTable.definitions c.args.new.now in
    let all : List Found = c.args.self.now.found.items in
    let below : c.loop-found.found-index < length c.deref-found-items.result.now = omega arith in
    let within : c.loop-found.found-index < length all = (let e : length c.deref-found-items.result.now ≡ length all = ap length c.deref-found-items.ensures.value in omega arith) in
    let at : c.found-item.result ≡ get_or all c.loop-found.found-index c.found-item.result =
    c.found-item.is ∙ ap (λ (xs : List Found). get_or xs c.loop-found.found-index c.found-item.result) c.deref-found-items.ensures.value in
    let place = subst (λ (f : Found). IsPlace names old new f) (sym at) (c.requires.places c.loop-found.found-index c.found-item.result within) in
    reported_more names old new c.deref-found-items.result.now c.loop-found.found-index c.found-item.result
    c.loop-found.differences.items c.push.new.self.items c.evidence.result below c.found-item.is c.loop-found.invariant
    (reported names old new c.found-item.result place c.evidence.result c.evidence.ensures) c.in_ok-push.ensures.items
