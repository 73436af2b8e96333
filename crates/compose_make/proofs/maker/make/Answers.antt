use Rattle.std.proofs.Common.{subst, arith}
use Rattle.compose_fresh.proofs.FreshKeysyms.{are_fresh}
use Rattle.compose_walk.specs.Walks.{IsWalk}
use Rattle.compose_make.proofs.Certified.{accepted, pairs_few}
use Rattle.compose_make.proofs.maker.make.Goals as goal

pub certify-requires : goal.certify-requires
certify-requires g c =
    let old = g.T.ComposeTable.definitions c.args.old.now in
    let new = g.U.ComposeTable.definitions c.args.new.now in
    let ok = accepted old c.args.fresh.now c.walk.result c.in_ok-counterexample.field-0 c.in_ok-counterexample.was c.walk.ensures.bad_fresh c.walk.ensures.too_many in
    record {
      few_fresh = ok.1;
      few_pairs =
          pairs_few c.args.names.now c.args.fresh.now old new c.in-Follows.pairs
          (subst (IsWalk c.args.names.now c.args.fresh.now old new) c.in-Follows.is (c.in_ok-counterexample.ensures.answer ok.0 ok.1))
          (let n = c.node_count.ensures.count in let f = c.node_count.ensures.few in omega arith);
    }

pub returns-in-Follows-clause-answer : goal.returns-in-Follows-clause-answer
returns-in-Follows-clause-answer g c none few =
    let old = g.T.ComposeTable.definitions c.args.old.now in
    let new = g.U.ComposeTable.definitions c.args.new.now in
    c.certify.ensures old (are_fresh old c.args.fresh.now none) (subst (IsWalk c.args.names.now c.args.fresh.now old new) c.in-Follows.is (c.in_ok-counterexample.ensures.answer none few))
