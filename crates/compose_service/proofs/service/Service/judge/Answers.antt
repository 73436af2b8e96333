use Rattle.std.proofs.Common.{refl}
use Rattle.compose_service.proofs.Halves.{read_load, refused_load}
use Rattle.compose_service.proofs.service.Service.judge.Goals as goal

pub returns-in-Err-clause-judged : goal.returns-in-Err-clause-judged
returns-in-Err-clause-judged g c = refused_load c.args.self.now c.args.rule c.args.payload.now g.T.ComposeTable.definitions c.in-Err.refusal c.in-Err.ensures

pub returns-then-not-accepts-clause-judged : goal.returns-then-not-accepts-clause-judged
returns-then-not-accepts-clause-judged g c = (
  g.T.ComposeTable.definitions c.in-Ok.load.0,
  c.in-Ok.load.1,
  read_load c.args.self.now c.args.rule c.args.payload.now g.T.ComposeTable.definitions c.in-Ok.load c.in-Ok.ensures,
  c.accepts.ensures.no c.if-not-accepts.true,
  refl,
)

pub returns-clause-judged : goal.returns-clause-judged
returns-clause-judged g c = record {
  read = read_load c.args.self.now c.args.rule c.args.payload.now g.T.ComposeTable.definitions c.in-Ok.load c.in-Ok.ensures;
  prefix_free = c.accepts.ensures.prefix_free;
  accepted = c.accepts.ensures.yes c.if-not-accepts.false;
}
