use Rattle.std.specs.Prelude.{Some, None}
use Rattle.compose_folder.proofs.Seen.{found_reads, unless_found, asks_nothing, asks_new, sees_nothing, sees_new}
use Rattle.compose_folder.proofs.once.ReadOnce.read.Goals as goal

pub returns-in-Some-clause-reads : goal.returns-in-Some-clause-reads
returns-in-Some-clause-reads g c = found_reads c.args.self.now.holds c.args.path.now c.args.self.now.entries c.in-Some.found.now c.copied.result c.in-Some.ensures.held c.in-Some.ensures.first c.copied.ensures

pub returns-in-Some-clause-asks : goal.returns-in-Some-clause-asks
returns-in-Some-clause-asks g c = asks_nothing c.args.self.now.asked _ c.copied.result (unless_found c.args.path.now c.args.self.now.entries (Some c.in-Some.found.now) c.in-Some.ensures.first)

pub returns-in-Some-clause-sees : goal.returns-in-Some-clause-sees
returns-in-Some-clause-sees g c = sees_nothing c.args.self.now.entries c.args.path.now c.copied.result (unless_found c.args.path.now c.args.self.now.entries (Some c.in-Some.found.now) c.in-Some.ensures.first)

pub returns-in-None-clause-asks : goal.returns-in-None-clause-asks
returns-in-None-clause-asks g c = asks_new c.args.self.now.asked c.read_new.new.self.asked c.args.path.now _ c.read_new.result (unless_found c.args.path.now c.args.self.now.entries None c.in-None.ensures.first) c.read_new.ensures.asks

pub returns-in-None-clause-sees : goal.returns-in-None-clause-sees
returns-in-None-clause-sees g c = sees_new c.args.self.now.entries c.read_new.new.self.entries c.args.path.now c.read_new.result (unless_found c.args.path.now c.args.self.now.entries None c.in-None.ensures.first) c.read_new.ensures.keeps
