use Rattle.std.proofs.Common.{◌-◌, ◌++◌, refl, sym, arith}
use Rattle.compose_read.specs.Visits.{below, left_from, visit_of}
use Rattle.compose_read.proofs.OpenSources.{include_line}
use Rattle.compose_read.proofs.visits.open_included.Goals as goal

pub returns-in-Some-clause-lines : goal.returns-in-Some-clause-lines
returns-in-Some-clause-lines c =
    let sources = c.args.sources.now in let opened = c.args.opened.now.items in let v = visit_of c.args.visited in
    include_line sources v (below sources (8 - v.depth) v ++ left_from sources 0 opened) (left_from sources 0 opened) refl c.in-Some.source opened c.push.new.self.items c.new.result
    (omega (arith, c.if-visited-ge-MAX_DEPTH.false))
    (sym c.in-Some.ensures.included) refl c.requires.depth.0 c.push.ensures.items c.new.ensures
