use Rattle.std.proofs.Common.{◌∙◌, sym, ap, ap₂}
use Rattle.std.specs.Prelude.{Some}
use Rattle.compose_model.specs.Table.{same}
use Rattle.compose_model.specs.Nodes.{node}
use Rattle.compose_model.specs.Certificate.{has_pair}
use Rattle.compose_check.specs.Landing.{landing_text}
use Rattle.compose_check.proofs.Landed.{landing_is_of}
use Rattle.compose_check.proofs.EdgeConditions.{at_edge, edge_cancels, edge_differs, edge_missing, edge_is_met}
use Rattle.compose_check.proofs.edges.check_edge.Goals as goal

pub text_to-requires : goal.text_to-requires
text_to-requires g c =
    let old = g.T.ComposeTable.definitions c.args.old.now in
    landing_is_of c.args.names.now old (node old c.args.pair.old.0) c.args.keysym (Some c.args.target) c.requires.leads

pub commits-requires : goal.commits-requires
commits-requires g c =
    let new = g.U.ComposeTable.definitions c.args.new.now in
    landing_is_of c.args.names.now new (node new c.args.pair.new.0) c.args.keysym c.step-landing.result (sym c.step-landing.ensures)

pub returns-then-cancels : goal.returns-then-cancels
returns-then-cancels g c =
    let old = g.T.ComposeTable.definitions c.args.old.now in
    let new = g.U.ComposeTable.definitions c.args.new.now in
    let u = node old c.args.pair.old.0 in
    let e = at_edge old new u c.args.pair.new.0 c.args.keysym c.args.target c.step-landing.result c.requires.leads (sym c.step-landing.ensures) c.requires.sound c.requires.new_in_range in
    edge_cancels c.args.names.now c.args.certificate.now.pairs c.args.pair.index old new u c.args.pair.new.0 c.args.keysym c.args.target c.step-landing.result e
    (sym c.cancels.ensures ∙ c.if-cancels.true)

pub returns-then-not-commits : goal.returns-then-not-commits
returns-then-not-commits g c =
    let old = g.T.ComposeTable.definitions c.args.old.now in
    let new = g.U.ComposeTable.definitions c.args.new.now in
    let u = node old c.args.pair.old.0 in
    let e = at_edge old new u c.args.pair.new.0 c.args.keysym c.args.target c.step-landing.result c.requires.leads (sym c.step-landing.ensures) c.requires.sound c.requires.new_in_range in
    edge_differs c.args.names.now c.args.certificate.now.pairs c.args.pair.index old new u c.args.pair.new.0 c.args.keysym c.args.target c.step-landing.result e
    (sym c.cancels.ensures ∙ c.if-cancels.false)
    (ap (same (landing_text c.args.names.now new c.args.keysym c.step-landing.result)) (sym c.text_to.ensures) ∙ sym c.commits.ensures ∙ c.if-not-commits.true)

pub returns-then-not-has_pair : goal.returns-then-not-has_pair
returns-then-not-has_pair g c =
    let old = g.T.ComposeTable.definitions c.args.old.now in
    let new = g.U.ComposeTable.definitions c.args.new.now in
    let u = node old c.args.pair.old.0 in
    let e = at_edge old new u c.args.pair.new.0 c.args.keysym c.args.target c.step-landing.result c.requires.leads (sym c.step-landing.ensures) c.requires.sound c.requires.new_in_range in
    edge_missing c.args.names.now c.args.certificate.now.pairs c.args.pair.index old new u c.args.pair.new.0 c.args.keysym c.args.target c.step-landing.result e
    (sym c.cancels.ensures ∙ c.if-cancels.false)
    (ap (same (landing_text c.args.names.now new c.args.keysym c.step-landing.result)) (sym c.text_to.ensures) ∙ sym c.commits.ensures ∙ c.if-not-commits.false)
    (ap₂ (has_pair c.args.certificate.now.pairs) (sym c.number_at.ensures) (sym c.number_at-2.ensures) ∙ sym c.has_pair.ensures ∙ c.if-not-has_pair.true)

pub returns : goal.returns
returns g c =
    let old = g.T.ComposeTable.definitions c.args.old.now in
    let new = g.U.ComposeTable.definitions c.args.new.now in
    let u = node old c.args.pair.old.0 in
    let e = at_edge old new u c.args.pair.new.0 c.args.keysym c.args.target c.step-landing.result c.requires.leads (sym c.step-landing.ensures) c.requires.sound c.requires.new_in_range in
    edge_is_met c.args.names.now c.args.certificate.now.pairs c.args.pair.index old new u c.args.pair.new.0 c.args.keysym c.args.target c.step-landing.result e
    (sym c.cancels.ensures ∙ c.if-cancels.false)
    (ap (same (landing_text c.args.names.now new c.args.keysym c.step-landing.result)) (sym c.text_to.ensures) ∙ sym c.commits.ensures ∙ c.if-not-commits.false)
    (ap₂ (has_pair c.args.certificate.now.pairs) (sym c.number_at.ensures) (sym c.number_at-2.ensures) ∙ sym c.has_pair.ensures ∙ c.if-not-has_pair.false)
