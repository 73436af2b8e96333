use Rattle.std.proofs.Common.{◌≡◌, ◌∙◌, sym, ap, nat_eq, true, false, unwrap_or}
use Rattle.std.specs.Prelude.{Some, option_map}
use Rattle.std.proofs.lemmas.Cmp.{nat_eq_equiv}
use Rattle.std.specs.Map.{lookup, set_value}
use Rattle.indexmap.specs.IndexMap.{set_value_at}
use Rattle.std.proofs.lemmas.Map.Entries.{lookup_from_place}
use Rattle.std.proofs.lemmas.Option.{slice_get_within, slice_get-map}
use Rattle.compose_model.specs.Session.{fed as session_fed, loaded as session_loaded}
use Rattle.compose_service.proofs.Kept.{session_is, one_changes, set_at}
use Rattle.compose_service.proofs.sessions.Sessions.feed.Goals as goal

pub returns-in_default : goal.returns-in_default
returns-in_default g c = (session_is c.args.number c.self.inside.rows.entries c.args.self.now c.self.view_is ∙ c.in_default.ensures, c.self.view_is)

pub returns-in_default-get_index_mut : goal.returns-in_default-get_index_mut
returns-in_default-get_index_mut g c =
    let within = slice_get_within c.self.inside.rows.entries c.in-Some.index (c.args.number, c.in-Some.ensures.0) c.in-Some.ensures.1 in
    absurd (let no : false ≡ true = c.in_default-get_index_mut.ensures.found.1 within in cc)

pub returns : goal.returns
returns g c =
    let n = c.args.number in
    let i = c.in-Some.index in
    let es = c.self.inside.rows.entries in
    let table = g.T.ComposeTable.definitions c.args.table.now in
    let s = c.in-Some-get_index_mut.session.now in
    let w = c.refeed_and_feed-fed.new.self in
    let unique = c.in-Some-get_index_mut.ensures.unique in
    let found = c.in-Some.ensures.0 in
    let at = c.in-Some.ensures.1 in
    let same : s ≡ found = ap (λ o. unwrap_or o s) (c.in-Some-get_index_mut.ensures.value ∙ slice_get-map (λ e. e.1) es i ∙ ap (option_map (λ e. e.1)) at) in
    let there : lookup (nat_eq n) es ≡ Some s = lookup_from_place nat_eq_equiv es i n found unique at ∙ ap Some (sym same) in (
      s,
      session_is n es c.args.self.now c.self.view_is ∙ there,
      one_changes n es c.args.self.now c.self.view_is (λ x. session_fed table (session_loaded table s) c.args.keysym) s (set_value_at es i w) unique there
          (set_at n i found w es unique at ∙ ap (set_value (nat_eq n) es) c.refeed_and_feed-fed.ensures.state),
      c.refeed_and_feed-fed.ensures.reported,
    )
