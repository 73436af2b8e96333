use Rattle.std.proofs.Common.{◌≡◌, ◌∙◌, ◌≤◌, ℕ, List, [], true, cond, length, sym, ap, subst, arith}
use Rattle.std.specs.Prelude.{Some, None, is_some, nat_le}
use Rattle.std.proofs.lemmas.Bool.{le-leb}
use Rattle.compose_model.specs.Certificate.{Certificate, Typing}
use Rattle.compose_cert.specs.Spelling.{max_count, are_counted}
use Rattle.compose_make.specs.Least.{AreLeastTypings}
use Rattle.compose_make.specs.Found.{IsTypings}
use Rattle.compose_make.specs.IsMade.{IsMadeFor}
use Rattle.compose_make.proofs.Certified.{counted, made, opened}
use Rattle.compose_make.proofs.maker.certify.Goals as goal

abbrev certificate : ℕ → List (ℕ × ℕ) → List Typing → List ℕ → Certificate
certificate bound pairs typings fresh = record { bound = bound; pairs = pairs; typings = typings; fresh = fresh }

pub unwrap-certificate-requires : goal.unwrap-certificate-requires
unwrap-certificate-requires g c =
    let names = c.args.names.now in
    let table = g.U.ComposeTable.definitions c.args.new.now in
    let repertoire = c.args.repertoire.now in
    let typings : AreLeastTypings names table repertoire c.in-Found.typings = subst (IsTypings names table repertoire) c.in-Found.is c.in_ok-typings.ensures.found in
    let fits : are_counted c.into_vec.result.items c.into_vec-2.result.items ≡ true =
    ap (λ ps. are_counted ps c.into_vec-2.result.items) c.into_vec.ensures ∙ ap (are_counted c.args.pairs) c.into_vec-2.ensures
    ∙ counted names table repertoire c.node_count.ensures.settled c.args.pairs c.in-Found.typings c.requires.few_pairs c.count.ensures.sound typings in
    ap is_some (c.new.ensures ∙ ap (λ b. cond b (Some (record { bound = c.greatest_depth.result; pairs = c.into_vec.result.items; typings = c.into_vec-2.result.items; fresh = [] })) None) fits)

-- few enough fresh keysyms
kept_fresh : (given kept : List ℕ) → length given ≤ 1048576 → kept ≡ given → nat_le (length kept) max_count ≡ true
kept_fresh given kept few e = le-leb (length kept) max_count (let n : length kept ≡ length given = ap length e in omega arith)

pub unwrap-requires : goal.unwrap-requires
unwrap-requires g c =
    let fits : nat_le (length c.in_ok-fresh.fresh.items) max_count ≡ true =
    kept_fresh c.args.fresh.now c.in_ok-fresh.fresh.items c.requires.few_fresh (c.in_ok-fresh.ensures.items_if_clones_equal (λ x y e. e)) in
    ap is_some (c.with_fresh.ensures ∙ ap (λ b. cond b (Some (record c.unwrap-certificate.result { fresh = c.in_ok-fresh.fresh.items })) None) fits)

pub returns : goal.returns
returns g c old fresh follower =
    let names = c.args.names.now in
    let table = g.U.ComposeTable.definitions c.args.new.now in
    let repertoire = c.args.repertoire.now in
    let pairs = c.args.pairs in
    let list = c.in-Found.typings in
    let depth = c.greatest_depth.result in
    let items = c.in_ok-fresh.fresh.items in
    let fresh_is : items ≡ c.args.fresh.now = c.in_ok-fresh.ensures.items_if_clones_equal (λ x y e. e) in
    let typings : AreLeastTypings names table repertoire list = subst (IsTypings names table repertoire) c.in-Found.is c.in_ok-typings.ensures.found in
    let first : Certificate = record { bound = depth; pairs = pairs; typings = list; fresh = [] } in
    let whole : Certificate = record { bound = depth; pairs = pairs; typings = list; fresh = c.args.fresh.now } in
    let fits : are_counted pairs list ≡ true = counted names table repertoire c.node_count.ensures.settled pairs list c.requires.few_pairs c.count.ensures.sound typings in
    let parts : c.new.result ≡ cond (are_counted pairs list) (Some first) None =
    c.new.ensures ∙ ap (λ ps. cond (are_counted ps c.into_vec-2.result.items) (Some (certificate depth ps c.into_vec-2.result.items [])) None) c.into_vec.ensures
    ∙ ap (λ ts. cond (are_counted pairs ts) (Some (certificate depth pairs ts [])) None) c.into_vec-2.ensures in
    let new_is : c.new.result ≡ Some first = parts ∙ ap (λ b. cond b (Some first) None) fits in
    let made_first : c.unwrap-certificate.result ≡ first = opened c.new.result c.unwrap-certificate.result first c.unwrap-certificate.ensures new_is in
    let small : nat_le (length items) max_count ≡ true = kept_fresh c.args.fresh.now items c.requires.few_fresh fresh_is in
    let last : c.with_fresh.result ≡ Some whole =
    c.with_fresh.ensures ∙ ap (λ b. cond b (Some (record c.unwrap-certificate.result { fresh = items })) None) small
    ∙ ap (λ (x : Certificate). Some (certificate x.bound x.pairs x.typings items)) made_first ∙ ap (λ fs. Some (certificate depth pairs list fs)) fresh_is in
    let is : c.unwrap.result ≡ whole = opened c.with_fresh.result c.unwrap.result whole c.unwrap.ensures last in
    subst (IsMadeFor names c.args.fresh.now old table repertoire) (sym is)
    (made names table repertoire c.node_count.ensures.settled c.args.fresh.now old pairs list depth fresh follower typings c.greatest_depth.ensures)
