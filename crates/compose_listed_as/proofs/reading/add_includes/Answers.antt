use Rattle.std.proofs.Common.{◌≡◌, ◌∙◌, ◌+◌, ◌<◌, ◌++◌, [], true, List, refl, sym, ap, subst, map, take, length, length-append, arith}
use Rattle.std.proofs.lemmas.List.{append-nil, take_all}
use Rattle.compose_readers.specs.Files.{FileRead}
use Rattle.compose_listed_as.specs.Reached.{includes_of, is_included}
use Rattle.compose_listed_as.specs.Reading.{AddsPath, AreReachedBy, includes_before}
use Rattle.compose_listed_as.proofs.Files.{before_more, grown_more, included_path, looked_more, path_more}
use Rattle.compose_listed_as.proofs.reading.add_includes.Goals as goal

pub loop-path-init : goal.loop-path-init
loop-path-init g c =
    let read = c.args.read.now.items in record {
      kept = refl;
      grown = ([], sym (append-nil read));
      reached = subst (λ paths. AreReachedBy c.args.files.now.holds c.args.reader.now.version c.args.root.now paths read) (sym (append-nil (includes_before read c.args.at))) c.requires.reached;
    }

pub returns-in_err-add_path-clause-kept : goal.returns-in_err-add_path-clause-kept
returns-in_err-add_path-clause-kept g c = c.in_err-add_path.ensures.kept ∙ c.loop-path.invariant.kept

pub loop-path-preserved : goal.loop-path-preserved
loop-path-preserved g c =
    let folder = c.args.files.now.holds in let version = c.args.reader.now.version in let root = c.args.root.now in
    let old = c.args.read.now.items in let between = c.loop-path.read.items in let new = c.add_path.new.read.items in
    let more = c.loop-path.invariant.grown.0 in let is = c.loop-path.invariant.grown.1 in
    let paths = c.deref-path-items.result.now in let i = c.loop-path.path-index in let path = c.path-item.result in
    let before = includes_before old c.args.at in
    let within : i < length paths = omega (arith, c.loop-path-test.true) in
    let added : AddsPath folder version root path.items between new =
    subst (λ p. AddsPath folder version root p between new) c.deref.ensures.value
    (subst (λ h. AddsPath h version root c.deref.result.now between new) c.loop-path.invariant.kept c.in_ok-add_path.ensures.added) in
    let included = subst (λ (files : List FileRead). is_included files path.items ≡ true) (sym is)
    (included_path old more c.args.at c.index.result.now paths i path c.requires.inside c.index.ensures (ap (map (λ p. p.items)) c.deref-path-items.ensures.value ∙ c.in_ok-paths.ensures) within c.path-item.is) in
    record {
      kept = c.in_ok-add_path.ensures.kept ∙ c.loop-path.invariant.kept;
      grown = grown_more folder version root path.items old between new more is added;
      reached = subst (λ looked. AreReachedBy folder version root looked new) (looked_more before paths i path within c.path-item.is)
          (path_more folder version root path.items (before ++ map (λ p. p.items) (take i paths)) between new included c.loop-path.invariant.reached added);
    }

pub returns-clause-kept : goal.returns-clause-kept
returns-clause-kept g c = c.loop-path.invariant.kept

pub returns-clause-reached : goal.returns-clause-reached
returns-clause-reached g c =
    let folder = c.args.files.now.holds in let version = c.args.reader.now.version in let root = c.args.root.now in
    let old = c.args.read.now.items in let read = c.loop-path.read.items in let at = c.args.at in
    let more = c.loop-path.invariant.grown.0 in let is = c.loop-path.invariant.grown.1 in
    let paths = c.deref-path-items.result.now in let i = c.loop-path.path-index in
    let whole : map (λ p. p.items) (take i paths) ≡ includes_of c.index.result.now =
    ap (map (λ p. p.items)) (take_all i paths (omega (arith, c.loop-path-test.false)) ∙ c.deref-path-items.ensures.value) ∙ c.in_ok-paths.ensures in
    subst (λ looked. AreReachedBy folder version root looked read)
    (ap (λ xs. includes_before old at ++ xs) (whole ∙ ap includes_of c.index.ensures) ∙ before_more old more at c.index.result.now c.requires.inside ∙ ap (λ (files : List FileRead). includes_before files (at + 1)) (sym is))
    c.loop-path.invariant.reached

pub returns-clause-grown : goal.returns-clause-grown
returns-clause-grown g c =
    let more = c.loop-path.invariant.grown.0 in
    omega (arith, c.requires.inside, ap length c.loop-path.invariant.grown.1, length-append c.args.read.now.items more)
