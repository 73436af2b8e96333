use Rattle.std.proofs.Common.{rules, map, subst, ap, ◌∙◌, ℕ, List, Bor, string_bytes, Global}
use Rattle.std.specs.Prelude.{option_copied, option_map}
use Rattle.std.specs.declared.string.String.{String}
use Rattle.compose_migration.specs.Refused.{Returns}
use Rattle.compose_migration.specs.declared.refusal.Refusal.TheVariants.{NoMemory}
use Rattle.compose_input.specs.Tables.{sources_of}
use Rattle.compose_listing.specs.Answers.{AreWays, how_parts}
use Rattle.compose_listing.specs.Wanted.{wanted_text}
use Rattle.compose_migration.proofs.Steps.{refusal_gives}
use Rattle.compose_runs.specs.Listing.{form_of}
use Rattle.compose_runs.proofs.looking_up.how_answer.Goals as goal

pub returns-in_err-wanted : goal.returns-in_err-wanted
returns-in_err-wanted g c =
    let read = c.args.read.now in let arguments = c.args.arguments.now in
    refusal_gives (AreWays read.table.sources (map string_bytes read.table.paths.items) (map wanted_text (map (λ word. word.now) c.args.words.now)) arguments.first (form_of arguments.json))
    c.from_residual.result NoMemory (how_parts read.names.lines.items (sources_of read.table) (option_map (λ held. held.items) c.args.repertoire.now)) (search rules) tt

pub returns-in_err-texts : goal.returns-in_err-texts
returns-in_err-texts g c =
    let read = c.args.read.now in let arguments = c.args.arguments.now in
    refusal_gives (AreWays read.table.sources (map string_bytes read.table.paths.items) (map wanted_text (map (λ word. word.now) c.args.words.now)) arguments.first (form_of arguments.json))
    c.from_residual-in_err-texts.result NoMemory (how_parts read.names.lines.items (sources_of read.table) (option_map (λ held. held.items) c.args.repertoire.now)) (search rules) tt

pub returns-in_err-paths : goal.returns-in_err-paths
returns-in_err-paths g c =
    let read = c.args.read.now in let arguments = c.args.arguments.now in
    refusal_gives (AreWays read.table.sources (map string_bytes read.table.paths.items) (map wanted_text (map (λ word. word.now) c.args.words.now)) arguments.first (form_of arguments.json))
    c.from_residual-in_err-paths.result NoMemory (how_parts read.names.lines.items (sources_of read.table) (option_map (λ held. held.items) c.args.repertoire.now)) (search rules) tt

pub returns : goal.returns
returns g c =
    let read = c.args.read.now in let arguments = c.args.arguments.now in let r = c.ways_answer.result in let form = form_of arguments.json in
    let spec = sources_of read.table in let header = read.names.lines.items in
    let texts = map (λ text. text.now) c.deref-2.result.now in let paths = map (λ path. path.now) c.deref-3.result.now in
    let given = option_map (λ held. held.items) c.args.repertoire.now in
    subst (λ ts. Returns (AreWays read.table.sources (map string_bytes read.table.paths.items) ts arguments.first form) r (how_parts header spec given))
    (ap (λ (ts : List (Bor (List ℕ))). map (λ text. text.now) ts) c.deref-2.ensures.value
    ∙ (c.in_ok-texts.ensures ∙ (ap (λ (ts : List (String Global)). map string_bytes ts) c.deref.ensures.value ∙ c.in_ok-wanted.ensures)))
    (subst (λ ps. Returns (AreWays read.table.sources ps texts arguments.first form) r (how_parts header spec given))
    (ap (λ (ps : List (Bor (List ℕ))). map (λ path. path.now) ps) c.deref-3.ensures.value ∙ c.in_ok-paths.ensures)
    (subst (λ b. Returns (AreWays read.table.sources paths texts arguments.first form) r (how_parts header spec b)) c.bytes_of.ensures c.ways_answer.ensures))
