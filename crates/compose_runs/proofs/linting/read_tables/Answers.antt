use Rattle.std.proofs.Common.{◌≡◌, ◌==◌, List, [], ◌∷◌, ℕ, Bor, length, map, refl, sym, subst, true, false}
use Rattle.std.specs.Prelude.{Some, IfOk, IfErr}
use Rattle.compose_runs.specs.Faults.{FailsTables}
use Rattle.compose_given.specs.Faults.{OrMemory}
use Rattle.compose_runs.specs.Linting.{AreReadTables, asked_files}
use Rattle.compose_runs.proofs.linting.read_tables.Goals as goal

asked : (paths : List (Bor (List ℕ))) → (length paths == 0) ≡ false → asked_files paths ≡ map (λ (p : Bor (List ℕ)). Some p.now) paths
asked [] some = absurd (let clash : true ≡ false = some in cc)
asked (path ∷ paths) some = refl

pub returns-clause-read : goal.returns-clause-read
returns-clause-read g c =
    subst (λ given. IfOk c.given_tables.result (λ read. AreReadTables c.args.files.now.holds c.args.environment.now c.args.places given read.items))
    (sym (asked c.args.paths.now (sym c.if-is_empty.ensures))) c.given_tables.ensures.read

pub returns-clause-fault : goal.returns-clause-fault
returns-clause-fault g c =
    subst (λ given. IfErr c.given_tables.result (OrMemory (FailsTables c.args.files.now.holds c.args.environment.now c.args.places given)))
    (sym (asked c.args.paths.now (sym c.if-is_empty.ensures))) c.given_tables.ensures.fault
