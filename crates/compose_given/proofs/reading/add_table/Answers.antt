use Rattle.std.proofs.Common.{rules, ◌≡◌, ◌++◌, ◌∷◌, []}
use Rattle.compose_given.proofs.reading.add_table.Goals as goal

pub returns-clause-read : goal.returns-clause-read
returns-clause-read g c =
    let added : c.push.new.self.items ≡ c.args.tables.now.items ++ c.in_ok-table.table ∷ [] = search rules in
    record { table = c.in_ok-table.table; is = c.in_ok-table.ensures.read; added = added }
