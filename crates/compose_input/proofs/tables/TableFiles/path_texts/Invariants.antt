use Rattle.std.proofs.Common.{◌≡◌, map, take, string_bytes}
use Rattle.compose_input.proofs.tables.TableFiles.path_texts.Given as goal

-- the texts of the paths so far
abbrev pub invariant-loop-path : goal.invariant-loop-path
invariant-loop-path l = map (λ text. text.now) l.paths.items ≡ map string_bytes (take l.path-index l.self.paths.items)
