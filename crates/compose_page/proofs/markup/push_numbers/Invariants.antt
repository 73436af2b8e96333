use Rattle.std.proofs.Common.{◌≡◌, ◌∷◌, ◌++◌, flat_map, string_bytes}
use Rattle.compose_page.specs.Markup.{number_text}
use Rattle.compose_page.proofs.markup.push_numbers.Given as goal

-- the numbers so far are appended
abbrev pub invariant-loop-character : goal.invariant-loop-character
invariant-loop-character l = string_bytes l.text ≡ string_bytes l.fn.text ++ flat_map (λ c. 32 ∷ number_text c) l.yielded
