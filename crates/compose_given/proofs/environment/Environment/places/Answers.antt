use Rattle.std.proofs.Common.{◌≡◌, ◌∙◌, refl, ap, ℕ, List, Bor}
use Rattle.std.specs.Prelude.{Option, Some, None, option_copied, Ok, MatchOption, IsSomeAnd}
use Rattle.std.specs.Option.{option_map}
use Rattle.compose_text.specs.Results.{◌>>=◌}
use Rattle.compose_given.specs.Environment.{EnvironmentPlaces, locale_of, places_of}
use Rattle.compose_given.specs.Variables.{Decoded, text_of, without_slashes}
use Rattle.compose_given.specs.declared.environment.Environment.{Environment}
use Rattle.compose_given.proofs.Lent.{copied_or, now_or}
use Rattle.compose_given.proofs.environment.Environment.places.Goals as goal

abbrev parts : (system locale home : Option (List ℕ)) → EnvironmentPlaces
parts system locale home = record { system = system; locale = locale; home = home }

abbrev after_locale : Environment → Option (List ℕ) → Option (List ℕ) → Decoded EnvironmentPlaces
after_locale e system locale = text_of e.home >>= (λ home. Ok (parts system locale home))

abbrev after_system : Environment → Option (List ℕ) → Decoded EnvironmentPlaces
after_system e system = locale_of e >>= after_locale e system

-- the places in the environment, by its three parts
says : (e : Environment) (system locale home : Option (List ℕ)) → text_of e.xlocaledir ≡ Ok system → locale_of e ≡ Ok locale → text_of e.home ≡ Ok home
    → places_of e ≡ Ok (parts system locale home)
says e system locale home s l h =
    let first : places_of e ≡ after_system e system = ap (λ (x : Decoded (Option (List ℕ))). x >>= after_system e) s in
    let second : after_system e system ≡ after_locale e system locale = ap (λ (x : Decoded (Option (List ℕ))). x >>= after_locale e system) l in
    let third : after_locale e system locale ≡ Ok (parts system locale home) = ap (λ (x : Decoded (Option (List ℕ))). x >>= (λ home. Ok (parts system locale home))) h in
    first ∙ (second ∙ third)

-- a root without slashes at its end, if there is one
is_root : (given root : Option (Bor (List ℕ))) → MatchOption given (root ≡ None) (λ x. IsSomeAnd root (λ y. y.now ≡ without_slashes x.now))
    → option_copied root ≡ option_map without_slashes (option_copied given)
is_root None root e = ap option_copied e
is_root (Some x) None h = absurd h
is_root (Some x) (Some y) h = ap Some h

pub returns : goal.returns
returns c =
    let arguments = c.args.arguments in let system = c.in_ok-system.system in let locale = c.in_ok-locale.locale in let home = c.in_ok-home.home in (
      parts (option_copied system) (option_copied locale) (option_copied home),
      says c.args.self.now (option_copied system) (option_copied locale) (option_copied home) c.in_ok-system.ensures c.in_ok-locale.ensures c.in_ok-home.ensures,
      record {
        system = now_or c.unwrap_or.result c.or.result arguments.system system _ c.unwrap_or.ensures c.or.ensures;
        tree = refl;
        locale = ap option_copied c.or-2.ensures ∙ copied_or arguments.locale locale;
        home = refl;
        root = is_root arguments.root c.map.result c.map.ensures.cases;
      },
    )
