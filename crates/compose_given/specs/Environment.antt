-- The use of the environment (POSIX: `LC_ALL` before `LC_CTYPE` before `LANG`; Xlib: `XLOCALEDIR`;
-- no-color.org: `NO_COLOR`).
use Rattle.std.specs.Prelude.{◌≡◌, ℕ, Bool, false, if◌then◌else◌, List, Option, is_none, option_copied, Result, Ok, Err, unwrap_or, codes}
use Rattle.std.specs.Option.{option_or, option_map}
use Rattle.compose_text.specs.Results.{◌>>=◌}
use Rattle.compose_input.specs.declared.fault.Fault.{Fault}
use Rattle.compose_input.specs.declared.fault.Fault.TheVariants.{Word}
use Rattle.compose_input.specs.declared.places.Places.{Places}
use Rattle.compose_given.specs.Variables.{Decoded, text_of, first_set, without_slashes}
use Rattle.compose_given.specs.declared.environment.Environment.{Environment}
use Rattle.compose_given.specs.declared.environment.PlaceArguments.{PlaceArguments}

-- the name of the locale
abbrev pub locale_of : Environment → Decoded (Option (List ℕ))
locale_of e = first_set (text_of e.lc_all) (first_set (text_of e.lc_ctype) (text_of e.lang))

-- the folder of the system's tables, the locale and the home folder, if the environment has them
pub record EnvironmentPlaces : Type 0 where
  pub system : Option (List ℕ)
  pub locale : Option (List ℕ)
  pub home : Option (List ℕ)

abbrev pub places_of : Environment → Decoded EnvironmentPlaces
places_of e = do
  system ← text_of e.xlocaledir
  locale ← locale_of e
  home ← text_of e.home
  Ok (record { system = system; locale = locale; home = home })

-- where tables lie: as the arguments say, or otherwise the environment, or otherwise below
-- /usr/share/X11/locale
pub record ArePlaces (arguments : PlaceArguments) (spec : EnvironmentPlaces) (places : Places) : Type 0 where
  pub system : places.system.now ≡ unwrap_or (option_or (option_copied arguments.system) spec.system) (codes "/usr/share/X11/locale")
  pub tree : option_copied places.tree ≡ option_copied arguments.system
  pub locale : option_copied places.locale ≡ option_or (option_copied arguments.locale) spec.locale
  pub home : option_copied places.home ≡ spec.home
  pub root : option_copied places.root ≡ option_map without_slashes (option_copied arguments.root)

abbrev pub ReturnsPlaces : PlaceArguments → Result Places Fault → Decoded EnvironmentPlaces → Type 0
ReturnsPlaces arguments (Ok places) spec = (parts : EnvironmentPlaces) × (spec ≡ Ok parts) × ArePlaces arguments parts places
ReturnsPlaces arguments (Err fault) spec = (spec ≡ Err tt) × (fault ≡ Word)

-- where tables lie, by the arguments and this environment
abbrev pub IsPlaced : Environment → PlaceArguments → Places → Type 0
IsPlaced environment arguments places = ReturnsPlaces arguments (Ok places) (places_of environment)

-- on a terminal, unless `NO_COLOR` is set and not empty; elsewhere `NO_COLOR` is not read
abbrev pub wants_color : Environment → Decoded Bool
wants_color e = if e.is_terminal then (do
  text ← text_of e.no_color
  Ok (is_none text)) else Ok false

abbrev pub ReturnsColor : Result Bool Fault → Decoded Bool → Type 0
ReturnsColor (Ok wants) spec = spec ≡ Ok wants
ReturnsColor (Err fault) spec = (spec ≡ Err tt) × (fault ≡ Word)
