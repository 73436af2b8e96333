use Rattle.std.proofs.Common.{◌∙◌, ap, sym, subst, option_copied, option_map, string_bytes}
use Rattle.std.specs.Prelude.{codes}
use Rattle.compose_find.specs.Locales.{locale_file}
use Rattle.compose_input.specs.Places.{IsListing, IsLocaleTableOf}
use Rattle.compose_input.proofs.places.Places.locale_table.Goals as goal

pub returns-clause-found : goal.returns-clause-found
returns-clause-found g c =
    let folder = c.args.files.now.holds in let places = c.args.self.now in let dir = c.in_ok-compose_dir.compose_dir.items in let names = c.in_ok-aliases.aliases.items in
    let table = option_map string_bytes c.in_ok-locale_file.field-0 in
    let aliases : IsListing folder places (codes "/locale.alias") names =
    subst (λ f. IsListing f places (codes "/locale.alias") names) c.in_ok-compose_dir.ensures.kept c.in_ok-aliases.ensures.read in
    subst (λ l. IsLocaleTableOf folder places (option_copied l) table) (sym c.in-Some.is) (
      dir,
      names,
      c.in_ok-compose_dir.ensures.read,
      aliases,
      c.in_ok-locale_file.ensures ∙ ap (λ d. locale_file places.system.now d c.deref-2.result.now c.in-Some.locale.now) c.deref.ensures.value
          ∙ ap (λ a. locale_file places.system.now dir a c.in-Some.locale.now) c.deref-2.ensures.value,
    )
