use Rattle.std.proofs.Common.{refl, subst, string_bytes}
use Rattle.compose_input.specs.Search.{IsNote}
use Rattle.compose_input.specs.Tables.{IsLocale}
use Rattle.compose_input.proofs.tables.TableFiles.found.Goals as goal

pub returns-clause-found : goal.returns-clause-found
returns-clause-found g c = record {
  found = c.in_ok-found.found;
  is = c.in_ok-found.ensures.found;
  paths = c.in_ok-paths_of.ensures;
  sources = refl;
  ruled = refl;
  at = c.in_ok-from_str.ensures.ok;
  note = subst (λ files. IsNote c.args.places c.args.path.now files (string_bytes c.in_ok-note.note)) c.deref.ensures.value c.in_ok-note.ensures;
  locale = subst (λ f. IsLocale f c.args.places c.in_ok-locale.locale) c.in_ok-found.ensures.kept c.in_ok-locale.ensures.known;
}
