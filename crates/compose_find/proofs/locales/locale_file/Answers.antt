use Rattle.std.proofs.Common.{◌≡◌, sym, ap, subst, rules, Some, None, string_bytes}
use Rattle.std.specs.Prelude.{IfOk}
use Rattle.std.specs.Option.{option_map, option_map_or}
use Rattle.compose_find.specs.Locales.{compose_dir_entry, alias_target, entry_path}
use Rattle.compose_find.proofs.locales.locale_file.Goals as goal

pub returns : goal.returns
returns c =
    let found : compose_dir_entry c.args.compose_dir.now (alias_target c.args.aliases.now c.args.locale.now) ≡ Some c.in-Some.entry.now = search rules in
    subst (λ path. IfOk c.entry_path.result (λ file. option_map string_bytes file ≡ path)) (sym (ap (λ entry. option_map_or (entry_path c.args.folder.now) entry None) found)) c.entry_path.ensures
