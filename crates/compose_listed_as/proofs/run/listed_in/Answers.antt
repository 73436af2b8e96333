use Rattle.std.proofs.Common.{subst}
use Rattle.compose_listed_as.specs.Listed.{IsListedAs}
use Rattle.compose_listed_as.proofs.run.listed_in.Goals as goal

pub returns-clause-listed : goal.returns-clause-listed
returns-clause-listed g c = record {
  files = c.in_ok-read.read.items;
  are_files = c.in_ok-read.ensures.read;
  names = c.args.setting.now.names;
  are_names = c.requires;
  is = subst (λ files. IsListedAs c.args.version c.args.setting.now.names files c.in_ok-list_as.field-0) c.deref.ensures.value c.in_ok-list_as.ensures;
}
