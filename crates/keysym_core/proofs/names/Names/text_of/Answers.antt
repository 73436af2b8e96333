use Rattle.keysym_core.proofs.Texts.{text_fits}
use Rattle.keysym_core.proofs.names.Names.text_of.Goals as goal

pub returns-in-65456-to-65465-clause-fits : goal.returns-in-65456-to-65465-clause-fits
returns-in-65456-to-65465-clause-fits c = text_fits c.args.self.now

pub returns-in-16777472-to-17891327-clause-fits : goal.returns-in-16777472-to-17891327-clause-fits
returns-in-16777472-to-17891327-clause-fits c = text_fits c.args.self.now

pub returns-in-32-to-126-clause-fits : goal.returns-in-32-to-126-clause-fits
returns-in-32-to-126-clause-fits c = text_fits c.args.self.now

pub returns-in_default-clause-fits : goal.returns-in_default-clause-fits
returns-in_default-clause-fits c = text_fits c.args.self.now
