use Rattle.compose_fresh.proofs.Positions.{searched_index, searched_none}
use Rattle.compose_fresh.proofs.fresh.index_of.Goals as goal

pub returns-in-Ok : goal.returns-in-Ok
returns-in-Ok c = searched_index c.args.keysyms.now c.args.keysym c.in-Ok.index c.requires c.in-Ok.ensures.position

pub returns-in-Err : goal.returns-in-Err
returns-in-Err c = searched_none c.args.keysyms.now c.args.keysym c.in-Err.field-0 c.requires c.in-Err.ensures.position
