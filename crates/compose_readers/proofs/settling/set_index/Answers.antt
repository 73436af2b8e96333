use Rattle.compose_readers.proofs.settling.set_index.Goals as goal

pub returns : goal.returns
returns c = λ q. c.in_ok-insert.ensures.updates.0 (record { ref_ptr = c.args.keys.ref_ptr; now = q })
