use Rattle.run_history.proofs.Placed.{pair_at, puts_two}
use Rattle.run_history.proofs.room.put_pair.Goals as goal

pub returns : goal.returns
returns c =
    let p = pair_at c.args.number c.requires.small in
    rw (p.0, p.1) (puts_two c.args.room.now c.args.at _ _ c.requires.room)
