use Rattle.venti_store.proofs.Puts.{stays_since}
use Rattle.venti_store.proofs.arena.Arena.make_room.Goals as goal

pub returns-then-len-lt-MOST_WAITING-clause-moments : goal.returns-then-len-lt-MOST_WAITING-clause-moments
returns-then-len-lt-MOST_WAITING-clause-moments g c stored synced k = stays_since c.args.self.now.shelf k (g.met.A.Disk.is_newest c.args.self.now.device)
