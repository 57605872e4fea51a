use Rattle.fo_files_own.proofs.Placed.{changes_own, piece_fits, place_fits, puts_whole}
use Rattle.fo_files_own.proofs.put.put_own.Goals as goal

pub put_bytes-requires-clause-pinned : goal.put_bytes-requires-clause-pinned
put_bytes-requires-clause-pinned g c = c.requires.may.is_pinned

pub put_bytes-requires-clause-current : goal.put_bytes-requires-clause-current
put_bytes-requires-clause-current g c = c.requires.may.current

pub put_bytes-requires-clause-place : goal.put_bytes-requires-clause-place
put_bytes-requires-clause-place g c = place_fits (g.B.Blocks.state c.args.on.now) c.args.ready _ c.requires.may

pub put_bytes-requires-clause-formed : goal.put_bytes-requires-clause-formed
put_bytes-requires-clause-formed g c = λ told. absurd (c.requires.silent told)

pub put_bytes-requires-clause-within : goal.put_bytes-requires-clause-within
put_bytes-requires-clause-within g c = piece_fits (g.B.Blocks.state c.args.on.now) c.args.ready c.requires.may

pub returns-clause-puts : goal.returns-clause-puts
returns-clause-puts g c = puts_whole (g.B.Blocks.state c.args.on.now) (g.B.Blocks.state c.put_bytes.new.self) c.args.ready c.put_bytes.ensures.now

pub returns-clause-own : goal.returns-clause-own
returns-clause-own g c = λ at named of has.
    changes_own (g.B.Blocks.state c.args.on.now) (g.B.Blocks.state c.put_bytes.new.self) at named c.args.ready c.requires.may (puts_whole (g.B.Blocks.state c.args.on.now) (g.B.Blocks.state c.put_bytes.new.self) c.args.ready c.put_bytes.ensures.now) of has
