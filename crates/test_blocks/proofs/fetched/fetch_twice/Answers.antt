use Rattle.fo_base.specs.Cause.{Rose}
use Rattle.test_blocks.proofs.Fetching.{same_twice, whole_twice}
use Rattle.test_blocks.proofs.fetched.fetch_twice.Goals as goal

pub returns-clause-same : goal.returns-clause-same
returns-clause-same g c = λ told.
    let old = c.args.blocks.now in
    let mid = c.fetch.new.self in
    let score = c.args.score.now in
    let kind = c.args.kind in
    let k = g.met.B.Blocks.keeps_all old mid c.fetch.ensures.keeps in
    same_twice c.fetch.new.into c.fetch-2.new.into ((g.B.Blocks.state old).held score kind) ((g.B.Blocks.state mid).held score kind) c.fetch-2.result (k.still_tells.1 told) (c.in_default.ensures.bytes told) (k.same_held score kind) c.fetch-2.ensures.bytes

pub returns-clause-whole : goal.returns-clause-whole
returns-clause-whole g c = λ told.
    let old = c.args.blocks.now in
    let mid = c.fetch.new.self in
    let new = c.fetch-2.new.self in
    let score = c.args.score.now in
    let kind = c.args.kind in
    let k = g.met.B.Blocks.keeps_all old mid c.fetch.ensures.keeps in
    whole_twice c.fetch.new.into ((g.B.Blocks.state old).held score kind) ((g.B.Blocks.state mid).held score kind) (Rose (g.B.Blocks.state mid).arena_faults (g.B.Blocks.state new).arena_faults) c.fetch-2.result (k.still_tells.1 told) (c.in_default.ensures.bytes told) (k.same_held score kind) c.fetch-2.ensures.cause
