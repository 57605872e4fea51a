use Rattle.std.proofs.Common.{arith}
use Rattle.test_clients.proofs.Growing.{Given, Linked, entry_drops, entry_leads, entry_room, entry_spelled, entry_use, has_tree, root_current, root_pinned, second_current, second_drops, second_leads, second_pinned, second_room, second_settled, second_spelled, second_waits, settled}
use Rattle.test_clients.proofs.bytes.tree.Goals as goal

pub put_slot-requires-clause-pinned : goal.put_slot-requires-clause-pinned
put_slot-requires-clause-pinned g c =
    let on = c.args.on.now in
    let one = c.new_block-top.new.self in
    let two = c.new_block-leaf.new.self in
    let given : Given c.root-root.result c.new_block-top.result c.new_block-leaf.result (g.B.Blocks.state on) (g.B.Blocks.state one) (g.B.Blocks.state two) = record { is_root = c.root-root.ensures; had = c.requires.root; first = c.new_block-top.ensures.gives; second = c.new_block-leaf.ensures.gives; all = g.met.B.Blocks.keeps_all on one c.new_block-top.ensures.keeps; more = g.met.B.Blocks.keeps_all one two c.new_block-leaf.ensures.keeps } in
    root_pinned given

pub put_slot-requires-clause-current : goal.put_slot-requires-clause-current
put_slot-requires-clause-current g c =
    let on = c.args.on.now in
    let one = c.new_block-top.new.self in
    let two = c.new_block-leaf.new.self in
    let given : Given c.root-root.result c.new_block-top.result c.new_block-leaf.result (g.B.Blocks.state on) (g.B.Blocks.state one) (g.B.Blocks.state two) = record { is_root = c.root-root.ensures; had = c.requires.root; first = c.new_block-top.ensures.gives; second = c.new_block-leaf.ensures.gives; all = g.met.B.Blocks.keeps_all on one c.new_block-top.ensures.keeps; more = g.met.B.Blocks.keeps_all one two c.new_block-leaf.ensures.keeps } in
    root_current given

pub put_slot-requires-clause-spelled : goal.put_slot-requires-clause-spelled
put_slot-requires-clause-spelled g c =
    let on = c.args.on.now in
    let one = c.new_block-top.new.self in
    let two = c.new_block-leaf.new.self in
    let given : Given c.root-root.result c.new_block-top.result c.new_block-leaf.result (g.B.Blocks.state on) (g.B.Blocks.state one) (g.B.Blocks.state two) = record { is_root = c.root-root.ensures; had = c.requires.root; first = c.new_block-top.ensures.gives; second = c.new_block-leaf.ensures.gives; all = g.met.B.Blocks.keeps_all on one c.new_block-top.ensures.keeps; more = g.met.B.Blocks.keeps_all one two c.new_block-leaf.ensures.keeps } in
    entry_spelled given c.two_leaves.result c.two_leaves.ensures (g.met.B.Blocks.small two c.new_block-top.result (((g.met.B.Blocks.keeps_all one two c.new_block-leaf.ensures.keeps).same_blocks c.new_block-top.result).1 c.new_block-top.ensures.gives.is.0))

pub put_slot-requires-clause-settled : goal.put_slot-requires-clause-settled
put_slot-requires-clause-settled g c =
    let on = c.args.on.now in
    let one = c.new_block-top.new.self in
    let two = c.new_block-leaf.new.self in
    let given : Given c.root-root.result c.new_block-top.result c.new_block-leaf.result (g.B.Blocks.state on) (g.B.Blocks.state one) (g.B.Blocks.state two) = record { is_root = c.root-root.ensures; had = c.requires.root; first = c.new_block-top.ensures.gives; second = c.new_block-leaf.ensures.gives; all = g.met.B.Blocks.keeps_all on one c.new_block-top.ensures.keeps; more = g.met.B.Blocks.keeps_all one two c.new_block-leaf.ensures.keeps } in
    settled given c.root-root.result 0

pub put_slot-requires-clause-same_use : goal.put_slot-requires-clause-same_use
put_slot-requires-clause-same_use g c =
    let on = c.args.on.now in
    let one = c.new_block-top.new.self in
    let two = c.new_block-leaf.new.self in
    let given : Given c.root-root.result c.new_block-top.result c.new_block-leaf.result (g.B.Blocks.state on) (g.B.Blocks.state one) (g.B.Blocks.state two) = record { is_root = c.root-root.ensures; had = c.requires.root; first = c.new_block-top.ensures.gives; second = c.new_block-leaf.ensures.gives; all = g.met.B.Blocks.keeps_all on one c.new_block-top.ensures.keeps; more = g.met.B.Blocks.keeps_all one two c.new_block-leaf.ensures.keeps } in
    λ a w. entry_use given c.two_leaves.result c.two_leaves.ensures (g.met.B.Blocks.small two c.new_block-top.result (((g.met.B.Blocks.keeps_all one two c.new_block-leaf.ensures.keeps).same_blocks c.new_block-top.result).1 c.new_block-top.ensures.gives.is.0)) (g.met.B.Blocks.waits_in_use two a c.root-root.result 0 w)

pub put_slot-requires-clause-leads : goal.put_slot-requires-clause-leads
put_slot-requires-clause-leads g c =
    let on = c.args.on.now in
    let one = c.new_block-top.new.self in
    let two = c.new_block-leaf.new.self in
    let given : Given c.root-root.result c.new_block-top.result c.new_block-leaf.result (g.B.Blocks.state on) (g.B.Blocks.state one) (g.B.Blocks.state two) = record { is_root = c.root-root.ensures; had = c.requires.root; first = c.new_block-top.ensures.gives; second = c.new_block-leaf.ensures.gives; all = g.met.B.Blocks.keeps_all on one c.new_block-top.ensures.keeps; more = g.met.B.Blocks.keeps_all one two c.new_block-leaf.ensures.keeps } in
    entry_leads given c.two_leaves.result c.two_leaves.ensures (g.met.B.Blocks.small two c.new_block-top.result (((g.met.B.Blocks.keeps_all one two c.new_block-leaf.ensures.keeps).same_blocks c.new_block-top.result).1 c.new_block-top.ensures.gives.is.0))

pub put_slot-requires-clause-may : goal.put_slot-requires-clause-may
put_slot-requires-clause-may g c =
    λ told. absurd (c.requires.untold c.new_block-leaf.new.self told)

pub put_slot-requires-clause-room : goal.put_slot-requires-clause-room
put_slot-requires-clause-room g c =
    let on = c.args.on.now in
    let one = c.new_block-top.new.self in
    let two = c.new_block-leaf.new.self in
    let given : Given c.root-root.result c.new_block-top.result c.new_block-leaf.result (g.B.Blocks.state on) (g.B.Blocks.state one) (g.B.Blocks.state two) = record { is_root = c.root-root.ensures; had = c.requires.root; first = c.new_block-top.ensures.gives; second = c.new_block-leaf.ensures.gives; all = g.met.B.Blocks.keeps_all on one c.new_block-top.ensures.keeps; more = g.met.B.Blocks.keeps_all one two c.new_block-leaf.ensures.keeps } in
    entry_room given c.two_leaves.result c.two_leaves.ensures (g.met.B.Blocks.small two c.new_block-top.result (((g.met.B.Blocks.keeps_all one two c.new_block-leaf.ensures.keeps).same_blocks c.new_block-top.result).1 c.new_block-top.ensures.gives.is.0))

pub put_slot-requires-clause-tops : goal.put_slot-requires-clause-tops
put_slot-requires-clause-tops g c =
    let on = c.args.on.now in
    let one = c.new_block-top.new.self in
    let two = c.new_block-leaf.new.self in
    let given : Given c.root-root.result c.new_block-top.result c.new_block-leaf.result (g.B.Blocks.state on) (g.B.Blocks.state one) (g.B.Blocks.state two) = record { is_root = c.root-root.ensures; had = c.requires.root; first = c.new_block-top.ensures.gives; second = c.new_block-leaf.ensures.gives; all = g.met.B.Blocks.keeps_all on one c.new_block-top.ensures.keeps; more = g.met.B.Blocks.keeps_all one two c.new_block-leaf.ensures.keeps } in
    λ n x lt e. absurd (entry_drops given c.two_leaves.result c.two_leaves.ensures (g.met.B.Blocks.small two c.new_block-top.result (((g.met.B.Blocks.keeps_all one two c.new_block-leaf.ensures.keeps).same_blocks c.new_block-top.result).1 c.new_block-top.ensures.gives.is.0)) n lt)

pub put_slot-requires-2-clause-pinned : goal.put_slot-requires-2-clause-pinned
put_slot-requires-2-clause-pinned g c =
    let on = c.args.on.now in
    let one = c.new_block-top.new.self in
    let two = c.new_block-leaf.new.self in
    let given : Given c.root-root.result c.new_block-top.result c.new_block-leaf.result (g.B.Blocks.state on) (g.B.Blocks.state one) (g.B.Blocks.state two) = record { is_root = c.root-root.ensures; had = c.requires.root; first = c.new_block-top.ensures.gives; second = c.new_block-leaf.ensures.gives; all = g.met.B.Blocks.keeps_all on one c.new_block-top.ensures.keeps; more = g.met.B.Blocks.keeps_all one two c.new_block-leaf.ensures.keeps } in
    let three = c.put_slot.new.self in
    let linked : Linked c.root-root.result c.new_block-top.result c.new_block-leaf.result c.two_leaves.result (g.B.Blocks.state on) (g.B.Blocks.state one) (g.B.Blocks.state two) (g.B.Blocks.state three) = record { given = given; is = c.two_leaves.ensures; frame = c.put_slot.ensures.frame; order = c.put_slot.ensures.order; no_wait = c.put_slot.ensures.no_wait; puts = c.put_slot.ensures.now; later = g.met.B.Blocks.keeps_all two three c.put_slot.ensures.keeps } in
    second_pinned linked

pub put_slot-requires-2-clause-current : goal.put_slot-requires-2-clause-current
put_slot-requires-2-clause-current g c =
    let on = c.args.on.now in
    let one = c.new_block-top.new.self in
    let two = c.new_block-leaf.new.self in
    let given : Given c.root-root.result c.new_block-top.result c.new_block-leaf.result (g.B.Blocks.state on) (g.B.Blocks.state one) (g.B.Blocks.state two) = record { is_root = c.root-root.ensures; had = c.requires.root; first = c.new_block-top.ensures.gives; second = c.new_block-leaf.ensures.gives; all = g.met.B.Blocks.keeps_all on one c.new_block-top.ensures.keeps; more = g.met.B.Blocks.keeps_all one two c.new_block-leaf.ensures.keeps } in
    let three = c.put_slot.new.self in
    let linked : Linked c.root-root.result c.new_block-top.result c.new_block-leaf.result c.two_leaves.result (g.B.Blocks.state on) (g.B.Blocks.state one) (g.B.Blocks.state two) (g.B.Blocks.state three) = record { given = given; is = c.two_leaves.ensures; frame = c.put_slot.ensures.frame; order = c.put_slot.ensures.order; no_wait = c.put_slot.ensures.no_wait; puts = c.put_slot.ensures.now; later = g.met.B.Blocks.keeps_all two three c.put_slot.ensures.keeps } in
    second_current linked

pub put_slot-requires-2-clause-spelled : goal.put_slot-requires-2-clause-spelled
put_slot-requires-2-clause-spelled g c =
    let on = c.args.on.now in
    let one = c.new_block-top.new.self in
    let two = c.new_block-leaf.new.self in
    let given : Given c.root-root.result c.new_block-top.result c.new_block-leaf.result (g.B.Blocks.state on) (g.B.Blocks.state one) (g.B.Blocks.state two) = record { is_root = c.root-root.ensures; had = c.requires.root; first = c.new_block-top.ensures.gives; second = c.new_block-leaf.ensures.gives; all = g.met.B.Blocks.keeps_all on one c.new_block-top.ensures.keeps; more = g.met.B.Blocks.keeps_all one two c.new_block-leaf.ensures.keeps } in
    let three = c.put_slot.new.self in
    let linked : Linked c.root-root.result c.new_block-top.result c.new_block-leaf.result c.two_leaves.result (g.B.Blocks.state on) (g.B.Blocks.state one) (g.B.Blocks.state two) (g.B.Blocks.state three) = record { given = given; is = c.two_leaves.ensures; frame = c.put_slot.ensures.frame; order = c.put_slot.ensures.order; no_wait = c.put_slot.ensures.no_wait; puts = c.put_slot.ensures.now; later = g.met.B.Blocks.keeps_all two three c.put_slot.ensures.keeps } in
    second_spelled linked (g.met.B.Blocks.small two c.new_block-leaf.result c.new_block-leaf.ensures.gives.is.0)

pub put_slot-requires-2-clause-settled : goal.put_slot-requires-2-clause-settled
put_slot-requires-2-clause-settled g c =
    let on = c.args.on.now in
    let one = c.new_block-top.new.self in
    let two = c.new_block-leaf.new.self in
    let given : Given c.root-root.result c.new_block-top.result c.new_block-leaf.result (g.B.Blocks.state on) (g.B.Blocks.state one) (g.B.Blocks.state two) = record { is_root = c.root-root.ensures; had = c.requires.root; first = c.new_block-top.ensures.gives; second = c.new_block-leaf.ensures.gives; all = g.met.B.Blocks.keeps_all on one c.new_block-top.ensures.keeps; more = g.met.B.Blocks.keeps_all one two c.new_block-leaf.ensures.keeps } in
    let three = c.put_slot.new.self in
    let linked : Linked c.root-root.result c.new_block-top.result c.new_block-leaf.result c.two_leaves.result (g.B.Blocks.state on) (g.B.Blocks.state one) (g.B.Blocks.state two) (g.B.Blocks.state three) = record { given = given; is = c.two_leaves.ensures; frame = c.put_slot.ensures.frame; order = c.put_slot.ensures.order; no_wait = c.put_slot.ensures.no_wait; puts = c.put_slot.ensures.now; later = g.met.B.Blocks.keeps_all two three c.put_slot.ensures.keeps } in
    second_settled linked

pub put_slot-requires-2-clause-same_use : goal.put_slot-requires-2-clause-same_use
put_slot-requires-2-clause-same_use g c =
    let on = c.args.on.now in
    let one = c.new_block-top.new.self in
    let two = c.new_block-leaf.new.self in
    let given : Given c.root-root.result c.new_block-top.result c.new_block-leaf.result (g.B.Blocks.state on) (g.B.Blocks.state one) (g.B.Blocks.state two) = record { is_root = c.root-root.ensures; had = c.requires.root; first = c.new_block-top.ensures.gives; second = c.new_block-leaf.ensures.gives; all = g.met.B.Blocks.keeps_all on one c.new_block-top.ensures.keeps; more = g.met.B.Blocks.keeps_all one two c.new_block-leaf.ensures.keeps } in
    let three = c.put_slot.new.self in
    let linked : Linked c.root-root.result c.new_block-top.result c.new_block-leaf.result c.two_leaves.result (g.B.Blocks.state on) (g.B.Blocks.state one) (g.B.Blocks.state two) (g.B.Blocks.state three) = record { given = given; is = c.two_leaves.ensures; frame = c.put_slot.ensures.frame; order = c.put_slot.ensures.order; no_wait = c.put_slot.ensures.no_wait; puts = c.put_slot.ensures.now; later = g.met.B.Blocks.keeps_all two three c.put_slot.ensures.keeps } in
    λ a w. absurd (second_waits linked a w)

pub put_slot-requires-2-clause-leads : goal.put_slot-requires-2-clause-leads
put_slot-requires-2-clause-leads g c =
    let on = c.args.on.now in
    let one = c.new_block-top.new.self in
    let two = c.new_block-leaf.new.self in
    let given : Given c.root-root.result c.new_block-top.result c.new_block-leaf.result (g.B.Blocks.state on) (g.B.Blocks.state one) (g.B.Blocks.state two) = record { is_root = c.root-root.ensures; had = c.requires.root; first = c.new_block-top.ensures.gives; second = c.new_block-leaf.ensures.gives; all = g.met.B.Blocks.keeps_all on one c.new_block-top.ensures.keeps; more = g.met.B.Blocks.keeps_all one two c.new_block-leaf.ensures.keeps } in
    let three = c.put_slot.new.self in
    let linked : Linked c.root-root.result c.new_block-top.result c.new_block-leaf.result c.two_leaves.result (g.B.Blocks.state on) (g.B.Blocks.state one) (g.B.Blocks.state two) (g.B.Blocks.state three) = record { given = given; is = c.two_leaves.ensures; frame = c.put_slot.ensures.frame; order = c.put_slot.ensures.order; no_wait = c.put_slot.ensures.no_wait; puts = c.put_slot.ensures.now; later = g.met.B.Blocks.keeps_all two three c.put_slot.ensures.keeps } in
    second_leads linked

pub put_slot-requires-2-clause-may : goal.put_slot-requires-2-clause-may
put_slot-requires-2-clause-may g c =
    λ told. absurd (c.requires.untold c.put_slot.new.self told)

pub put_slot-requires-2-clause-room : goal.put_slot-requires-2-clause-room
put_slot-requires-2-clause-room g c =
    let on = c.args.on.now in
    let one = c.new_block-top.new.self in
    let two = c.new_block-leaf.new.self in
    let given : Given c.root-root.result c.new_block-top.result c.new_block-leaf.result (g.B.Blocks.state on) (g.B.Blocks.state one) (g.B.Blocks.state two) = record { is_root = c.root-root.ensures; had = c.requires.root; first = c.new_block-top.ensures.gives; second = c.new_block-leaf.ensures.gives; all = g.met.B.Blocks.keeps_all on one c.new_block-top.ensures.keeps; more = g.met.B.Blocks.keeps_all one two c.new_block-leaf.ensures.keeps } in
    let three = c.put_slot.new.self in
    let linked : Linked c.root-root.result c.new_block-top.result c.new_block-leaf.result c.two_leaves.result (g.B.Blocks.state on) (g.B.Blocks.state one) (g.B.Blocks.state two) (g.B.Blocks.state three) = record { given = given; is = c.two_leaves.ensures; frame = c.put_slot.ensures.frame; order = c.put_slot.ensures.order; no_wait = c.put_slot.ensures.no_wait; puts = c.put_slot.ensures.now; later = g.met.B.Blocks.keeps_all two three c.put_slot.ensures.keeps } in
    second_room linked

pub put_slot-requires-2-clause-tops : goal.put_slot-requires-2-clause-tops
put_slot-requires-2-clause-tops g c =
    let on = c.args.on.now in
    let one = c.new_block-top.new.self in
    let two = c.new_block-leaf.new.self in
    let given : Given c.root-root.result c.new_block-top.result c.new_block-leaf.result (g.B.Blocks.state on) (g.B.Blocks.state one) (g.B.Blocks.state two) = record { is_root = c.root-root.ensures; had = c.requires.root; first = c.new_block-top.ensures.gives; second = c.new_block-leaf.ensures.gives; all = g.met.B.Blocks.keeps_all on one c.new_block-top.ensures.keeps; more = g.met.B.Blocks.keeps_all one two c.new_block-leaf.ensures.keeps } in
    let three = c.put_slot.new.self in
    let linked : Linked c.root-root.result c.new_block-top.result c.new_block-leaf.result c.two_leaves.result (g.B.Blocks.state on) (g.B.Blocks.state one) (g.B.Blocks.state two) (g.B.Blocks.state three) = record { given = given; is = c.two_leaves.ensures; frame = c.put_slot.ensures.frame; order = c.put_slot.ensures.order; no_wait = c.put_slot.ensures.no_wait; puts = c.put_slot.ensures.now; later = g.met.B.Blocks.keeps_all two three c.put_slot.ensures.keeps } in
    λ n x lt e. absurd (second_drops linked n lt)

pub returns-clause-tree : goal.returns-clause-tree
returns-clause-tree g c =
    let on = c.args.on.now in
    let one = c.new_block-top.new.self in
    let two = c.new_block-leaf.new.self in
    let given : Given c.root-root.result c.new_block-top.result c.new_block-leaf.result (g.B.Blocks.state on) (g.B.Blocks.state one) (g.B.Blocks.state two) = record { is_root = c.root-root.ensures; had = c.requires.root; first = c.new_block-top.ensures.gives; second = c.new_block-leaf.ensures.gives; all = g.met.B.Blocks.keeps_all on one c.new_block-top.ensures.keeps; more = g.met.B.Blocks.keeps_all one two c.new_block-leaf.ensures.keeps } in
    let three = c.put_slot.new.self in
    let linked : Linked c.root-root.result c.new_block-top.result c.new_block-leaf.result c.two_leaves.result (g.B.Blocks.state on) (g.B.Blocks.state one) (g.B.Blocks.state two) (g.B.Blocks.state three) = record { given = given; is = c.two_leaves.ensures; frame = c.put_slot.ensures.frame; order = c.put_slot.ensures.order; no_wait = c.put_slot.ensures.no_wait; puts = c.put_slot.ensures.now; later = g.met.B.Blocks.keeps_all two three c.put_slot.ensures.keeps } in
    let last = c.put_slot-2.new.self in
    has_tree linked c.put_slot-2.ensures.frame c.put_slot-2.ensures.order c.put_slot-2.ensures.now (g.met.B.Blocks.keeps_all three last c.put_slot-2.ensures.keeps)

pub returns-clause-spare : goal.returns-clause-spare
returns-clause-spare g c =
    let one = c.new_block-top.ensures.gives.uses.spare in
    let two = c.new_block-leaf.ensures.gives.uses.spare in
    let three = c.put_slot.ensures.frame.uses.spare in
    let four = c.put_slot-2.ensures.frame.uses.spare in
    omega (arith, one, two, three, four)
