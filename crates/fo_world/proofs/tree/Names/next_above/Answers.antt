use Rattle.std.proofs.Common.{sym, ap, ◌∙◌, Some, arith, ◌<◌, ◌≤◌, length}
use Rattle.std.specs.Option.{option_copied}
use Rattle.fo_world.specs.Places.{place_above}
use Rattle.fo_world.proofs.Changes.{next_above-item, next_above-none}
use Rattle.fo_world.proofs.tree.Names.next_above.Goals as goal

pub returns-then-i-len : goal.returns-then-i-len
returns-then-i-len c =
    let in_range : c.place_above-i.result < length c.self.inside.entries.items = omega arith in
    rw (← c.self.view_is)
    (ap Some c.index-entry.ensures ∙ sym (next_above-item (option_copied c.args.after) c.self.inside.entries.items c.index-entry.result.now c.place_above-i.result (rw c.as_slice.ensures.value at c.place_above-i.ensures.place) in_range))

pub returns-else-i-len : goal.returns-else-i-len
returns-else-i-len c =
    let at = rw c.as_slice.ensures.value at c.place_above-i.ensures.place in
    let none : length c.self.inside.entries.items ≤ place_above (option_copied c.args.after) c.self.inside.entries.items = omega arith in
    rw (← c.self.view_is) (sym (next_above-none (option_copied c.args.after) c.self.inside.entries.items none))
