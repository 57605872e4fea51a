use Rattle.std.proofs.Common.{arith}
use Rattle.std.proofs.lemmas.Grind.{common_steps}
use Rattle.fo_world.proofs.Ascending.{Ascending-remove}
use Rattle.fo_world.proofs.tree.rename_at.Goals as goal

pub place_for-i-requires : goal.place_for-i-requires
place_for-i-requires c =
    rw (c.as_slice.ensures.value, c.remove-node.ensures.items, c.in_ok-reserve.ensures.items) (Ascending-remove _ _ c.requires.ascending)

pub returns-clause-after : goal.returns-clause-after
returns-clause-after c =
    λ d.
    rw (c.in-Ok.ensures.items, c.place_for-i.ensures.place, c.as_slice.ensures.value, c.as_slice-2.ensures, c.remove-node.ensures.items, c.put.ensures, c.remove-node.ensures.value, c.in_ok-reserve.ensures.items)
    (grind (arith, common_steps, c.requires.index))
