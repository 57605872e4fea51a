use Rattle.std.specs.List.{AllWithin}
use Rattle.fo_dir_images.proofs.placed.are_sealed.Given as goal

-- the blocks so far are sealed
abbrev pub invariant-loop-block : goal.invariant-loop-block
invariant-loop-block g l = AllWithin (g.B.Blocks.state l.on).sealed l.blocks 0 l.block-index
