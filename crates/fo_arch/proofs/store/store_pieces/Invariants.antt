use Rattle.std.proofs.Common.{List, ℕ, ◌≡◌, ◌≤◌}
use Rattle.venti_store.specs.Arena.{lines_of, Keeps}
use Rattle.fo_arch.specs.Forms.{AreNamed, StoresMore}
use Rattle.fo_arch.specs.Stores.{IsMore, PutsAll, Took, Stores}
use Rattle.fo_arch.proofs.store.store_pieces.Given as goal

abbrev pub invariant-loop-i : goal.invariant-loop-i
invariant-loop-i g l = record {
  took : Took l.pieces.items l.i l.initial.done l.done;
  more : StoresMore l.initial.done l.done;
  named : AreNamed l.initial.done (lines_of l.initial.arena.shelf) → AreNamed l.done (lines_of l.arena.shelf);
  puts : PutsAll l.pieces.items (lines_of l.initial.arena.shelf) l.i (lines_of l.arena.shelf);
  lines : IsMore (lines_of l.initial.arena.shelf) (lines_of l.arena.shelf);
  keeps : (stored : List (List ℕ)) (synced : ℕ) → Keeps l.initial.arena.shelf stored synced (g.A.Disk.state l.initial.arena.device)
      → Stores l.pieces.items l.initial.done l.done l.initial.arena.shelf l.arena.shelf stored synced (g.A.Disk.state l.initial.arena.device).moments (g.A.Disk.state l.arena.device);
  blocks : l.arena.shelf.blocks ≡ l.initial.arena.shelf.blocks;
  later : g.A.Disk.faults l.initial.arena.device ≤ g.A.Disk.faults l.arena.device;
}
