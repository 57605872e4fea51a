-- A plain world of files: trees, epochs, snapshots and archives (fossil(4) of the Plan 9 manual; Quinlan, McKie and Cox, "Fossil, an Archival File Server").
use Rattle.std.specs.Prelude.{ℕ, List, Bool}
use Rattle.fo_world.specs.declared.tree.Tree.{Tree}

-- a snapshot: its epoch, when it was taken (seconds since 1970-01-01 UTC), and its tree
pub record Snap : Type 0 where
  pub epoch : ℕ
  pub time : ℕ
  pub tree : Tree

-- an archive: the snapshot that it was made of, and the score under which the arena has it
pub record Archive : Type 0 where
  pub epoch : ℕ
  pub time : ℕ
  pub score : List ℕ
  pub tree : Tree

pub record World : Type 0 where
  pub active : Tree
  pub low : ℕ
  pub high : ℕ
  -- the snapshots that are kept, those of the epochs from low on and below high, in ascending order
  pub snaps : List Snap
  -- the archives, oldest first
  pub archives : List Archive
  -- the epoch of the snapshot that is to be archived, or 0
  pub pending : ℕ
  -- the number of the next file that is made
  pub next : ℕ
  pub halted : Bool
  -- the numbers of the files that are open for exclusive use
  pub exclusive : List ℕ

-- how many calls of each device have failed so far
pub record Faults : Type 0 where
  pub main : ℕ
  pub arena : ℕ
