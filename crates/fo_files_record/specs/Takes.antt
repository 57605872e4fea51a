-- A record that goes with its pair.
use Rattle.std.specs.Prelude.{◌≡◌, ◌⊎◌, ◌+◌, ◌*◌, ◌%◌, ℕ, List, Bool, true}
use Rattle.fo_image.specs.declared.record.Record.{Record}
use Rattle.fo_meta.specs.Leaf.{IsLeaf}
use Rattle.fo_dir_remove.specs.of_world.Step.{is_dir_mode}
use Rattle.fo_image.specs.declared.types.Pointer.TheVariants.{Local}
use Rattle.fo_crash.specs.Images.{target}
use Rattle.fo_crash.specs.Names.{IsInUse}
use Rattle.fo_ports.specs.State.{State, QueuesOne}
use Rattle.fo_dir_remove.specs.of_dir_change.Changes.{HasTaken, IsFirstOf}
use Rattle.fo_dir_remove.specs.Removes.{IsGoing}
use Rattle.fo_files_record.specs.Stays.{Rewrites, IsPairSlot, IsClean, no_slot}

-- The record is the first of this name in a leaf, has this pair, and is a directory's or not, as is said.
pub record IsOfPair (name leaf : List ℕ) (pair : ℕ) (is_dir : Bool) (r : Record) : Type 0 where
  pub first : IsFirstOf name leaf r
  pub slot_is : r.slot ≡ pair
  pub dir_is : is_dir_mode r.mode ≡ is_dir

-- The first record of a name went out of its leaf, and the entries of its own pair go. In between, in the second state, all was only looked at,
-- and settled where one of the leaves wasn't in place, or the record is a directory's. The first entry waits while the leaf is to be written, if it
-- wasn't newborn; where it leads on and went at once, a removal is queued.
pub record TakesOut (s m u : State) (leaf entries pair : ℕ) (name : List ℕ) (is_dir : Bool) : Type 0 where
  pub was_leaf : IsLeaf ((s.now leaf).bytes)
  pub gone : Record
  pub of_pair : IsOfPair name ((s.now leaf).bytes) pair is_dir gone
  pub used : IsInUse ((s.now entries).slot (2 * (pair % 102))) gone.generation
  pub rests : Rewrites (λ b. ⊥) no_slot s m
  pub in_place : (m.newborn entries ⊎ m.sealed entries) × (m.newborn leaf ⊎ m.sealed leaf)
  pub clean : is_dir ≡ true → IsClean m
  pub taken : HasTaken name ((s.now leaf).bytes) ((u.now leaf).bytes)
  pub first : IsGoing m u entries (2 * (pair % 102))
  pub second : is_dir ≡ true → IsGoing m u entries (2 * (pair % 102) + 1)
  pub later : u.dirty leaf → (m.newborn leaf → ⊥) → u.clearing entries (2 * (pair % 102))
  pub queues : (c : ℕ) → target ((m.now entries).slot (2 * (pair % 102))) ≡ Local c → u.clearing entries (2 * (pair % 102)) ⊎ QueuesOne m u
  pub stays : Rewrites (λ b. b ≡ leaf) (IsPairSlot entries (pair % 102) is_dir) m u
