-- What files that tell nothing say of their room and their faults.
use Rattle.std.specs.Prelude.{◌≡◌, ℕ, ◌+◌, ◌≤◌, [], true, false}
use Rattle.std.proofs.Common.{arith}
use Rattle.fo_world.specs.World.{World, Faults}
use Rattle.fo_world.specs.Dated.{adm}
use Rattle.fo_world.specs.Names.{no_names}
use Rattle.fo_world.specs.Answers.{NotFewer}
use Rattle.fo_world.specs.declared.tree.Body.TheVariants.{Dir}
use Rattle.test_blocks.specs.declared.careless.CarelessFiles.{CarelessFiles}

-- some world: nothing that is answered is a function of it
abbrev pub nowhere : World
nowhere = record { active = record { root = record { number = 0; vers = 0; mode = 0; atime = 0; mtime = 0; uid = adm; gid = adm; muid = adm; body = Dir no_names } }; low = 1; high = 1; snaps = []; archives = []; pending = 0; next = 1; halted = false; exclusive = [] }

abbrev pub counted : CarelessFiles → Faults
counted f = record { main = f.failed; arena = 0 }

-- nothing is to be written, and so many blocks are usable
abbrev pub HasRoom : CarelessFiles → ℕ → Type 0
HasRoom f n = (f.clean ≡ true) × (f.usable ≡ n)

-- Faults are counted, and the room stays where it is known.
pub record Keeps (old new : CarelessFiles) : Type 0 where
  pub faults : old.failed ≤ new.failed
  pub room : (n : ℕ) → HasRoom old n → HasRoom new n

-- Faults are counted, and no more than so many blocks are taken.
pub record Takes (n : ℕ) (old new : CarelessFiles) : Type 0 where
  pub faults : old.failed ≤ new.failed
  pub room : (r q : ℕ) → HasRoom old r → HasRoom new q → r ≤ q + n

pub keeps_at_once : (a : CarelessFiles) → Keeps a a
keeps_at_once a = record { faults = omega arith; room = λ n h. h }

pub keeps_joins : (a b c : CarelessFiles) → Keeps a b → Keeps b c → Keeps a c
keeps_joins a b c p q = let one = p.faults in let two = q.faults in record { faults = omega (arith, one, two); room = λ n h. q.room n (p.room n h) }

pub keeps_takes : (a b : CarelessFiles) → Keeps a b → Takes 0 a b
keeps_takes a b p = record { faults = p.faults; room = λ r q h k. let same = (p.room r h).1 in let is = k.1 in omega (arith, same, is) }

pub keeps_then : (a b c : CarelessFiles) (n : ℕ) → Keeps a b → Takes n b c → Takes n a c
keeps_then a b c n p q = let one = p.faults in let two = q.faults in record { faults = omega (arith, one, two); room = λ r m h k. q.room r m (p.room r h) k }

pub takes_more : (a b : CarelessFiles) (n m : ℕ) → n ≤ m → Takes n a b → Takes m a b
takes_more a b n m le p = record { faults = p.faults; room = λ r q h k. let most = p.room r q h k in omega (arith, le, most) }

pub takes_faults : (a b : CarelessFiles) (n : ℕ) → Takes n a b → NotFewer (counted a) (counted b)
takes_faults a b n p = record { main = p.faults; arena = omega arith }

pub keeps_faults : (a b : CarelessFiles) → Keeps a b → NotFewer (counted a) (counted b)
keeps_faults a b p = record { main = p.faults; arena = omega arith }
