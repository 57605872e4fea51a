-- What a command says, wherever its lists lie in memory.
use Rattle.std.specs.Prelude.{ℕ, List, Bool}
use Rattle.fo_console.specs.declared.command.Command.{Command}
use Rattle.fo_console.specs.declared.command.Command.TheVariants.{Sync, Snap, Epoch, Low, Cancel, Df, Check, Halt, Unhalt, Create, Remove, Stat, Users}

-- the commands; a path is the list of its names
pub data Said : Type 0 where
  sync : Said
  snap : Bool → Said
  epoch : Said
  low : ℕ → Said
  cancel : Said
  df : Said
  check : Said
  halt : Said
  unhalt : Said
  create : List (List ℕ) → List ℕ → List ℕ → ℕ → Said
  remove : List (List ℕ) → Said
  stat : List (List ℕ) → Said
  users : Said

abbrev pub said : Command → Said
said Sync = sync
said (Snap archive) = snap archive
said Epoch = epoch
said (Low n) = low n
said Cancel = cancel
said Df = df
said Check = check
said Halt = halt
said Unhalt = unhalt
said (Create path uid gid perm) = create path.items uid gid perm
said (Remove path) = remove path.items
said (Stat path) = stat path.items
said Users = users
