-- Why a removal is refused.
use Rattle.std.proofs.Common.{Bool}
use Rattle.fo_world.specs.declared.error.FileError.{FileError}
use Rattle.fo_world.specs.declared.error.FileError.TheVariants as error
use Rattle.fo_world.specs.declared.place.View.{View}
use Rattle.fo_files_along.specs.Along.{IsBlocks}
use Rattle.fo_files_take.specs.Take.{IsRefused}

-- a refusal of blocks is none by what the tree has
pub blocks_refused : (view : View) (halted : Bool) (dir : Type 0) (e : FileError) → IsBlocks e → IsRefused view halted dir e
blocks_refused view halted dir error.Memory is = tt
blocks_refused view halted dir error.Full is = tt
blocks_refused view halted dir error.MainRead is = tt
blocks_refused view halted dir error.MainWrite is = tt
blocks_refused view halted dir error.MainSync is = tt
blocks_refused view halted dir error.ArenaRead is = tt
blocks_refused view halted dir error.ArenaWrite is = tt
blocks_refused view halted dir error.ArenaSync is = tt
blocks_refused view halted dir (error.Damaged b) is = tt
blocks_refused view halted dir error.TooBig is = absurd is
blocks_refused view halted dir error.Exists is = absurd is
blocks_refused view halted dir error.Absent is = absurd is
blocks_refused view halted dir error.NotEmpty is = absurd is
blocks_refused view halted dir error.TooDeep is = absurd is
blocks_refused view halted dir error.NoNumbers is = absurd is
blocks_refused view halted dir error.NotDir is = absurd is
blocks_refused view halted dir error.IsDir is = absurd is
blocks_refused view halted dir error.ReadOnly is = absurd is
blocks_refused view halted dir error.Halted is = absurd is
blocks_refused view halted dir error.Gone is = absurd is
blocks_refused view halted dir error.DirFull is = absurd is

-- one for which no cause is asked of the tree has it with any
pub refused_wider : (view : View) (halted : Bool) (less more : Type 0) (e : FileError) → (less → more) → IsRefused view halted less e → IsRefused view halted more e
refused_wider view halted less more error.Memory wide is = tt
refused_wider view halted less more error.Full wide is = tt
refused_wider view halted less more error.MainRead wide is = tt
refused_wider view halted less more error.MainWrite wide is = tt
refused_wider view halted less more error.MainSync wide is = tt
refused_wider view halted less more error.ArenaRead wide is = tt
refused_wider view halted less more error.ArenaWrite wide is = tt
refused_wider view halted less more error.ArenaSync wide is = tt
refused_wider view halted less more (error.Damaged b) wide is = tt
refused_wider view halted less more error.TooBig wide is = is
refused_wider view halted less more error.Exists wide is = is
refused_wider view halted less more error.Absent wide is = is
refused_wider view halted less more error.NotEmpty wide is = (is.0, wide is.1)
refused_wider view halted less more error.TooDeep wide is = is
refused_wider view halted less more error.NoNumbers wide is = is
refused_wider view halted less more error.NotDir wide is = is
refused_wider view halted less more error.IsDir wide is = is
refused_wider view halted less more error.ReadOnly wide is = is
refused_wider view halted less more error.Halted wide is = is
refused_wider view halted less more error.Gone wide is = tt
refused_wider view halted less more error.DirFull wide is = is
