-- What a call on one leaf does to the list of the records of a directory.
use Rattle.std.specs.Prelude.{◌≡◌, ◌≢◌, ◌⊎◌, ℕ, List, ◌++◌, length}
use Rattle.fo_image.specs.declared.record.Record.{Record}
use Rattle.fo_image.specs.declared.types.Kind.TheVariants.{Dir}
use Rattle.fo_crash.specs.Images.{Image, Reaches, to_block}
use Rattle.fo_ports.specs.State.{State}
use Rattle.fo_ports.specs.Sources.{Leaves}
use Rattle.fo_dir_read.specs.Names.{AreRecords}
use Rattle.fo_dir_put.specs.Puts.{StaysCalm}

-- A call changed the bytes of one block, which keeps its length, and slots of leaves of entries that led nowhere; all else stays.
pub record ChangesLeaf (at : ℕ) (old new : State) : Type 0 where
  pub calm : StaysCalm old new
  pub slots : (b : ℕ) → ((old.label b).kind ≡ Dir 0) ⊎ ((j : ℕ) → (new.now b).slot j ≡ (old.now b).slot j)
  pub bytes : (b : ℕ) → b ≢ at → (new.now b).bytes ≡ (old.now b).bytes
  pub long : length ((new.now at).bytes) ≡ length ((old.now at).bytes)
  pub reached : (t c : ℕ) → Reaches old.now (to_block t) c → Reaches new.now (to_block t) c

-- The records of the directory are these but for the ones of one leaf, which were those and are these.
pub record HasRow (now : Image) (leaves : Leaves) (count : ℕ) (all was is : List Record) : Type 0 where
  pub front : List Record
  pub back : List Record
  pub before : all ≡ front ++ (was ++ back)
  pub are : AreRecords now leaves count (front ++ (is ++ back))

-- The same of two leaves, one after the other.
pub record HasRows (now : Image) (leaves : Leaves) (count : ℕ) (all was is were are_now : List Record) : Type 0 where
  pub front : List Record
  pub back : List Record
  pub before : all ≡ front ++ (was ++ back)
  pub then_front : List Record
  pub then_back : List Record
  pub between : front ++ (is ++ back) ≡ then_front ++ (were ++ then_back)
  pub are : AreRecords now leaves count (then_front ++ (are_now ++ then_back))
