-- Records in the bytes of a block.
use Rattle.std.specs.Prelude.{◌≡◌, ◌+◌, ◌-◌, ◌^◌, ◌<◌, ◌≤◌, ◌++◌, ℕ, codes, List, take, drop, length}
use Rattle.std.specs.List.{AllByRecursion}
use Rattle.fo_image.specs.declared.record.Record.{Record}
use Rattle.fo_image.specs.declared.record.RootBlock.{RootBlock}
use Rattle.fo_image.specs.Record.{SpellsRecord, RootRecordHolds, SpellsRoot, record_len}
use Rattle.fo_image.specs.Field.{Four, number, zeros}
use Rattle.fo_image.specs.Format.{IsEpoch}
use Rattle.fo_ports.specs.of_meta.Leaf.{HasSpelling, record_bytes, records_bytes}

-- The bytes spell a record.
pub record IsRecord (bytes : List ℕ) : Type 0 where
  pub one : Record
  pub spells : SpellsRecord one bytes

-- The bytes spell the record of a root directory.
pub record IsRootRecord (bytes : List ℕ) : Type 0 where
  pub one : Record
  pub spells : SpellsRecord one bytes
  pub root : RootRecordHolds one

-- A record stands from one place up to another.
pub record RecordTo (leaf : List ℕ) (at end : ℕ) : Type 0 where
  pub one : Record
  pub spelled : HasSpelling one
  pub here : take (record_len one) (drop at leaf) ≡ record_bytes one
  pub end_is : end ≡ at + record_len one
  pub within : end ≤ length leaf

-- So many records stand one after the other, from byte 4 up to a place.
pub record RunsTo (leaf : List ℕ) (n at : ℕ) : Type 0 where
  pub records : List Record
  pub count : length records ≡ n
  pub each : AllByRecursion HasSpelling records
  pub here : take (length (records_bytes records)) (drop 4 leaf) ≡ records_bytes records
  pub at_is : at ≡ 4 + length (records_bytes records)
  pub within : at ≤ length leaf

-- Behind a place there are the zeros of a leaf of these records.
pub record EndsAt (leaf : List ℕ) (rs : List Record) (at : ℕ) : Type 0 where
  pub at_is : at ≡ 4 + length (records_bytes rs)
  pub rest : drop at leaf ≡ zeros (8188 - length (records_bytes rs))

-- The bytes with which a root block begins: its epoch and its time.
pub record IsRootHead (head : List ℕ) : Type 0 where
  pub epoch : ℕ
  pub time : ℕ
  pub is_epoch : IsEpoch epoch
  pub time_fits : time < 2 ^ 32
  pub here : head ≡ codes "FOSSILRT" ++ (number Four epoch ++ number Four time)

-- The bytes behind the slots of a root block: the record of the root, and zeros.
pub record IsRootTail (tail : List ℕ) : Type 0 where
  pub one : Record
  pub spelled : HasSpelling one
  pub root : RootRecordHolds one
  pub here : tail ≡ record_bytes one ++ zeros (8088 - record_len one)

-- The bytes are those of a root block, but for the bytes that spell slots.
pub record IsRootBeside (bytes : List ℕ) : Type 0 where
  pub block : RootBlock
  pub whole : List ℕ
  pub spells : SpellsRoot block whole
  pub before : take 16 whole ≡ take 16 bytes
  pub behind : drop 104 whole ≡ drop 104 bytes
