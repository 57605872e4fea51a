-- The root directory's own record in its root block.
use Rattle.std.specs.Prelude.{◌≡◌, ℕ, List, take, drop}
use Rattle.fo_image.specs.declared.record.Record.{Record}
use Rattle.fo_image.specs.declared.record.RootBlock.{RootBlock}
use Rattle.fo_image.specs.declared.types.Kind.TheVariants.{Root}
use Rattle.fo_image.specs.Record.{SpellsRoot}
use Rattle.fo_crash.specs.Steps.{PutsBytes}
use Rattle.fo_ports.specs.Blocks.{put_at}
use Rattle.fo_ports.specs.State.{State, Looks, Calm}

-- Two blocks spell root blocks that differ in the own record alone, which in the second is this one.
pub record HasOwn (named : Record) (old new : List ℕ) : Type 0 where
  pub root : RootBlock
  pub was : SpellsRoot root old
  pub is : SpellsRoot (record root { own = named }) new

-- The root block of the active tree: a data block, pinned, and of the current epoch.
pub record IsRootAt (s : State) (root : ℕ) : Type 0 where
  pub is_one : s.is_block root
  pub is_pinned : s.pinned root
  pub current : (s.label root).epoch ≡ s.high
  pub root_kind : (s.label root).kind ≡ Root

-- Memory has of a block what these bytes have from byte 104 on and up to byte 16: so far bytes of a root block spell no slots.
pub record HasRoot (s : State) (root : ℕ) (bytes : List ℕ) : Type 0 where
  pub head : take 16 bytes ≡ take 16 ((s.now root).bytes)
  pub own : drop 104 bytes ≡ drop 104 ((s.now root).bytes)

-- A root block was looked at, up to the second of these states, and then got another record of its own; all else stays.
pub record PutsOwn (s m u : State) (root : ℕ) (named : Record) : Type 0 where
  pub looks : Looks s m
  pub old : List ℕ
  pub had : HasRoot m root old
  pub new : List ℕ
  pub has : HasRoot u root new
  pub own : HasOwn named old new
  pub puts : PutsBytes root (put_at 104 (drop 104 new) ((m.now root).bytes)) m.now u.now
  pub calm : Calm (λ b. b ≡ root) 0 m u
