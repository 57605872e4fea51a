-- What a put of a slot does to what is known of addresses.
use Rattle.std.specs.Prelude.{◌≡◌, ◌≢◌, ℕ, Bool, true, false, cond, List, length, count_by, None}
use Rattle.fo_image.specs.declared.types.Kind.{Kind}
use Rattle.fo_image.specs.declared.types.Pointer.{Pointer}
use Rattle.fo_image.specs.declared.types.Pointer.TheVariants.{Nil, Local, Score as Stored}
use Rattle.fo_crash.specs.Images.{target}
use Rattle.fo_slots.specs.of_ports.Blocks.{IsInner}
use Rattle.fo_slots.specs.Read.{read}
use Rattle.fo_facts.specs.declared.fact.Fact.{Fact}
use Rattle.fo_facts.specs.Counts.{owes, is_made}
use Rattle.fo_facts.specs.Known.{come_as, fact_at, instead_of, noted, origin_over}

-- a block that was made, put nowhere yet, and not to come in the place of another
pub record IsNewTop (f : Fact) : Type 0 where
  pub apart : f.apart ≡ true
  pub none : f.origin ≡ None

-- Slot i is slot 0 of a new block of pointers from which nothing hangs.
pub record Raises (f : Fact) (kind : Kind) (i : ℕ) (bytes : List ℕ) : Type 0 where
  pub top : IsNewTop f
  pub inner : IsInner kind
  pub first : i ≡ 0
  pub none : (j x : ℕ) → target ((read kind bytes).slot j) ≢ Local x

-- ---- facts, as they are then

-- the block is raised over b, or not
abbrev pub raised_over : List Fact → ℕ → ℕ → Bool → List Fact
raised_over facts at b raised = cond raised (noted facts at (instead_of (origin_over b (fact_at facts b)))) facts

-- the block is apart no more
abbrev pub come : List Fact → ℕ → List Fact
come facts b = noted facts b come_as

-- a slot of block `at` was put that leads there
abbrev pub hung : List Fact → ℕ → Pointer → Bool → List Fact
hung facts at Nil raised = facts
hung facts at (Local b) raised = come (raised_over facts at b raised) b
hung facts at (Stored score) raised = facts

-- ---- what of them is seen

-- What is put is apart no more, and a block that was raised over it comes in its place; all else stays.
pub record Marked (at : ℕ) (to : Pointer) (raised : Bool) (old new : List Fact) : Type 0 where
  pub others : (b : ℕ) → ((fact_at new b).linked ≡ (fact_at old b).linked) × ((fact_at new b).fresh ≡ (fact_at old b).fresh) × ((fact_at new b).sealed ≡ (fact_at old b).sealed) × ((fact_at new b).rank ≡ (fact_at old b).rank)
  pub apart : (b : ℕ) → to ≢ Local b → (fact_at new b).apart ≡ (fact_at old b).apart
  pub put : (b : ℕ) → to ≡ Local b → (fact_at new b).apart ≡ false
  pub origin : (b : ℕ) → b ≢ at → (fact_at new b).origin ≡ (fact_at old b).origin
  pub over : (b : ℕ) → to ≡ Local b → (fact_at new at).origin ≡ cond raised (origin_over b (fact_at old b)) (fact_at old at).origin
  pub calm : ((b : ℕ) → to ≢ Local b) → (fact_at new at).origin ≡ (fact_at old at).origin

-- As many owe and were made, and the same.
pub record KeepsCounts (old new : List Fact) : Type 0 where
  pub as_long : length new ≡ length old
  pub owed : count_by owes new ≡ count_by owes old
  pub made : count_by is_made new ≡ count_by is_made old
  pub each : (b : ℕ) → ((fact_at new b).owes ≡ (fact_at old b).owes) × ((fact_at new b).linked ≡ (fact_at old b).linked)
