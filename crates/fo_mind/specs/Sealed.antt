-- Blocks that were there when all was settled.
use Rattle.std.specs.Prelude.{◌≡◌, ℕ, true, List}
use Rattle.fo_facts.specs.declared.fact.Fact.{Fact}
use Rattle.fo_facts.specs.Known.{fact_at}
use Rattle.fo_raising.specs.Raised.{KeepsCounts}
use Rattle.fo_mind.specs.Parts.{IsPinned, Parts}

-- Some blocks are sealed that weren't; all else that is known of addresses stays.
pub record Seals (old new : List Fact) : Type 0 where
  pub counts : KeepsCounts old new
  pub apart : (b : ℕ) → (fact_at new b).apart ≡ (fact_at old b).apart
  pub origin : (b : ℕ) → (fact_at new b).origin ≡ (fact_at old b).origin
  pub fresh : (b : ℕ) → (fact_at new b).fresh ≡ (fact_at old b).fresh
  pub sealed : (b : ℕ) → (fact_at old b).sealed ≡ true → (fact_at new b).sealed ≡ true

-- a block is sealed, where it is in the tree of memory
abbrev pub IsSealedIn : List Fact → ℕ → Type 0
IsSealedIn facts b = (fact_at facts b).linked ≡ true → (fact_at facts b).sealed ≡ true

-- Pinned blocks that are in the tree of memory are sealed.
pub record SealsPinned (old new : Parts) : Type 0 where
  pub seals : Seals old.facts new.facts
  pub pinned : (b : ℕ) → IsPinned old.held b → IsSealedIn new.facts b
  pub rest : new ≡ record old { facts = new.facts }
