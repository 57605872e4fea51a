-- What a turn does.
use Rattle.std.proofs.Common.{◌≡◌, ℕ, true, List, [], ◌∷◌, Some, None, slice_get, refl, sym, subst}
use Rattle.fo_disk.specs.Disk.{Content as Holds}
use Rattle.fo_unlink.specs.declared.removal.Removal.{Removal}
use Rattle.fo_unlink.specs.Pending.{Pending, way_level}
use Rattle.fo_unlink.specs.Steps.{ClosesNext}
use Rattle.fo_mind.specs.Parts.{Parts}
use Rattle.fo_mind.specs.Turning.{KeepsTurn}
use Rattle.fo_closing.specs.declared.turn.Closing.{Closing}
use Rattle.fo_closing.specs.declared.turn.Closing.TheVariants.{Closed as ClosedIs, Reads, Stays, GivenUp, Empty}
use Rattle.fo_closing.specs.Turned.{Decided, Goes, Turned, Went}

-- a block that the queue closes now was closed, or stays
pub went_closes : (out : Closing) (first : Removal) (p new : Parts) {block : List ℕ} {q r : Pending} {at : ℕ} → ClosesNext true q block r at → Decided out first (way_level r.way) at (record p { removals = r.removals }) new → Went out first block p new q r
went_closes (ClosedIs b) first p new {block} {q} {r} {at} next d = subst (λ n. Went (ClosedIs n) first block p new q r) (sym d.0) (next, d.1, d.2)
went_closes (Stays b) first p new {block} {q} {r} {at} next d = subst (λ n. Went (Stays n) first block p new q r) (sym d.0) (next, d.1, d.2)
went_closes (Reads b) first p new next d = absurd d
went_closes GivenUp first p new next d = absurd d
went_closes Empty first p new next d = absurd d

-- and with the turn that it took
pub went_turned : (out : Closing) (first : Removal) (p mid new : Parts) {block : List ℕ} {q r : Pending} {at : ℕ} → ClosesNext true q block r at → KeepsTurn (record p { removals = r.removals }) mid → Decided out first (way_level r.way) at mid new → (m : Parts) × KeepsTurn p m × Went out first block m new q r
went_turned out first p mid new {block} {q} {r} {at} next k d = (m, record { more = k.more; rest = refl }, went_closes out first m new next (subst (λ (x : Parts). Decided out first (way_level r.way) at x new) k.rest d))
  where
    m : Parts
    m = record p { turns = record p.turns { room = mid.turns.room } }

pub turned_of : (out : Closing) {disk : Holds} {old new : Parts} {q r : Pending} → Goes disk out old new q r → Turned disk out old new q r
turned_of (ClosedIs b) g = g
turned_of (Stays b) g = g
turned_of (Reads b) g = g
turned_of GivenUp g = absurd g.went
turned_of Empty g = absurd g.went

pub none_left : (rs : List Removal) → slice_get rs 0 ≡ None → rs ≡ []
none_left [] e = refl
none_left (r ∷ rs) e = absurd (clash e)
  where
    clash : Some r ≡ None → ⊥
    clash h = cc
