-- A look at a leaf, and the causes of its refusals.
use Rattle.std.proofs.Common.{◌≢◌, ℕ, ⊎_elim, sym, subst}
use Rattle.std.proofs.lemmas.Bool.{cases_eq}
use Rattle.fo_crash.specs.declared.place.Place.{Place}
use Rattle.fo_crash.specs.Images.{Image, to_block, Reaches}
use Rattle.fo_crash.specs.Places.{super_place, root_place}
use Rattle.fo_crash.proofs.Places.{stands_below}
use Rattle.fo_ports.specs.Causes.{Caused}
use Rattle.fo_ports.specs.declared.error.BlockError.{BlockError}
use Rattle.fo_ports.specs.declared.error.BlockError.TheVariants.{Full, Damaged, Fault, Arena, Memory}
use Rattle.fo_ports_clients.proofs.Tree.{Tree}

-- A cause that follows.
pub caused_by : (full fault arena : Type 0) {P Q : ℕ → Type 0} (e : BlockError) → ((b : ℕ) → P b → Q b) → Caused full P fault arena e → Caused full Q fault arena e
caused_by full fault arena Full follows cause = cause
caused_by full fault arena (Damaged at) follows cause = follows at cause
caused_by full fault arena (Fault which) follows cause = cause
caused_by full fault arena (Arena which) follows cause = cause
caused_by full fault arena Memory follows cause = tt

-- What hangs from a top stands at a place.
pub top_reaches : {stands : ℕ → Place → Type 0} {now : Image} {tops : ℕ → Type 0} {top at : ℕ} → Tree stands now → ((t : ℕ) → tops t → t ≢ 1 → stands t root_place) → tops top → Reaches now (to_block top) at → (p : Place) × stands at p
top_reaches {stands} {top = top} tree roots is r = ⊎_elim
    (λ one. let below = stands_below super_place tree.placed tree.falls (subst (λ x. stands x super_place) (sym one) tree.super_stands) r in (below.0, below.1))
    (λ ne. let below = stands_below root_place tree.placed tree.falls (roots top is ne) r in (below.0, below.1))
    (cases_eq top 1)
