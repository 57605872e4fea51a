use Rattle.std.proofs.Common.{◌≡◌, ◌<◌, ◌≤◌, ℕ, [], length, sym, subst, arith}
use Rattle.fo_disk.specs.Disk.{DiskState, IsSettled, latest_of, versions_of}
use Rattle.fo_labels.specs.Spelled.{SpellsLabels}
use Rattle.fo_mind.specs.MindParts.{parts}
use Rattle.fo_opening.proofs.Refusing.{read_last, table_last}
use Rattle.fo_opening.proofs.opening.open.Goals as goal

pub open-requires-clause-size : goal.open-requires-clause-size
open-requires-clause-size g c = let e = c.in-Ok.ensures.opens.labels.count_is in omega (arith, e)

pub open-requires-clause-settled : goal.open-requires-clause-settled
open-requires-clause-settled g c = subst (λ (s : DiskState). (b : ℕ) → b < length s.holds → IsSettled s.holds b) (sym c.learn.ensures.state) c.requires

pub open-requires-clause-labels : goal.open-requires-clause-labels
open-requires-clause-labels g c =
    let mind = c.in-Ok.mind in
    subst (λ (s : DiskState). (b : ℕ) → 2 ≤ b → b < mind.labels.first → b < length s.holds → SpellsLabels mind.labels b (latest_of (versions_of s.holds b))) (sym c.learn.ensures.state)
    (table_last (g.D.Disk.size c.learn.new.main) (g.D.Disk.state c.args.main).holds (parts mind [] 0) c.requires c.in-Ok.ensures.opens)

pub open-requires-clause-one : goal.open-requires-clause-one
open-requires-clause-one g c =
    let mind = c.in-Ok.mind in
    subst (λ (s : DiskState). 1 < length s.holds → latest_of (versions_of s.holds 1) ≡ mind.one_bytes) (sym c.learn.ensures.state)
    (read_last (g.D.Disk.state c.args.main).holds 1 mind.one_bytes c.requires c.in-Ok.ensures.opens.one.read)
