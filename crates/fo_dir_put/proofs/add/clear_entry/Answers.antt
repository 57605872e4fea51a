use Rattle.std.proofs.Common.{◌≡◌, ◌⊎◌, inl, inr, ⊎_elim, ℕ, ◌+◌, ◌*◌, ◌/◌, ◌%◌, ◌<◌, sym, subst, arith}
use Rattle.std.proofs.lemmas.Bool.{cases_lt}
use Rattle.fo_image.specs.declared.types.Kind.{Kind}
use Rattle.fo_crash.proofs.Names.{entry_cleared}
use Rattle.fo_dir_put.specs.Names.{ListsIn}
use Rattle.fo_dir_put.proofs.Nothing.{may_remove}
use Rattle.fo_dir_put.proofs.Aparts.{slot_shows}
use Rattle.fo_dir_put.proofs.Finds.{slot_finds, finds_shows}
use Rattle.fo_ports.specs.Blocks.{slot_count}
use Rattle.fo_dir_put.proofs.Clearing.{cleared_nil, clears_alone}
use Rattle.fo_dir_put.proofs.Paired.{clear_paired}
use Rattle.fo_dir_put.proofs.add.clear_entry.Goals as goal
use Rattle.fo_dirties.proofs.Putting.{dirties_here}

pub remove_slot-requires-clause-may : goal.remove_slot-requires-clause-may
remove_slot-requires-clause-may g c = λ told.
    let may = c.requires.may told in
    (may_remove c.args.entries c.args.j c.requires.entries.leaf_kind may.none_comes may.quiet c.requires.entries.uncovered (c.requires.entries.linked told), inr (may.is_sealed, may.waits))

pub returns-clause-fit : goal.returns-clause-fit
returns-clause-fit g c = λ n lacks all. record { are = entry_cleared (ListsIn n) c.args.leaf c.args.entries all.are c.remove_slot.ensures.images (λ g' lists. lacks.each g' lists) }

pub returns-clause-shows : goal.returns-clause-shows
returns-clause-shows g c = slot_shows c.remove_slot.ensures.images

halves : (j : ℕ) → (j ≡ 2 * (j / 2)) ⊎ (j ≡ 2 * (j / 2) + 1)
halves j = ⊎_elim (λ lt. inr (omega (arith, lt))) (λ le. inl (omega (arith, le))) (cases_lt 0 (j % 2))

pub returns-clause-paired : goal.returns-clause-paired
returns-clause-paired g c = λ n a e free all.
    let s = g.B.Blocks.state c.args.on.now in
    let t = g.B.Blocks.state c.remove_slot.new.self in
    clear_paired s t n a e (c.args.j / 2) c.args.leaf (halves c.args.j) c.remove_slot.ensures.images (⊎_elim (λ h. inl (h.0, h.2)) (λ h. inr h.0) c.remove_slot.ensures.now) free all

pub returns-clause-entry : goal.returns-clause-entry
returns-clause-entry g c = ⊎_elim (λ h. inl (h.0.here, h.1)) (λ h. inr ((h.0.each c.args.entries).slots c.args.j, h.1)) c.remove_slot.ensures.now

pub returns-clause-settled : goal.returns-clause-settled
returns-clause-settled g c = λ free. ⊎_elim (λ h. h.2) (λ h. absurd (free h.1)) c.remove_slot.ensures.now

pub returns-clause-alone : goal.returns-clause-alone
returns-clause-alone g c =
    let s = g.B.Blocks.state c.args.on.now in
    let within = subst (λ (k : Kind). c.args.j < slot_count k) (sym c.requires.entries.leaf_kind) c.requires.within in
    let nil = cleared_nil (s.label c.args.entries).kind c.args.j ((s.now c.args.entries).slot c.args.j) c.requires.entries.leaf_kind (g.met.B.Blocks.spelled c.args.on.now c.args.entries c.args.j c.requires.entries.is_pinned within) in
    clears_alone (g.met.B.Blocks.keeps_all c.args.on.now c.remove_slot.new.self c.remove_slot.ensures.keeps) c.remove_slot.ensures.frame c.remove_slot.ensures.hangs c.remove_slot.ensures.no_wait nil (⊎_elim (λ h. inl h.0) (λ h. inr h.0) c.remove_slot.ensures.now)

pub returns-clause-later : goal.returns-clause-later
returns-clause-later g c = c.remove_slot.ensures.later

pub returns-clause-dirty : goal.returns-clause-dirty
returns-clause-dirty g c = c.remove_slot.ensures.frame.dirty

pub returns-clause-queues : goal.returns-clause-queues
returns-clause-queues g c = c.remove_slot.ensures.queues

pub returns-clause-dirties : goal.returns-clause-dirties
returns-clause-dirties g c =
    let r = c.remove_slot.ensures in
    dirties_here c.args.entries (g.met.B.Blocks.keeps_all c.args.on.now c.remove_slot.new.self r.keeps) r.frame.dirty (λ x. r.frame.stays.labels x (λ n. n)) (λ x j h. ⊎_elim (λ old. inl old) (λ is. inr is.0) ((r.order x j).0 h))

pub returns-clause-shown : goal.returns-clause-shown
returns-clause-shown g c =
    let s = g.B.Blocks.state c.args.on.now in
    let within = subst (λ (k : Kind). c.args.j < slot_count k) (sym c.requires.entries.leaf_kind) c.requires.within in
    let nil = cleared_nil (s.label c.args.entries).kind c.args.j ((s.now c.args.entries).slot c.args.j) c.requires.entries.leaf_kind (g.met.B.Blocks.spelled c.args.on.now c.args.entries c.args.j c.requires.entries.is_pinned within) in
    finds_shows (slot_finds nil c.remove_slot.ensures.images)
