use Rattle.std.proofs.Common.{◌≡◌, ◌+◌, ◌<◌, ◌≤◌, ◌⊎◌, sym, subst, arith}
use Rattle.fo_image.specs.declared.types.Kind.{Kind}
use Rattle.fo_image.specs.declared.types.Pointer.TheVariants.{Local}
use Rattle.fo_crash.specs.declared.slot.Slot.TheVariants.{Entry as Head}
use Rattle.fo_crash.specs.Images.{target}
use Rattle.fo_ports.specs.Blocks.{slot_count}
use Rattle.fo_ports.specs.State.{Frame}
use Rattle.fo_dir_put.proofs.Nothing.{free_is_empty, never_drops, nil_cost, may_put_nil}
use Rattle.fo_dir_put.proofs.Calms.{slot_calm}
use Rattle.fo_dir_put.proofs.Aparts.{slot_shows}
use Rattle.fo_dir_put.proofs.pair.put_entry.Goals as goal
use Rattle.fo_dirties.proofs.Putting.{dirties_frame}

pub put_slot-requires-clause-may : goal.put_slot-requires-clause-may
put_slot-requires-clause-may g c = λ told.
    let s = g.B.Blocks.state c.args.on.now in
    let within = subst (λ (k : Kind). c.args.j < slot_count k) (sym c.requires.owned.leaf_kind) c.requires.within in
    let empty = free_is_empty (s.label c.args.entries).kind c.args.j ((s.now c.args.entries).slot c.args.j) c.requires.owned.leaf_kind (g.met.B.Blocks.spelled c.args.on.now c.args.entries c.args.j c.requires.owned.is_pinned within) c.requires.unused.free in
    may_put_nil c.args.entries c.args.j (Head c.args.entry) c.requires.new.empty empty.0 c.requires.owned.uncovered (c.requires.owned.linked told)

pub put_slot-requires-clause-room : goal.put_slot-requires-clause-room
put_slot-requires-clause-room g c =
    let s = g.B.Blocks.state c.args.on.now in
    let slot = (s.now c.args.entries).slot c.args.j in
    let within = subst (λ (k : Kind). c.args.j < slot_count k) (sym c.requires.owned.leaf_kind) c.requires.within in
    let empty = free_is_empty (s.label c.args.entries).kind c.args.j slot c.requires.owned.leaf_kind (g.met.B.Blocks.spelled c.args.on.now c.args.entries c.args.j c.requires.owned.is_pinned within) c.requires.unused.free in
    subst (λ n. n ≤ s.room) (sym (nil_cost slot (Head c.args.entry) empty.1 empty.0)) (omega arith)

pub put_slot-requires-clause-tops : goal.put_slot-requires-clause-tops
put_slot-requires-clause-tops g c = λ n x lt e.
    let s = g.B.Blocks.state c.args.on.now in
    let slot = (s.now c.args.entries).slot c.args.j in
    let within = subst (λ (k : Kind). c.args.j < slot_count k) (sym c.requires.owned.leaf_kind) c.requires.within in
    let empty = free_is_empty (s.label c.args.entries).kind c.args.j slot c.requires.owned.leaf_kind (g.met.B.Blocks.spelled c.args.on.now c.args.entries c.args.j c.requires.owned.is_pinned within) c.requires.unused.free in
    absurd (never_drops slot (Head c.args.entry) n empty.1 lt)

pub returns-clause-calm : goal.returns-clause-calm
returns-clause-calm g c =
    let s = g.B.Blocks.state c.args.on.now in
    let t = g.B.Blocks.state c.put_slot.new.self in
    let slot = (s.now c.args.entries).slot c.args.j in
    let within = subst (λ (k : Kind). c.args.j < slot_count k) (sym c.requires.owned.leaf_kind) c.requires.within in
    let empty = free_is_empty (s.label c.args.entries).kind c.args.j slot c.requires.owned.leaf_kind (g.met.B.Blocks.spelled c.args.on.now c.args.entries c.args.j c.requires.owned.is_pinned within) c.requires.unused.free in
    let frame = subst (λ n. Frame (λ b. b ≡ c.args.entries) (λ b. (b ≡ c.args.entries) ⊎ (target (Head c.args.entry) ≡ Local b)) n s t) (nil_cost slot (Head c.args.entry) empty.1 empty.0) c.put_slot.ensures.frame in
    let all = g.met.B.Blocks.keeps_all c.args.on.now c.put_slot.new.self c.put_slot.ensures.keeps in
    slot_calm all frame c.put_slot.ensures.hangs c.put_slot.ensures.order c.put_slot.ensures.now c.put_slot.ensures.covers (λ b h. all.still_tells.0 (g.met.B.Blocks.covers_told c.put_slot.new.self b h)) (λ b h. g.met.B.Blocks.covers_told c.args.on.now b h) c.requires.new.empty empty.0 c.requires.unused.settled

pub returns-clause-room : goal.returns-clause-room
returns-clause-room g c =
    let s = g.B.Blocks.state c.args.on.now in
    let t = g.B.Blocks.state c.put_slot.new.self in
    let slot = (s.now c.args.entries).slot c.args.j in
    let within = subst (λ (k : Kind). c.args.j < slot_count k) (sym c.requires.owned.leaf_kind) c.requires.within in
    let empty = free_is_empty (s.label c.args.entries).kind c.args.j slot c.requires.owned.leaf_kind (g.met.B.Blocks.spelled c.args.on.now c.args.entries c.args.j c.requires.owned.is_pinned within) c.requires.unused.free in
    let left : t.room + 0 ≡ s.room = subst (λ n. t.room + n ≡ s.room) (nil_cost slot (Head c.args.entry) empty.1 empty.0) c.put_slot.ensures.frame.uses.room in
    omega (arith, left)

pub returns-clause-shows : goal.returns-clause-shows
returns-clause-shows g c = slot_shows c.put_slot.ensures.images

pub returns-clause-dirties : goal.returns-clause-dirties
returns-clause-dirties g c = dirties_frame c.args.entries (g.met.B.Blocks.keeps_all c.args.on.now c.put_slot.new.self c.put_slot.ensures.keeps) c.put_slot.ensures.frame c.put_slot.ensures.order
