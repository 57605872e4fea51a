use Rattle.std.proofs.Common.{◌≡◌, inl, inr, ⊎_elim, ◌+◌, ◌*◌, ◌/◌, ◌<◌, ◌≤◌, ℕ, [], ◌∷◌, length, sym, ◌∙◌, ap, subst, arith}
use Rattle.fo_image.specs.declared.types.Kind.{Kind}
use Rattle.fo_image.specs.declared.types.Label.{Label}
use Rattle.fo_image.specs.declared.types.Pointer.TheVariants.{Nil, Local}
use Rattle.fo_crash.specs.declared.slot.Slot.{Slot}
use Rattle.fo_crash.specs.declared.slot.Slot.TheVariants.{Entry as Head}
use Rattle.fo_crash.specs.declared.place.Place.{Place}
use Rattle.fo_crash.specs.Images.{target, depth_of}
use Rattle.fo_crash.specs.Names.{IsInUse}
use Rattle.fo_crash.proofs.Names.{free_entry_put, leaf_put}
use Rattle.fo_ports.specs.Blocks.{MayPut, put_at}
use Rattle.fo_ports.specs.State.{IsRooted}
use Rattle.fo_ports.proofs.Lengths.{length_put_at}
use Rattle.fo_ports_clients.specs.Leaf.{Lists}
use Rattle.fo_ports_clients.proofs.Leaf.{put_lists, bytes_beside, still_all, free_is_empty, never_drops, few_slots, place_is, plain_formed, may_put_nil, nil_cost, nil_places, nil_rooted, calm_rooted, held_rooted, still_uncovered, nil_local, nil_instead}
use Rattle.fo_ports_clients.proofs.names.add_name.Given as given
use Rattle.fo_ports_clients.proofs.names.add_name.Goals as goal

pub put_slot-requires-clause-same_use : goal.put_slot-requires-clause-same_use
put_slot-requires-clause-same_use g c = λ a w.
    let even = c.requires.first in
    ⊎_elim
    (λ own. absurd (c.requires.free own.0 own.1))
    (λ pair. let odd = pair.1 in absurd (omega (arith, even, odd)))
    (g.met.B.Blocks.waits_in_use c.args.on.now a c.args.entries c.args.i w)

pub put_slot-requires-clause-leads : goal.put_slot-requires-clause-leads
put_slot-requires-clause-leads g c = λ b e.
    let none : Nil ≡ Local b = sym c.requires.empty ∙ e in
    absurd (cc)

pub put_slot-requires-clause-may : goal.put_slot-requires-clause-may
put_slot-requires-clause-may g c = λ told.
    let s = g.B.Blocks.state c.args.on.now in
    let empty = free_is_empty (s.label c.args.entries).kind c.args.i ((s.now c.args.entries).slot c.args.i) (g.met.B.Blocks.spelled c.args.on.now c.args.entries c.args.i c.requires.entries_pinned c.requires.slots) c.requires.free c.args.entry c.requires.spelled in
    may_put_nil c.args.entries c.args.i (Head c.args.entry) c.requires.empty empty.0 empty.1 c.requires.uncovered.1 (c.requires.held told).0

pub put_slot-requires-clause-room : goal.put_slot-requires-clause-room
put_slot-requires-clause-room g c =
    let s = g.B.Blocks.state c.args.on.now in
    let slot = (s.now c.args.entries).slot c.args.i in
    let empty = free_is_empty (s.label c.args.entries).kind c.args.i slot (g.met.B.Blocks.spelled c.args.on.now c.args.entries c.args.i c.requires.entries_pinned c.requires.slots) c.requires.free c.args.entry c.requires.spelled in
    subst (λ n. n ≤ s.room) (sym (nil_cost slot (Head c.args.entry) empty.1 empty.0)) (omega arith)

pub put_slot-requires-clause-tops : goal.put_slot-requires-clause-tops
put_slot-requires-clause-tops g c = λ n x lt e.
    let s = g.B.Blocks.state c.args.on.now in
    let slot = (s.now c.args.entries).slot c.args.i in
    let empty = free_is_empty (s.label c.args.entries).kind c.args.i slot (g.met.B.Blocks.spelled c.args.on.now c.args.entries c.args.i c.requires.entries_pinned c.requires.slots) c.requires.free c.args.entry c.requires.spelled in
    absurd (never_drops slot (Head c.args.entry) n empty.1 lt)

was_empty : (g : given.Over) (c : goal.After-wait_for-arg-1 g) → (target (((g.B.Blocks.state c.args.on.now).now c.args.entries).slot c.args.i) ≡ Nil) × (depth_of (((g.B.Blocks.state c.args.on.now).now c.args.entries).slot c.args.i) ≡ 0)
was_empty g c =
    let s = g.B.Blocks.state c.args.on.now in
    free_is_empty (s.label c.args.entries).kind c.args.i ((s.now c.args.entries).slot c.args.i) (g.met.B.Blocks.spelled c.args.on.now c.args.entries c.args.i c.requires.entries_pinned c.requires.slots) c.requires.free c.args.entry c.requires.spelled

same_room : (g : given.Over) (c : goal.After-wait_for-arg-1 g) → (g.B.Blocks.state c.put_slot.new.self).room ≡ (g.B.Blocks.state c.args.on.now).room
same_room g c =
    let s = g.B.Blocks.state c.args.on.now in
    let t = g.B.Blocks.state c.put_slot.new.self in
    let slot = (s.now c.args.entries).slot c.args.i in
    let empty = was_empty g c in
    let left : t.room + 0 ≡ s.room = subst (λ n. t.room + n ≡ s.room) (nil_cost slot (Head c.args.entry) empty.1 empty.0) c.put_slot.ensures.frame.uses.room in
    omega (arith, left)

-- what hung before the put hangs after it
put_rooted : (g : given.Over) (c : goal.After-wait_for-arg-1 g) (b : ℕ) → IsRooted (g.B.Blocks.state c.args.on.now) b → IsRooted (g.B.Blocks.state c.put_slot.new.self) b
put_rooted g c = nil_rooted (g.met.B.Blocks.keeps_all c.args.on.now c.put_slot.new.self c.put_slot.ensures.keeps) c.put_slot.ensures.frame c.put_slot.ensures.hangs c.put_slot.ensures.now c.requires.empty (was_empty g c).0

stays : (g : given.Over) (c : goal.After-wait_for-arg-1 g) → (g.B.Blocks.state c.args.on.now).tells → (b : ℕ) (p : Place) → ((g.B.Blocks.state c.args.on.now).covered b → ⊥) → IsRooted (g.B.Blocks.state c.args.on.now) b → (g.B.Blocks.state c.args.on.now).stands b p → (g.B.Blocks.state c.put_slot.new.self).stands b p
stays g c told b p uncovered rooted at_p = nil_places told c.put_slot.ensures.frame c.put_slot.ensures.hangs (c.put_slot.ensures.covers told) c.requires.empty (was_empty g c).0 b p uncovered (put_rooted g c b rooted) at_p

pub wait_for-requires-clause-room : goal.wait_for-requires-clause-room
wait_for-requires-clause-room g c = let same = same_room g c in let room = c.requires.room in omega (arith, same, room)

pub wait_for-requires-clause-lower : goal.wait_for-requires-clause-lower
wait_for-requires-clause-lower g c = λ told.
    let before = (g.met.B.Blocks.keeps_all c.args.on.now c.put_slot.new.self c.put_slot.ensures.keeps).still_tells.0 told in
    let low = c.requires.lower before in
    let held = c.requires.held before in
    let entries_held = held_rooted (g.B.Blocks.state c.args.on.now) c.args.entries (g.met.B.Blocks.active c.args.on.now).0 held.0 in
    let one = g.met.B.Blocks.one_place c.put_slot.new.self in (
      (c.put_slot.ensures.frame.stays.marks c.args.leaf (λ n. n)).1 (c.requires.sealed before),
      λ p q leaf_at entries_at.
          let leaf_is : p ≡ low.upper_at = place_is c.args.leaf low.upper_at p one (stays g c before c.args.leaf low.upper_at c.requires.uncovered.0 held.1 low.upper_stands) leaf_at in
          let entries_is : q ≡ low.lower_at = place_is c.args.entries low.lower_at q one (stays g c before c.args.entries low.lower_at c.requires.uncovered.1 entries_held low.lower_stands) entries_at in
          omega (arith, ap (λ (x : Place). x.rank) leaf_is, ap (λ (x : Place). x.rank) entries_is, low.falls),
    )

pub put_bytes-requires-clause-within : goal.put_bytes-requires-clause-within
put_bytes-requires-clause-within g c =
    let small : c.args.i < 409 = few_slots ((g.B.Blocks.state c.args.on.now).label c.args.entries).kind c.args.i c.requires.slots in
    let same = (c.wait_for.ensures.now.each c.args.leaf).bytes ∙ c.put_slot.ensures.now.bytes c.args.leaf in
    omega (arith, small, ap length same, c.requires.leaf_long)

pub put_bytes-requires-clause-place : goal.put_bytes-requires-clause-place
put_bytes-requires-clause-place g c =
    let label = c.wait_for.ensures.calm.frame.stays.labels c.args.leaf (λ n. n) ∙ c.put_slot.ensures.frame.stays.labels c.args.leaf (λ n. n) in
    subst (λ (k : Kind). MayPut k c.args.i (c.args.i + 1)) (sym (ap (λ (l : Label). l.kind) label ∙ c.requires.leaf_kind)) (omega arith)

pub put_bytes-requires-clause-formed : goal.put_bytes-requires-clause-formed
put_bytes-requires-clause-formed g c = λ told p stands.
    let on = c.args.on.now in
    let s = g.B.Blocks.state on in
    let u = g.B.Blocks.state c.wait_for.new.self in
    let between = (g.met.B.Blocks.keeps_all c.put_slot.new.self c.wait_for.new.self c.wait_for.ensures.keeps).still_tells.0 told in
    let before = (g.met.B.Blocks.keeps_all on c.put_slot.new.self c.put_slot.ensures.keeps).still_tells.0 between in
    let empty = free_is_empty (s.label c.args.entries).kind c.args.i ((s.now c.args.entries).slot c.args.i) (g.met.B.Blocks.spelled on c.args.entries c.args.i c.requires.entries_pinned c.requires.slots) c.requires.free c.args.entry c.requires.spelled in
    let low = c.requires.lower before in
    let covers = c.put_slot.ensures.covers before in
    let put_all = g.met.B.Blocks.keeps_all on c.put_slot.new.self c.put_slot.ensures.keeps in
    let mid_rooted = nil_rooted put_all c.put_slot.ensures.frame c.put_slot.ensures.hangs c.put_slot.ensures.now c.requires.empty empty.0 c.args.leaf (c.requires.held before).1 in
    let wait_rooted = calm_rooted (g.met.B.Blocks.keeps_all c.put_slot.new.self c.wait_for.new.self c.wait_for.ensures.keeps) c.wait_for.ensures.calm (λ x j. (c.wait_for.ensures.now.each x).slots j) c.args.leaf mid_rooted in
    let mid_stands = nil_places before c.put_slot.ensures.frame c.put_slot.ensures.hangs covers c.requires.empty empty.0 c.args.leaf low.upper_at c.requires.uncovered.0 mid_rooted low.upper_stands in
    let spared : (g.B.Blocks.state c.wait_for.new.self).covered c.args.leaf → ⊥ = λ h. still_uncovered c.args.leaf covers empty.0 c.requires.uncovered.0 ((c.wait_for.ensures.calm.covered.covered c.args.leaf).0 h) in
    let there = c.wait_for.ensures.calm.frame.stays.places between c.args.leaf low.upper_at (λ n. n) (λ n. n) spared wait_rooted mid_stands in
    let is : p ≡ low.upper_at = place_is c.args.leaf low.upper_at p (g.met.B.Blocks.one_place c.wait_for.new.self) there stands in
    let at_place = c.requires.leaf_place before p (subst (λ (x : Place). s.stands c.args.leaf x) (sym is) low.upper_stands) in
    let small : c.args.i < 409 = few_slots (s.label c.args.entries).kind c.args.i c.requires.slots in
    let long : length ((u.now c.args.leaf).bytes) ≡ 8192 = ap length ((c.wait_for.ensures.now.each c.args.leaf).bytes ∙ c.put_slot.ensures.now.bytes c.args.leaf) ∙ c.requires.leaf_long in
    plain_formed p.kind p.rank (put_at c.args.i (c.args.generation ∷ []) ((u.now c.args.leaf).bytes)) at_place.0 at_place.1
    (length_put_at c.args.i (c.args.generation ∷ []) ((u.now c.args.leaf).bytes) (omega (arith, small, long)) ∙ long)

pub returns-clause-fit : goal.returns-clause-fit
returns-clause-fit g c =
    let s = g.B.Blocks.state c.args.on.now in
    let t = g.B.Blocks.state c.put_slot.new.self in
    let u = g.B.Blocks.state c.wait_for.new.self in
    let i = c.args.i in
    let k = i / 2 in
    let entries = c.args.entries in
    let even = c.requires.first in
    let is_first : 2 * k ≡ i = omega (arith, even) in
    let put = free_entry_put Lists c.args.leaf entries c.requires.fit c.put_slot.ensures.images c.requires.free in
    let all = still_all put c.wait_for.ensures.images in
    let settled : t.clearing entries i → ⊥ = λ h. c.requires.settled (c.put_slot.ensures.order.clearing entries i h).1 in
    let used : IsInUse ((t.now entries).slot i) c.args.generation = subst (λ (x : Slot). IsInUse x c.args.generation) (sym c.put_slot.ensures.now.here) (c.requires.active, c.requires.same) in
    let waits_at : u.waits c.args.leaf entries (2 * k) = (c.wait_for.ensures.waits.0.each k c.args.generation (subst (λ j. IsInUse ((t.now entries).slot j) c.args.generation) (sym is_first) used) (subst (λ j. t.clearing entries j → ⊥) (sym is_first) settled)).0 in
    let waits : u.waits c.args.leaf entries i = subst (λ j. u.waits c.args.leaf entries j) is_first waits_at in
    let entry_is : (u.now entries).slot i ≡ Head c.args.entry = (c.wait_for.ensures.now.each entries).slots i ∙ c.put_slot.ensures.now.here in
    let small : i < 409 = few_slots (s.label entries).kind i c.requires.slots in
    let same = (c.wait_for.ensures.now.each c.args.leaf).bytes ∙ c.put_slot.ensures.now.bytes c.args.leaf in
    let lt : i < length ((u.now c.args.leaf).bytes) = omega (arith, small, ap length same, c.requires.leaf_long) in
    leaf_put Lists c.args.leaf entries {waits = λ j. u.waits c.args.leaf entries j × (u.clearing entries j → ⊥)} all (bytes_beside c.put_bytes.ensures.images (λ image h j w. h entries j w.0 w.1))
    (λ j n lists. ⊎_elim
    (λ was. inl was)
    (λ h. inr (
      subst (λ x. u.waits c.args.leaf entries x × (u.clearing entries x → ⊥)) (sym h.0) (waits, λ x. settled (c.wait_for.ensures.calm.order.clearing entries i x).1),
      subst (λ (x : Slot). IsInUse x n) (sym entry_is ∙ ap (λ x. (u.now entries).slot x) (sym h.0)) (c.requires.active, c.requires.same ∙ sym h.1),
    ))
    (put_lists ((u.now c.args.leaf).bytes) i c.args.generation lt j n lists))

pub returns-clause-order : goal.returns-clause-order
returns-clause-order g c = λ b j. (
  λ h. (c.put_slot.ensures.order.clearing b j (c.wait_for.ensures.calm.order.clearing b j (c.put_bytes.ensures.calm.order.clearing b j h).1).1).1,
  λ h. c.put_bytes.ensures.calm.order.goes_on b j (λ n. n) (c.wait_for.ensures.calm.order.goes_on b j (λ n. n) (c.put_slot.ensures.order.goes_on b j (λ n. n) h)),
)

pub returns-clause-room : goal.returns-clause-room
returns-clause-room g c =
    let on = c.args.on.now in
    let s = g.B.Blocks.state on in
    let t = g.B.Blocks.state c.put_slot.new.self in
    let slot = (s.now c.args.entries).slot c.args.i in
    let empty = free_is_empty (s.label c.args.entries).kind c.args.i slot (g.met.B.Blocks.spelled on c.args.entries c.args.i c.requires.entries_pinned c.requires.slots) c.requires.free c.args.entry c.requires.spelled in
    let left : t.room + 0 ≡ s.room = subst (λ n. t.room + n ≡ s.room) (nil_cost slot (Head c.args.entry) empty.1 empty.0) c.put_slot.ensures.frame.uses.room in
    let waited = c.wait_for.ensures.calm.frame.uses.room in
    let put = c.put_bytes.ensures.calm.frame.uses.room in
    omega (arith, left, waited, put)

pub returns-clause-place : goal.returns-clause-place
returns-clause-place g c = λ told p stands.
    let on = c.args.on.now in
    let s = g.B.Blocks.state on in
    let empty = free_is_empty (s.label c.args.entries).kind c.args.i ((s.now c.args.entries).slot c.args.i) (g.met.B.Blocks.spelled on c.args.entries c.args.i c.requires.entries_pinned c.requires.slots) c.requires.free c.args.entry c.requires.spelled in
    let covers = c.put_slot.ensures.covers told in
    let between = (g.met.B.Blocks.keeps_all on c.put_slot.new.self c.put_slot.ensures.keeps).still_tells.1 told in
    let later = (g.met.B.Blocks.keeps_all c.put_slot.new.self c.wait_for.new.self c.wait_for.ensures.keeps).still_tells.1 between in
    let wait = c.wait_for.ensures.calm in
    let put = c.put_bytes.ensures.calm in
    let spared : (g.B.Blocks.state c.wait_for.new.self).covered c.args.leaf → ⊥ = λ h. still_uncovered c.args.leaf covers empty.0 c.requires.uncovered.0 ((wait.covered.covered c.args.leaf).0 h) in
    let mid_rooted = nil_rooted (g.met.B.Blocks.keeps_all on c.put_slot.new.self c.put_slot.ensures.keeps) c.put_slot.ensures.frame c.put_slot.ensures.hangs c.put_slot.ensures.now c.requires.empty empty.0 c.args.leaf (c.requires.held told).1 in
    let wait_rooted = calm_rooted (g.met.B.Blocks.keeps_all c.put_slot.new.self c.wait_for.new.self c.wait_for.ensures.keeps) wait (λ x j. (c.wait_for.ensures.now.each x).slots j) c.args.leaf mid_rooted in
    let last_rooted = calm_rooted (g.met.B.Blocks.keeps_all c.wait_for.new.self c.put_bytes.new.self c.put_bytes.ensures.keeps) put c.put_bytes.ensures.now.slots c.args.leaf wait_rooted in
    put.frame.stays.places later c.args.leaf p (λ n. n) (λ n. n) (λ h. spared ((put.covered.covered c.args.leaf).0 h)) last_rooted
    (wait.frame.stays.places between c.args.leaf p (λ n. n) (λ n. n) spared wait_rooted
    (nil_places told c.put_slot.ensures.frame c.put_slot.ensures.hangs covers c.requires.empty empty.0 c.args.leaf p c.requires.uncovered.0 mid_rooted stands))

pub returns-clause-instead : goal.returns-clause-instead
returns-clause-instead g c = λ y x is.
    let wait = c.wait_for.ensures.calm.frame.stays in
    let put = c.put_bytes.ensures.calm.frame.stays in
    nil_instead c.put_slot.ensures.frame c.put_slot.ensures.hangs (λ b e. nil_local c.requires.empty e) (λ b h. h) y x ((wait.instead y x (λ n. n) (λ n. n)).0 ((put.instead y x (λ n. n) (λ n. n)).0 is))

pub returns-clause-usable : goal.returns-clause-usable
returns-clause-usable g c =
    let put = c.put_slot.ensures.frame.uses in
    let wait = c.wait_for.ensures.calm.frame.uses in
    let bytes = c.put_bytes.ensures.calm.frame.uses in
    let put_spare = put.spare in
    let wait_spare = wait.spare in
    let bytes_spare = bytes.spare in
    let put_usable = put.usable in
    let wait_usable = wait.usable in
    let bytes_usable = bytes.usable in
    (omega (arith, put_spare, wait_spare, bytes_spare), omega (arith, put_usable, wait_usable, bytes_usable))
