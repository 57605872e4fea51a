use Rattle.std.proofs.Common.{◌≡◌, inl, inr, ⊎_elim, ◌+◌, ◌*◌, ◌<◌, ℕ, List, [], ◌∷◌, length, get_or, sym, ◌∙◌, ap, subst, arith}
use Rattle.fo_image.specs.declared.types.Kind.{Kind}
use Rattle.fo_image.specs.declared.types.Label.{Label}
use Rattle.fo_crash.specs.declared.slot.Slot.{Slot}
use Rattle.fo_crash.specs.Images.{Reaches}
use Rattle.fo_crash.specs.Names.{IsInUse}
use Rattle.fo_crash.proofs.Names.{leaf_put, entry_cleared}
use Rattle.fo_crash.proofs.Covers.{bytes_reach}
use Rattle.fo_ports.specs.Blocks.{MayPut, put_at}
use Rattle.fo_ports.proofs.Lengths.{length_put_at}
use Rattle.fo_ports_clients.specs.Leaf.{Lists}
use Rattle.fo_ports_clients.proofs.Leaf.{put_lists, gone, bytes_beside, few_slots, plain_formed, may_remove, bytes_reached, nil_instead, cleared_nowhere}
use Rattle.fo_ports_clients.proofs.names.remove_name.Goals as goal

pub put_bytes-requires-clause-within : goal.put_bytes-requires-clause-within
put_bytes-requires-clause-within g c =
    let small : c.args.i < 409 = few_slots ((g.B.Blocks.state c.args.on.now).label c.args.entries).kind c.args.i c.requires.slots in
    omega (arith, small, c.requires.leaf_long)

pub put_bytes-requires-clause-place : goal.put_bytes-requires-clause-place
put_bytes-requires-clause-place g c = subst (λ (k : Kind). MayPut k c.args.i (c.args.i + 1)) (sym c.requires.leaf_kind) (omega arith)

pub put_bytes-requires-clause-formed : goal.put_bytes-requires-clause-formed
put_bytes-requires-clause-formed g c = λ told p stands.
    let s = g.B.Blocks.state c.args.on.now in
    let at_place = c.requires.leaf_place told p stands in
    let small : c.args.i < 409 = few_slots (s.label c.args.entries).kind c.args.i c.requires.slots in
    plain_formed p.kind p.rank (put_at c.args.i (0 ∷ []) ((s.now c.args.leaf).bytes)) at_place.0 at_place.1
    (length_put_at c.args.i (0 ∷ []) ((s.now c.args.leaf).bytes) (omega (arith, small, c.requires.leaf_long)) ∙ c.requires.leaf_long)

pub remove_slot-requires-clause-settled : goal.remove_slot-requires-clause-settled
remove_slot-requires-clause-settled g c = λ h. c.requires.settled (c.put_bytes.ensures.calm.order.clearing c.args.entries c.args.i h).1

pub remove_slot-requires-clause-may : goal.remove_slot-requires-clause-may
remove_slot-requires-clause-may g c = λ told.
    let s = g.B.Blocks.state c.args.on.now in
    let t = g.B.Blocks.state c.put_bytes.new.self in
    let was = (g.met.B.Blocks.keeps_all c.args.on.now c.put_bytes.new.self c.put_bytes.ensures.keeps).still_tells.0 told in
    let calm = c.put_bytes.ensures.calm in
    let puts = c.put_bytes.ensures.now in (
      may_remove c.args.entries c.args.i
          (ap (λ (l : Label). l.kind) (calm.frame.stays.labels c.args.entries (λ n. n)) ∙ c.requires.entries_kind)
          (λ y x is. c.requires.linked was y x ((calm.frame.stays.instead y x (λ n. n) (λ n. n)).0 is))
          (λ b j waits r. c.requires.quiet was b j (calm.order.clearing b j waits).1 (subst (λ (x : Slot). Reaches s.now x b) (puts.slots c.args.entries c.args.i) (bytes_reach puts r)))
          (λ h. c.requires.uncovered was ((calm.covered.covered c.args.entries).0 h))
          (bytes_reached puts (c.requires.reached was)),
      inr (
        (calm.frame.stays.marks c.args.entries (λ n. n)).1 (c.requires.entries_sealed was),
        ⊎_elim
            (λ h. inl (h.0, h.1, (h.2.0, subst (λ (x : Slot). IsInUse x h.2.0) (sym (puts.slots c.args.entries c.args.i)) h.2.1)))
            (λ h. inr (h.0, h.1, calm.order.goes_on c.args.entries (2 * h.0) (λ n. n) h.2))
            (c.requires.waits was),
      ),
    )

pub returns-clause-fit : goal.returns-clause-fit
returns-clause-fit g c =
    let s = g.B.Blocks.state c.args.on.now in
    let t = g.B.Blocks.state c.put_bytes.new.self in
    let small : c.args.i < 409 = few_slots (s.label c.args.entries).kind c.args.i c.requires.slots in
    let lt : c.args.i < length ((s.now c.args.leaf).bytes) = omega (arith, small, c.requires.leaf_long) in
    let all = leaf_put Lists c.args.leaf c.args.entries {waits = λ j. ⊥} c.requires.fit
    (bytes_beside c.put_bytes.ensures.images (λ image h j w. absurd w))
    (λ j n lists. ⊎_elim
    (λ was. inl was)
    (λ h. let zero_lt : 0 < n = lists.1 in let n_is : n ≡ 0 = h.1 in absurd (omega arith))
    (put_lists ((s.now c.args.leaf).bytes) c.args.i 0 lt j n lists)) in
    let none : get_or ((t.now c.args.leaf).bytes) c.args.i 0 ≡ 0 =
    ap (λ (xs : List ℕ). get_or xs c.args.i 0) c.put_bytes.ensures.now.here ∙ gone ((s.now c.args.leaf).bytes) c.args.i 0 lt in
    entry_cleared Lists c.args.leaf c.args.entries all c.remove_slot.ensures.images
    (λ n lists. let e : 0 ≡ n = sym none ∙ lists.0 in let p : 0 < n = lists.1 in omega arith)

pub returns-clause-instead : goal.returns-clause-instead
returns-clause-instead g c = λ y x is.
    let put = c.put_bytes.ensures.calm.frame.stays in
    let slot = ((g.B.Blocks.state c.put_bytes.new.self).now c.args.entries).slot c.args.i in
    (put.instead y x (λ n. n) (λ n. n)).0 (nil_instead c.remove_slot.ensures.frame c.remove_slot.ensures.hangs (cleared_nowhere slot) (λ b h. inl h) y x is)

pub returns-clause-order : goal.returns-clause-order
returns-clause-order g c = λ b j.
    let put = c.put_bytes.ensures.calm.order in
    let order = c.remove_slot.ensures.order b j in
    (λ h. ⊎_elim (λ was. inl (put.clearing b j was).1) (λ is. inr is) (order.0 h), λ h. order.1 (put.goes_on b j (λ n. n) h))

pub returns-clause-usable : goal.returns-clause-usable
returns-clause-usable g c =
    let put = c.put_bytes.ensures.calm.frame.uses in
    let remove = c.remove_slot.ensures.frame.uses in
    let put_spare = put.spare in
    let remove_spare = remove.spare in
    let put_usable = put.usable in
    let remove_usable = remove.usable in
    (omega (arith, put_spare, remove_spare), omega (arith, put_usable, remove_usable))
