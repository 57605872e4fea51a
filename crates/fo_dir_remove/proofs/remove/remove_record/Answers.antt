use Rattle.std.proofs.Common.{◌≡◌, ◌⊎◌, inl, inr, ⊎_elim, ℕ, ◌-◌, ◌*◌, ◌/◌, ◌^◌, ◌<◌, ◌≤◌, length, List, refl, sym, ◌∙◌, ap, subst, arith}
use Rattle.fo_image.specs.declared.types.Kind.{Kind}
use Rattle.fo_image.specs.declared.types.Kind.TheVariants.{Data, Dir}
use Rattle.fo_image.specs.declared.types.Pointer.TheVariants.{Nil, Local}
use Rattle.fo_ports.specs.of_meta.Leaf.{SpellsLeaf}
use Rattle.fo_crash.specs.declared.slot.Slot.{Slot}
use Rattle.fo_crash.specs.Images.{Reaches, target}
use Rattle.fo_crash.specs.Spots.{OnePath}
use Rattle.fo_crash.specs.Steps.{cleared}
use Rattle.fo_crash.proofs.Spots.{one_path}
use Rattle.fo_ports.specs.Blocks.{slot_count}
use Rattle.fo_dir_change.specs.of_dir_put.Paired.{AllPaired, IsUnnamed}
use Rattle.fo_dir_change.specs.of_dir_put.Puts.{IsOwnedEntries}
use Rattle.fo_dir_change.proofs.of_dir_put.Calms.{records_put}
use Rattle.fo_dir_change.proofs.of_dir_put.Clearing.{cleared_nil}
use Rattle.fo_dir_change.proofs.of_dir_put.Leaves.{leaf_long}
use Rattle.fo_dir_change.proofs.of_dir_put.Named.{differ_shows}
use Rattle.fo_dir_change.proofs.of_dir_put.Once.{shows_once}
use Rattle.fo_dir_change.proofs.Without.{split_at}
use Rattle.fo_dir_remove.proofs.Goes.{calm_aside, calm_quiet, calm_clear, calm_entries, no_way_back, quiet_then, entries_then, records_then}
use Rattle.fo_dir_remove.proofs.Unnamed.{left_unnamed, is_gone}
use Rattle.fo_dir_remove.proofs.remove.remove_record.Given as given
use Rattle.fo_dir_remove.proofs.remove.remove_record.Goals as goal
use Rattle.fo_dir_change.proofs.of_dirties.Adding.{dirties_then, dirties_more, cons_of, none_of, first_of, next_of}

-- where the device tells, one path leads to each block
one_at : (g : given.Over) (b : _) → (g.B.Blocks.state b).tells → OnePath 1 (g.B.Blocks.state b).now
one_at g b told =
    let present = g.met.B.Blocks.present b told in
    one_path (g.met.B.Blocks.placed b (g.B.Blocks.state b).now present) (g.met.B.Blocks.few b (g.B.Blocks.state b).now present) (g.met.B.Blocks.super_stands b told) (g.met.B.Blocks.one_spot b) present (g.met.B.Blocks.active b).0

-- a cleared entry leads nowhere
nil_at : (g : given.Over) (b : _) (at j : ℕ) → j < 204 → IsOwnedEntries (g.B.Blocks.state b) at → target (cleared (((g.B.Blocks.state b).now at).slot j)) ≡ Nil
nil_at g b at j lt owned =
    let s = g.B.Blocks.state b in
    let within = subst (λ (k : Kind). j < slot_count k) (sym owned.leaf_kind) lt in
    cleared_nil (s.label at).kind j ((s.now at).slot j) owned.leaf_kind (g.met.B.Blocks.spelled b at j owned.is_pinned within)

pub clear_entry-requires-clause-may : goal.clear_entry-requires-clause-may
clear_entry-requires-clause-may g c = λ told.
    let first = g.met.B.Blocks.keeps_all c.args.on.now c.take_record.new.on c.take_record.ensures.keeps in
    calm_clear (c.take_record.ensures.calm c.if-not-take_record.false) c.take_record.ensures.slots c.args.entries (2 * c.args.p) (c.requires.may (first.still_tells.0 told))

pub returns-clause-named : goal.returns-clause-named
returns-clause-named g c = λ leaves all. differ_shows c.clear_entry.ensures.shows (c.take_record.ensures.named leaves all)

pub returns-clause-once : goal.returns-clause-once
returns-clause-once g c = λ once. shows_once c.clear_entry.ensures.shown (c.take_record.ensures.once once)

pub returns-clause-paired : goal.returns-clause-paired
returns-clause-paired g c = λ leaves m in_leaf pair differ n a e in_a same all.
    let b = c.args.on.now in
    let o = g.B.Blocks.state b in
    let t = g.B.Blocks.state c.take_record.new.on in
    let u = g.B.Blocks.state c.clear_entry.new.on in
    let s = c.requires.bytes.0 in
    let was = subst (λ xs. SpellsLeaf s.records xs) c.requires.bytes.1 s.spells in
    let taken = c.take_record.ensures.taken c.if-not-take_record.false in
    let others = c.take_record.ensures.others c.if-not-take_record.false in
    let first = g.met.B.Blocks.keeps_all b c.take_record.new.on c.take_record.ensures.keeps in
    let second = g.met.B.Blocks.keeps_all c.take_record.new.on c.clear_entry.new.on c.clear_entry.ensures.keeps in
    let half : c.args.p ≡ 2 * c.args.p / 2 = omega arith in
    let whole : o.tells → AllPaired n a e u = λ told.
    c.clear_entry.ensures.paired n a e (λ is. subst (λ k. IsUnnamed n k a c.args.leaf t) half (subst (λ k. IsUnnamed k c.args.p a c.args.leaf t) (sym (same is))
    (left_unnamed (split_at c.args.name.now s.records (taken.0.each s.records was)) was pair c.requires.within c.args.leaf a leaves o.now o.may_leave t refl (λ image is. g.met.B.Blocks.present b told) (taken.1.each s.records was) refl (λ image is. let k = others.each image is in (k.0, k.1, k.2)) in_leaf differ in_a (g.met.B.Blocks.present b told)))) (c.take_record.ensures.paired n a e all) in
    record { each = λ image is r has slot. (whole (first.still_tells.0 (second.still_tells.0 (g.met.B.Blocks.told c.clear_entry.new.on image is)))).each image is r has slot }

pub returns-clause-gone : goal.returns-clause-gone
returns-clause-gone g c = λ yes' told leaves m in_leaf pair differ a in_a.
    let b = c.args.on.now in
    let o = g.B.Blocks.state b in
    let u = g.B.Blocks.state c.clear_entry.new.on in
    let s = c.requires.bytes.0 in
    let was = subst (λ xs. SpellsLeaf s.records xs) c.requires.bytes.1 s.spells in
    let taken = c.take_record.ensures.taken c.if-not-take_record.false in
    let others = c.take_record.ensures.others c.if-not-take_record.false in
    is_gone (split_at c.args.name.now s.records (taken.0.each s.records was)) was pair c.requires.within c.args.leaf a leaves o.now o.may_leave u refl (λ image is. g.met.B.Blocks.present b told) (taken.1.each s.records was) (c.clear_entry.ensures.alone.bytes c.args.leaf)
    (λ image is. let h = c.clear_entry.ensures.shows.each image is in let k = others.each h.0 h.1 in (k.0, k.1, λ x ne. h.2 x ∙ k.2 x ne)) in_leaf differ in_a (g.met.B.Blocks.present b told) c.args.entries (λ free image is. (c.clear_entry.ensures.settled free).each image is)

pub returns-clause-owned_still : goal.returns-clause-owned_still
returns-clause-owned_still g c =
    let m = c.take_record.new.on in
    let t = g.B.Blocks.state m in
    let first = g.met.B.Blocks.keeps_all c.args.on.now m c.take_record.ensures.keeps in
    let second = g.met.B.Blocks.keeps_all m c.clear_entry.new.on c.clear_entry.ensures.keeps in
    let calm = c.take_record.ensures.calm c.if-not-take_record.false in
    let same = c.take_record.ensures.slots in
    let owned = calm_entries calm same first c.args.entries c.requires.entries in
    let lt : 2 * c.args.p < 204 = omega (arith, c.requires.within) in
    let nil = nil_at g m c.args.entries (2 * c.args.p) lt owned in
    let free : t.tells → Reaches t.now ((t.now c.args.entries).slot (2 * c.args.p)) c.args.entries → ⊥ = λ tells r. no_way_back (one_at g m tells) (owned.linked tells) r in
    let whole = ap (λ (xs : List ℕ). length xs) (sym c.take_record.ensures.hand.1) ∙ leaf_long c.take_record.ensures.hand.0 in (
      entries_then c.clear_entry.ensures.entry c.clear_entry.ensures.alone nil second (λ x i. (c.clear_entry.ensures.order x i).0) (λ x h. second.still_tells.0 (g.met.B.Blocks.covers_told c.clear_entry.new.on x h)) c.clear_entry.ensures.covers free owned,
      λ aside. records_then c.clear_entry.ensures.entry c.clear_entry.ensures.alone nil second (λ x i. (c.clear_entry.ensures.order x i).0) (λ x h. second.still_tells.0 (g.met.B.Blocks.covers_told c.clear_entry.new.on x h)) c.clear_entry.ensures.covers c.args.leaf
          (λ tells r. calm_aside calm same c.args.entries (2 * c.args.p) c.args.leaf (aside (first.still_tells.0 tells)) r) (records_put first calm whole c.requires.owned),
    )

pub returns-clause-quiet : goal.returns-clause-quiet
returns-clause-quiet g c = λ i ne told q.
    let m = c.take_record.new.on in
    let first = g.met.B.Blocks.keeps_all c.args.on.now m c.take_record.ensures.keeps in
    let second = g.met.B.Blocks.keeps_all m c.clear_entry.new.on c.clear_entry.ensures.keeps in
    let calm = c.take_record.ensures.calm c.if-not-take_record.false in
    let same = c.take_record.ensures.slots in
    let owned = calm_entries calm same first c.args.entries c.requires.entries in
    let lt : 2 * c.args.p < 204 = omega (arith, c.requires.within) in
    let tells = first.still_tells.1 told in
    quiet_then c.clear_entry.ensures.entry c.clear_entry.ensures.alone (nil_at g m c.args.entries (2 * c.args.p) lt owned) second (λ x k. (c.clear_entry.ensures.order x k).0) i ne
    (λ r. no_way_back (one_at g m tells) (owned.linked tells) r) (calm_quiet calm same c.args.entries i q)

pub returns-clause-later : goal.returns-clause-later
returns-clause-later g c = λ yes' dirty linked.
    let s = g.B.Blocks.state c.args.on.now in
    let calm = c.take_record.ensures.queues c.if-not-take_record.false in
    ⊎_elim
    (λ was. c.clear_entry.ensures.later was (λ h. linked (calm.newborn c.args.leaf h)))
    (λ e. let no : Data 0 ≡ Dir 0 = sym c.requires.owned.leaf_kind ∙ ap (λ b. (s.label b).kind) e ∙ c.requires.entries.leaf_kind in absurd (cc))
    (c.clear_entry.ensures.dirty c.args.leaf dirty)

pub returns-clause-queues : goal.returns-clause-queues
returns-clause-queues g c = λ yes'.
    let u = g.B.Blocks.state c.clear_entry.new.on in
    let queues = c.clear_entry.ensures.queues in
    let same = (c.take_record.ensures.queues c.if-not-take_record.false).queued in (
      subst (λ n. n ≤ u.queued) same queues.0,
      λ x leads. ⊎_elim
          (λ waits. inl waits)
          (λ one. inr (subst (λ n. (n < u.queued) ⊎ (2 ^ 32 - 1 ≤ u.queued)) same one))
          (queues.1 x (subst (λ (t : Slot). target t ≡ Local x) (sym (c.take_record.ensures.slots c.args.entries (2 * c.args.p))) leads)),
    )

pub returns-clause-dirties : goal.returns-clause-dirties
returns-clause-dirties g c =
    dirties_then (dirties_more (cons_of first_of none_of) c.take_record.ensures.dirties) c.clear_entry.ensures.dirties (cons_of (next_of first_of) none_of)

pub returns-then-not-take_record-clause-dirties : goal.returns-then-not-take_record-clause-dirties
returns-then-not-take_record-clause-dirties g c = dirties_more (cons_of first_of none_of) c.take_record.ensures.dirties
