-- Room is left for what was promised.
use Rattle.std.proofs.Common.{◌≡◌, ⊎_elim, ℕ, ◌≤◌, Bool, true, false, cond, ◌||◌, eqb, leb, List, [], ◌∷◌, count_by, refl, sym, ◌∙◌, ap, subst, arith}
use Rattle.std.proofs.lemmas.Bool.Decides.{leb_tells}
use Rattle.std.proofs.lemmas.List.Sums.{sum_by-cons}
use Rattle.fo_image.specs.declared.types.State.{State}
use Rattle.fo_image.specs.declared.types.State.TheVariants.{Free, Live, Closed}
use Rattle.fo_image.specs.declared.types.Label.{Label}
use Rattle.fo_image.specs.Usable.{is_usable, is_usable_in}
use Rattle.fo_labels.specs.Region.{Region, IsDataBlock, label_of, relabeled}
use Rattle.fo_labels.proofs.RegionLaws.{usable_count-relabeled}
use Rattle.fo_cells_held.specs.Room.{Promises, Space, HasRoom, Used, Spends, UsesLabels}

pub room_stays : {low after : ℕ} {r t : Region} {x : Used} {p q : Promises} {s u : Space} → Spends x p q s u → UsesLabels x.blocks low after r t → HasRoom low r p s → HasRoom after t q u
room_stays {low} {after} {r} {t} {x} {p} {q} {s} {u} w labels h =
    let spare = w.spare in
    let pins = w.pins in
    let removals = w.removals in
    let copies = w.copies in
    let waiting = w.waiting in
    let few = w.few.0 in
    let began = w.few.1 in
    let buffers = w.buffers in
    let queue = w.queue in
    let waits = w.waits in
    let clears = w.clears in
    let usable_was = h.usable in
    let buffers_were = h.buffers in
    let queue_was = h.queue in
    let waits_were = h.waits in
    let clears_were = h.clears in
    let fewer = labels in record {
      usable = omega (arith, spare, usable_was, fewer);
      buffers = omega (arith, spare, pins, buffers, buffers_were);
      queue = omega (arith, spare, removals, copies, waiting, few, queue, queue_was);
      waits = omega (arith, removals, waits, waits_were);
      clears = omega (arith, removals, began, clears, clears_were);
    }

one_most : (v : Bool) → cond {A = ℕ} v 1 0 ≤ 1
one_most true = omega arith
one_most false = omega arith

pub given_one : (low at : ℕ) (r : Region) (l : Label) → IsDataBlock r at → UsesLabels 1 low low r (relabeled r at l)
given_one low at r l b =
    let e = usable_count-relabeled low r at l b in
    let one = one_most (is_usable low (label_of r at)) in
    omega (arith, e, one)

pub closed_none : (low at : ℕ) (r : Region) (l : Label) → IsDataBlock r at → is_usable low (label_of r at) ≡ false → UsesLabels 0 low low r (relabeled r at l)
closed_none low at r l b is =
    let e = usable_count-relabeled low r at l b in
    let none : cond {A = ℕ} (is_usable low (label_of r at)) 1 0 ≡ 0 = ap (λ v. cond {A = ℕ} v 1 0) is in
    omega (arith, e, none)

-- what is usable stays so where the low epoch rises
closed_more : (e a b : Bool) → (a ≡ true → b ≡ true) → cond {A = ℕ} (e || a) 1 0 ≤ cond {A = ℕ} (e || b) 1 0
closed_more true a b h = omega arith
closed_more false false b h = omega arith
closed_more false true b h = subst (λ v. 1 ≤ cond {A = ℕ} v 1 0) (sym (h refl)) (omega arith)

leb_up : (closing low after : ℕ) → low ≤ after → leb closing low ≡ true → leb closing after ≡ true
leb_up closing low after le is = ⊎_elim
    (λ y. y.0)
    (λ n. ⊎_elim (λ y. let x = y.1 in let z = n.1 in absurd (omega (arith, x, z, le))) (λ m. let x : true ≡ false = sym is ∙ m.0 in absurd (cc)) (leb_tells closing low))
    (leb_tells closing after)

usable_up : (s : State) (l : Label) (low after : ℕ) → low ≤ after → cond {A = ℕ} (is_usable_in s low l) 1 0 ≤ cond {A = ℕ} (is_usable_in s after l) 1 0
usable_up Free l low after le = omega arith
usable_up Live l low after le = omega arith
usable_up Closed l low after le = closed_more (eqb l.closing l.epoch) (leb l.closing low) (leb l.closing after) (leb_up l.closing low after le)

count_up : (low after : ℕ) (ls : List Label) → low ≤ after → count_by (is_usable low) ls ≤ count_by (is_usable after) ls
count_up low after [] le = omega arith
count_up low after (l ∷ ls) le =
    let a = sum_by-cons (λ x. cond {A = ℕ} (is_usable low x) 1 0) l ls in
    let b = sum_by-cons (λ x. cond {A = ℕ} (is_usable after x) 1 0) l ls in
    let more = count_up low after ls le in
    let one = usable_up l.state l low after le in
    omega (arith, a, b, more, one)

pub raised_none : (low after : ℕ) (r : Region) → low ≤ after → UsesLabels 0 low after r r
raised_none low after r le = let more = count_up low after r.labels le in omega (arith, more)
