-- A copy of an older block may be put where the block hangs.
use Rattle.std.proofs.Common.{◌≡◌, ◌≢◌, ◌⊎◌, ◌↔◌, ◌-◌, ◌<◌, ◌≤◌, ◌^◌, ℕ, List, [], ◌∷◌, inl, inr, ⊎_elim, refl, sym, ◌∙◌, ap, subst, arith}
use Rattle.std.proofs.lemmas.Bool.{cases_eq}
use Rattle.fo_image.specs.declared.types.Kind.TheVariants.{Dir}
use Rattle.fo_image.specs.declared.types.Label.{Label}
use Rattle.fo_image.specs.declared.types.State.TheVariants.{Live}
use Rattle.fo_image.specs.declared.types.Pointer.TheVariants.{Local}
use Rattle.fo_crash.specs.declared.slot.Slot.{Slot}
use Rattle.fo_crash.specs.declared.slot.Slot.TheVariants.{Pointer as To, Entry as Head, Prev}
use Rattle.fo_crash.specs.declared.place.Place.{Place}
use Rattle.fo_crash.specs.Images.{Image, note, target, local, walk, to_block, depth_of, Reaches}
use Rattle.fo_crash.specs.Places.{OnePlace}
use Rattle.fo_crash.proofs.Reach.{reaches_on, reach_aside}
use Rattle.fo_ports.specs.Blocks.{dropped, zeros}
use Rattle.fo_ports.specs.State.{State, KeepsAll, Gives, Frame, Hangs, Comes, IsRooted, MayPutSlot, led_to}
use Rattle.fo_ports_clients.proofs.Tree.{Tree, led_place, led_falls, led_brings}

-- where no level goes, a slot led where it leads
pub led_here : (now : Image) (old new : Slot) → dropped old new ≡ 0 → led_to now old new ≡ target old
led_here now old new none = ap (λ n. target (walk now old (zeros n))) none

-- Slots that are equal but for where they lead have one depth.
note_depth : (s : Slot) → depth_of (note s) ≡ depth_of s
note_depth (To p) = refl
note_depth (Head e) = refl
note_depth (Prev x y) = refl

pub same_depth : (s t : Slot) → note s ≡ note t → depth_of s ≡ depth_of t
same_depth s t e = sym (note_depth s) ∙ ap depth_of e ∙ note_depth t

pub local_eq : {a b : ℕ} → Local a ≡ Local b → a ≡ b
local_eq e = cc

-- what hangs from block 1 hangs
pub tree_rooted : (s : State) (b : ℕ) → s.tops 1 → Reaches s.now (to_block 1) b → IsRooted s b
tree_rooted s b top r = (1, inl top, r)

-- An older block was copied, which hangs from a slot of a block of the tree; and the slot is to be led to the copy.
pub record Copies (at i below copy : ℕ) (slot : Slot) (s t : State) : Type 0 where
  pub tells : s.tells
  pub at_apart : at ≢ 1
  pub reached : Reaches s.now (to_block 1) at
  pub leads : target ((s.now at).slot i) ≡ Local below
  pub older : (s.label below).epoch < s.high
  pub linked : (y x : ℕ) → s.instead y x → ⊥
  pub gives : Gives copy (s.now below) (record (s.label below) { state = Live; epoch = s.high; closing = 2 ^ 32 - 1 }) s t
  pub instead : (x : ℕ) → t.instead copy x ↔ (x ≡ below)
  pub place : (p : Place) → s.stands below p → t.stands copy p
  pub notes : note slot ≡ note ((s.now at).slot i)
  pub to : target slot ≡ Local copy
  pub all : KeepsAll s t
  -- the laws of blocks
  pub active : t.tops 1
  pub tree : Tree s.stands s.now
  pub one : OnePlace t.stands
  pub live : (b : ℕ) → b ≢ 1 → Reaches s.now (to_block 1) b → ((s.label b).state ≡ Live) × ((s.label b).epoch ≤ s.high) × (s.covered b → ⊥)
  pub clears : (b j : ℕ) → t.clearing b j → ((t.label b).kind ≡ Dir 0) × ((t.label b).epoch ≡ t.high)

module _ {at i below copy : ℕ} {slot : Slot} {s t : State} (c : Copies at i below copy slot s t) where
  at_live : ((s.label at).state ≡ Live) × ((s.label at).epoch ≤ s.high) × (s.covered at → ⊥)
  at_live = c.live at c.at_apart c.reached

  at_ne : at ≢ copy
  at_ne e = c.gives.was.0 (ap (λ k. (s.label k).state) (sym e) ∙ at_live.0)

  same : (t.now at).slot i ≡ (s.now at).slot i
  same = (c.gives.memory.others at at_ne).slots i

  below_ne : below ≢ copy
  below_ne e = c.gives.was.0 (ap (λ k. (s.label k).state) (sym e) ∙ (⊎_elim (λ is. is) (λ is. is) (below_is (cases_eq below 1))))
    where
      below_is : (below ≡ 1) ⊎ (below ≢ 1) → ((s.label below).state ≡ Live) ⊎ ((s.label below).state ≡ Live)
      below_is (inr ne) = inl (c.live below ne (reaches_on i c.reached c.leads)).0
      below_is (inl is) = absurd (c.gives.was.1 (sym e ∙ is))

  -- what block 1 reached it reaches still
  pub still_reached : (b : ℕ) → Reaches s.now (to_block 1) b → Reaches t.now (to_block 1) b
  still_reached b r = reach_aside s.now t.now (λ x. x ≡ copy) 1 (λ x j ne. sym ((c.gives.memory.others x ne).slots j)) (λ x e far. by x e far) b r
    where
      by : (x : ℕ) → x ≡ copy → Reaches s.now (to_block 1) x → ⊥
      by x e far = c.gives.was.0 (ap (λ k. (s.label k).state) (sym e) ∙ (c.live x (λ one. c.gives.was.1 (sym e ∙ one)) far).0)

  pub at_stays : (p : Place) → s.stands at p → t.stands at p
  at_stays p at_p = c.gives.stays.places c.tells at p at_ne (λ h. h) (λ h. at_live.2 ((c.gives.covered at at_ne).0 h)) (tree_rooted t at c.active (still_reached at c.reached)) at_p

  epoch : (t.label copy).epoch ≡ s.high
  epoch = ap (λ (l : Label). l.epoch) c.gives.label

  -- what waits below the slot hangs below the copy, too
  quiet : (b j : ℕ) → t.clearing b j → (path : List ℕ) → target (walk t.now ((t.now at).slot i) path) ≡ Local b → Reaches t.now slot b
  quiet b j waits [] e =
      let is : below ≡ b = local_eq (sym c.leads ∙ ap target (sym same) ∙ e) in
      let young : (t.label b).epoch ≡ t.high = (c.clears b j waits).1 in
      let label : t.label below ≡ s.label below = c.gives.stays.labels below below_ne in
      let was : (s.label below).epoch ≡ t.high = ap (λ (l : Label). l.epoch) (sym label) ∙ ap (λ k. (t.label k).epoch) is ∙ young in
      let high = c.all.same_high in
      let older = c.older in
      absurd (omega (arith, was, high, older))
  quiet b j waits (k ∷ path) e = record {
    path = k ∷ path;
    leads = ap (λ p. target (walk t.now ((local t.now p).slot k) path)) c.to ∙ ap (λ (u : Slot). target (walk t.now u path)) below_slot ∙ ap (λ p. target (walk t.now ((local t.now p).slot k) path)) (sym (ap target same ∙ c.leads)) ∙ e;
  }
    where
      below_slot : (t.now copy).slot k ≡ (t.now below).slot k
      below_slot = c.gives.memory.here.slots k ∙ sym ((c.gives.memory.others below below_ne).slots k)

  pub may_lead : MayPutSlot t at i slot
  may_lead =
      let high = c.all.same_high in
      let up : (t.label copy).epoch ≤ t.high = omega (arith, epoch, high) in
      record {
        brings = led_brings i s.label t.label s.covered t.covered s.high t.high c.tree c.reached c.leads c.to c.gives.memory
            (ap (λ (l : Label). l.state) c.gives.label, up, c.gives.is.4) high c.gives.was.0
            (λ b not. (c.gives.stays.labels b not, (c.gives.covered b not).0))
            c.live;
        fits = led_place _ slot c.tree c.one c.reached c.leads c.notes c.to at_stays c.place;
        lower = λ b p at_p e. led_falls i slot p c.tree c.one c.reached c.leads c.notes at_stays at_p;
        parent = record {
          each = λ b e older.
              let low : (t.label copy).epoch < t.high = subst (λ k. (t.label k).epoch < t.high) (sym (local_eq (sym c.to ∙ e))) older in
              absurd (omega (arith, epoch, high, low));
        };
        comes = λ b e. subst (λ k. Comes t at i ((t.now at).slot i) slot k) (local_eq (sym c.to ∙ e)) comes;
        leaves = record {
          each = λ y x is r. ⊎_elim
              (λ own. inr (record { path = []; leads = c.to ∙ ap (λ k. Local k) (sym own) }))
              (λ other. absurd (c.linked y x ((c.gives.stays.instead y x other (λ h. h)).0 is)))
              (cases_eq y copy);
          still = λ b j waits r. quiet b j waits r.path r.leads;
        };
        uncovered = λ h. at_live.2 ((c.gives.covered at at_ne).0 h);
        first = λ inner zero x h. (copy, c.to);
        holder = inl (still_reached at c.reached);
        linked = λ some. still_reached at c.reached;
        entry = λ outer x e ne. still_reached at c.reached;
        keeps = λ x e. inr (reaches_on i (still_reached at c.reached) e);
      }
    where
      comes : Comes t at i ((t.now at).slot i) slot copy
      comes =
          let depth : depth_of slot ≡ depth_of ((t.now at).slot i) = same_depth slot ((t.now at).slot i) (c.notes ∙ ap note (sym same)) in
          let none : dropped ((t.now at).slot i) slot ≡ 0 = omega (arith, depth) in
          inr (inl (below, (c.instead below).1 refl, led_here t.now ((t.now at).slot i) slot none ∙ ap target same ∙ c.leads))

-- After a put all blocks that hang, but the one that was put, stand where they stood.
pub put_places : {at i : ℕ} {slot : Slot} {n : ℕ} {old new : State} → old.tells → Frame (λ b. b ≡ at) (λ b. (b ≡ at) ⊎ (target slot ≡ Local b)) n old new → Hangs at i slot old new → (b : ℕ) (p : Place) → (target slot ≡ Local b → ⊥) → (new.covered b → ⊥) → IsRooted new b → old.stands b p → new.stands b p
put_places {at = at} {old = old} {new = new} told frame hangs b p apart spared rooted stands = ⊎_elim
    (λ is. subst (λ x. new.stands x p) (sym is) (hangs.at_place told p (λ h. spared (subst (λ x. new.covered x) (sym is) h)) (subst (λ x. old.stands x p) is stands)))
    (λ ne. frame.stays.places told b p (λ n. n) (λ h. ⊎_elim (λ e. ne e) (λ e. apart e) h) spared rooted stands)
    (cases_eq b at)

-- Where a copy alone was to come in the place of another, and was put into a slot that led to a block, nothing is.
pub none_instead : (at copy i below : ℕ) (slot : Slot) {n : ℕ} {old new : State} → Frame (λ b. b ≡ at) (λ b. (b ≡ at) ⊎ (target slot ≡ Local b)) n old new → Hangs at i slot old new → target slot ≡ Local copy → target ((old.now at).slot i) ≡ Local below
    → ((y x : ℕ) → y ≢ copy → old.instead y x → ⊥) → at ≢ copy → (y x : ℕ) → new.instead y x → ⊥
none_instead at copy i below slot {old = old} {new = new} frame hangs to leads none ne y x is = ⊎_elim
    (λ own. (hangs.put copy to).1 x (subst (λ z. new.instead z x) own is))
    (λ other. ⊎_elim
    (λ here. ⊎_elim
    (λ was. none at x ne was)
    (λ raised. raised.0.0.1 i below leads)
    (hangs.raised x (subst (λ z. new.instead z x) here is)))
    (λ apart. none y x other ((frame.stays.instead y x (λ n. n) (λ h. ⊎_elim (λ e. apart e) (λ e. other (local_eq (sym e ∙ to))) h)).0 is))
    (cases_eq y at))
    (cases_eq y copy)
