-- Why blocks in memory keep the laws.
use Rattle.std.specs.Prelude.{◌≡◌, ◌≢◌, ◌⊎◌, ◌+◌, ◌-◌, ◌*◌, ◌/◌, ◌^◌, ◌<◌, ◌≤◌, ℕ, Bool, true, false, cond, nat_lt, nat_eq, ◌&&◌, List, [], ◌∷◌, length, refl}
use Rattle.std.proofs.Common.{inl, inr, ⊎_elim, sym, ◌∙◌, ap, subst, arith}
use Rattle.std.proofs.Math.Nat.{le_refl}
use Rattle.std.proofs.lemmas.Grind.{common_steps}
use Rattle.std.proofs.lemmas.Bool.{lt-ltb, cases_lt}
use Rattle.fo_image.specs.declared.types.Label.{Label}
use Rattle.fo_image.specs.declared.types.State.TheVariants.{Free, Live}
use Rattle.fo_image.specs.declared.types.Kind.TheVariants.{Dir, Root}
use Rattle.fo_image.specs.declared.types.Pointer.TheVariants.{Nil, Local, Score as Held}
use Rattle.fo_image.specs.Usable.{is_usable}
use Rattle.fo_crash.specs.declared.slot.Slot.{Slot}
use Rattle.fo_crash.specs.declared.slot.Slot.TheVariants.{Pointer as To, Entry as Head, Prev}
use Rattle.fo_crash.specs.declared.place.Place.{Place}
use Rattle.fo_crash.specs.Images.{Content, Image, target, to_block, Reaches, SameContent}
use Rattle.fo_crash.specs.Steps.{IsSure, HasSuper, IsOneOf}
use Rattle.fo_crash.specs.Names.{IsInUse}
use Rattle.fo_crash.specs.Places.{place_below, super_place, root_place, IsPlaced, OnePlace, RanksFall}
use Rattle.fo_crash.specs.Spots.{FewSlots, OneSpot}
use Rattle.fo_crash.proofs.Reach.{reaches_within, same_walk}
use Rattle.fo_ports.specs.Blocks.{slot_count, SlotFits, IsFormed}
use Rattle.fo_ports.specs.State.{KeepsAll, IsPairUsed, WaitsInUse}
use Rattle.fo_ports_plain.specs.declared.block.PlainBlock.{PlainBlock}
use Rattle.fo_ports_plain.specs.Plain.{block_at, slot_of, memory, is_live, label_of, label_at, is_active, Stands, IsTop}
use Rattle.fo_ports_plain.specs.Sound.{Sound, Formed, Waiting, Queue, leads_to}
use Rattle.fo_ports_plain.specs.declared.moment.Moment.{Moment}
use Rattle.fo_ports_plain.specs.Meaning.{Plain, Shows, state_of, PlainKeeps}
use Rattle.fo_ports_plain.specs.Trails as trails
use Rattle.fo_ports_plain.specs.Formed.{formed_out}

abbrev S : Plain → Type 0
S p = Sound p.blocks p.made p.high p.root

pub present : (p : Plain) → (state_of p).tells → (state_of p).may_leave (state_of p).now
present p t = record { each = λ at. record { bytes = refl; slots = λ i. refl } }

-- of the moment that goes on nothing is said
pub shows_before : (seen : List Moment) (k : ℕ) (image : Image) → Shows seen k image → k < 2 * length seen
shows_before [] k image h = absurd h
shows_before (m ∷ seen) k image h = ⊎_elim (λ here. let is = here.0 in omega (arith, is)) (λ earlier. let lt = shows_before seen k image earlier in omega (arith, lt)) h

pub shown : (p : Plain) (image : Image) → (state_of p).left (state_of p).moments image → IsOneOf (state_of p).tops (state_of p).may_leave image
shown p image h = absurd (let lt = shows_before p.seen (2 * length p.seen) image h in omega (arith, lt))

pub told : (p : Plain) (image : Image) → (state_of p).may_leave image → (state_of p).tells
told p image is = tt

pub active : (p : Plain) → (state_of p).tops 1 × ((state_of p).is_block 1 → ⊥)
active p = (inl refl, λ h. let lt : 1 < 1 = h.0 in omega (arith, lt))

pub super_root : (root : ℕ) (s : Slot) → leads_to root s ≡ true → s ≡ to_block root
super_root root (To (Local at)) h = let test : nat_eq at root ≡ true = h in let is : at ≡ root = grind (arith, common_steps) in ap (λ x. To (Local x)) is
super_root root (To Nil) h = absurd (cc)
super_root root (To (Held x)) h = absurd (cc)
super_root root (Head x) h = absurd (cc)
super_root root (Prev x y) h = absurd (cc)

pub root_named : (p : Plain) → S p → (state_of p).tells → ((state_of p).now 1).slot 0 ≡ to_block (state_of p).root
root_named p sound t = super_root p.root (slot_of (block_at p.blocks 1) 0) sound.super_at.way

-- the label of a block that was made
pub live_one : (made b : ℕ) → 1 < b → b < made → is_live made b ≡ true
live_one made b past was = ap (λ t. t && nat_lt b made) (lt-ltb 1 b past) ∙ lt-ltb b made was

pub label_made : (blocks : List PlainBlock) (made b : ℕ) → 1 < b → b < made → label_at blocks made b ≡ label_of Live (block_at blocks b).epoch (2 ^ 32 - 1) (block_at blocks b)
label_made blocks made b past was = ap (λ t. cond t (label_of Live (block_at blocks b).epoch (2 ^ 32 - 1) (block_at blocks b)) (label_of Free 0 0 (block_at blocks b))) (live_one made b past was)

-- a label has the kind and the tag of the block's place
pub label_kind : (blocks : List PlainBlock) (made b : ℕ) → ((label_at blocks made b).kind ≡ (block_at blocks b).place.kind) × ((label_at blocks made b).tag ≡ (block_at blocks b).place.tag)
label_kind blocks made b = by (is_live made b)
  where
    by : (t : Bool) → ((cond t (label_of Live (block_at blocks b).epoch (2 ^ 32 - 1) (block_at blocks b)) (label_of Free 0 0 (block_at blocks b))).kind ≡ (block_at blocks b).place.kind) × ((cond t (label_of Live (block_at blocks b).epoch (2 ^ 32 - 1) (block_at blocks b)) (label_of Free 0 0 (block_at blocks b))).tag ≡ (block_at blocks b).place.tag)
    by true = (refl, refl)
    by false = (refl, refl)

-- the epoch of a block that was made
pub epoch_made : (blocks : List PlainBlock) (made b : ℕ) → 1 < b → b < made → (label_at blocks made b).epoch ≡ (block_at blocks b).epoch
epoch_made blocks made b past was = ap (λ (l : Label). l.epoch) (label_made blocks made b past was)

pub root_is : (p : Plain) → S p → p.made + p.spare ≤ length p.blocks → (state_of p).is_block (state_of p).root × ((state_of p).tells → ((((state_of p).label (state_of p).root).state ≡ Live) × (((state_of p).label (state_of p).root).kind ≡ Root) × (((state_of p).label (state_of p).root).epoch ≡ (state_of p).high)))
root_is p sound spared =
    let kept = sound.tops p.root sound.root_kept.0 in
    let past = kept.past in
    let was = kept.was_made in
    let label = label_made p.blocks p.made p.root past was in
    ((past, omega (arith, was, spared)), λ t. (ap (λ (l : Label). l.state) label, ap (λ (l : Label). l.kind) label ∙ ap (λ (q : Place). q.kind) kept.place, ap (λ (l : Label). l.epoch) label ∙ sound.root_kept.1))

pub one_place : (p : Plain) → OnePlace (state_of p).stands
one_place p = record { each = λ b x y s t. sym s.is ∙ t.is }

pub super_stands : (p : Plain) → 2 < p.made → S p → (state_of p).tells → (state_of p).stands 1 super_place
super_stands p three sound t = record { above = omega arith; was_made = omega (arith, three); is = sound.super_at.place }

pub top_stands : (p : Plain) → S p → (t : ℕ) → (state_of p).tells → (state_of p).tops t → t ≢ 1 → (state_of p).stands t root_place
top_stands p sound t tells is ne = ⊎_elim
    (λ e. absurd (ne e))
    (λ h. let kept = sound.tops t h in let past = kept.past in record { above = omega (arith, past); was_made = kept.was_made; is = kept.place })
    is

pub placed : (p : Plain) → S p → (image : Image) → (state_of p).may_leave image → IsPlaced (state_of p).stands image
placed p sound image same = record {
  each = λ a i b q at_q e.
      let slot = (same.each a).slots i in
      let l = sound.links a i b (ap target (sym slot) ∙ e) in
      let past = l.past in
      record {
        above = omega (arith, past);
        was_made = l.was_made;
        is = l.place ∙ ap (λ (x : Place). place_below x i (slot_of (block_at p.blocks a) i)) at_q.is ∙ ap (λ (s : Slot). place_below q i s) (sym slot);
      };
}

pub ranked : (p : Plain) → S p → (image : Image) → (state_of p).may_leave image → RanksFall (state_of p).stands image
ranked p sound image same = record {
  each = λ a i b q at_q e.
      let slot = (same.each a).slots i in
      let l = sound.links a i b (ap target (sym slot) ∙ e) in
      let place = l.place ∙ ap (λ (x : Place). place_below x i (slot_of (block_at p.blocks a) i)) at_q.is ∙ ap (λ (s : Slot). place_below q i s) (sym slot) in
      let falls = l.falls in
      let low : (block_at p.blocks b).place.rank ≡ (place_below q i ((image a).slot i)).rank = ap (λ (x : Place). x.rank) place in
      let high : (block_at p.blocks a).place.rank ≡ q.rank = ap (λ (x : Place). x.rank) at_q.is in
      omega (arith, falls, low, high);
}

pub few : (p : Plain) → S p → (image : Image) → (state_of p).may_leave image → FewSlots (state_of p).stands image
few p sound image same = record {
  each = λ a i b q at_q e.
      let l = sound.links a i b (ap target (sym ((same.each a).slots i)) ∙ e) in
      subst (λ (x : Place). i < slot_count x.kind) at_q.is l.few;
}

pub formed_at : (blocks : List PlainBlock) (made b : ℕ) (q : Place) → Formed blocks made → 1 < b → Stands blocks made b q → IsFormed q.kind q.rank (block_at blocks b).bytes
formed_at blocks made b q formed past at = subst (λ (x : Place). IsFormed x.kind x.rank (block_at blocks b).bytes) at.is (formed_out (block_at blocks b).place.kind (block_at blocks b).place.rank (block_at blocks b).bytes (formed b past at.was_made))

pub formed : (p : Plain) → Formed p.blocks p.made → (image : Image) (t at : ℕ) (q : Place) → (state_of p).may_leave image → (state_of p).tops t → at ≢ 1 → Reaches image (to_block t) at → (state_of p).stands at q → IsFormed q.kind q.rank ((image at).bytes)
formed p all image t at q same is_top ne r at_q =
    let above = at_q.above in
    subst (λ x. IsFormed q.kind q.rank x) (sym (same.each at).bytes) (formed_at p.blocks p.made at q all (omega (arith, above, ne)) at_q)

pub one_spot : (p : Plain) → S p → OneSpot (state_of p).tops (state_of p).may_leave
one_spot p sound = trails.one_spot p.blocks p.made p.high p.root sound (ap target (super_root p.root (slot_of (block_at p.blocks 1) 0) sound.super_at.way))

pub labelled : (p : Plain) → p.made + p.spare ≤ length p.blocks → (at : ℕ) (q : Place) → (state_of p).tells → at ≢ 1 → (state_of p).stands at q → (state_of p).is_block at × (((state_of p).label at).kind ≡ q.kind) × (((state_of p).label at).tag ≡ q.tag)
labelled p spared at q t ne s =
    let label = label_kind p.blocks p.made at in
    let above = s.above in
    let was = s.was_made in
    ((omega (arith, above, ne), omega (arith, spared, was)), label.0 ∙ ap (λ (x : Place). x.kind) s.is, label.1 ∙ ap (λ (x : Place). x.tag) s.is)

pub standing : (p : Plain) (at : ℕ) (q : Place) → (state_of p).tells → at ≢ 1 → (state_of p).stands at q → is_usable (state_of p).low ((state_of p).label at) ≡ false
standing p at q t ne s =
    let above = s.above in
    ap (λ (l : Label). is_usable 1 l) (label_made p.blocks p.made at (omega (arith, above, ne)) s.was_made)

pub within : (p : Plain) → p.made + p.spare ≤ length p.blocks → S p → (at i below : ℕ) → (state_of p).pinned at → target (((state_of p).now at).slot i) ≡ Local below → (state_of p).is_block below
within p spared sound at i below pinned e = let l = sound.links at i below e in let past = l.past in let was = l.was_made in (past, omega (arith, spared, was))

pub small : (p : Plain) → length p.blocks < 2 ^ 32 → (at : ℕ) → (state_of p).is_block at → at < 2 ^ 32 - 1
small p few at is = let lt : at < length p.blocks = is.1 in omega (arith, few, lt)

pub spelled : (p : Plain) → S p → (at i : ℕ) → (state_of p).pinned at → i < slot_count ((state_of p).label at).kind → SlotFits ((state_of p).label at).kind i (((state_of p).now at).slot i)
spelled p sound at i is lt =
    let kind = (label_kind p.blocks p.made at).0 in
    subst (λ k. SlotFits k i (slot_of (block_at p.blocks at) i)) (sym kind) (sound.spelled at is.0 i (subst (λ k. i < slot_count k) kind lt))

-- What is reached from a top was made, and hangs from a slot but for that top.
pub record Reached (made t at : ℕ) (block : PlainBlock) : Type 0 where
  pub was_made : at < made
  pub joined : block.apart ≡ false
  pub past : at ≢ 1 → 1 < at

pub reached : (p : Plain) → 2 < p.made → S p → (t at : ℕ) → IsTop p.blocks t → Reaches (memory p.blocks) (to_block t) at → Reached p.made t at (block_at p.blocks at)
reached p three sound t at is_top r = reaches_within (λ b. Reached p.made t b (block_at p.blocks b)) (memory p.blocks)
    (λ a i b e. let l = sound.links a i b e in record { was_made = l.was_made; joined = l.joined; past = λ ne. l.past })
    (λ b e. let same : Local t ≡ Local b = e in let is : t ≡ b = cc in subst (λ x. Reached p.made t x (block_at p.blocks x)) is top)
    r
  where
    top : Reached p.made t t (block_at p.blocks t)
    top = ⊎_elim
        (λ e. record { was_made = omega (arith, three, e); joined = ap (λ x. (block_at p.blocks x).apart) e ∙ sound.super_at.joined; past = λ ne. absurd (ne e) })
        (λ h. let kept = sound.tops t h in record { was_made = kept.was_made; joined = kept.joined; past = λ ne. kept.past })
        is_top

pub live : (p : Plain) → 2 < p.made → S p → (at : ℕ) → (state_of p).tells → at ≢ 1 → Reaches (state_of p).now (to_block 1) at → (((state_of p).label at).state ≡ Live) × (((state_of p).label at).epoch ≤ (state_of p).high) × ((state_of p).covered at → ⊥)
live p three sound at t ne r =
    let was = (reached p three sound 1 at (inl refl) r).was_made in
    let past = (reached p three sound 1 at (inl refl) r).past ne in
    (ap (λ (l : Label). l.state) (label_made p.blocks p.made at past was), subst (λ n. n ≤ p.high) (sym (epoch_made p.blocks p.made at past was)) (sound.aged at was), λ h. ⊎_elim (λ k. k.gone r) (λ k. k.gone r) h)

pub falls : (p : Plain) → 2 < p.made → S p → (t at i below : ℕ) → (state_of p).tells → (state_of p).tops t → at ≢ 1 → Reaches (state_of p).now (to_block t) at → target (((state_of p).now at).slot i) ≡ Local below → ((state_of p).label below).epoch ≤ ((state_of p).label at).epoch
falls p three sound t at i below tells is_top ne r e =
    let was = (reached p three sound t at is_top r).was_made in
    let past = (reached p three sound t at is_top r).past ne in
    let l = sound.links at i below e in
    subst (λ n. n ≤ (label_at p.blocks p.made at).epoch) (sym (epoch_made p.blocks p.made below l.past l.was_made)) (subst (λ n. (block_at p.blocks below).epoch ≤ n) (sym (epoch_made p.blocks p.made at past was)) (l.ages ne))

pub old_is_sure : (p : Plain) (t at : ℕ) → (state_of p).tops t → at ≢ 1 → Reaches (state_of p).now (to_block t) at → ((state_of p).label at).epoch < (state_of p).high → IsSure (state_of p).now at (state_of p).may_leave
old_is_sure p t at is_top ne r older = record { each = λ image same. same.each at }

pub sure : (p : Plain) (at : ℕ) → (state_of p).sure at ⊎ (state_of p).fresh at → IsSure (state_of p).now at (state_of p).may_leave
sure p at is = record { each = λ image same. same.each at }

pub in_place : (p : Plain) (at : ℕ) → (state_of p).sealed at → (A : Type 0) → (image : Image) → Reaches (state_of p).now (to_block 1) at → (state_of p).may_leave image → Reaches image (to_block 1) at
in_place p at is doomed image r same = record { path = r.path; leads = ap target (same_walk image (memory p.blocks) (λ a i. (same.each a).slots i) r.path (to_block 1)) ∙ r.leads }

pub super_known : (p : Plain) → HasSuper (state_of p).now (state_of p).doubt (state_of p).may_leave
super_known p = record { each = λ image same. inl (same.each 1) }

pub one_doubt : (p : Plain) (c d : Content) → (state_of p).doubt c → (state_of p).doubt d → SameContent c d
one_doubt p c d h k = absurd h

pub limited : (p : Plain) → p.next ≤ 2 ^ 30 → (image : Image) → (state_of p).may_leave image → ((state_of p).next ≤ (state_of p).limit (image 1)) × ((state_of p).grants → (state_of p).next < (state_of p).limit (image 1))
limited p le image same = (le, λ h. h)

-- an entry that is active is in use
pub in_use : (s : Slot) → is_active s ≡ true → (g : ℕ) × IsInUse s g
in_use (Head e) h = (e.generation, (h, refl))
in_use (To x) h = absurd (cc)
in_use (Prev x y) h = absurd (cc)

pub used_active : (s : Slot) (g : ℕ) → IsInUse s g → is_active s ≡ true
used_active (Head e) g h = h.0
used_active (To x) g h = absurd h
used_active (Prev x y) g h = absurd h

-- an entry is the first of its pair, or the second
pub in_pair : (j : ℕ) → (j ≡ 2 * (j / 2)) ⊎ (j ≡ 2 * (j / 2) + 1)
in_pair j = ⊎_elim
    (λ lt. inl (omega (arith, lt)))
    (λ le. inr (omega (arith, le)))
    (cases_lt j (2 * (j / 2) + 1))

pub waits_in_use : (p : Plain) → Waiting p.blocks p.made p.waits → (a on j : ℕ) → (state_of p).waits a on j → IsPairUsed (state_of p).now on j
waits_in_use p waiting a on j w =
    let used = (waiting w.number (j / 2) w.within w.pair).used in
    let here : is_active (slot_of (block_at p.blocks on) (2 * (j / 2))) ≡ true = ap (λ x. is_active (slot_of (block_at p.blocks x) (2 * (j / 2)))) (sym w.is_on) ∙ used in
    let is = in_use (slot_of (block_at p.blocks on) (2 * (j / 2))) here in
    ⊎_elim
    (λ e. inl (subst (λ k. (g : ℕ) × IsInUse (slot_of (block_at p.blocks on) k) g) (sym e) is))
    (λ e. inr (j / 2, e, is))
    (in_pair j)

pub waits_within : (p : Plain) → Waiting p.blocks p.made p.waits → (a on j : ℕ) → (state_of p).waits a on j → ((state_of p).label on).kind ≡ Dir 0
waits_within p waiting a on j w = (label_kind p.blocks p.made on).0 ∙ ap (λ x. (block_at p.blocks x).place.kind) (sym w.is_on) ∙ (waiting w.number (j / 2) w.within w.pair).entries

pub clears_entries : (p : Plain) (at j : ℕ) → (state_of p).clearing at j → (A : Type 0) → A
clears_entries p at j h A = absurd h

pub clears_used : (p : Plain) → (state_of p).tells → WaitsInUse (state_of p)
clears_used p t = record { first = λ at k h. absurd h; used = λ at k h. absurd h }

pub none_queued : (p : Plain) → Queue p.blocks p.queued → (at : ℕ) → (state_of p).queued ≡ 0 → (state_of p).covered at → ⊥
none_queued p queue at none = ⊎_elim (λ c. let no : true ≡ false = sym c.taken ∙ (queue none c.top).0 in cc) (λ c. let no : true ≡ false = sym c.is ∙ (queue none at).1 in cc)

pub one_stays : (p : Plain) → (state_of p).covered 1 → ⊥
one_stays p c = let own : Reaches (memory p.blocks) (to_block 1) 1 = record { path = []; leads = refl } in ⊎_elim (λ k. k.gone own) (λ k. k.gone own) c

pub enough : (p : Plain) → p.made + p.spare ≤ length p.blocks → (state_of p).spare ≤ (state_of p).usable
enough p spared = omega (arith, spared)

pub apart_hangs : (p : Plain) → 2 < p.made → S p → (image : Image) (t at : ℕ) → (state_of p).apart at → (state_of p).may_leave image → (state_of p).tops t → Reaches image (to_block t) at → ⊥
apart_hangs p three sound image t at is same is_top r =
    let own : Reaches (memory p.blocks) (to_block t) at = record { path = r.path; leads = ap target (same_walk (memory p.blocks) image (λ a i. sym ((same.each a).slots i)) r.path (to_block t)) ∙ r.leads } in
    let no : true ≡ false = sym is ∙ (reached p three sound t at is_top own).joined in
    cc

pub instead_of : (p : Plain) (y x z : ℕ) → (state_of p).tells → (state_of p).instead y x → (state_of p).apart y × ((state_of p).instead y z → z ≡ x)
instead_of p y x z t is = (is.apart, λ other. sym other.origin ∙ is.origin)

pub keeps_at_once : (p : Plain) → PlainKeeps p p
keeps_at_once p = record { as_long = refl; held = refl; high = refl; root = refl; tops = λ t. refl }

pub keeps_joins : (p q r : Plain) → PlainKeeps p q → PlainKeeps q r → PlainKeeps p r
keeps_joins p q r x y = record { as_long = y.as_long ∙ x.as_long; held = y.held ∙ x.held; high = y.high ∙ x.high; root = y.root ∙ x.root; tops = λ t. y.tops t ∙ x.tops t }

pub keeps_all : (p q : Plain) → PlainKeeps p q → KeepsAll (state_of p) (state_of q)
keeps_all p q k = record {
  same_high = k.high;
  same_low = refl;
  same_root = k.root;
  same_tops = λ t. (λ h. ⊎_elim (λ e. inl e) (λ e. inr (sym (k.tops t) ∙ e)) h, λ h. ⊎_elim (λ e. inl e) (λ e. inr (k.tops t ∙ e)) h);
  same_blocks = λ b. (λ h. (h.0, subst (λ n. b < n) k.as_long h.1), λ h. (h.0, subst (λ n. b < n) (sym k.as_long) h.1));
  same_held = λ score kind. ap (λ held. (state_of (record q { held = held })).held score kind) k.held;
  same_limit = λ c. refl;
  same_label_blocks = λ b. refl;
  still_tells = (λ h. h, λ h. h);
  more_faults = le_refl 0;
  more_arena_faults = le_refl 0;
}
