-- What the calls on blocks see of a put slot.
use Rattle.std.proofs.Common.{◌≡◌, ◌≢◌, ◌⊎◌, ◌↔◌, inl, inr, ⊎_elim, ℕ, ◌+◌, ◌-◌, ◌^◌, ◌<◌, Bool, true, false, cond, List, length, refl, sym, ◌∙◌, ap, subst, arith}
use Rattle.fo_image.specs.declared.types.Kind.{Kind}
use Rattle.fo_image.specs.declared.types.State.TheVariants.{Free, Live}
use Rattle.fo_image.specs.declared.types.Label.{Label}
use Rattle.fo_image.specs.declared.types.Pointer.TheVariants.{Local}
use Rattle.fo_crash.specs.declared.slot.Slot.{Slot}
use Rattle.fo_crash.specs.declared.place.Place.{Place}
use Rattle.fo_crash.specs.Images.{SameImage, target, Reaches}
use Rattle.fo_crash.specs.Steps.{PutsSlot, Covers}
use Rattle.fo_crash.specs.Names.{SameUse}
use Rattle.fo_crash.specs.Places.{place_below}
use Rattle.fo_crash.proofs.Places.{never_back}
use Rattle.fo_crash.proofs.Covers.{slot_reaches}
use Rattle.fo_ports.specs.Blocks.{IsInner}
use Rattle.fo_ports.specs.State.{Frame, Hangs, IsRooted, IsRaised, IsPointers, IsSecondOf}
use Rattle.fo_ports_plain.specs.declared.block.PlainBlock.{PlainBlock}
use Rattle.fo_ports_plain.specs.declared.wait.Wait.{Wait}
use Rattle.fo_ports_plain.specs.Plain.{block_at, slot_of, memory, label_at, Stands, IsMade, Instead, IsTop, TakenOut, Covered, Awaits, is_live}
use Rattle.fo_ports_plain.specs.Sound.{Sound}
use Rattle.fo_ports_plain.specs.Meaning.{Plain, state_of}
use Rattle.fo_ports_plain.specs.Moves.{IsFree}
use Rattle.fo_ports_plain.specs.Laws.{label_kind, placed, ranked, one_place}
use Rattle.fo_ports_plain.proofs.Taken.{Under, Marks, covers, splits, same_or_not}
use Rattle.fo_ports_plain.proofs.Rooted.{put_rooted}
use Rattle.fo_ports_plain.proofs.Comes.{loose_free, free_loose}

-- a label, by the parts that it is made of
abbrev label_by : Bool → Kind → ℕ → ℕ → Label
label_by made kind tag epoch = cond made (record { state = Live; kind = kind; tag = tag; epoch = epoch; closing = 2 ^ 32 - 1 }) (record { state = Free; kind = kind; tag = tag; epoch = 0; closing = 0 })

pub label_same : (old new : List PlainBlock) (made b : ℕ) → (block_at new b).place.kind ≡ (block_at old b).place.kind → (block_at new b).place.tag ≡ (block_at old b).place.tag → (block_at new b).epoch ≡ (block_at old b).epoch → label_at new made b ≡ label_at old made b
label_same old new made b kind tag epoch =
    ap (λ k. label_by (is_live made b) k (block_at new b).place.tag (block_at new b).epoch) kind
    ∙ ap (λ t. label_by (is_live made b) (block_at old b).place.kind t (block_at new b).epoch) tag
    ∙ ap (λ e. label_by (is_live made b) (block_at old b).place.kind (block_at old b).place.tag e) epoch

-- A new top was raised over the block below, or the block that was put into keeps its origin.
pub record Raised (at i : ℕ) (s : Slot) (old new : List PlainBlock) : Type 0 where
  pub inner : IsInner (block_at old at).place.kind
  pub first : i ≡ 0
  pub free : IsFree (block_at old at)
  pub below : ℕ
  pub leads : target s ≡ Local below
  pub past : below ≢ 0
  pub origin : (block_at new at).origin ≡ cond (block_at old below).apart (block_at old below).origin below

pub record NotRaised (at i : ℕ) (s : Slot) (old new : List PlainBlock) : Type 0 where
  pub origin : (block_at new at).origin ≡ (block_at old at).origin
  pub none : (b : ℕ) → target s ≡ Local b → IsInner (block_at old at).place.kind → i ≡ 0 → IsFree (block_at old at) → ⊥

-- A slot was put, block by block.
pub record PutAll (at i : ℕ) (s : Slot) (old new : List PlainBlock) : Type 0 where
  pub as_long : length new ≡ length old
  pub puts : PutsSlot at i s (memory old) (memory new)
  pub labels : (b : ℕ) → ((block_at new b).place.kind ≡ (block_at old b).place.kind) × ((block_at new b).place.tag ≡ (block_at old b).place.tag) × ((block_at new b).epoch ≡ (block_at old b).epoch) × ((block_at new b).kept ≡ (block_at old b).kept)
  pub other : target s ≢ Local at
  pub here : (b : ℕ) → target s ≡ Local b → ((block_at new b).place ≡ place_below (block_at old at).place i s) × ((block_at new b).apart ≡ false)
  pub places : (b : ℕ) → target s ≢ Local b → ((block_at new b).place ≡ (block_at old b).place) × ((block_at new b).apart ≡ (block_at old b).apart)
  pub origins : (b : ℕ) → b ≢ at → target s ≢ Local b → (block_at new b).origin ≡ (block_at old b).origin
  pub top : NotRaised at i s old new ⊎ Raised at i s old new
  pub marks : Marks (slot_of (block_at old at) i) s (λ b. (block_at old b).taken ≡ true) (λ b. (block_at new b).taken ≡ true)
  pub retired : (b : ℕ) → (block_at new b).retired ≡ (block_at old b).retired

bool : (x : Bool) → (x ≡ true) ⊎ (x ≡ false)
bool true = inl refl
bool false = inr refl

never_both : {x : Bool} → x ≡ true → x ≡ false → ⊥
never_both {x} t f = let both : true ≡ false = sym t ∙ f in cc

local_is : {a b : ℕ} → Local a ≡ Local b → a ≡ b
local_is e = cc

module _ (p : Plain) (new : List PlainBlock) (waits : List Wait) (room queued : ℕ) {at i : ℕ} {s : Slot} (put : PutAll at i s p.blocks new) where
  abbrev q : Plain
  q = record p { blocks = new; waits = waits; room = room; queued = queued }

  same_instead : (b : ℕ) → (block_at new b).apart ≡ (block_at p.blocks b).apart → (block_at new b).origin ≡ (block_at p.blocks b).origin → (x : ℕ) → Instead new b x ↔ Instead p.blocks b x
  same_instead b apart origin x = (
    λ h. record { apart = sym apart ∙ h.apart; origin = sym origin ∙ h.origin; some = h.some },
    λ h. record { apart = apart ∙ h.apart; origin = origin ∙ h.origin; some = h.some },
  )

  was_top : (t : ℕ) → IsTop new t → IsTop p.blocks t
  was_top t h = ⊎_elim (λ e. inl e) (λ is. inr (sym (put.labels t).3 ∙ is)) h

  was_apart : (t : ℕ) → (block_at new t).apart ≡ true → (block_at p.blocks t).apart ≡ true
  was_apart t is = ⊎_elim
      (λ e. absurd (never_both is (put.here t e).1))
      (λ ne. sym (put.places t ne).1 ∙ is)
      (same_or_not t (target s))

  -- all but the block that was put into, and the one below, stays; what hangs at the end hung before
  pub put_frame : (P : ℕ → Type 0) (n : ℕ) → ((b : ℕ) → target s ≡ Local b → IsRooted (state_of p) b) → ((b : ℕ) → (P b → ⊥) → (b ≢ at) × (target s ≢ Local b)) → room + n ≡ p.room → ((a on j : ℕ) → on ≢ at → Awaits p.waits a on j → Awaits waits a on j) → Frame (λ b. b ≡ at) P n (state_of p) (state_of (record p { blocks = new; waits = waits; room = room; queued = queued }))
  put_frame P n brought out spent wait = record {
    stays = record {
      labels = λ b _. let k = put.labels b in label_same p.blocks new p.made b k.0 k.1 k.2;
      marks = λ b _. (λ h. h, λ h. h, λ h. h);
      places = λ t b x _ not_put _ _ st. record { above = st.above; was_made = st.was_made; is = (put.places b (out b not_put).1).0 ∙ st.is };
      rooted = λ t b _ r. put_rooted (state_of p) (state_of q) put.puts was_top was_apart brought b r;
      newborn = λ b _ h. h;
      apart = λ b _ not_put. let same = (put.places b (out b not_put).1).1 in (λ h. sym same ∙ h, λ h. same ∙ h);
      instead = λ b x _ not_put. let o = out b not_put in same_instead b (put.places b o.1).1 (put.origins b o.0 o.1) x;
      waits = λ a on j _ _ not_put w. wait a on j (out on not_put).0 w;
    };
    dirty = λ b h. absurd h;
    uses = record { spare = omega arith; usable = let long = put.as_long in omega (arith, long); room = spent; pins = refl; moments = refl; left = λ k image h. h };
    numbers = record { next = refl; grants = λ h. h };
  }

  apart_at : (block_at new at).apart ≡ (block_at p.blocks at).apart
  apart_at = (put.places at put.other).1

  kind_at : (label_at p.blocks p.made at).kind ≡ (block_at p.blocks at).place.kind
  kind_at = (label_kind p.blocks p.made at).0

  raised_is : Raised at i s p.blocks new → IsRaised (state_of p) at i
  raised_is r = (free_loose p at r.free, subst (λ k. IsInner k) (sym kind_at) r.inner, r.first)

  not_raised : NotRaised at i s p.blocks new → (b : ℕ) → target s ≡ Local b → IsRaised (state_of p) at i → ⊥
  not_raised n b e r = n.none b e (subst (λ k. IsInner k) kind_at r.1) r.2 (loose_free p at r.0)

  kept_instead : NotRaised at i s p.blocks new → (x : ℕ) → Instead new at x ↔ Instead p.blocks at x
  kept_instead n x = same_instead at apart_at n.origin x

  -- what was put hangs at its place; a new top comes in the place of what it was raised over
  pub put_hangs : ((b : ℕ) → target s ≡ Local b → (0 < b) × (b < p.made)) → ((a on j : ℕ) → (on ≢ at) ⊎ (((j ≢ i) × (IsSecondOf i j → ⊥)) ⊎ SameUse s (slot_of (block_at p.blocks at) i)) → Awaits p.waits a on j → Awaits waits a on j) → Hangs at i s (state_of p) (state_of (record p { blocks = new; waits = waits; room = room; queued = queued }))
  put_hangs is_made wait = record {
    place = λ t b x st e. record {
      above = (is_made b e).0;
      was_made = (is_made b e).1;
      is = (put.here b e).0 ∙ ap (λ (y : Place). place_below y i s) st.is;
    };
    put = λ b e. (λ h. never_both h (put.here b e).1, λ x h. never_both h.apart (put.here b e).1);
    at_place = λ t x _ st. record { above = st.above; was_made = st.was_made; is = (put.places at put.other).0 ∙ st.is };
    at_apart = λ ne. (λ h. sym apart_at ∙ h, λ h. apart_at ∙ h);
    raised = λ x h. ⊎_elim
        (λ n. inl ((kept_instead n x).0 h))
        (λ r. inr (
          raised_is r,
          (
            r.below,
            r.leads,
            ⊎_elim
                (λ is. inr (record { apart = is; origin = ap (λ t. cond t (block_at p.blocks r.below).origin r.below) (sym is) ∙ sym r.origin ∙ h.origin; some = h.some }))
                (λ is. inl (ap (λ t. cond t (block_at p.blocks r.below).origin r.below) (sym is) ∙ sym r.origin ∙ h.origin, λ a. never_both a is))
                (bool (block_at p.blocks r.below).apart),
          ),
        ))
        put.top;
    raises = λ b x is e h. ⊎_elim
        (λ n. absurd (not_raised n b e is))
        (λ r.
        let b_is : r.below ≡ b = local_is (sym r.leads ∙ e) in
        ⊎_elim
        (λ w. record {
          apart = apart_at ∙ r.free.0.0;
          origin = r.origin ∙ ap (λ y. cond (block_at p.blocks y).apart (block_at p.blocks y).origin y) b_is ∙ ap (λ t. cond t (block_at p.blocks b).origin b) w.apart ∙ w.origin;
          some = w.some;
        })
        (λ w.
        let joined : (block_at p.blocks b).apart ≡ false = ⊎_elim (λ t. absurd (w.1 t)) (λ f. f) (bool (block_at p.blocks b).apart) in
        record {
          apart = apart_at ∙ r.free.0.0;
          origin = r.origin ∙ ap (λ y. cond (block_at p.blocks y).apart (block_at p.blocks y).origin y) b_is ∙ ap (λ t. cond t (block_at p.blocks b).origin b) joined ∙ w.0;
          some = λ zero. r.past (b_is ∙ w.0 ∙ zero);
        })
        h)
        put.top;
    still = λ x h. ⊎_elim
        (λ n. (kept_instead n x).1 h)
        (λ r. absurd (h.some (sym h.origin ∙ r.free.0.1)))
        put.top;
    waits = wait;
  }

  under : (blocks : List PlainBlock) (b : ℕ) → TakenOut blocks b → Under (λ x. (block_at blocks x).taken ≡ true) (memory blocks) b
  under blocks b c = record { top = c.top; taken = c.taken; below = c.below; gone = c.gone }

  covered : (blocks : List PlainBlock) (b : ℕ) → Under (λ x. (block_at blocks x).taken ≡ true) (memory blocks) b → TakenOut blocks b
  covered blocks b c = record { top = c.top; taken = c.taken; below = c.below; gone = c.gone }

  -- what leaves is to be closed
  pub put_covers : Sound p.blocks p.made p.high p.root → IsMade p.made at → (Covered p.blocks at → ⊥) → ((b : ℕ) → Reaches (memory p.blocks) s b → Covered p.blocks b → ⊥) → Covers (IsPointers (state_of p)) (slot_of (block_at p.blocks at) i) (memory p.blocks) (memory new) (Covered p.blocks) (Covered new)
  put_covers sound is_made uncovered brings = record {
    leaves = λ b t r gone. inl (covered new b (c.leaves b t r gone));
    still = λ b. ⊎_elim
        (λ h. inl (covered new b (c.still b (under p.blocks b h))))
        (λ h. inr (record { is = put.retired b ∙ h.is; gone = λ r. ⊎_elim h.gone (λ q. brings b q (inr h)) (slot_reaches put.puts r) }));
    only = λ b not_old not_below. ⊎_elim
        (λ h. c.only b (λ k. not_old (inl (covered p.blocks b k))) not_below (under new b h))
        (λ h. not_old (inr (record { is = sym (put.retired b) ∙ h.is; gone = λ q. ⊎_elim h.gone (λ w. not_below w.on) (splits put.puts.others q) })));
  }
    where
      same : SameImage (memory p.blocks) (memory p.blocks)
      same = record { each = λ b. record { bytes = refl; slots = λ j. refl } }

      at_p : Stands p.blocks p.made at (block_at p.blocks at).place
      at_p = let past : 1 < at = is_made.0 in record { above = omega (arith, past); was_made = is_made.1; is = refl }

      c : Covers (IsPointers (state_of p)) (slot_of (block_at p.blocks at) i) (memory p.blocks) (memory new) (Under (λ x. (block_at p.blocks x).taken ≡ true) (memory p.blocks)) (Under (λ x. (block_at new x).taken ≡ true) (memory new))
      c = covers put.puts put.marks
          (λ r. never_back {i = i} (block_at p.blocks at).place (one_place p) (placed p sound (memory p.blocks) same) (ranked p sound (memory p.blocks) same) at_p r)
          (λ h. uncovered (inl (covered p.blocks at h)))
          (λ b r h. brings b r (inl (covered p.blocks b h)))
          (IsPointers (state_of p))
