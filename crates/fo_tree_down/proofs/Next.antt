-- What the block below a slot of the way is, once those above are current.
use Rattle.std.proofs.Common.{◌≡◌, ◌+◌, ◌-◌, ◌*◌, ◌/◌, ◌%◌, ◌^◌, ◌<◌, ◌≤◌, ℕ, zero, suc, List, length, inl, inr, ⊎_elim, refl, sym, ◌∙◌, ap, subst, arith}
use Rattle.fo_image.specs.declared.types.Label.{Label}
use Rattle.fo_image.specs.declared.types.Score.{Score}
use Rattle.fo_image.specs.declared.types.Pointer.{Pointer}
use Rattle.fo_image.specs.declared.types.Pointer.TheVariants.{Nil, Local, Score as Held}
use Rattle.fo_image.specs.Format.{kind_code}
use Rattle.fo_tree_own.specs.of_crash.declared.place.Place.{Place}
use Rattle.fo_tree_own.specs.of_crash.Images.{Image, target}
use Rattle.fo_tree_own.specs.of_crash.Places.{place, IsPlaced, OnePlace, RanksFall}
use Rattle.fo_tree_look.specs.of_ports.State.{State, KeepsAll}
use Rattle.fo_tree_look.specs.of_ports.Sources.{Made}
use Rattle.fo_tree_look.proofs.of_looks.Free.{Standing}
use Rattle.fo_tree_look.specs.of_tree_read.declared.tree.Tree.{Tree}
use Rattle.fo_tree_look.specs.of_tree_read.Tree.{kind_at, kind_down, score_in, below, block_at, address_of, Hangs}
use Rattle.fo_tree_look.proofs.of_tree_read.Exits.{address_local}
use Rattle.fo_tree_look.proofs.of_tree_read.Walk.{is_down}
use Rattle.fo_tree_look.specs.declared.ways.Kept.{Kept}
use Rattle.fo_tree_look.specs.Source.{IsTold, IsPrepared, IsKept, or_held, seen, Ready, WayReady}
use Rattle.fo_tree_look.proofs.Held.{seen_address}
use Rattle.fo_tree_look.proofs.Shown.{top_ready}
use Rattle.fo_tree_own.specs.Step.{IsOwn, CanOwn, Becomes, Links}
use Rattle.fo_tree_own.proofs.Link.{blank_leads}
use Rattle.fo_tree_own.proofs.Here.{hung_below}
use Rattle.fo_tree_down.specs.Way.{OnWay, Descends, Comes, Replaces}
use Rattle.fo_tree_down.proofs.Join.{Continues, level_same, continued, wider_same, made_result}

-- ---- one way

pub on_way_last : (s : State) (t : Tree) (n k b : ℕ) → block_at s t n k ≡ Local b → OnWay s t n k b
on_way_last s t zero k b e = e
on_way_last s t (suc n) k b e = inr e

pub seen_local : (s : State) (kept : List Kept) (t : Tree) (n k b : ℕ) → block_at (seen s kept) t n k ≡ Local b → block_at s t n k ≡ Local b
seen_local s kept t n k b e = address_local b (block_at s t n k) (sym (ap (λ (p : Pointer). address_of p) e) ∙ seen_address s kept t n k)

pub local_seen : (s : State) (kept : List Kept) (t : Tree) (n k b : ℕ) → block_at s t n k ≡ Local b → block_at (seen s kept) t n k ≡ Local b
local_seen s kept t n k b e = address_local b (block_at (seen s kept) t n k) (sym (ap (λ (p : Pointer). address_of p) e) ∙ sym (seen_address s kept t n k))

pub local_eq : {a b : ℕ} → Local a ≡ Local b → a ≡ b
local_eq e = cc

-- What a device that tells says of its places.
pub record Says (s : State) : Type 0 where
  pub placed : IsPlaced s.stands s.now
  pub one : OnePlace s.stands

-- a block of the way stands at the rank of its level
pub record RankedAs (s : State) (t : Tree) (n b : ℕ) : Type 0 where
  pub down : ℕ
  pub within : down ≤ n
  pub there : Place
  pub stands : s.stands b there
  pub rank : there.rank ≡ t.rank + (t.depth - down)

ranked_as : (s : State) (t : Tree) → Says s → Hangs s t → s.tells → (n k b : ℕ) → n ≤ t.depth → block_at s t n k ≡ Local b → RankedAs s t n b
ranked_as s t says hangs told n k b within e =
    let is = is_down s t says.placed hangs told n k b within e in
    record { down = n; within = omega arith; there = place (kind_down t n) t.tag is.index (t.rank + (t.depth - n)); stands = is.stands; rank = refl }

pub on_way_ranked : (s : State) (t : Tree) → Says s → Hangs s t → s.tells → (n k b : ℕ) → n ≤ t.depth → OnWay s t n k b → RankedAs s t n b
on_way_ranked s t says hangs told zero k b within on = ranked_as s t says hangs told zero k b within on
on_way_ranked s t says hangs told (suc n) k b within on = ⊎_elim
    (λ above. let is = on_way_ranked s t says hangs told n (k / 409) b (omega (arith, within)) above in let le = is.within in record { down = is.down; within = omega (arith, le); there = is.there; stands = is.stands; rank = is.rank })
    (λ e. ranked_as s t says hangs told (suc n) k b within e)
    on

-- a block below is none of those above
way_apart : (s : State) (t : Tree) → Says s → Hangs s t → s.tells → (n k j b : ℕ) → suc n ≤ t.depth → OnWay s t n k b → block_at s t (suc n) j ≡ Local b → ⊥
way_apart s t says hangs told n k j b within on e =
    let high = on_way_ranked s t says hangs told n k b (omega (arith, within)) on in
    let is = is_down s t says.placed hangs told (suc n) j b within e in
    let low : Place = place (kind_down t (suc n)) t.tag is.index (t.rank + (t.depth - suc n)) in
    let same : high.there.rank ≡ t.rank + (t.depth - suc n) = ap (λ (p : Place). p.rank) (says.one.each b high.there low high.stands is.stands) in
    let rank = high.rank in
    let le = high.within in
    omega (arith, same, rank, le, within)

-- ---- where a slot leads

pub becomes_below : (s u : State) (t : Tree) (kept : List Kept) (level : ℕ) (p : Pointer) (at j : ℕ) → ((score : Score) → p ≡ Held score → IsKept kept score (kind_code (kind_at t.dir level))) → 0 < level → j < 409 → Becomes s u t kept level p at → target ((u.now at).slot j) ≡ below (seen s kept) (kind_at t.dir level) p j
becomes_below s u t kept level Nil at j kept_is high few content = ap target (content.slots j) ∙ blank_leads t.dir level j
becomes_below s u t kept level (Local b) at j kept_is high few content = ap target (content.slots j)
becomes_below s u t kept level (Held score) at j kept_is high few content =
    let is = kept_is score refl in
    (content is.0 is.1).slots high j few
    ∙ sym (ap (λ f. score_in (or_held f (s.held score (kind_code (kind_at t.dir level)))) j) is.1)

module _ (s m : State) (t : Tree) (kept : List Kept) (n k above : ℕ) (all : KeepsAll s m) (hangs : Hangs s t) (down : suc n ≤ t.depth) (ready : WayReady s t kept (suc n) k)
    (comes : Comes s m t kept n (k / 409) above) (says : s.tells → Says s) (told : s.tells → (b : ℕ) → OnWay s t (suc n) k b → IsTold s t.top b) where
  level : ℕ
  level = t.depth - suc n

  p : Pointer
  p = block_at (seen s kept) t (suc n) k

  ready_kept : (q : Pointer) → Ready s t kept n q → (score : Score) → q ≡ Held score → IsKept kept score (kind_code (kind_down t n))
  ready_kept q is score e = (subst (λ (x : Pointer). Ready s t kept n x) e is).0

  pub leads_next : target ((m.now above).slot (k % 409)) ≡ block_at (seen s kept) t (suc n) k
  leads_next = becomes_below s m t kept (t.depth - n) (block_at (seen s kept) t n (k / 409)) above (k % 409) (ready_kept (block_at (seen s kept) t n (k / 409)) (top_ready s t kept n (k / 409) ready.0)) (omega (arith, down)) (omega arith) comes.content

  -- each slot of the block above
  pub leads_beside : (j : ℕ) → j < 409 → target ((m.now above).slot j) ≡ below (seen s kept) (kind_down t n) (block_at (seen s kept) t n (k / 409)) j
  leads_beside j few = becomes_below s m t kept (t.depth - n) (block_at (seen s kept) t n (k / 409)) above j (ready_kept (block_at (seen s kept) t n (k / 409)) (top_ready s t kept n (k / 409) ready.0)) (omega (arith, down)) few comes.content

  -- ---- the block below is as it was

  abbrev Below : ℕ → Type 0
  Below b = IsPrepared s (kind_down t (suc n)) t.tag b

  old_block : (b : ℕ) → Below b → Made s m b → ⊥
  old_block b is made = made.0 is.live

  label_on : (b : ℕ) → Below b → m.label b ≡ s.label b
  label_on b is = (comes.descends.others b (old_block b is)).label

  prepared_on : (b : ℕ) → Below b → IsPrepared m (kind_at t.dir (t.depth - suc n)) t.tag b
  prepared_on b is =
      let same = label_on b is in
      let epoch : (m.label b).epoch ≡ (s.label b).epoch = ap (λ (l : Label). l.epoch) same in
      let high = all.same_high in
      let up = is.up_to in
      record {
        is_pinned = (comes.descends.others b (old_block b is)).marks.0 is.is_pinned;
        live = ap (λ (l : Label). l.state) same ∙ is.live;
        has_kind = ap (λ (l : Label). l.kind) same ∙ is.has_kind;
        tagged = ap (λ (l : Label). l.tag) same ∙ is.tagged;
        up_to = omega (arith, epoch, high, up);
        long = ap (λ (xs : List ℕ). length xs) (comes.descends.bytes b (old_block b is)) ∙ is.long;
      }

  here_apart : s.tells → (b : ℕ) → block_at s t (suc n) k ≡ Local b → OnWay s t n (k / 409) b → ⊥
  here_apart is b e on = way_apart s t (says is) hangs is n (k / 409) k b down on e

  told_on : (b : ℕ) → Below b → block_at s t (suc n) k ≡ Local b → m.tells → IsTold m t.top b
  told_on b is e now =
      let before = all.still_tells.0 now in
      let was = told before b (inr e) in
      let same = label_on b is in
      let epoch : (m.label b).epoch ≡ (s.label b).epoch = ap (λ (l : Label). l.epoch) same in
      let high = all.same_high in
      let up = was.up_to in
      record {
        live = ap (λ (l : Label). l.state) same ∙ was.live;
        up_to = omega (arith, epoch, high, up);
        uncovered = comes.descends.only b was.uncovered (here_apart before b e);
        in_tree = λ older. comes.descends.in_tree before b (here_apart before b e) (was.in_tree (omega (arith, epoch, high, older)));
        hung = hung_below m above (k % 409) b (comes.own.told now).hung (leads_next ∙ local_seen s kept t (suc n) k b e);
        alone = λ y h. ⊎_elim (λ old. let a = was.alone y old in (a.0, epoch ∙ a.1 ∙ sym high)) (λ new. absurd (here_apart before b e new.1)) (comes.descends.instead y b h);
      }

  can_own : (q : Pointer) → Ready s t kept (suc n) q → ((b : ℕ) → q ≡ Local b → block_at s t (suc n) k ≡ Local b) → CanOwn m t kept (t.depth - suc n) q
  can_own Nil is local = tt
  can_own (Local b) is local = (prepared_on b is, told_on b is (local b refl))
  can_own (Held score) is local = (is.0, ⊎_elim (λ plain. inl plain) (λ lt. inr (omega (arith, lt))) is.1)

  pub can_next : CanOwn m t kept (t.depth - suc n) (target ((m.now above).slot (k % 409)))
  can_next = subst (λ (q : Pointer). CanOwn m t kept (t.depth - suc n) q) (sym leads_next) (can_own (block_at (seen s kept) t (suc n) k) ready.1 (λ b e. seen_local s kept t (suc n) k b e))

  -- ---- and what came

  slots_on : (b : ℕ) → Below b → (j : ℕ) → (m.now b).slot j ≡ (s.now b).slot j
  slots_on b is j = ⊎_elim
      (λ e. e)
      (λ put.
      let same : put.higher.at ≡ t.depth - suc n = level_same t.dir put.higher.at (t.depth - suc n) (sym put.higher.is ∙ is.has_kind) in
      let lt = put.higher.above in
      absurd (omega (arith, same, lt, down)))
      (comes.descends.slots b j (old_block b is))

  becomes_on : (u : State) (at : ℕ) (q : Pointer) → Ready s t kept (suc n) q → Becomes m u t kept (t.depth - suc n) q at → Becomes s u t kept (t.depth - suc n) q at
  becomes_on u at Nil is content = content
  becomes_on u at (Local b) is content = record { bytes = content.bytes ∙ comes.descends.bytes b (old_block b is); slots = λ j. content.slots j ∙ slots_on b is j }
  becomes_on u at (Held score) is content = content

  pub content_next : (u : State) (at : ℕ) → Becomes m u t kept (t.depth - suc n) (target ((m.now above).slot (k % 409))) at → Becomes s u t kept (t.depth - suc n) (block_at (seen s kept) t (suc n) k) at
  content_next u at content = becomes_on u at (block_at (seen s kept) t (suc n) k) ready.1 (subst (λ (q : Pointer). Becomes m u t kept (t.depth - suc n) q at) leads_next content)

  next_local : (b : ℕ) → target ((m.now above).slot (k % 409)) ≡ Local b → block_at s t (suc n) k ≡ Local b
  next_local b e = seen_local s kept t (suc n) k b (sym leads_next ∙ e)

  next_below : (b : ℕ) → target ((m.now above).slot (k % 409)) ≡ Local b → Below b
  next_below b e = subst (λ (q : Pointer). Ready s t kept (suc n) q) (sym leads_next ∙ e) ready.1

  first_down : Descends t (OnWay s t n (k / 409)) (suc (t.depth - suc n)) s m
  first_down = let is : t.depth - n ≡ suc (t.depth - suc n) = omega (arith, down) in subst (λ l. Descends t (OnWay s t n (k / 409)) l s m) is comes.descends

  pub above_own : IsOwn m t (suc (t.depth - suc n)) (k / 409) above
  above_own = let is : t.depth - n ≡ suc (t.depth - suc n) = omega (arith, down) in subst (λ l. IsOwn m t l (k / 409) above) is comes.own

  index_is : 409 * (k / 409) + k % 409 ≡ k
  index_is = omega arith

  -- it is the block itself
  pub comes_same : (at : ℕ) → target ((m.now above).slot (k % 409)) ≡ Local at → IsOwn m t (t.depth - suc n) (409 * (k / 409) + k % 409) at → Becomes m m t kept (t.depth - suc n) (target ((m.now above).slot (k % 409))) at → Comes s m t kept (suc n) k at
  comes_same at e own content = record {
    own = subst (λ i. IsOwn m t (t.depth - suc n) i at) index_is own;
    descends = wider_same (λ b on. inl on) first_down;
    from = inr (next_local at e, old_block at (next_below at e));
    content = content_next m at content;
  }

  -- a current block below the slot still is
  pub current_below : (b : ℕ) → target ((m.now above).slot (k % 409)) ≡ Local b → (s.label b).epoch ≡ s.high → (m.label b).epoch ≡ m.high
  current_below b e current = ap (λ (l : Label). l.epoch) (label_on b (next_below b e)) ∙ current ∙ sym all.same_high

  -- what the slot led to is prepared
  pub was_below : (b : ℕ) → target ((m.now above).slot (k % 409)) ≡ Local b → IsPrepared m (kind_at t.dir (t.depth - suc n)) t.tag b
  was_below b e = prepared_on b (next_below b e)

  pub replaces_same : (at : ℕ) → IsOwn m t (t.depth - suc n) (409 * (k / 409) + k % 409) at → target ((m.now above).slot (k % 409)) ≡ Local at → Replaces s m t (suc n) k at
  replaces_same at own e = record { own = subst (λ i. IsOwn m t (t.depth - suc n) i at) index_is own; from = inr (next_local at e); kept = λ b f current. local_eq (sym (next_local at e) ∙ f) }

  -- it was given out
  module _ (u : State) (at : ℕ) (more : KeepsAll m u) (image_says : (image : Image) → s.may_leave image → IsPlaced s.stands image × RanksFall s.stands image × s.tells × ((top : ℕ) → s.tops top → (q : Place) × s.stands top q)) (standing : Standing s)
      (step : Links t (t.depth - suc n) (k / 409) above (k % 409) (target ((m.now above).slot (k % 409))) at m u) where
    joined : Continues t (OnWay s t n (k / 409)) (OnWay s t (suc n) k) (t.depth - suc n) (k / 409) above (k % 409) (target ((m.now above).slot (k % 409))) at s m u
    joined = record {
      first = first_down;
      step = step;
      all = all;
      more = more;
      above = above_own;
      from = ⊎_elim (λ made. inl made) (λ is. inr (inl (on_way_last s t n (k / 409) above is.0), is.1)) comes.from;
      within = λ b on. inl on;
      is_mine = λ b e. inr (next_local b e);
      was_old = λ b e. old_block b (next_below b e);
      was_is = refl;
      placed = λ image is. (image_says image is).0;
      ranked = λ image is. (image_says image is).1;
      top_stands = λ image is. (image_says image is).3;
      told = λ image is. (image_says image is).2;
      standing = standing;
    }

    pub comes_new : Becomes m u t kept (t.depth - suc n) (target ((m.now above).slot (k % 409))) at → Comes s u t kept (suc n) k at
    comes_new content = record {
      own = subst (λ i. IsOwn u t (t.depth - suc n) i at) index_is step.own;
      descends = continued joined;
      from = inl (made_result joined);
      content = content_next u at content;
    }

    -- where it was current none is given out
    pub not_current : (b : ℕ) → target ((m.now above).slot (k % 409)) ≡ Local b → (s.label b).epoch ≡ s.high → ⊥
    not_current b e current =
        let older = step.older b e in
        let epoch : (m.label b).epoch ≡ (s.label b).epoch = ap (λ (l : Label). l.epoch) (label_on b (next_below b e)) in
        let high = all.same_high in
        omega (arith, older, epoch, high, current)

    pub replaces_new : Replaces s u t (suc n) k at
    replaces_new = record {
      own = subst (λ i. IsOwn u t (t.depth - suc n) i at) index_is step.own;
      from = inl (made_result joined);
      kept = λ b e current. absurd (not_current b (leads_next ∙ local_seen s kept t (suc n) k b e) current);
    }

-- a current top
pub comes_top : (s : State) (t : Tree) (kept : List Kept) (k top : ℕ) → t.top ≡ Local top → k < 409 ^ zero → IsOwn s t t.depth 0 top → (Made s s top → ⊥) → Comes s s t kept zero k top
comes_top s t kept k top is few own not = record {
  own = let first : 0 ≡ k = omega (arith, few) in subst (λ i. IsOwn s t (t.depth - zero) i top) first (let none : t.depth ≡ t.depth - zero = omega arith in subst (λ l. IsOwn s t l 0 top) none own);
  descends = descends_none;
  from = inr (is, not);
  content = subst (λ (q : Pointer). Becomes s s t kept (t.depth - zero) q top) (sym is) (record { bytes = refl; slots = λ j. refl });
}
  where
    none_made : (b : ℕ) → Made s s b → ⊥
    none_made b made = made.0 made.1

    descends_none : Descends t (OnWay s t zero k) (t.depth - zero) s s
    descends_none = record {
      bytes = λ b n. refl;
      slots = λ b j n. inl refl;
      led = λ b j n. inl refl;
      images = λ image h. record { other = image; was = h; bytes = λ b n. refl; slots = λ b j n. inl refl; led = λ b j n. inl refl; apart = λ w b g made r. none_made b made };
      made = λ b made. absurd (none_made b made);
      others = λ b n. record { label = refl; marks = (λ h. h, λ h. h, λ h. h) };
      apart = λ b n. (λ h. h, λ h. h);
      places = λ told b q n other free r stands. stands;
      rooted = λ told b n r. r;
      instead = λ b y h. inl h;
      older = λ b y h. inl h;
      aged = λ b free h. absurd (free h);
      still = λ b h. h;
      only = λ b free other h. free h;
      leaves = λ told b r gone. absurd (gone r);
      in_tree = λ told b other r. r;
      current = λ told b now r. r;
      hung = λ told b other h. h;
      waits = λ a b j f g w. w;
      no_wait = record { each = λ a b j f w. w };
      clearing = λ b j h. (none_made b, h);
      goes_on = λ b j n h. h;
      dirty = λ b d. inl d;
      moments = refl;
      left = λ i image h. h;
      pins = refl;
      usable = refl;
      room = refl;
      numbers = record { next = refl; grants = λ h. h };
    }
