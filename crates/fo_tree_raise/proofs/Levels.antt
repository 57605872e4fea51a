-- The blocks of a tree with one level more.
use Rattle.std.proofs.Common.{◌≡◌, ◌≢◌, ◌⊎◌, ◌+◌, ◌-◌, ◌*◌, ◌/◌, ◌%◌, ◌^◌, ◌<◌, ◌≤◌, ℕ, zero, suc, List, length, inl, inr, ⊎_elim, refl, sym, ◌∙◌, ap, subst, arith}
use Rattle.std.proofs.lemmas.Bool.{cases_lt}
use Rattle.std.proofs.Math.Nat.{pow-succ'}
use Rattle.fo_image.specs.declared.types.Kind.{Kind}
use Rattle.fo_image.specs.declared.types.Label.{Label}
use Rattle.fo_image.specs.declared.types.Score.{Score}
use Rattle.fo_image.specs.declared.types.Pointer.{Pointer}
use Rattle.fo_image.specs.declared.types.Pointer.TheVariants.{Nil, Local, Score as Held}
use Rattle.fo_image.specs.Format.{kind_code}
use Rattle.fo_crash.specs.declared.slot.Slot.{Slot}
use Rattle.fo_crash.specs.Images.{target}
use Rattle.fo_crash.specs.Places.{place, IsPlaced}
use Rattle.fo_ports.specs.State.{State, KeepsAll}
use Rattle.fo_tree_read.specs.declared.tree.Tree.{Tree}
use Rattle.fo_tree_read.specs.Tree.{kind_at, kind_down, score_in, below, block_at, Hangs}
use Rattle.fo_tree_read.proofs.Walk.{is_down}
use Rattle.fo_tree_look.specs.declared.ways.Kept.{Kept}
use Rattle.fo_tree_look.specs.Source.{HasBlock, IsPrepared, IsKept, Ready, WayReady, Prepared, or_held, find_kept, seen}
use Rattle.fo_tree_look.proofs.Shown.{top_ready}
use Rattle.fo_tree_raise.specs.Raise.{Raises, raised}

-- where a block leads whose content is known
pub below_same : (a b : State) (kind : Kind) (p q : Pointer) (i : ℕ) → q ≡ p → ((score : Score) (k : ℕ) → b.held score k ≡ a.held score k) → ((at : ℕ) → p ≡ Local at → (j : ℕ) → (b.now at).slot j ≡ (a.now at).slot j) → below b kind q i ≡ below a kind p i
below_same a b kind p q i same held known = ap (λ (x : Pointer). below b kind x i) same ∙ by p known
  where
    by : (p : Pointer) → ((at : ℕ) → p ≡ Local at → (j : ℕ) → (b.now at).slot j ≡ (a.now at).slot j) → below b kind p i ≡ below a kind p i
    by Nil known = refl
    by (Local at) known = ap (λ (s : Slot). target s) (known at refl i)
    by (Held score) known = ap (λ h. score_in h i) (held score (kind_code kind))

-- ---- where the slots of the new top lead

module _ (s : State) (t : Tree) (top : ℕ) where
  pub kind_up : (n : ℕ) → n ≤ t.depth → kind_down (raised t top) (suc n) ≡ kind_down t n
  kind_up n le = let same : t.depth + 1 - suc n ≡ t.depth - n = omega (arith, le) in ap (λ l. kind_at t.dir l) same

  module _ (leads : target ((s.now top).slot 0) ≡ t.top) (bare : (j : ℕ) → j ≢ 0 → target ((s.now top).slot j) ≡ Nil) where
    -- a block stands one level further down
    pub level_up : (n k : ℕ) → n ≤ t.depth → k < 409 ^ n → block_at s (raised t top) (suc n) k ≡ block_at s t n k
    level_up zero k le few = let first : k % 409 ≡ 0 = omega (arith, few) in ap (λ i. target ((s.now top).slot i)) first ∙ leads
    level_up (suc n) k le few =
        let more : 409 ^ suc n ≡ 409 * 409 ^ n = pow-succ' 409 n in
        ap (λ (p : Pointer). below s (kind_down (raised t top) (suc n)) p (k % 409)) (level_up n (k / 409) (omega (arith, le)) (omega (arith, few, more)))
        ∙ ap (λ (q : Kind). below s q (block_at s t n (k / 409)) (k % 409)) (kind_up n (omega (arith, le)))

    -- and beside the old top there is none
    pub level_none : (n k : ℕ) → 409 ^ n ≤ k → k < 409 ^ suc n → block_at s (raised t top) (suc n) k ≡ Nil
    level_none zero k from few = bare (k % 409) (λ e. omega (arith, from, few, e))
    level_none (suc n) k from few =
        let more : 409 ^ suc n ≡ 409 * 409 ^ n = pow-succ' 409 n in
        let most : 409 ^ suc (suc n) ≡ 409 * 409 ^ suc n = pow-succ' 409 (suc n) in
        ap (λ (p : Pointer). below s (kind_down (raised t top) (suc n)) p (k % 409)) (level_none n (k / 409) (omega (arith, from, more)) (omega (arith, few, most)))

-- ---- an index within the room of its level

abbrev pub index_of : ℕ → ℕ → ℕ
index_of zero j = 0
index_of (suc m) j = 409 * index_of m (j / 409) + j % 409

pub index_few : (m j : ℕ) → index_of m j < 409 ^ m
index_few zero j = omega arith
index_few (suc m) j =
    let more : 409 ^ suc m ≡ 409 * 409 ^ m = pow-succ' 409 m in
    let up : index_of m (j / 409) < 409 ^ m = index_few m (j / 409) in
    let rest : j % 409 < 409 = omega arith in
    less (index_of m (j / 409)) (j % 409) (409 ^ m) (409 ^ suc m) up rest more
  where
    less : (a r p q : ℕ) → a < p → r < 409 → q ≡ 409 * p → 409 * a + r < q
    less a r p q lt few is = omega (arith, lt, few, is)

pub index_same : (s : State) (t : Tree) (m j : ℕ) → block_at s t m (index_of m j) ≡ block_at s t m j
index_same s t zero j = refl
index_same s t (suc m) j =
    let up : (409 * index_of m (j / 409) + j % 409) / 409 ≡ index_of m (j / 409) = omega arith in
    let rest : (409 * index_of m (j / 409) + j % 409) % 409 ≡ j % 409 = omega arith in
    ap (λ y. below s (kind_down t m) (block_at s t m y) ((409 * index_of m (j / 409) + j % 409) % 409)) up
    ∙ ap (λ y. below s (kind_down t m) (block_at s t m (index_of m (j / 409))) y) rest
    ∙ ap (λ (p : Pointer). below s (kind_down t m) p (j % 409)) (index_same s t m (j / 409))

local_eq : {a b : ℕ} → Local a ≡ Local b → a ≡ b
local_eq e = cc

nil_local : (b : ℕ) → Nil ≡ Local b → ⊥
nil_local b e = cc

module _ {t : Tree} {top : ℕ} {s u : State} (all : KeepsAll s u) (x : Raises t top s u) where
  ne_live : (b : ℕ) (n : ℕ) → IsPrepared s (kind_down t n) t.tag b → b ≢ top
  ne_live b n is e = x.made.0 (ap (λ y. (s.label y).state) (sym e) ∙ is.live)

  -- ---- what was prepared

  prepared_on : (n b : ℕ) → IsPrepared s (kind_down t n) t.tag b → IsPrepared u (kind_down t n) t.tag b
  prepared_on n b is =
      let ne = ne_live b n is in
      let same = x.labels b ne in
      let epoch : (u.label b).epoch ≡ (s.label b).epoch = ap (λ (l : Label). l.epoch) same in
      let high = all.same_high in
      let up = is.up_to in
      record {
        is_pinned = (x.marks b ne).0 is.is_pinned;
        live = ap (λ (l : Label). l.state) same ∙ is.live;
        has_kind = ap (λ (l : Label). l.kind) same ∙ is.has_kind;
        tagged = ap (λ (l : Label). l.tag) same ∙ is.tagged;
        up_to = omega (arith, epoch, high, up);
        long = ap (λ (xs : List ℕ). length xs) (x.same b ne).bytes ∙ is.long;
      }

  module _ (kept : List Kept) where
    pub seen_held : (score : Score) (k : ℕ) → (seen u kept).held score k ≡ (seen s kept).held score k
    seen_held score k = ap (λ h. or_held (find_kept kept score k) h) (all.same_held score k)

    ready_on : (n : ℕ) (p : Pointer) → Ready s t kept n p → Ready u t kept n p
    ready_on n Nil is = is
    ready_on n (Local b) is = prepared_on n b is
    ready_on n (Held score) is = is

    pub known : (n : ℕ) (p : Pointer) → Ready s t kept n p → (b : ℕ) → p ≡ Local b → (j : ℕ) → (u.now b).slot j ≡ (s.now b).slot j
    known n p is b e j = (x.same b (ne_live b n (subst (λ (q : Pointer). Ready s t kept n q) e is))).slots j

    -- a way that was prepared leads where it did
    pub way_same : (n k : ℕ) → WayReady s t kept n k → block_at (seen u kept) t n k ≡ block_at (seen s kept) t n k
    way_same zero k way = refl
    way_same (suc n) k way =
        below_same (seen s kept) (seen u kept) (kind_down t n) (block_at (seen s kept) t n (k / 409)) (block_at (seen u kept) t n (k / 409)) (k % 409)
        (way_same n (k / 409) way.0) seen_held
        (known n (block_at (seen s kept) t n (k / 409)) (top_ready s t kept n (k / 409) way.0))

    pub way_on : (n k : ℕ) → WayReady s t kept n k → WayReady u t kept n k
    way_on zero k way = ready_on zero t.top way
    way_on (suc n) k way = (
      way_on n (k / 409) way.0,
      subst (λ (p : Pointer). Ready u t kept (suc n) p) (sym (way_same (suc n) k way)) (ready_on (suc n) (block_at (seen s kept) t (suc n) k) way.1),
    )

    ready_up : (n : ℕ) (p : Pointer) → n ≤ t.depth → Ready u t kept n p → Ready u (raised t top) kept (suc n) p
    ready_up n Nil le is = is
    ready_up n (Local b) le is = subst (λ q. IsPrepared u q t.tag b) (sym (kind_up u t top n le)) is
    ready_up n (Held score) le is = (
      subst (λ q. IsKept kept score (kind_code q)) (sym (kind_up u t top n le)) is.0,
      ⊎_elim (λ plain. inl plain) (λ lt. inr (omega (arith, lt))) is.1,
    )

    top_is : IsPrepared u (kind_down (raised t top) 0) t.tag top
    top_is =
        let own = x.own in
        let level : suc t.depth ≡ t.depth + 1 - 0 = omega arith in
        let current = own.current in
        record {
          is_pinned = own.is_pinned;
          live = own.live;
          has_kind = own.has_kind ∙ ap (λ l. kind_at t.dir l) level;
          tagged = own.tagged;
          up_to = omega (arith, current);
          long = own.long;
        }

    up_seen : (n k : ℕ) → n ≤ t.depth → k < 409 ^ n → block_at (seen u kept) (raised t top) (suc n) k ≡ block_at (seen u kept) t n k
    up_seen n k le few = level_up (seen u kept) t top x.leads x.bare n k le few

    way_up : (n k : ℕ) → n ≤ t.depth → k < 409 ^ n → WayReady u t kept n k → WayReady u (raised t top) kept (suc n) k
    way_up zero k le few way = (top_is, subst (λ (p : Pointer). Ready u (raised t top) kept 1 p) (sym (up_seen zero k le few)) (ready_up zero t.top le way))
    way_up (suc n) k le few way =
        let more : 409 ^ suc n ≡ 409 * 409 ^ n = pow-succ' 409 n in (
          way_up n (k / 409) (omega (arith, le)) (omega (arith, few, more)) way.0,
          subst (λ (p : Pointer). Ready u (raised t top) kept (suc (suc n)) p) (sym (up_seen (suc n) k le few)) (ready_up (suc n) (block_at (seen u kept) t (suc n) k) le way.1),
        )

    -- a way behind the old top leads to no block
    pub way_none : (n k : ℕ) → 409 ^ n ≤ k → k < 409 ^ suc n → WayReady u (raised t top) kept (suc n) k
    way_none zero k from few = (top_is, subst (λ (p : Pointer). Ready u (raised t top) kept 1 p) (sym (level_none (seen u kept) t top x.leads x.bare zero k from few)) tt)
    way_none (suc n) k from few =
        let more : 409 ^ suc n ≡ 409 * 409 ^ n = pow-succ' 409 n in
        let most : 409 ^ suc (suc n) ≡ 409 * 409 ^ suc n = pow-succ' 409 (suc n) in (
          way_none n (k / 409) (omega (arith, from, more)) (omega (arith, few, most)),
          subst (λ (p : Pointer). Ready u (raised t top) kept (suc (suc n)) p) (sym (level_none (seen u kept) t top x.leads x.bare (suc n) k from few)) tt,
        )

    -- a way that was prepared is, one level further down
    pub way_raised : (n k : ℕ) → n ≤ t.depth → k < 409 ^ n → WayReady s t kept n k → WayReady u (raised t top) kept (suc n) k
    way_raised n k le few way = way_up n k le few (way_on n k way)

    pub still_prepared : (limit o len : ℕ) → t.size ≤ 8192 * 409 ^ t.depth → Prepared s t kept limit o len → Prepared u (raised t top) kept limit o len
    still_prepared limit o len room was =
        let level : suc t.depth ≡ t.depth + 1 = omega arith in
        record {
          each = λ k from to inside. subst (λ d. WayReady u (raised t top) kept d (k / 8192)) level (way_raised t.depth (k / 8192) (omega arith) (omega (arith, inside, room)) (was.each k from to inside));
          last = λ past some. subst (λ d. WayReady u (raised t top) kept d ((t.size - 1) / 8192)) level (way_raised t.depth ((t.size - 1) / 8192) (omega arith) (omega (arith, some, room)) (was.last past some));
          end = was.end;
        }

  -- ---- what a device that tells has

  module _ (told : s.tells) (placed : IsPlaced s.stands s.now) (hangs : Hangs s t) where
    ne_stands : (n k b : ℕ) → n ≤ t.depth → block_at s t n k ≡ Local b → b ≢ top
    ne_stands n k b le e f =
        let is = is_down s t placed hangs told n k b le e in
        (x.was.1 told).1 (place (kind_down t n) t.tag is.index (t.rank + (t.depth - n))) (subst (λ y. s.stands y (place (kind_down t n) t.tag is.index (t.rank + (t.depth - n)))) f is.stands)

    pub block_same : (n k : ℕ) → n ≤ t.depth → block_at u t n k ≡ block_at s t n k
    block_same zero k le = refl
    block_same (suc n) k le =
        below_same s u (kind_down t n) (block_at s t n (k / 409)) (block_at u t n (k / 409)) (k % 409)
        (block_same n (k / 409) (omega (arith, le))) all.same_held
        (λ b e j. (x.same b (ne_stands n (k / 409) b (omega (arith, le)) e)).slots j)

    -- each block stands one level further down, and beside the old top there is none
    pub block_raised : (n k : ℕ) → n ≤ t.depth → k < 409 ^ n → block_at u (raised t top) (suc n) k ≡ block_at s t n k
    block_raised n k le few = level_up u t top x.leads x.bare n k le few ∙ block_same n k le

    pub block_none : (n k : ℕ) → 409 ^ n ≤ k → k < 409 ^ suc n → block_at u (raised t top) (suc n) k ≡ Nil
    block_none n k from few = level_none u t top x.leads x.bare n k from few

    -- the blocks are those that there were, and the new top
    pub owned_back : (b : ℕ) → HasBlock u (raised t top) b → HasBlock s t b ⊎ (b ≡ top)
    owned_back b has = by has.down has.index has.within has.is
      where
        by : (n k : ℕ) → n ≤ t.depth + 1 → block_at u (raised t top) n k ≡ Local b → HasBlock s t b ⊎ (b ≡ top)
        by zero k le e = inr (sym (local_eq e))
        by (suc n) k le e =
            let j = index_of (suc n) k in
            let here : block_at u (raised t top) (suc n) j ≡ Local b = index_same u (raised t top) (suc n) k ∙ e in
            let low : n ≤ t.depth = omega (arith, le) in
            ⊎_elim
            (λ lt. inl (record { down = n; index = j; within = low; is = sym (block_raised n j low lt) ∙ here }))
            (λ ge. absurd (nil_local b (sym (block_none n j ge (index_few (suc n) k)) ∙ here)))
            (cases_lt j (409 ^ n))

    pub owned_on : (b : ℕ) → HasBlock s t b → HasBlock u (raised t top) b
    owned_on b has =
        let low = has.within in
        record {
          down = suc has.down;
          index = index_of has.down has.index;
          within = omega (arith, low);
          is = block_raised has.down (index_of has.down has.index) low (index_few has.down has.index) ∙ index_same s t has.down has.index ∙ has.is;
        }

  pub owned_top : HasBlock u (raised t top) top
  owned_top = record { down = 0; index = 0; within = omega arith; is = refl }
