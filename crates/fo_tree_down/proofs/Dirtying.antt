-- How many blocks a way that is made current leaves dirty.
use Rattle.std.specs.List.{Contains}
use Rattle.std.proofs.Common.{◌≡◌, ◌≢◌, ◌⊎◌, ◌+◌, ◌-◌, ◌*◌, ◌/◌, ◌%◌, ◌≤◌, ℕ, zero, suc, List, [], ◌∷◌, ◌++◌, length, length-append, inl, inr, ⊎_elim, refl, sym, ap, ◌∙◌, subst, arith}
use Rattle.std.proofs.lemmas.Bool.{cases_eq}
use Rattle.std.proofs.lemmas.List.Elements.{Contains-append_left, Contains-append_right, Contains-append_cases}
use Rattle.fo_image.specs.declared.types.Label.{Label}
use Rattle.fo_image.specs.declared.types.Pointer.{Pointer}
use Rattle.fo_image.specs.declared.types.Pointer.TheVariants.{Local}
use Rattle.fo_tree_own.specs.of_crash.Images.{target}
use Rattle.fo_tree_look.specs.of_ports.State.{State, KeepsAll, none}
use Rattle.fo_tree_look.specs.of_ports.Sources.{Made, Dirties, DirtiesIn}
use Rattle.fo_tree_look.proofs.of_looks.Dirtied.{dirties_joins, dirties_put}
use Rattle.fo_tree_look.specs.of_tree_read.declared.tree.Tree.{Tree}
use Rattle.fo_tree_look.specs.of_tree_read.Tree.{kind_down, below, block_at, above as hold}
use Rattle.fo_tree_own.specs.Step.{Filled, Links}
use Rattle.fo_tree_own.proofs.Link.{local_eq}
use Rattle.fo_tree_down.specs.Way.{OnWay, HasWay, AddsWay, with_top}

-- ---- lists of blocks

first_among : (x : ℕ) (xs : List ℕ) → Contains (x ∷ xs) x
first_among x xs = (0, omega arith, refl)

next_among : (x y : ℕ) (xs : List ℕ) → Contains xs y → Contains (x ∷ xs) y
next_among x y xs (k, lt, is) = (suc k, omega (arith, lt), is)

pub dirties_within : {s u : State} {ps qs : List ℕ} → ((b : ℕ) → Contains ps b → Contains qs b) → DirtiesIn ps s u → DirtiesIn qs s u
dirties_within {u = u} wider p = record {
  dirty = λ b d. ⊎_elim (λ old. inl old) (λ h. inr (⊎_elim (λ l. inl (wider b l)) (λ r. inr r) h)) (p.dirty b d);
  made = λ b made. let is = p.made b made in (wider b is.0, wider (u.label_block b) is.1);
  clearing = λ b j h. ⊎_elim (λ old. inl old) (λ l. inr (wider b l)) (p.clearing b j h);
  places = p.places;
}

pub dirties_none : (s : State) → DirtiesIn [] s s
dirties_none s = record { dirty = λ b d. inl d; made = λ b made. absurd (made.0 made.1); clearing = λ b j h. inl h; places = λ b. refl }

pub dirties_same : (s : State) (n : ℕ) → Dirties n none s s
dirties_same s n = record { blocks = []; few = omega arith; within = dirties_none s; each = λ b h. absurd h }

-- what was counted before is counted once
pub dirties_on : {s m u : State} (blocks more : List ℕ) → DirtiesIn blocks s m → DirtiesIn (more ++ blocks) m u → DirtiesIn (more ++ blocks) s u
dirties_on blocks more p q = dirties_within (λ b h. ⊎_elim (λ l. l) (λ r. Contains-append_right more blocks b r) (Contains-append_cases (more ++ blocks) blocks b h)) (dirties_joins p q)

pub dirties_both : {s m u : State} {n₁ n₂ : ℕ} {first second : ℕ → Type 0} → Dirties n₁ first s m → Dirties n₂ second m u → Dirties (n₁ + n₂) second s u
dirties_both p q = record {
  blocks = q.blocks ++ p.blocks;
  few = let long = length-append q.blocks p.blocks in let one = p.few in let two = q.few in omega (arith, long, one, two);
  within = dirties_joins p.within q.within;
  each = λ b is. Contains-append_left q.blocks p.blocks b (q.each b is);
}

pub dirties_most : {s u : State} {n m : ℕ} {counted : ℕ → Type 0} → n ≤ m → Dirties n counted s u → Dirties m counted s u
dirties_most le p = record { blocks = p.blocks; few = let few = p.few in omega (arith, few, le); within = p.within; each = p.each }

pub dirties_counts : {s u : State} {n : ℕ} {counted others : ℕ → Type 0} → ((b : ℕ) → others b → counted b) → Dirties n counted s u → Dirties n others s u
dirties_counts which p = record { blocks = p.blocks; few = p.few; within = p.within; each = λ b is. p.each b (which b is) }

-- ---- one block

-- nothing was done, and the block is counted
pub dirties_kept : (s : State) (at : ℕ) → Dirties 2 (λ b. b ≡ at) s s
dirties_kept s at = record {
  blocks = at ∷ [];
  few = omega arith;
  within = dirties_within (λ b h. absurd (none_among b h)) (dirties_none s);
  each = λ b e. subst (λ x. Contains (at ∷ []) x) (sym e) (first_among at []);
}
  where
    none_among : (b : ℕ) → Contains [] b → ⊥
    none_among b (k, lt, is) = omega (arith, lt)

-- one block alone has another label
pub made_only : (s u : State) (at : ℕ) → ((b : ℕ) → b ≢ at → u.label b ≡ s.label b) → (b : ℕ) → Made s u b → b ≡ at
made_only s u at labels b made = ⊎_elim (λ e. e) (λ ne. absurd (made.0 (ap (λ (l : Label). l.state) (sym (labels b ne)) ∙ made.1))) (cases_eq b at)

-- a block was given out
pub dirties_made : {s u : State} (at : ℕ) → KeepsAll s u → ((b : ℕ) → Made s u b → b ≡ at) → ((b : ℕ) → u.dirty b → s.dirty b ⊎ ((b ≡ at) ⊎ (b ≡ u.label_block at))) → ((b j : ℕ) → u.clearing b j → s.clearing b j) → Dirties 2 (λ b. b ≡ at) s u
dirties_made {u = u} at all made dirty order = record {
  blocks = at ∷ u.label_block at ∷ [];
  few = omega arith;
  within = record {
    dirty = λ b d. ⊎_elim (λ old. inl old) (λ h. inr (inl (⊎_elim (λ e. here b e) (λ e. subst (λ x. Contains (at ∷ u.label_block at ∷ []) x) (sym e) there) h))) (dirty b d);
    made = λ b is. let e = made b is in (here b e, subst (λ x. Contains (at ∷ u.label_block at ∷ []) (u.label_block x)) (sym e) there);
    clearing = λ b j h. inl (order b j h);
    places = all.same_label_blocks;
  };
  each = here;
}
  where
    here : (b : ℕ) → b ≡ at → Contains (at ∷ u.label_block at ∷ []) b
    here b e = subst (λ x. Contains (at ∷ u.label_block at ∷ []) x) (sym e) (first_among at (u.label_block at ∷ []))

    there : Contains (at ∷ u.label_block at ∷ []) (u.label_block at)
    there = next_among at (u.label_block at) (u.label_block at ∷ []) (first_among (u.label_block at) [])

-- and filled
pub dirties_filled : {s m u : State} {n : ℕ} (at : ℕ) → Dirties n (λ b. b ≡ at) s m → KeepsAll m u → Filled at m u → Dirties n (λ b. b ≡ at) s u
dirties_filled at p all filled = record {
  blocks = p.blocks;
  few = p.few;
  within = dirties_put at all p.within (p.each at refl) filled.dirty filled.labels (λ b j h. inl (filled.order.clearing b j h).1);
  each = p.each;
}

-- the block below a slot of a counted block was given out
dirties_linked : {t : Tree} {level k at i result : ℕ} {was : Pointer} {s m u : State} {blocks : List ℕ} → KeepsAll m u → Links t level k at i was result m u → DirtiesIn blocks s m → Contains blocks at → DirtiesIn (result ∷ u.label_block result ∷ blocks) s u
dirties_linked {at = at} {result = result} {was = was} {m = m} {u = u} {blocks = blocks} all step p is_in = dirties_within {ps = new ++ blocks} {qs = result ∷ u.label_block result ∷ blocks} wider (dirties_joins p here)
  where
    new : List ℕ
    new = result ∷ u.label_block result ∷ at ∷ []

    made_is : (b : ℕ) → Made m u b → b ≡ result
    made_is b made = made_only m u result step.labels b made

    one : (b : ℕ) → b ≡ result → Contains new b
    one b e = subst (λ x. Contains new x) (sym e) (first_among result (u.label_block result ∷ at ∷ []))

    two : (b : ℕ) → b ≡ result → Contains new (u.label_block b)
    two b e = subst (λ x. Contains new (u.label_block x)) (sym e) (next_among result (u.label_block result) (u.label_block result ∷ at ∷ []) (first_among (u.label_block result) (at ∷ [])))

    three : (b : ℕ) → b ≡ at → Contains new b
    three b e = subst (λ x. Contains new x) (sym e) (next_among result at (u.label_block result ∷ at ∷ []) (next_among (u.label_block result) at (at ∷ []) (first_among at [])))

    -- of the two that the step may have touched, the older one wasn't
    mine : (b : ℕ) → (b ≡ at) ⊎ (was ≡ Local b) → (m.label b).epoch ≡ m.high → Contains new b
    mine b (inl e) current = three b e
    mine b (inr e) current = let older = step.older b e in absurd (omega (arith, older, current))

    here : DirtiesIn new m u
    here = record {
      dirty = λ b d. ⊎_elim
          (λ old. inl old)
          (λ h. inr (inl (⊎_elim
          (λ touched. ⊎_elim (λ made. one b (made_is b made)) (λ own. mine b own.0 own.1) touched)
          (λ l. subst (λ x. Contains new x) (sym l.2) (two l.0 (made_is l.0 l.1)))
          h)))
          (step.changes.dirty b d);
      made = λ b made. (one b (made_is b made), two b (made_is b made));
      clearing = λ b j h. inl (step.changes.clearing b j h).1;
      places = all.same_label_blocks;
    }

    old_in : (b : ℕ) → Contains blocks b → Contains (result ∷ u.label_block result ∷ blocks) b
    old_in b h = next_among result b (u.label_block result ∷ blocks) (next_among (u.label_block result) b blocks h)

    wider : (b : ℕ) → Contains (new ++ blocks) b → Contains (result ∷ u.label_block result ∷ blocks) b
    wider b (zero, lt, is) = (zero, omega arith, is)
    wider b (suc zero, lt, is) = (suc zero, omega arith, is)
    wider b (suc (suc zero), lt, is) = old_in b (subst (λ x. Contains blocks x) is is_in)
    wider b (suc (suc (suc j)), lt, is) = (suc (suc j), omega (arith, lt), is)

-- ---- a way

-- the block at the end of a way is one of it
way_end : (s : State) (t : Tree) (n k b : ℕ) → block_at s t n k ≡ Local b → OnWay s t n k b
way_end s t zero k b is = is
way_end s t (suc n) k b is = inr is

pub dirties_end : {s u : State} {m : ℕ} (t : Tree) (n k at : ℕ) → block_at u t n k ≡ Local at → Dirties m (λ b. OnWay u t n k b) s u → Dirties m (λ b. b ≡ at) s u
dirties_end {u = u} t n k at is p = dirties_counts (λ b e. way_end u t n k b (is ∙ ap (λ y. Local y) (sym e))) p

-- a list that has the way to the block above has that to the block below it, once it has the block
has_next : (m : State) (t : Tree) (top n k above at : ℕ) (had has : List ℕ) → HasWay had m (with_top t top) n (k / 409) → block_at m (with_top t top) n (k / 409) ≡ Local above → target ((m.now above).slot (k % 409)) ≡ Local at → ((b : ℕ) → Contains had b → Contains has b) → Contains has at → HasWay has m (with_top t top) (suc n) k
has_next m t top n k above at had has way is leads wider here b on = ⊎_elim
    (λ up. wider b (way b up))
    (λ e. subst (λ x. Contains has x) (sym (local_eq (sym e ∙ ap (λ (p : Pointer). below m (kind_down t n) p (k % 409)) is ∙ leads))) here)
    on

above_up : (n j k : ℕ) → j ≤ k → hold n j ≤ hold n k
above_up zero j k le = omega arith
above_up (suc n) j k le = sums (j / 409) (k / 409) (hold n (j / 409)) (hold n (k / 409)) (omega (arith, le)) (above_up n (j / 409) (k / 409) (omega (arith, le)))
  where
    sums : (a b x y : ℕ) → a ≤ b → x ≤ y → a + x ≤ b + y
    sums a b x y one two = omega (arith, one, two)

-- how many more there are beside the way to a neighbour
more_same : (j k l x y : ℕ) → j ≡ k → l ≤ 2 * (k / 409 + y - (j / 409 + x)) → l ≤ 2 * (k + (k / 409 + y) - (j + (j / 409 + x)))
more_same j k l x y e few = omega (arith, e, few)

more_next : (j k l x y : ℕ) → j ≤ k → j ≢ k → x ≤ y → l ≤ 2 * (k / 409 + y - (j / 409 + x)) → l + 2 ≤ 2 * (k + (k / 409 + y) - (j + (j / 409 + x)))
more_next j k l x y le ne up few = omega (arith, le, ne, up, few)

-- ---- one step down

-- the block below was current, and stays
pub ways_same : {s m : State} (t : Tree) (top n k above at : ℕ) → Dirties (2 * (n + 1)) (λ b. OnWay m (with_top t top) n (k / 409) b) s m → block_at m (with_top t top) n (k / 409) ≡ Local above → target ((m.now above).slot (k % 409)) ≡ Local at → Dirties (2 * (suc n + 1)) (λ b. OnWay m (with_top t top) (suc n) k b) s m
ways_same {m = m} t top n k above at p is leads = record {
  blocks = at ∷ p.blocks;
  few = let few = p.few in omega (arith, few);
  within = dirties_within (λ b h. next_among at b p.blocks h) p.within;
  each = has_next m t top n k above at p.blocks (at ∷ p.blocks) p.each is leads (λ b h. next_among at b p.blocks h) (first_among at p.blocks);
}

pub adds_same : {s m : State} (t : Tree) (top n k above at j : ℕ) (blocks : List ℕ) → j ≤ k → AddsWay (2 * (k / 409 + hold n (k / 409) - (j / 409 + hold n (j / 409)))) blocks s m (with_top t top) n (k / 409) → block_at m (with_top t top) n (k / 409) ≡ Local above → target ((m.now above).slot (k % 409)) ≡ Local at → (j ≡ k → Contains blocks at) → AddsWay (2 * (k + hold (suc n) k - (j + hold (suc n) j))) blocks s m (with_top t top) (suc n) k
adds_same {m = m} t top n k above at j blocks le p is leads last = ⊎_elim
    (λ e. record {
      more = p.more;
      few = more_same j k (length p.more) (hold n (j / 409)) (hold n (k / 409)) e p.few;
      within = p.within;
      way = has_next m t top n k above at (p.more ++ blocks) (p.more ++ blocks) p.way is leads (λ b h. h) (Contains-append_right p.more blocks at (last e));
    })
    (λ ne. record {
      more = at ∷ p.more;
      few = let less = more_next j k (length p.more) (hold n (j / 409)) (hold n (k / 409)) le ne (above_up n (j / 409) (k / 409) (omega (arith, le))) p.few in omega (arith, less);
      within = dirties_within {ps = p.more ++ blocks} {qs = at ∷ (p.more ++ blocks)} (λ b h. next_among at b (p.more ++ blocks) h) p.within;
      way = has_next m t top n k above at (p.more ++ blocks) (at ∷ (p.more ++ blocks)) p.way is leads (λ b h. next_among at b (p.more ++ blocks) h) (first_among at (p.more ++ blocks));
    })
    (cases_eq j k)

-- The block below came anew. The way so far is what it was.
pub record CameBelow (m u : State) (t : Tree) (top n k above at level : ℕ) (was : Pointer) : Type 0 where
  pub all : KeepsAll m u
  pub links : Links t level (k / 409) above (k % 409) was at m u
  pub first : block_at m (with_top t top) n (k / 409) ≡ Local above
  pub last : block_at u (with_top t top) n (k / 409) ≡ Local above
  pub same : (b : ℕ) → OnWay u (with_top t top) n (k / 409) b → OnWay m (with_top t top) n (k / 409) b

came_way : {m u : State} {t : Tree} {top n k above at level : ℕ} {was : Pointer} (list : List ℕ) → CameBelow m u t top n k above at level was → HasWay list m (with_top t top) n (k / 409) → HasWay (at ∷ u.label_block at ∷ list) u (with_top t top) (suc n) k
came_way {u = u} {t = t} {top = top} {n = n} {k = k} {above = above} {at = at} list x way = has_next u t top n k above at list (at ∷ u.label_block at ∷ list) (λ b on. way b (x.same b on)) x.last x.links.leads
    (λ b h. next_among at b (u.label_block at ∷ list) (next_among (u.label_block at) b list h))
    (first_among at (u.label_block at ∷ list))

pub ways_came : {s m u : State} {t : Tree} {top n k above at level : ℕ} {was : Pointer} → CameBelow m u t top n k above at level was → Dirties (2 * (n + 1)) (λ b. OnWay m (with_top t top) n (k / 409) b) s m → Dirties (2 * (suc n + 1)) (λ b. OnWay u (with_top t top) (suc n) k b) s u
ways_came {m = m} {u = u} {t = t} {top = top} {n = n} {k = k} {above = above} {at = at} x p = record {
  blocks = at ∷ u.label_block at ∷ p.blocks;
  few = let few = p.few in omega (arith, few);
  within = dirties_linked x.all x.links p.within (p.each above (way_end m (with_top t top) n (k / 409) above x.first));
  each = came_way p.blocks x p.each;
}

pub adds_came : {s m u : State} {t : Tree} {top n k above at level : ℕ} {was : Pointer} (j : ℕ) (blocks : List ℕ) → CameBelow m u t top n k above at level was → j ≤ k → j ≢ k → AddsWay (2 * (k / 409 + hold n (k / 409) - (j / 409 + hold n (j / 409)))) blocks s m (with_top t top) n (k / 409) → AddsWay (2 * (k + hold (suc n) k - (j + hold (suc n) j))) blocks s u (with_top t top) (suc n) k
adds_came {m = m} {u = u} {t = t} {top = top} {n = n} {k = k} {above = above} {at = at} j blocks x le ne p = record {
  more = at ∷ u.label_block at ∷ p.more;
  few = let less = more_next j k (length p.more) (hold n (j / 409)) (hold n (k / 409)) le ne (above_up n (j / 409) (k / 409) (omega (arith, le))) p.few in omega (arith, less);
  within = dirties_linked {blocks = p.more ++ blocks} x.all x.links p.within (p.way above (way_end m (with_top t top) n (k / 409) above x.first));
  way = came_way (p.more ++ blocks) x p.way;
}
