-- All removals are kept by each step.
use Rattle.std.proofs.Common.{◌≡◌, ◌≢◌, ◌⊎◌, inl, inr, ⊎_elim, ℕ, ◌≤◌, true, false, List, [], ◌∷◌, ◌++◌, refl, sym, ◌∙◌, ap, subst}
use Rattle.std.proofs.lemmas.Bool.{cases_eq}
use Rattle.std.specs.List.{Contains}
use Rattle.fo_image.specs.declared.types.Label.{Label}
use Rattle.fo_image.specs.declared.types.State.TheVariants.{Live}
use Rattle.fo_image.specs.declared.types.Pointer.TheVariants.{Local}
use Rattle.fo_image.specs.Usable.{is_usable}
use Rattle.fo_crash.specs.declared.slot.Slot.{Slot}
use Rattle.fo_crash.specs.declared.place.Place.{Place}
use Rattle.fo_crash.specs.Images.{Content, Image, Reaches, target, to_block}
use Rattle.fo_crash.specs.Places.{place_below}
use Rattle.fo_crash.proofs.Reach.{same_walk}
use Rattle.fo_crash.proofs.Sure.{same_back}
use Rattle.fo_cells_epochs.specs.of_cells.Known.{Known, Top, MaySlot, Stands}
use Rattle.fo_cells_epochs.specs.of_cells.Writes.{Gives}
use Rattle.fo_cells_epochs.specs.of_cells.Safe.{super_top, IsSafe}
use Rattle.fo_cells_epochs.proofs.of_cells.Standing.{among_cases, first_among, next_among}
use Rattle.fo_cells_epochs.proofs.of_cells.SafeCalls.{walk_beside}
use Rattle.fo_cells_epochs.proofs.of_cells.Giving.{may_there, may_here, stands_new}
use Rattle.fo_cells_epochs.specs.of_cells_out.Removals.{Pending, AreBehind}
use Rattle.fo_cells_epochs.specs.of_cells_out.Parents.{Tree, IsUnwritten, Moves, Stays, IsDivided, blocks_of, making, view}
use Rattle.fo_cells_epochs.proofs.of_cells_out.Queue.{among_right, among_either, nothing_among}
use Rattle.fo_cells_epochs.proofs.of_cells_out.Takeout.{cell}
use Rattle.fo_cells_epochs.proofs.of_cells_out.Dividing.{still_divided, given_divided, covered_one}
use Rattle.fo_cells_epochs.specs.Epochs.{Root, HasTrees, FewerTops, KeepsTrees}
use Rattle.fo_cells_epochs.proofs.Trees.{active_stands, active_still}
use Rattle.fo_cells_epochs.proofs.Made.{made_top, given_view, given_tree}
use Rattle.fo_cells_epochs.proofs.Snapshots.{live_kept}
use Rattle.fo_cells_epochs.proofs.Epochs.{outside_memory}
use Rattle.fo_cells_queue.specs.Queue.{Queued, tops_from, past_blocks, ArePast, IsOnce, IsQueue, MovesQueue}
use Rattle.fo_cells_queue.proofs.Seen.{from_active, from_root, from_cases, seen_cases, seen_active, seen_tree, seen_still, past_each, block_among}

-- LISTS
pub once_both : (xs ys : List ℕ) → IsOnce xs → IsOnce ys → ((x : ℕ) → Contains xs x → Contains ys x → ⊥) → IsOnce (xs ++ ys)
once_both [] ys one two apart = two
once_both (x ∷ xs) ys one two apart = (
  λ is. ⊎_elim (λ own. one.0 own) (λ other. apart x (first_among x xs) other) (among_either xs ys x is),
  once_both xs ys one.1 two (λ y l r. apart y (next_among x y xs l) r),
)

pub assoc : (xs ys zs : List ℕ) → (xs ++ ys) ++ zs ≡ xs ++ (ys ++ zs)
assoc [] ys zs = refl
assoc (x ∷ xs) ys zs = ap (λ (l : List ℕ). x ∷ l) (assoc xs ys zs)

pub blocks_both : (queue rs : List Pending) → blocks_of (queue ++ rs) ≡ blocks_of queue ++ blocks_of rs
blocks_both [] rs = refl
blocks_both (r ∷ queue) rs = ap (λ (l : List ℕ). r.blocks ++ l) (blocks_both queue rs) ∙ sym (assoc r.blocks (blocks_of queue) (blocks_of rs))

-- STEPS SEEN FROM THE ACTIVE TREES
unwritten_view : (k : Known) (ts : List Top) (a : ℕ) → IsUnwritten (view k ts) a → IsUnwritten k a
unwritten_view k ts a u = record { newborn = u.newborn; late = u.late; clears = u.clears }

view_unwritten : (k : Known) (ts : List Top) (a : ℕ) → IsUnwritten k a → IsUnwritten (view k ts) a
view_unwritten k ts a u = record { newborn = u.newborn; late = u.late; clears = u.clears }

pub stays_view : {old new : Known} {t : Tree} {before after : List Top} {roots : List Root} → Stays old new t → KeepsTrees old new before after roots → Stays (view old before) (view new after) t
stays_view {old} {new} {t} {before} {after} s k = record {
  slots = s.slots;
  stands = active_still k;
  may = s.may;
  unwritten = λ a m u. view_unwritten new after a (s.unwritten a m (unwritten_view old before a u));
  tops = k.fewer.fewer;
}

pub moves_view : {at i : ℕ} {s : Slot} {old new : Known} {before after : List Top} {roots : List Root} → Moves at i s old new → KeepsTrees old new before after roots → Moves at i s (view old before) (view new after)
moves_view {at} {i} {s} {old} {new} {before} {after} m k = record {
  here = m.here;
  others = m.others;
  stands = active_still k;
  may = m.may;
  unwritten = λ a u. view_unwritten new after a (m.unwritten a (unwritten_view old before a u));
  tops = k.fewer.fewer;
}

-- fewer tops of an epoch
pub fewer_from : (before after : List Top) (roots : List Root) (epoch : ℕ) → FewerTops before after → (t : Top) → Contains (tops_from after roots epoch) t → Contains (tops_from before roots epoch) t
fewer_from before after roots epoch f t is = ⊎_elim
    (λ a. from_active before roots epoch t (f.fewer t a))
    (λ x. subst (λ (y : Top). Contains (tops_from before roots epoch) y) x.is (from_root before roots epoch x.root x.among x.from))
    (from_cases after roots epoch t is)

-- NO TOP OF THE ACTIVE TREES WAITS
past_top : (k : Known) (active : List Top) (roots : List Root) (past : List Queued) (earlier : List ℕ) (x : Top) → ArePast k active roots earlier past → Contains active x → Contains (past_blocks past) x.at → ⊥
past_top k active roots [] earlier x h is c = nothing_among x.at c
past_top k active roots (r ∷ rs) earlier x h is c = ⊎_elim
    (λ own. h.0.tops x (from_active active roots r.epoch x is) own)
    (λ more. past_top k active roots rs (earlier ++ r.pending.blocks) x h.1 is more)
    (among_either r.pending.blocks (past_blocks rs) x.at c)

queue_top : (k : Known) (queue : List Pending) (earlier : List ℕ) (x : Top) → AreBehind k earlier queue → Contains k.tops x → Contains (blocks_of queue) x.at → ⊥
queue_top k [] earlier x h is c = nothing_among x.at c
queue_top k (r ∷ rs) earlier x h is c = ⊎_elim
    (λ own. h.0.tops x is own)
    (λ more. queue_top k rs (earlier ++ r.blocks) x h.1 is more)
    (among_either r.blocks (blocks_of rs) x.at c)

pub not_top : (k : Known) (t : Tree) (active : List Top) (roots : List Root) (past : List Queued) (queue : List Pending) → IsDivided (view k active) t (past_blocks past) queue → ArePast k active roots [] past → (x : Top) → Contains active x → t.Covered x.at → ⊥
not_top k t active roots past queue now behind x is c = ⊎_elim
    (λ old. past_top k active roots past [] x behind is old)
    (λ own. queue_top (view k active) queue (past_blocks past) x now.behind is own)
    (among_either (past_blocks past) (blocks_of queue) x.at (now.listed x.at c))

-- WHAT ONLY TAKES AWAY
pub queue_still : {old new : Known} {t : Tree} {high : ℕ} {before after : List Top} {roots : List Root} {past : List Queued} {queue : List Pending} → Stays old new t → KeepsTrees old new before after roots → ((b : ℕ) → t.Covered b ⊎ t.Made b → new.label b ≡ old.label b) → IsQueue old t high before roots past queue → IsQueue new t high after roots past queue
queue_still {old} {new} {t} {high} {before} {after} {roots} {past} {queue} s k labels q = record {
  now = still_divided t (past_blocks past) queue (stays_view s k) q.now;
  behind = past_each old new before after roots roots past [] (λ r is. record {
    led = λ a i b x p st may e own. ((p, seen_still k r.epoch a p st), s.may a i b x may e);
    memory = λ i b e own. ap target (sym (s.slots r.pending.after i)) ∙ e;
    tops = λ x h own. fewer_from before after roots r.epoch k.fewer x h;
  }) q.behind;
  order = q.order;
  before = q.before;
  within = λ b w. let r = q.within b w in record { path = r.path; leads = ap target (same_walk new.memory old.memory s.slots r.path (to_block 1)) ∙ r.leads };
  once = q.once;
  live = λ b is. ap (λ (l : Label). l.state) (labels b is) ∙ q.live b is;
  begun = λ r b is own. subst (λ (l : Label). l.epoch ≤ r.epoch) (sym (labels b (inl (q.now.covered b (inl (block_among past r b is own)))))) (q.begun r b is own);
}

-- A SLOT MOVES
pub queue_moves : {at i : ℕ} {s : Slot} {old new : Known} {t u : Tree} {high : ℕ} {doubt : Content → Type 0} {before after : List Top} {roots : List Root} {past : List Queued} {queue rs : List Pending} → MovesQueue at i s old new t u after past queue rs → KeepsTrees old new before after roots → IsSafe old high doubt → IsQueue old t high before roots past queue → IsQueue new u high after roots past (queue ++ rs)
queue_moves {at} {i} {s} {old} {new} {t} {u} {high} {doubt} {before} {after} {roots} {past} {queue} {rs} m k safe q = record {
  now = m.now;
  behind = behind;
  order = q.order;
  before = q.before;
  within = m.reached;
  once = subst (λ (l : List ℕ). IsOnce l) (assoc (past_blocks past) (blocks_of queue) (blocks_of rs) ∙ ap (λ (l : List ℕ). past_blocks past ++ l) (sym (blocks_both queue rs))) (once_both (past_blocks past ++ blocks_of queue) (blocks_of rs) q.once m.once (λ b was own. q.now.tree.gone b (was_covered b was) (m.inside b (covered_one rs b own))));
  live = λ b is. ap (λ (f : ℕ → Label). (f b).state) m.label ∙ ⊎_elim (λ c. live_covered b c) (λ made. q.live b (inr (m.made b made))) is;
  begun = λ r b is own. subst (λ (f : ℕ → Label). (f b).epoch ≤ r.epoch) (sym m.label) (q.begun r b is own);
}
  where
    was_covered : (b : ℕ) → Contains (past_blocks past ++ blocks_of queue) b → t.Covered b
    was_covered b is = q.now.covered b (⊎_elim (λ l. inl l) (λ r. inr (covered_one queue b r)) (among_either (past_blocks past) (blocks_of queue) b is))

    behind : ArePast new after roots [] past
    behind = past_each old new before after roots roots past [] (λ r is. record {
      led = λ a j b x p st may e own. (
        (p, seen_still k r.epoch a p st),
        ⊎_elim
            (λ was. was)
            (λ n. absurd (m.uncovered b (ap target (sym n.2) ∙ e) (q.now.covered b (inl (block_among past r b is own)))))
            (m.moves.may a j x may),
      );
      memory = λ j b e own. ⊎_elim
          (λ c. absurd (m.uncovered b (ap target (sym m.moves.here) ∙ ap (λ y. target ((new.memory y).slot i)) (sym c.0) ∙ ap (λ n. target ((new.memory r.pending.after).slot n)) (sym c.1) ∙ e) (q.now.covered b (inl (block_among past r b is own)))))
          (λ ne. ap target (sym (m.moves.others r.pending.after j ne)) ∙ e)
          (cell at i r.pending.after j);
      tops = λ x h own. fewer_from before after roots r.epoch k.fewer x h;
    }) q.behind

    live_covered : (b : ℕ) → u.Covered b → (old.label b).state ≡ Live
    live_covered b c = ⊎_elim
        (λ e. absurd (not_top new u after roots past (queue ++ rs) m.now behind super_top k.fewer.top (subst (λ y. u.Covered y) e c)))
        (λ ne. ⊎_elim
        (λ was. q.live b (inl (q.now.covered b (inl was))))
        (λ own. ⊎_elim
        (λ was. q.live b (inl (was_covered b (among_right (past_blocks past) (blocks_of queue) b was))))
        (λ new_is. (safe.live b ne (q.within b (m.inside b (covered_one rs b new_is)))).0)
        (among_either (blocks_of queue) (blocks_of rs) b (subst (λ (l : List ℕ). Contains l b) (blocks_both queue rs) own)))
        (among_either (past_blocks past) (blocks_of (queue ++ rs)) b (m.now.listed b c)))
        (cases_eq b 1)

-- A BLOCK IS GIVEN OUT that may be: it is in no tree, and waits for nothing
pub given_outside : {at : ℕ} {c : Content} {p : Place} {old new : Known} {t : Tree} {high : ℕ} {doubt : Content → Type 0} {active : List Top} {roots : List Root} {past : List Queued} {queue : List Pending} → Gives at c p old new → is_usable old.low (old.label at) ≡ true → IsSafe old high doubt → HasTrees old high active roots → IsQueue old t high active roots past queue → (t.Within at → ⊥) × ((t.Covered at ⊎ t.Made at) → ⊥)
given_outside {at} {c} {p} {old} {new} {t} g usable safe h q = (
  λ w. outside_memory safe h at (λ r st. g.nowhere r (active_stands h at r st)) (q.within at w),
  λ is. let e : true ≡ false = sym usable ∙ live_kept old.low (old.label at) (q.live at is) in absurd (cc),
)

pub queue_given : {at : ℕ} {c : Content} {p : Place} {old new : Known} {t : Tree} {high : ℕ} {doubt : Content → Type 0} {active : List Top} {roots : List Root} {past : List Queued} {queue : List Pending} → Gives at c p old new → is_usable old.low (old.label at) ≡ true → (new.label at).state ≡ Live → (t.Older at → ⊥) → ((i b : ℕ) → target (c.slot i) ≡ Local b → t.Within b × Stands (view old active) b (place_below p i (c.slot i))) → IsSafe old high doubt → HasTrees old high active roots → IsQueue old t high active roots past queue → IsQueue new (making t at) high (made_top at p ∷ active) roots past queue
queue_given {at} {c} {p} {old} {new} {t} {high} {doubt} {active} {roots} {past} {queue} g usable live young inside safe h q = record {
  now = given_divided t (past_blocks past) queue (given_view g h (λ i b e. (inside i b e).1)) outside.0 (λ m. outside.1 (inr m)) (λ m. outside.1 (inl m)) young (λ i b e. (inside i b e).0) q.now;
  behind = past_each old new active (made_top at p ∷ active) roots roots past [] (λ r is. record {
    led = λ a i b x st_p st may e own. ⊎_elim
        (λ one. absurd (q.now.tree.gone b (covered r is b own) (inside i b (ap target (sym (may_here g i x (subst (λ y. MaySlot new y i x) one may))) ∙ e)).0))
        (λ ne. ((st_p, there r.epoch a st_p ne st), may_there g a i x ne may))
        (cases_eq a at);
    memory = λ i b e own. ⊎_elim
        (λ one. absurd (q.now.tree.gone b (covered r is b own) (inside i b (ap target (sym (g.memory.here.slots i)) ∙ subst (λ y. target ((new.memory y).slot i) ≡ Local b) one e)).0))
        (λ ne. ap target (sym ((g.memory.others r.pending.after ne).slots i)) ∙ e)
        (cases_eq r.pending.after at);
    tops = λ x in_x own. ⊎_elim
        (λ a. ⊎_elim
        (λ one. absurd (outside.1 (inl (subst (λ (y : Top). t.Covered y.at) (sym one) (covered r is x.at own)))))
        (λ was. from_active active roots r.epoch x was)
        (among_cases (made_top at p) active x a))
        (λ y. subst (λ (z : Top). Contains (tops_from active roots r.epoch) z) y.is (from_root active roots r.epoch y.root y.among y.from))
        (from_cases (made_top at p ∷ active) roots r.epoch x in_x);
  }) q.behind;
  order = q.order;
  before = q.before;
  within = λ b w. let r = q.within b w in record { path = r.path; leads = ap target (sym (walk_beside new.memory old.memory at (λ y ne. same_back (g.memory.others y ne)) r.path (to_block 1) never)) ∙ r.leads };
  once = q.once;
  live = λ b is. ⊎_elim
      (λ one. ap (λ y. (new.label y).state) one ∙ live)
      (λ ne. ap (λ (l : Label). l.state) (g.label b ne) ∙ q.live b (⊎_elim (λ cov. inl cov) (λ m. ⊎_elim (λ was. inr was) (λ e. absurd (ne e)) m) is))
      (cases_eq b at);
  begun = λ r b is own. subst (λ (l : Label). l.epoch ≤ r.epoch) (sym (g.label b (λ e. outside.1 (inl (subst (λ y. t.Covered y) e (covered r is b own)))))) (q.begun r b is own);
}
  where
    outside : (t.Within at → ⊥) × ((t.Covered at ⊎ t.Made at) → ⊥)
    outside = given_outside g usable safe h q

    covered : (r : Queued) → Contains past r → (b : ℕ) → Contains r.pending.blocks b → t.Covered b
    covered r is b own = q.now.covered b (inl (block_among past r b is own))

    never : (rest : List ℕ) → target (Rattle.fo_crash.specs.Images.walk old.memory (to_block 1) rest) ≡ Local at → ⊥
    never rest e = outside_memory safe h at (λ r st. g.nowhere r (active_stands h at r st)) (record { path = rest; leads = e })

    there : (epoch a : ℕ) (q' : Place) → a ≢ at → Stands (view new (tops_from (made_top at p ∷ active) roots epoch)) a q' → Stands (view old (tops_from active roots epoch)) a q'
    there epoch a q' ne st = ⊎_elim
        (λ in_active. ⊎_elim
        (λ was. seen_active old active roots epoch a q' was)
        (λ one. absurd (ne one.0))
        (stands_new (given_view g h (λ i b e. (inside i b e).1)) a q' in_active))
        (λ x. seen_tree old active roots epoch a q' (record { root = x.root; among = x.among; from = x.from; stands = given_tree g h (λ i b e. (inside i b e).1) x.root x.among a q' x.stands }))
        (seen_cases new (made_top at p ∷ active) roots epoch a q' st)
