-- What each put and removal loses.
use Rattle.std.proofs.Common.{◌≡◌, ◌≢◌, ◌⊎◌, inl, inr, ⊎_elim, ℕ, Bool, List, [], ◌∷◌, ◌++◌, sym, ◌∙◌, ap, subst}
use Rattle.std.proofs.lemmas.Bool.{cases_eq}
use Rattle.std.specs.List.{Contains}
use Rattle.fo_disk.specs.Disk.{Content as Holds}
use Rattle.fo_image.specs.declared.types.Pointer.TheVariants.{Local}
use Rattle.fo_crash.specs.declared.slot.Slot.{Slot}
use Rattle.fo_crash.specs.Images.{Reaches, target, to_block}
use Rattle.fo_crash.specs.Steps.{cleared}
use Rattle.fo_cells.specs.Writes.{Puts, Fires}
use Rattle.fo_cells.specs.Device.{known}
use Rattle.fo_cells.proofs.Standing.{among_cases, first_among, next_among}
use Rattle.fo_cells.proofs.Waiting.{cleared_leads}
use Rattle.fo_cells_out.specs.Removals.{Pending}
use Rattle.fo_cells_out.specs.Parents.{blocks_of, linked}
use Rattle.fo_cells_out.specs.Origins.{Origins, LinkedBy, Decided, PutsMade, LosesMany, Fills, filled, copied_tree, lost_tree}
use Rattle.fo_cells_out.proofs.Queue.{nothing_among}
use Rattle.fo_cells_held.specs.Room.{Used}
use Rattle.fo_cells_queue.specs.Queue.{past_blocks}
use Rattle.fo_cells_lost.specs.Lost.{MovesOnly}
use Rattle.fo_cells_lost.proofs.Lost.{same_moves}
use Rattle.fo_cells_all.specs.All.{Kept, Format}
use Rattle.fo_cells_steps.specs.Division.{HoldsMade, division}
use Rattle.fo_cells_steps.specs.Calls.{Beside}
use Rattle.fo_cells_steps.specs.Taking.{TakesOut, InTree}
use Rattle.fo_cells_puts.specs.Putting.{PutsOne, ComesNew, QueuesAll, seen_from, made_after, put_after}
use Rattle.fo_cells_steps.proofs.Paths.{last_use}
use Rattle.fo_cells_steps.proofs.Moving.{listed_from}
use Rattle.fo_cells_steps.proofs.Taking.{itself}
use Rattle.fo_cells_steps.proofs.Alike.{alike_same}
use Rattle.fo_cells_puts.proofs.Puts.{put_is_safe, put_is_moves, put_keeps_trees}
use Rattle.fo_cells_puts.proofs.Linking.{fill_same, all_inside}
use Rattle.fo_cells_puts.proofs.Coming.{new_same, m_same, l_same}
use Rattle.fo_cells_gaps.specs.Gaps.{LosesJust, left_out}
use Rattle.fo_cells_gaps.proofs.Gaps.{lose_just}

no_gap : (b : ℕ) → Decided ⊥
no_gap b = inr (λ none. none)

-- NOTHING LEAVES
pub same_loses : {c d : Kept} {f : Format} {x : Used} {Made : ℕ → Type 0} {h : Origins} {unsure : List Bool} {holds : Holds} {at i : ℕ} {s : Slot} → PutsOne at i s c d Made h.Apart [] holds → Reaches c.mind.memory (to_block 1) at ⊎ Made at → ((z : ℕ) → target s ≡ Local z → target ((c.mind.memory at).slot i) ≡ Local z) → ((z : ℕ) → target ((c.mind.memory at).slot i) ≡ Local z → target s ≡ Local z) → Beside c d f x holds → HoldsMade c f Made h unsure holds → LosesJust c d Made Made holds (λ b. ⊥)
same_loses {c} {d} {f} {x} {Made} {h} {unsure} {holds} {at} {i} {s} p holder there back b all =
    let trees = put_keeps_trees p all (λ z e. ⊎_elim (λ w. inl (all.all.queue.now.tree.closed at i z w (there z e))) (λ m. all.all.queue.now.forest.leads at i z m (there z e)) holder) in
    lose_just all Made at [] p.epoch p.queue p.current p.puts.low p.puts.label (λ a j ne. p.puts.memory.others a j (inl ne)) (same_moves (division c Made)) (alike_same all b p.epoch p.queue p.keeps holder there back (put_is_moves p all) (put_is_safe p all) trees p.puts.label) (λ z w. inl w) (λ z none. absurd none)

pub fill_loses : {c d : Kept} {f : Format} {x : Used} {Made : ℕ → Type 0} {h : Origins} {unsure : List Bool} {holds : Holds} {at i : ℕ} {s : Slot} {Raises : ℕ → Type 0} → PutsOne at i s c d Made (filled h at s Raises).Apart [] holds → Fills at i s (seen_from c holds) (division c Made) h Raises → Beside c d f x holds → HoldsMade c f Made h unsure holds → LosesJust c d Made Made holds (λ b. ⊥)
fill_loses {c} {d} {f} {x} {Made} {h} {unsure} {holds} {at} p fills b all = lose_just all Made at [] p.epoch p.queue p.current p.puts.low p.puts.label (λ a j ne. p.puts.memory.others a j (inl ne)) (same_moves (division c Made)) (fill_same all p b fills) (λ z w. inl w) (λ z none. absurd none)

pub link_loses : {c d : Kept} {f : Format} {x : Used} {Made : ℕ → Type 0} {h : Origins} {unsure : List Bool} {holds : Holds} {at i y : ℕ} {s : Slot} → PutsOne at i s c d (made_after c Made holds y) (put_after h y).Apart [] holds → ComesNew at i s y c Made h holds → Beside c d f x holds → HoldsMade c f Made h unsure holds → LosesJust c d Made (made_after c Made holds y) holds (λ b. ⊥)
link_loses {c} {d} {f} {x} {Made} {h} {unsure} {holds} {at} {i} {y} p new b all =
    let moves : MovesOnly (division c Made) (linked (division c Made) (λ z. LinkedBy (seen_from c holds) (division c Made) y z)) (λ z. ⊥) = record {
      within = λ z w. inl (inl w);
      made = λ z m. ⊎_elim (λ l. inl (inr l)) (λ no. inr (m, no)) (new.decided z m);
      covered = λ z k. k;
      decided = no_gap;
    } in
    lose_just all (made_after c Made holds y) at [] p.epoch p.queue p.current p.puts.low p.puts.label (λ a j ne. p.puts.memory.others a j (inl ne)) moves (new_same all b p new) (λ z w. ⊎_elim (λ t. inl t) (λ l. inr l.0) w) (λ z none. absurd none)

-- IN THE PLACE OF ANOTHER
pub come_loses : {c d : Kept} {f : Format} {x : Used} {Made : ℕ → Type 0} {h : Origins} {unsure : List Bool} {holds : Holds} {at i top old y : ℕ} {s : Slot} {Lost : ℕ → Type 0} {rs : List Pending} → PutsOne at i s c d (made_after c Made holds y) (put_after h y).Apart rs holds → PutsMade at i s (seen_from c holds) (seen_from d holds) (division c Made) h top old y Lost → QueuesAll s c d (division c Made) (copied_tree (seen_from c holds) (division c Made) h top y Lost) rs holds → Beside c d f x holds → HoldsMade c f Made h unsure holds → LosesJust c d Made (made_after c Made holds y) holds Lost
come_loses {c} {d} {f} {x} {Made} {h} {unsure} {holds} {at} {i} {top} {old} {y} {s} {Lost} {rs} p m q b all =
    let moves : MovesOnly (division c Made) (copied_tree (seen_from c holds) (division c Made) h top y Lost) Lost = record {
      within = λ z w. ⊎_elim
          (λ o. ⊎_elim
          (λ k. inr (inl (inr (inl k))))
          (λ none. ⊎_elim (λ l. inr (inr l)) (λ no. inr (inl (inr (inr ((o, none), no))))) (m.lost z))
          (m.has_copy z))
          (λ no. inl (inl (w, no)))
          (m.out z w);
      made = λ z k. ⊎_elim (λ l. inl (inr l)) (λ no. inr (k, no)) (m.linked z k);
      covered = λ z k. inl k;
      decided = m.lost;
    } in
    lose_just all (made_after c Made holds y) at rs p.epoch p.queue p.current p.puts.low p.puts.label (λ a j ne. p.puts.memory.others a j (inl ne)) moves (m_same all b p m q) (λ z w. ⊎_elim (λ k. inl k.0) (λ l. inr l.0) w) (λ z own. all_inside s (seen_from c holds) (seen_from d holds) (division c Made) (past_blocks c.past ++ blocks_of c.queue) rs q.leaving z own)

-- LEVELS ARE LOST
pub level_loses : {c d : Kept} {f : Format} {x : Used} {Made : ℕ → Type 0} {h : Origins} {unsure : List Bool} {holds : Holds} {at i old v : ℕ} {s : Slot} {Lost : ℕ → Type 0} {rs : List Pending} → PutsOne at i s c d Made h.Apart rs holds → LosesMany at i s (seen_from c holds) (seen_from d holds) (division c Made) h old v Lost → QueuesAll s c d (division c Made) (lost_tree (seen_from c holds) (division c Made) old v Lost) rs holds → Beside c d f x holds → HoldsMade c f Made h unsure holds → LosesJust c d Made Made holds Lost
level_loses {c} {d} {f} {x} {Made} {h} {unsure} {holds} {at} {i} {old} {v} {s} {Lost} {rs} p m q b all =
    let moves : MovesOnly (division c Made) (lost_tree (seen_from c holds) (division c Made) old v Lost) Lost = record {
      within = λ z w. ⊎_elim
          (λ g. ⊎_elim (λ l. inr (inr l)) (λ no. inr (inl (inr (g, no)))) (m.lost z))
          (λ no. inl (w, no))
          (m.goes z w);
      made = λ z k. inr k;
      covered = λ z k. inl k;
      decided = m.lost;
    } in
    lose_just all Made at rs p.epoch p.queue p.current p.puts.low p.puts.label (λ a j ne. p.puts.memory.others a j (inl ne)) moves (l_same all b p m q) (λ z w. inl w.0) (λ z own. all_inside s (seen_from c holds) (seen_from d holds) (division c Made) (past_blocks c.past ++ blocks_of c.queue) rs q.leaving z own)

-- A REMOVAL
listed : (xs : List ℕ) (b : ℕ) → Decided (Contains xs b)
listed [] b = inr (λ is. nothing_among b is)
listed (x ∷ xs) b = ⊎_elim
    (λ e. inl (subst (λ z. Contains (x ∷ xs) z) (sym e) (first_among x xs)))
    (λ ne. ⊎_elim
    (λ is. inl (next_among x b xs is))
    (λ no. inr (λ is. ⊎_elim (λ e. ne (sym e)) (λ more. no more) (among_cases x xs b is)))
    (listed xs b))
    (cases_eq b x)

pub remove_loses : {c d : Kept} {f : Format} {Made : ℕ → Type 0} {h : Origins} {unsure : List Bool} {holds : Holds} {at i x : ℕ} {blocks : List ℕ} → Puts at i (cleared ((c.mind.memory at).slot i)) (known c.mind holds) (known d.mind holds) ⊎ ((leaf : ℕ) × Fires at i leaf (known c.mind holds) (known d.mind holds)) → TakesOut at i c h x blocks → InTree at c d (record { blocks = blocks; after = at } ∷ []) → ((b : ℕ) → Decided (Reaches c.mind.memory ((c.mind.memory at).slot i) b)) → HoldsMade c f Made h unsure holds → LosesJust c d Made Made holds (left_out c at i blocks)
remove_loses {c} {d} {f} {Made} {h} {unsure} {holds} {at} {i} {x} {blocks} moved out step decided all =
    let One : List Pending = record { blocks = blocks; after = at } ∷ [] in
    let low : d.mind.low ≡ c.mind.low = ⊎_elim (λ p. p.low) (λ r. r.1.low) moved in
    let label : d.mind.label ≡ c.mind.label = ⊎_elim (λ p. p.label) (λ r. r.1.label) moved in
    let others : (a j : ℕ) → (a ≢ at) ⊎ (j ≢ i) → (d.mind.memory a).slot j ≡ (c.mind.memory a).slot j = ⊎_elim (λ p. p.memory.others) (λ r. r.1.memory.others) moved in
    let here : (d.mind.memory at).slot i ≡ cleared ((c.mind.memory at).slot i) = ⊎_elim (λ p. p.memory.here) (λ r. r.1.memory.here) moved in
    let none : (z : ℕ) → target ((d.mind.memory at).slot i) ≡ Local z → ⊥ = λ z e. cleared_leads ((c.mind.memory at).slot i) z (ap target (sym here) ∙ e) in
    let was : (v : Slot) (b : ℕ) → Reaches d.mind.memory v b → Reaches c.mind.memory v b = λ v b r. ⊎_elim (λ now. now) (λ n. absurd (Rattle.fo_crash.proofs.Reach.lost c.mind.memory n.path ((d.mind.memory at).slot i) none b n.leads)) (last_use d.mind.memory c.mind.memory at i (λ a j ne. sym (others a j ne)) r) in
    let moves : MovesOnly (division c Made) (division d Made) (left_out c at i blocks) = record {
      within = λ z w. ⊎_elim
          (λ now. inl now)
          (λ l. ⊎_elim
          (λ own. inr (inl (listed_from {c = c} {d = d} One step.epoch step.queue z (inr (inl own)))))
          (λ no. inr (inr (was ((c.mind.memory at).slot i) z l, no)))
          (listed blocks z))
          (last_use c.mind.memory d.mind.memory at i others w);
      made = λ z m. inr m;
      covered = λ z k. listed_from {c = c} {d = d} One step.epoch step.queue z (inl k);
      decided = λ z. ⊎_elim
          (λ l. ⊎_elim (λ own. inr (λ g. g.1 own)) (λ no. inl (l, no)) (listed blocks z))
          (λ no. inr (λ g. no g.0))
          (decided z);
    } in
    lose_just all Made at One step.epoch step.queue step.current low label (λ a j ne. others a j (inl ne)) moves (itself (division d Made)) (λ z w. inl (was (to_block 1) z w)) (λ z own. ⊎_elim (λ is. Rattle.fo_crash.proofs.Reach.reaches_joins step.within (Rattle.fo_crash.proofs.Reach.reaches_from i (out.below z is))) (λ n. absurd n) own)
