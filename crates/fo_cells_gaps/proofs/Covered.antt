-- What is to be closed after a put or a removal.
use Rattle.std.proofs.Common.{◌≡◌, ◌⊎◌, inl, inr, ⊎_elim, ℕ, zero, suc, Bool, List, [], ◌∷◌, sym, ◌∙◌, ap}
use Rattle.std.specs.List.{Contains}
use Rattle.fo_disk.specs.Disk.{Content as Holds}
use Rattle.fo_image.specs.declared.types.Pointer.TheVariants.{Local}
use Rattle.fo_crash.specs.declared.slot.Slot.{Slot}
use Rattle.fo_crash.specs.Images.{Reaches, target, to_block}
use Rattle.fo_crash.proofs.Reach.{reaches_on}
use Rattle.fo_cells_out.specs.Removals.{Pending}
use Rattle.fo_cells_out.specs.Origins.{Origins, OutAt, GoneAt, PutsMade, LosesMany, Fills, filled, copied_tree, lost_tree}
use Rattle.fo_cells_out.proofs.MadePuts.{made_replaces}
use Rattle.fo_cells_held.specs.Room.{Used}
use Rattle.fo_cells_all.specs.All.{Kept, Format}
use Rattle.fo_cells_steps.specs.Calls.{Beside}
use Rattle.fo_cells_steps.specs.Division.{SameTree, HoldsMade, division}
use Rattle.fo_cells_steps.specs.Taking.{TakesOut, InTree}
use Rattle.fo_cells_puts.specs.Putting.{PutsOne, ComesNew, QueuesAll, seen_from, made_after, put_after}
use Rattle.fo_cells_steps.proofs.Moving.{listed_in, listed_from}
use Rattle.fo_cells_steps.proofs.Alike.{alike_same}
use Rattle.fo_cells_puts.proofs.Puts.{put_is_safe, put_is_moves, put_keeps_trees}
use Rattle.fo_cells_puts.proofs.Linking.{fill_same}
use Rattle.fo_cells_puts.proofs.Coming.{new_same, m_same, l_same}
use Rattle.fo_cells_gaps.specs.Covered.{CoversFrom, InSource}

-- NOTHING LEAVES
pub same_covers : {c d : Kept} {f : Format} {x : Used} {Made : ℕ → Type 0} {h : Origins} {unsure : List Bool} {holds : Holds} {at i : ℕ} {s : Slot} → PutsOne at i s c d Made h.Apart [] holds → Reaches c.mind.memory (to_block 1) at ⊎ Made at → ((z : ℕ) → target s ≡ Local z → target ((c.mind.memory at).slot i) ≡ Local z) → ((z : ℕ) → target ((c.mind.memory at).slot i) ≡ Local z → target s ≡ Local z) → Beside c d f x holds → HoldsMade c f Made h unsure holds → CoversFrom at i c d Made Made
same_covers {c} {d} {f} {x} {Made} {h} {unsure} {holds} {at} {i} p holder there back b all =
    let trees = put_keeps_trees p all (λ z e. ⊎_elim (λ w. inl (all.all.queue.now.tree.closed at i z w (there z e))) (λ m. all.all.queue.now.forest.leads at i z m (there z e)) holder) in
    let e = alike_same all b p.epoch p.queue p.keeps holder there back (put_is_moves p all) (put_is_safe p all) trees p.puts.label in
    record {
      leaves = λ z thr w gone. absurd (gone (e.within z w));
      still = λ z k. e.covered z k;
      only = λ z out far k. out (e.covered_back z k);
    }

pub fill_covers : {c d : Kept} {f : Format} {x : Used} {Made : ℕ → Type 0} {h : Origins} {unsure : List Bool} {holds : Holds} {at i : ℕ} {s : Slot} {Raises : ℕ → Type 0} → PutsOne at i s c d Made (filled h at s Raises).Apart [] holds → Fills at i s (seen_from c holds) (division c Made) h Raises → Beside c d f x holds → HoldsMade c f Made h unsure holds → CoversFrom at i c d Made Made
fill_covers p fills b all =
    let e = fill_same all p b fills in record {
      leaves = λ z thr w gone. absurd (gone (e.within z w));
      still = λ z k. e.covered z k;
      only = λ z out far k. out (e.covered_back z k);
    }

pub link_covers : {c d : Kept} {f : Format} {x : Used} {Made : ℕ → Type 0} {h : Origins} {unsure : List Bool} {holds : Holds} {at i y : ℕ} {s : Slot} → PutsOne at i s c d (made_after c Made holds y) (put_after h y).Apart [] holds → ComesNew at i s y c Made h holds → Beside c d f x holds → HoldsMade c f Made h unsure holds → CoversFrom at i c d Made (made_after c Made holds y)
link_covers p new b all =
    let e = new_same all b p new in record {
      leaves = λ z thr w gone. absurd (gone (e.within z (inl w)));
      still = λ z k. e.covered z k;
      only = λ z out far k. out (e.covered_back z k);
    }

-- IN THE PLACE OF ANOTHER
pub come_covers : {c d : Kept} {f : Format} {x : Used} {Made : ℕ → Type 0} {h : Origins} {unsure : List Bool} {holds : Holds} {at i top old y : ℕ} {s : Slot} {Lost : ℕ → Type 0} {rs : List Pending} → PutsOne at i s c d (made_after c Made holds y) (put_after h y).Apart rs holds → PutsMade at i s (seen_from c holds) (seen_from d holds) (division c Made) h top old y Lost → QueuesAll s c d (division c Made) (copied_tree (seen_from c holds) (division c Made) h top y Lost) rs holds → ((b : ℕ) → InSource at i c b → Lost b → ⊥) → Beside c d f x holds → HoldsMade c f Made h unsure holds → CoversFrom at i c d Made (made_after c Made holds y)
come_covers {c} {d} {f} {x} {Made} {h} {unsure} {holds} {at} {i} {top} {old} {y} {s} {Lost} {rs} p m q own b all = record {
  leaves = λ z thr w gone. ⊎_elim
      (λ o. e.covered z (inr (⊎_elim
      (λ k. inl k)
      (λ none. ⊎_elim (λ l. absurd (own z thr l)) (λ no. inr ((o, none), no)) (m.lost z))
      (m.has_copy z))))
      (λ no. absurd (gone (e.within z (inl (w, no)))))
      (m.out z w);
  still = λ z k. e.covered z (inl k);
  only = λ z out far k. ⊎_elim
      (λ was. out was)
      (λ left. ⊎_elim
      (λ copy.
      let y_copied = (made_replaces m all.all.queue.now.tree all.all.queue.now.forest all.origins).copied z copy.0 copy.1 in
      ⊎_elim
      (λ o. far (reached o.0 z o.1))
      (λ no. y_copied.2 (inl (y_copied.0, no)))
      (m.out z y_copied.0))
      (λ g. far (reached g.0.0.0 z g.0.0.1))
      left)
      (e.covered_back z k);
}
  where
    e : SameTree (copied_tree (seen_from c holds) (division c Made) h top y Lost) (division d (made_after c Made holds y))
    e = m_same all b p m q

    reached : (n z : ℕ) → OutAt (seen_from c holds) (division c Made) top y n z → Reaches c.mind.memory ((c.mind.memory at).slot i) z
    reached zero z o = record { path = []; leads = m.points ∙ ap (λ v. Local v) (sym o.0) }
    reached (suc n) z o = reaches_on o.1 (reached n o.0 o.2) o.3

-- LEVELS ARE LOST
pub level_covers : {c d : Kept} {f : Format} {x : Used} {Made : ℕ → Type 0} {h : Origins} {unsure : List Bool} {holds : Holds} {at i old v : ℕ} {s : Slot} {Lost : ℕ → Type 0} {rs : List Pending} → PutsOne at i s c d Made h.Apart rs holds → LosesMany at i s (seen_from c holds) (seen_from d holds) (division c Made) h old v Lost → QueuesAll s c d (division c Made) (lost_tree (seen_from c holds) (division c Made) old v Lost) rs holds → ((b : ℕ) → InSource at i c b → Lost b → ⊥) → Beside c d f x holds → HoldsMade c f Made h unsure holds → CoversFrom at i c d Made Made
level_covers {c} {d} {f} {x} {Made} {h} {unsure} {holds} {at} {i} {old} {v} {s} {Lost} {rs} p m q own b all = record {
  leaves = λ z thr w gone. ⊎_elim
      (λ g. e.covered z (inr (⊎_elim (λ l. absurd (own z thr l)) (λ no. (g, no)) (m.lost z))))
      (λ no. absurd (gone (e.within z (w, no))))
      (m.goes z w);
  still = λ z k. e.covered z (inl k);
  only = λ z out far k. ⊎_elim (λ was. out was) (λ g. far (reached g.0.0 z g.0.1)) (e.covered_back z k);
}
  where
    e : SameTree (lost_tree (seen_from c holds) (division c Made) old v Lost) (division d Made)
    e = l_same all b p m q

    reached : (n z : ℕ) → GoneAt (seen_from c holds) old v n z → Reaches c.mind.memory ((c.mind.memory at).slot i) z
    reached zero z o = record { path = []; leads = m.head.points ∙ ap (λ w. Local w) (sym o) }
    reached (suc n) z o = reaches_on o.1 (reached n o.0 o.2) o.3

-- A REMOVAL
pub remove_covers : (Made : ℕ → Type 0) {c d : Kept} {h : Origins} {at i x : ℕ} {blocks : List ℕ} → TakesOut at i c h x blocks → InTree at c d (record { blocks = blocks; after = at } ∷ []) → ((b : ℕ) → InSource at i c b → Contains blocks b) → CoversFrom at i c d Made Made
remove_covers Made {c} {d} {h} {at} {i} {x} {blocks} out step own = record {
  leaves = λ z thr w gone. listed_from {c = c} {d = d} (record { blocks = blocks; after = at } ∷ []) step.epoch step.queue z (inr (inl (own z thr)));
  still = λ z k. listed_from {c = c} {d = d} (record { blocks = blocks; after = at } ∷ []) step.epoch step.queue z (inl k);
  only = λ z no far k. ⊎_elim
      (λ was. no was)
      (λ left. ⊎_elim (λ is. far (out.below z is)) (λ none. none) left)
      (listed_in {c = c} {d = d} (record { blocks = blocks; after = at } ∷ []) step.epoch step.queue z k);
}
