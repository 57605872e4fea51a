-- A cache opens: closed blocks and shared ones are in kept trees where memory has them there.
use Rattle.std.proofs.Common.{◌≡◌, ◌≢◌, inl, inr, ℕ, suc, ◌<◌, ◌≤◌, Bool, true, List, [], ◌∷◌, refl, sym, ◌∙◌, ap, subst, arith}
use Rattle.std.specs.List.{Contains}
use Rattle.fo_disk.specs.Disk.{Content as Holds}
use Rattle.fo_image.specs.declared.types.State.TheVariants.{Closed}
use Rattle.fo_image.specs.declared.types.Pointer.TheVariants.{Local}
use Rattle.fo_image.specs.Usable.{is_usable}
use Rattle.fo_crash.specs.declared.slot.Slot.{Slot}
use Rattle.fo_crash.specs.declared.place.Place.{Place}
use Rattle.fo_crash.specs.Images.{Reaches, target, to_block}
use Rattle.fo_crash.specs.Places.{root_place, place_below}
use Rattle.fo_crash.proofs.Reach.{reaches_on}
use Rattle.fo_cells.specs.Known.{Known, Top, Leads, Stands}
use Rattle.fo_cells.specs.Device.{known}
use Rattle.fo_cells.proofs.Standing.{stands_top, stands_below, first_among, not_both}
use Rattle.fo_cells_out.specs.Removals.{Pending, IsCovered}
use Rattle.fo_cells_out.proofs.Queue.{nothing_among}
use Rattle.fo_cells_out.proofs.Asked.{walk_keeps}
use Rattle.fo_cells_epochs.specs.Epochs.{Root, root_top, tree_of}
use Rattle.fo_cells_epochs.proofs.Trees.{only_one}
use Rattle.fo_cells_queue.specs.Queue.{Queued}
use Rattle.fo_cells_lost.specs.Lost.{AreShared, HangsIn}
use Rattle.fo_cells_all.specs.All.{Kept, Format}
use Rattle.fo_cells_steps.specs.Division.{division}
use Rattle.fo_cells_turns.specs.Opening.{Opens, none_made}
use Rattle.fo_cells_shown.specs.Closed.{ClosedAreKept}
use Rattle.fo_cells_shown.specs.Opening.{ClosedHang, OlderHang}

module _ {c : Kept} {f : Format} {unsure : List Bool} {holds : Holds} (o : Opens c f unsure holds) where
  abbrev K : Known
  K = known c.mind holds

  -- what hangs from a kept root in memory stands in its tree
  root_stands : (r : Root) (b : ℕ) → Reaches c.mind.memory (to_block r.at) b → (q : Place) × Stands (tree_of K r) b q
  root_stands r b w = walk_keeps c.mind.memory (λ a. (q : Place) × Stands (tree_of K r) a q)
      (λ a j z q e. (place_below q.0 j ((c.mind.memory a).slot j), stands_below j ((c.mind.memory a).slot j) z q.1 (inr (inl refl)) e))
      w.path (to_block r.at) b first w.leads
    where
      first : (a : ℕ) → target (to_block r.at) ≡ Local a → (q : Place) × Stands (tree_of K r) a q
      first a e = let is : r.at ≡ a = cc in (root_place, subst (λ z. Stands (tree_of K r) z root_place) is (stands_top (root_top r) (first_among (root_top r) [])))

  -- and what stands there hangs from the root, as each slot that may be there is memory's
  root_reaches : (r : Root) (b : ℕ) (q : Place) → Stands (tree_of K r) b q → Reaches c.mind.memory (to_block r.at) b
  root_reaches r b q st = along st.path st.top.at st.top.place (record { path = []; leads = ap (λ (y : Top). Local y.at) (only_one (root_top r) st.top st.is_top) }) st.leads
    where
      along : (path : List (ℕ × Slot)) (a : ℕ) (p : Place) → Reaches c.mind.memory (to_block r.at) a → Leads (tree_of K r) path a p b q → Reaches c.mind.memory (to_block r.at) b
      along [] a p w l = subst (λ z. Reaches c.mind.memory (to_block r.at) z) l.0 w
      along ((i, s) ∷ path) a p w l = along path l.1.0 (place_below p i s) (reaches_on i w (ap target (sym (o.settled a i s l.0)) ∙ l.1.1)) l.1.2

  pub hang_closed : ClosedHang c → ClosedAreKept K c.roots
  hang_closed h = record { closed = λ b ne is taken. let x = h.closed b ne is taken in (x.root, x.among, x.before, root_stands x.root b x.hangs) }

  pub closed_hang : ClosedAreKept K c.roots → ClosedHang c
  closed_hang h = record {
    closed = λ b ne is taken.
        let x = h.closed b ne is taken in record { root = x.0; among = x.1; before = x.2; hangs = root_reaches x.0 b (x.3).0 (x.3).1 };
  }

  pub hang_shared : OlderHang c → AreShared K (division c none_made) c.high c.roots c.past c.queue
  hang_shared h = record { shared = λ b epoch ne hangs older low. by b epoch ne hangs older low }
    where
      by : (b epoch : ℕ) → b ≢ 1 → HangsIn (division c none_made) c.high c.past c.queue b epoch → (c.mind.label b).epoch < epoch → c.mind.low < epoch → (r : Root) × Contains c.roots r × (suc r.epoch ≡ epoch) × ((q : Place) × Stands (tree_of K r) b q)
      by b epoch ne (HangsIn.within w is) older low =
          let x = h.older b ne w (subst (λ e. (c.mind.label b).epoch < e) is older) (subst (λ e. c.mind.low < e) is low) in
          (x.root, x.among, x.before ∙ sym is, root_stands x.root b x.hangs)
      by b epoch ne (HangsIn.earlier r among own is) older low = absurd (nothing_among r (subst (λ (ps : List Queued). Contains ps r) o.past among))
      by b epoch ne (HangsIn.active covered is) older low = absurd (subst (λ (qs : List Pending). IsCovered qs b) o.queue covered)

  pub shared_hang : AreShared K (division c none_made) c.high c.roots c.past c.queue → OlderHang c
  shared_hang h = record {
    older = λ b ne w older low.
        let x = h.shared b c.high ne (HangsIn.within w refl) older low in record { root = x.0; among = x.1; before = x.2; hangs = root_reaches x.0 b (x.3).0 (x.3).1 };
  }

pub fresh_closed : (c : Kept) → ((b : ℕ) → b ≢ 1 → (c.mind.label b).state ≡ Closed → is_usable c.mind.low (c.mind.label b) ≡ true) → ClosedHang c
fresh_closed c usable = record { closed = λ b ne is taken. absurd (not_both (usable b ne is) taken) }

pub fresh_older : (c : Kept) → c.high ≤ c.mind.low → OlderHang c
fresh_older c le = record { older = λ b ne w older low. absurd (omega (arith, le, low)) }
