-- Each step of a cache keeps the trees.
use Rattle.std.proofs.Common.{◌≡◌, ◌⊎◌, inl, inr, ⊎_elim, ℕ, true, false, List, ◌++◌, map, sym, ◌∙◌, ap, subst, arith}
use Rattle.std.proofs.lemmas.Bool.{cases_eq}
use Rattle.std.specs.List.{Contains}
use Rattle.fo_image.specs.declared.types.Label.{Label}
use Rattle.fo_image.specs.declared.types.Pointer.TheVariants.{Local}
use Rattle.fo_crash.specs.declared.slot.Slot.{Slot}
use Rattle.fo_crash.specs.declared.place.Place.{Place}
use Rattle.fo_crash.specs.Images.{Content, target}
use Rattle.fo_crash.specs.Places.{place_below}
use Rattle.fo_crash.proofs.Equal.{bool_cases}
use Rattle.fo_cells.specs.Known.{Known, Top, IsKept, Stands, written}
use Rattle.fo_cells.specs.Writes.{SameDevice, Writes, WritesLabels, Syncs, Ends, Puts, Relabels, Fires}
use Rattle.fo_cells.specs.Calls.{PutsInto, Awaits, WaitsMore, TriesSuper, CountsSuper}
use Rattle.fo_cells.proofs.Standing.{at_b, written_is, written_born}
use Rattle.fo_cells.proofs.Settling.{may_fewer, labels_fewer, labels_written, sync_fewer, written_fewer, ends_fewer, same_written}
use Rattle.fo_cells.proofs.Super.{may_tried, may_counted, version_case, written_other}
use Rattle.fo_cells_out.specs.Parents.{view}
use Rattle.fo_cells_epochs.specs.Epochs.{Root, root_top, tree_of, IsHeldAt, HasTrees, IsLabelSet, NamesSet, FewerTops, KeepsTrees}
use Rattle.fo_cells_epochs.proofs.Trees.{active_stands}

-- what is written of a block is what was, where the device stays
same_named : {old new : Known} → SameDevice old new → (a i t : ℕ) (c : Content) → Contains (written new a) c → target (c.slot i) ≡ Local t → ((d : Content) × Contains (written old a) d × (target (d.slot i) ≡ Local t)) ⊎ IsLabelSet old t
same_named {old} {new} device a i t c is e = inl (c, subst (λ (cs : List Content). Contains cs c) (same_written old new device.newborn device.late device.versions a) is, e)

same_labels : (old new : Known) → new.labels ≡ old.labels → (b : ℕ) (l : Label) → Contains (new.labels b) l → Contains (old.labels b) l ⊎ (l ≡ old.label b)
same_labels old new same b l is = inl (subst (λ (f : ℕ → List Label). Contains (f b) l) same is)

-- A WRITE
write_named : {at : ℕ} {f : Content} {old new : Known} → Writes at f old new → NamesSet at f old new → (a i t : ℕ) (c : Content) → Contains (written new a) c → target (c.slot i) ≡ Local t → ((d : Content) × Contains (written old a) d × (target (d.slot i) ≡ Local t)) ⊎ IsLabelSet old t
write_named {at} {f} {old} {new} w names a i t c is e = ⊎_elim born settled (bool_cases (old.newborn a))
  where
    born : old.newborn a ≡ true → ((d : Content) × Contains (written old a) d × (target (d.slot i) ≡ Local t)) ⊎ IsLabelSet old t
    born b =
        let here : Contains (new.late a) c = subst (λ (cs : List Content). Contains cs c) (written_born new a (at_b a w.newborn ∙ b)) is in
        ⊎_elim
        (λ was. inl (c, subst (λ (cs : List Content). Contains cs c) (sym (written_born old a b)) was, e))
        (λ n.
        let late : Contains (new.late at) (old.memory at) = subst (λ (x : Content). Contains (new.late at) x) n.1 (subst (λ x. Contains (new.late x) c) n.0 here) in
        inr (names.names i t (ap (λ (x : Content). target (x.slot i)) (sym n.1) ∙ e) late))
        (w.late a c here)

    settled : old.newborn a ≡ false → ((d : Content) × Contains (written old a) d × (target (d.slot i) ≡ Local t)) ⊎ IsLabelSet old t
    settled b = ⊎_elim
        (λ was. inl (c, subst (λ (cs : List Content). Contains cs c) (sym (written_is old a b)) was, e))
        (λ n.
        let there : target (f.slot i) ≡ Local t = ap (λ (x : Content). target (x.slot i)) (sym n.1) ∙ e in
        ⊎_elim
        (λ has. inl (has.content, subst (λ x. Contains (written old x) has.content) (sym n.0) has.among, ap target has.is ∙ there))
        (λ set. inr set)
        (names.slots (ap (λ x. old.newborn x) (sym n.0) ∙ b) i t there))
        (w.versions a c (subst (λ (cs : List Content). Contains cs c) (written_is new a (at_b a w.newborn ∙ b)) is))

-- no block of the high epoch is in a kept tree
pub outside_trees : {k : Known} {high : ℕ} {active : List Top} {roots : List Root} → HasTrees k high active roots → (at : ℕ) → (k.label at).epoch ≡ high → (r : Root) (p : Place) → Contains roots r → Stands (tree_of k r) at p → ⊥
outside_trees {k} {high} h at epoch r p among st =
    let l = (h.late r at p among st).1.begun in
    let e : (k.label at).epoch ≡ high = epoch in
    let x = (h.kept r among).1 in
    omega (arith, l, e, x)

module _ {old new : Known} {high : ℕ} {active : List Top} {roots : List Root} (h : HasTrees old high active roots) where
  pub write_trees : {at : ℕ} {f : Content} → Writes at f old new → NamesSet at f old new → KeepsTrees old new active active roots
  write_trees w names = record {
    tops = w.same.tops ∙ h.tops;
    fewer = record { top = h.top; fewer = λ t is. is };
    low = w.same.low;
    may = λ a i b s m e. inl (Rattle.fo_cells.proofs.Writing.may_old w a i s m);
    label = λ b q st. inl (at_b b w.same.label);
    labels = λ b l is. inl (w.labels b l is);
    written = write_named w names;
  }

  pub label_trees : WritesLabels old new → KeepsTrees old new active active roots
  label_trees w = record {
    tops = w.same.tops ∙ h.tops;
    fewer = record { top = h.top; fewer = λ t is. is };
    low = w.same.low;
    may = λ a i b s m e. inl (may_fewer (labels_fewer w) a i s m);
    label = λ b q st. inl (at_b b w.same.label);
    labels = w.labels;
    written = λ a i t c is e. inl (c, labels_written w a c is, e);
  }

  pub sync_trees : Syncs old new → KeepsTrees old new active active roots
  sync_trees w = record {
    tops = w.same.tops ∙ h.tops;
    fewer = record { top = h.top; fewer = λ t is. is };
    low = w.same.low;
    may = λ a i b s m e. inl (may_fewer (sync_fewer w) a i s m);
    label = λ b q st. inl (at_b b w.same.label);
    labels = λ b l is. inl (w.labels b l is);
    written = λ a i t c is e. inl (c, written_fewer w a c is, e);
  }

  pub end_trees : Ends old new → KeepsTrees old new active active roots
  end_trees w = record {
    tops = w.same.tops ∙ h.tops;
    fewer = record { top = h.top; fewer = λ t is. is };
    low = w.same.low;
    may = λ a i b s m e. inl (may_fewer (ends_fewer w) a i s m);
    label = λ b q st. inl (at_b b w.same.label);
    labels = same_labels old new w.device.labels;
    written = same_named w.device;
  }

  pub bytes_trees : {at : ℕ} {bytes : List ℕ} → PutsInto at bytes old new → KeepsTrees old new active active roots
  bytes_trees u = record {
    tops = u.tops ∙ h.tops;
    fewer = record { top = h.top; fewer = λ t is. is };
    low = u.low;
    may = λ a i b s m e. inl (Rattle.fo_cells.proofs.Bytes.may_bytes u a i s m);
    label = λ b q st. inl (at_b b u.label);
    labels = same_labels old new u.device.labels;
    written = same_named u.device;
  }

  pub await_trees : {at i leaf : ℕ} → Awaits at i leaf old new → KeepsTrees old new active active roots
  await_trees w = record {
    tops = w.same.tops ∙ h.tops;
    fewer = record { top = h.top; fewer = λ t is. is };
    low = w.same.low;
    may = λ a i b s m e. inl (Rattle.fo_cells.proofs.Waiting.may_await w a i s b m e);
    label = λ b q st. inl (at_b b w.same.label);
    labels = same_labels old new w.device.labels;
    written = same_named w.device;
  }

  pub more_trees : WaitsMore old new → KeepsTrees old new active active roots
  more_trees w = record {
    tops = w.same.tops ∙ h.tops;
    fewer = record { top = h.top; fewer = λ t is. is };
    low = w.same.low;
    may = λ a i b s m e. inl (may_fewer (Rattle.fo_cells.proofs.Waiting.more_fewer w) a i s m);
    label = λ b q st. inl (at_b b w.same.label);
    labels = same_labels old new w.device.labels;
    written = same_named w.device;
  }

  pub fire_trees : {at i leaf : ℕ} → Fires at i leaf old new → KeepsTrees old new active active roots
  fire_trees r = record {
    tops = r.tops ∙ h.tops;
    fewer = record { top = h.top; fewer = λ t is. is };
    low = r.low;
    may = λ a i b s m e. inl (Rattle.fo_cells.proofs.Firing.may_old r a i s m);
    label = λ b q st. inl (at_b b r.label);
    labels = same_labels old new r.device.labels;
    written = same_named r.device;
  }

  -- A SLOT IS PUT: what it leads to stands in the active trees
  pub put_trees : {at i : ℕ} {s : Slot} {after : List Top} → Puts at i s old new → IsKept old → new.tops ≡ after ++ map root_top roots → FewerTops active after → (old.label at).epoch ≡ high → ((b : ℕ) → target s ≡ Local b → (q : Place) × Stands (view old active) b q) → KeepsTrees old new active after roots
  put_trees {at} {i} {s} {after} u kept tops fewer epoch brings = record {
    tops = tops;
    fewer = fewer;
    low = u.low;
    may = λ a j b x m e. ⊎_elim
        (λ was. inl was)
        (λ n. inr (
          λ r p among st. outside_trees h at epoch r p among (subst (λ y. Stands (tree_of old r) y p) n.0 st),
          λ p st.
              let led : target s ≡ Local b = ap target (sym n.2) ∙ e in
              let there = u.fits p b (active_stands h at p (subst (λ y. Stands (view old active) y p) n.0 st)) led in
              let q = brings b led in
              subst (λ (y : Slot). Stands (view old active) b (place_below p j y)) (sym n.2) (subst (λ y. Stands (view old active) b (place_below p y s)) (sym n.1) (subst (λ y. Stands (view old active) b y) (kept.one b q.0 (place_below p i s) (active_stands h b q.0 q.1) there) q.1)),
        ))
        (Rattle.fo_cells.proofs.Putting.may_put u a j x m);
    label = λ b q st. inl (at_b b u.label);
    labels = same_labels old new u.device.labels;
    written = same_named u.device;
  }

  -- A LABEL IS CLOSED of a block that stands in no active tree, as each kept tree that has it may have it
  pub close_trees : {b : ℕ} {l : Label} → Relabels b l old new → ((p : Place) → Stands (view old active) b p → ⊥) → ((r : Root) → Contains roots r → (p : Place) → Stands (tree_of old r) b p → IsHeldAt r.epoch l) → KeepsTrees old new active active roots
  close_trees {b} {l} r nowhere held = record {
    tops = r.tops ∙ h.tops;
    fewer = record { top = h.top; fewer = λ t is. is };
    low = r.low;
    may = λ a i c s m e. inl (Rattle.fo_cells.proofs.Closing.may_old r a i s m);
    label = λ a q st. ⊎_elim
        (λ e. inr (
          λ p s. nowhere p (subst (λ y. Stands (view old active) y p) e s),
          λ root among p s. subst (λ (y : Label). IsHeldAt root.epoch y) (sym (ap (λ y. new.label y) e ∙ r.here)) (held root among p (subst (λ y. Stands (tree_of old root) y p) e s)),
        ))
        (λ ne. inl (r.others a ne))
        (cases_eq a b);
    labels = same_labels old new r.device.labels;
    written = same_named r.device;
  }

  -- A SUPER BLOCK IS TRIED: what it leads to stands in the active trees, and has a label that is set
  pub tries_trees : {d : Content} → TriesSuper d old new → IsKept old → ((i b : ℕ) → target (d.slot i) ≡ Local b → ((q : Place) × Stands (view old active) b q) × IsLabelSet old b) → KeepsTrees old new active active roots
  tries_trees {d} t kept brings = record {
    tops = t.same.tops ∙ h.tops;
    fewer = record { top = h.top; fewer = λ x is. is };
    low = t.same.low;
    may = λ a j b x m e. ⊎_elim
        (λ was. inl was)
        (λ n. inr (
          λ r p among st. (h.late r a p among st).0 n.0,
          λ p st.
              let led : target (d.slot j) ≡ Local b = ap target (sym n.1) ∙ e in
              let there = (t.fits p j b (active_stands h 1 p (subst (λ y. Stands (view old active) y p) n.0 st)) led).0 in
              let q = (brings j b led).0 in
              subst (λ (y : Slot). Stands (view old active) b (place_below p j y)) (sym n.1) (subst (λ y. Stands (view old active) b y) (kept.one b q.0 (place_below p j (d.slot j)) (active_stands h b q.0 q.1) there) q.1),
        ))
        (may_tried t a j x m);
    label = λ b q st. inl (at_b b t.same.label);
    labels = same_labels old new t.same.labels;
    written = λ a i b c is e. ⊎_elim
        (λ one. ⊎_elim
        (λ was. inl (c, subst (λ y. Contains (written old y) c) (sym one) was, e))
        (λ new_is. inr (brings i b (ap (λ (x : Content). target (x.slot i)) (sym new_is) ∙ e)).1)
        (version_case t c (subst (λ y. Contains (written new y) c) one is)))
        (λ ne. inl (c, written_other t.same a c ne is, e))
        (cases_eq a 1);
  }

  -- A SUPER BLOCK COUNTS
  pub counts_trees : {d : Content} → CountsSuper d old new → KeepsTrees old new active active roots
  counts_trees {d} t = record {
    tops = t.same.tops ∙ h.tops;
    fewer = record { top = h.top; fewer = λ x is. is };
    low = t.same.low;
    may = λ a j b x m e. inl (may_counted t a j x m);
    label = λ b q st. inl (at_b b t.same.label);
    labels = same_labels old new t.same.labels;
    written = λ a i b c is e. inl (c, counted_written a c is, e);
  }
    where
      counted_written : (a : ℕ) (c : Content) → Contains (written new a) c → Contains (written old a) c
      counted_written a c is = ⊎_elim
          (λ one. subst (λ y. Contains (written old y) c) (sym one) (subst (λ (cs : List Content). Contains cs c) (sym (written_is old 1 t.same.settled)) (t.versions c (subst (λ (cs : List Content). Contains cs c) (written_is new 1 (at_b 1 t.same.newborn ∙ t.same.settled)) (subst (λ y. Contains (written new y) c) one is)))))
          (λ ne. written_other t.same a c ne is)
          (cases_eq a 1)
