-- What hangs from a slot that is put into the tree is newborn no more.
use Rattle.std.proofs.Common.{◌≡◌, ◌≢◌, ℕ, ◌≤◌, ◌++◌, Bool, true, false, List, [], ◌∷◌, Some, refl, sym, ap, ◌∙◌, subst}
use Rattle.fo_image.specs.declared.types.Label.{Label}
use Rattle.fo_image.specs.declared.types.Pointer.{Pointer}
use Rattle.fo_image.specs.declared.types.Pointer.TheVariants.{Nil, Local, Score as Stored}
use Rattle.fo_mind.specs.of_buffers.Held.{held_at}
use Rattle.fo_crash.specs.declared.slot.Slot.{Slot}
use Rattle.fo_crash.specs.Images.{Content, local, target, walk}
use Rattle.fo_crash.specs.Steps.{Through}
use Rattle.fo_mind.specs.of_labels.Region.{Region, label_of}
use Rattle.fo_mind.specs.of_slots.Read.{read}
use Rattle.fo_facts.specs.Known.{fact_at}
use Rattle.fo_mind.specs.of_linking.Joined.{JoinsBelow}
use Rattle.fo_mind.specs.Frames.{SameMarks}
use Rattle.fo_mind.specs.Laws.{held_content, some_held}
use Rattle.fo_mind.specs.Parts.{Parts, IsHeld, IsNewborn, memory}
use Rattle.fo_mind.specs.Slotted.{Slotted}
use Rattle.fo_mind.specs.Sound.{Holding, Placed, Standing}
use Rattle.fo_mind.proofs.Giving.{data_label}
use Rattle.fo_mind.proofs.Making.{unlike}
use Rattle.fo_mind.proofs.Refilling.{Refills, marks_turned, refills_of, within_facts}

nil_local : {b : ℕ} → Nil ≡ Local b → ⊥
nil_local e = cc

module _ (p s : Parts) (first count at i cost : ℕ) (slot : Slot) (placed : Placed p.region p.turns p.facts first count) (holding : Holding p.one.low first count p.region p.held)
    (standing : Standing p.held p.facts p.clears) (some : IsHeld p.held at) (z : Slotted at i cost slot p s) (tree : IsNewborn p.facts at → ⊥) where
  x : Refills at z.bytes p.held z.filled.held
  x = refills_of at z.bytes p.held z.filled.held holding some z.long z.refilled.held

  same_link : (b : ℕ) → (fact_at z.hung.facts b).linked ≡ (fact_at p.facts b).linked
  same_link b =
      let w = within_facts at placed holding some in
      let marks : SameMarks p.facts z.filled.facts = subst (SameMarks p.facts) (sym z.refilled.facts) (marks_turned p.facts p.turns at w.0 w.1) in
      (z.hangs.marked.others b).0 ∙ marks.linked b

  linked_at : (fact_at p.facts at).linked ≡ true
  linked_at = by (fact_at p.facts at).linked refl
    where
      by : (l : Bool) → (fact_at p.facts at).linked ≡ l → (fact_at p.facts at).linked ≡ true
      by true e = e
      by false e = absurd (tree e)

  below : JoinsBelow z.hung.held z.hung.region (target slot) z.hung.facts s.facts z.hung.turns s.turns
  below = z.follows.linked (same_link at ∙ linked_at)

  region : z.hung.region ≡ p.region
  region = ap (λ (y : Parts). y.region) z.hangs.rest ∙ ap (λ (y : Parts). y.region) z.refilled.rest

  -- what a newborn block leads to comes into the tree with it
  step : (c : ℕ) → IsNewborn p.facts c → (fact_at s.facts c).linked ≡ true → (j d : ℕ) → target ((memory p c).slot j) ≡ Local d → (fact_at s.facts d).linked ≡ true
  step c newborn linked j d to =
      let ne : c ≢ at = λ e. unlike (sym linked_at ∙ ap (λ n. (fact_at p.facts n).linked) (sym e) ∙ newborn) in
      let y = some_held (held_at p.held c) (standing.newborn c newborn) in
      let here : held_at z.hung.held c ≡ Some y.0 = ap (λ (w : Parts). held_at w.held c) z.hangs.rest ∙ x.others c ne ∙ y.1 in
      let from : p.region.first ≤ c = subst (λ n. n ≤ c) (sym placed.is_first) (holding.block c y.0 y.1).0 in
      let is : memory p c ≡ read (label_of z.hung.region c).kind y.0.block =
      held_content p first count c y.0 placed holding y.1
      ∙ ap (λ (l : Label). read l.kind y.0.block) (data_label p.region c from)
      ∙ ap (λ (r : Region). read (label_of r c).kind y.0.block) (sym region) in
      below.below c (same_link c ∙ newborn, linked) y.0 here j d (ap (λ (q : Content). target (q.slot j)) (sym is) ∙ to)

  next : (q : Pointer) (j d : ℕ) → ((b : ℕ) → q ≡ Local b → IsNewborn p.facts b × ((fact_at s.facts b).linked ≡ true)) → target ((local (memory p) q).slot j) ≡ Local d → (fact_at s.facts d).linked ≡ true
  next (Local b) j d on to = let h = on b refl in step b h.0 h.1 j d to
  next Nil j d on to = absurd (nil_local to)
  next (Stored score) j d on to = absurd (nil_local to)

  walks : (path : List ℕ) (t : Slot) (b : ℕ) → ((c : ℕ) → target t ≡ Local c → (fact_at s.facts c).linked ≡ true) → target (walk (memory p) t path) ≡ Local b
      → ((front : List ℕ) (j : ℕ) (rest : List ℕ) (c : ℕ) → path ≡ front ++ (j ∷ rest) → target (walk (memory p) t front) ≡ Local c → IsNewborn p.facts c) → (fact_at s.facts b).linked ≡ true
  walks [] t b linked leads within = linked b leads
  walks (j ∷ rest) t b linked leads within = walks rest ((local (memory p) (target t)).slot j) b
      (λ d to. next (target t) j d (λ c e. (within [] j rest c refl e, linked c e)) to)
      leads
      (λ front k more c is to. within (j ∷ front) k more c (ap (λ (l : List ℕ). j ∷ l) is) to)

  pub links_below : (b : ℕ) → Through (IsNewborn p.facts) (memory p) slot b → IsNewborn s.facts b → ⊥
  links_below b t newborn = unlike (sym (walks t.path slot b below.linked t.leads t.within) ∙ newborn)
