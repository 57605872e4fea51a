-- What stood behind the end hangs from block 1 no more, and is to be closed.
use Rattle.std.proofs.Common.{◌≡◌, ◌≢◌, ◌*◌, ◌/◌, ◌%◌, ◌^◌, ◌<◌, ◌≤◌, ℕ, zero, suc, List, [], ◌∷◌, ◌++◌, ⊎_elim, refl, sym, ◌∙◌, ap, arith}
use Rattle.std.proofs.lemmas.Bool.{cases_eq}
use Rattle.std.proofs.Math.Nat.{pow-succ'}
use Rattle.fo_image.specs.declared.types.Pointer.{Pointer}
use Rattle.fo_image.specs.declared.types.Pointer.TheVariants.{Nil, Local, Score as Held}
use Rattle.fo_image.specs.Format.{kind_code}
use Rattle.fo_crash.specs.Images.{Reaches, target, local, walk, to_block}
use Rattle.fo_crash.specs.Spots.{OnePath}
use Rattle.fo_crash.proofs.Reach.{reaches_on, walk_joins}
use Rattle.fo_ports.specs.State.{State}
use Rattle.fo_tree_read.specs.declared.tree.Tree.{Tree}
use Rattle.fo_tree_read.specs.Tree.{kind_down, below, block_at}
use Rattle.fo_tree_read.proofs.Walk.{held_apart}
use Rattle.fo_tree_look.specs.declared.ways.Kept.{Kept}
use Rattle.fo_tree_look.specs.Source.{HasBlock}
use Rattle.fo_tree_down.specs.Way.{IsWayIndex}
use Rattle.fo_tree_trim.specs.Behind.{IsPast}
use Rattle.fo_tree_trim.specs.Cut.{CutSlot, HangsFrom, HangsThrough, Cuts}
use Rattle.fo_tree_trim.proofs.Along.{on_device}
use Rattle.fo_tree_trim.proofs.Cutting.{cut_less}
use Rattle.fo_tree_trim.proofs.Keeping.{Trims}
use Rattle.fo_tree_trim.proofs.Past.{index_above, past_inner}
use Rattle.fo_tree_trim.proofs.Paths.{Broken, path_back, broken_dead}
use Rattle.fo_tree_trim.proofs.Removing.{slot_past}

nil_local : (b : ℕ) → Nil ≢ Local b
nil_local b e = cc

module _ {s u : State} {t : Tree} {kept : List Kept} {last : ℕ} (x : Trims s u t kept last) where
  abbrev cut : ℕ → ℕ → Type 0
  cut = CutSlot s t last (409 * t.depth)

  -- a block behind the way hangs from a slot that is cleared
  past_from : (n j w b : ℕ) → n ≤ t.depth → IsWayIndex t.depth last n w → w < j → j < 409 ^ n → block_at s t n j ≡ Local b → HangsFrom cut s b
  past_from zero j w b le is lt few e = absurd (omega (arith, lt, few))
  past_from (suc n) j w b le is lt few e =
      let more : 409 ^ suc n ≡ 409 * 409 ^ n = pow-succ' 409 n in
      let up = index_above t.depth last n w is in
      ⊎_elim
      (λ same. here w le is lt same)
      (λ ne. below_one (λ c f. past_from n (j / 409) (w / 409) c (omega (arith, le)) up (omega (arith, lt, ne)) (omega (arith, few, more)) f) (block_at s t n (j / 409)) refl)
      (cases_eq (w / 409) (j / 409))
    where
      here : (w : ℕ) → suc n ≤ t.depth → IsWayIndex t.depth last (suc n) w → w < j → w / 409 ≡ j / 409 → HangsFrom cut s b
      here w le is lt same =
          let d = on_device x.aside n (w / 409) le (index_above t.depth last n w is) in
          let above : block_at s t n (j / 409) ≡ Local d.at = ap (λ y. block_at s t n y) (sym same) ∙ d.is in (
            d.at,
            j % 409,
            record { down = n; way = w; is_way = is; within = le; is = d.is; behind = omega (arith, lt, same); few = omega arith; done = omega (arith, le) },
            record { path = []; leads = sym (ap (λ (p : Pointer). below s (kind_down t n) p (j % 409)) above) ∙ e },
          )

      below_one : ((c : ℕ) → block_at s t n (j / 409) ≡ Local c → HangsFrom cut s c) → (p : Pointer) → block_at s t n (j / 409) ≡ p → HangsFrom cut s b
      below_one next Nil is = absurd (nil_local b (sym (ap (λ (p : Pointer). below s (kind_down t n) p (j % 409)) is) ∙ e))
      below_one next (Local c) is =
          let h = next c is in
          (h.0, h.1, h.2, reaches_on (j % 409) h.3 (sym (ap (λ (p : Pointer). below s (kind_down t n) p (j % 409)) is) ∙ e))
      below_one next (Held score) is = absurd (held_apart (s.held score (kind_code (kind_down t n))) (j % 409) b (sym (ap (λ (p : Pointer). below s (kind_down t n) p (j % 409)) is) ∙ e))

  cuts : Cuts (CutSlot s t last (409 * t.depth)) s u
  cuts = x.aside.cuts

  pub past_gone : s.tells → OnePath 1 s.now → (b : ℕ) → IsPast s t last b → (Reaches u.now (to_block 1) b → ⊥) × u.covered b
  past_gone told one b p =
      let h = past_from p.down p.index p.way b p.within p.is_way p.behind p.few p.is in
      let a = h.0 in
      let j = h.1 in
      let q = h.2 in
      let within = q.within in
      let through : HangsThrough (CutSlot s t last (409 * t.depth)) s b = (a, j, q, record { path = h.3.path; leads = h.3.leads; within = past_inner (x.said told) ((s.now a).slot j) h.3.path b (slot_past (x.said told) q) p h.3.leads }) in
      let above = (x.may told).linked a (record { down = q.down; index = q.way / 409; within = omega (arith, within); is = q.is }) in
      let has : HasBlock s t b = record { down = p.down; index = p.index; within = p.within; is = p.is } in
      let whole : target (walk s.now (to_block 1) (above.path ++ (j ∷ h.3.path))) ≡ Local b =
      ap (λ q. target q) (walk_joins s.now (to_block 1) above.path (j ∷ h.3.path)) ∙ ap (λ (y : Pointer). target (walk s.now ((local s.now y).slot j) h.3.path)) above.leads ∙ h.3.leads in
      let away : Reaches u.now (to_block 1) b → ⊥ = λ after.
      let same : after.path ≡ above.path ++ (j ∷ h.3.path) = one.each b after.path (above.path ++ (j ∷ h.3.path)) (path_back (cut_less cuts) after.path (to_block 1) b after.leads) whole in
      let broken : Broken (CutSlot s t last (409 * t.depth)) s.now u.now (to_block 1) after.path b = record { at = a; i = j; was = q; nil = cuts.empty a j q; front = above.path; rest = h.3.path; is = same; to = above.leads; leads = h.3.leads } in
      broken_dead (cut_less cuts) broken after.leads in
      (away, cuts.leaves told b through ((x.may told).linked b has) away)
