-- A source as it is once it ends further on.
use Rattle.std.proofs.Common.{◌≡◌, ◌*◌, ◌/◌, ◌%◌, ◌^◌, ◌<◌, ◌≤◌, ℕ, zero, suc, List, inl, inr, ⊎_elim, refl, sym, ap, ◌∙◌, subst, arith}
use Rattle.fo_image.specs.declared.types.Pointer.TheVariants.{Nil}
use Rattle.fo_ports.specs.State.{State}
use Rattle.fo_ports.specs.Sources.{depth_for, byte_at}
use Rattle.fo_tree_read.specs.declared.tree.Tree.{Tree}
use Rattle.fo_tree_look.specs.declared.ways.Kept.{Kept}
use Rattle.fo_tree_look.specs.Source.{HasBlock, Over, Prepared, address_here, held_here}
use Rattle.fo_tree_clear.specs.of_tree_down.Way.{OnWay}
use Rattle.fo_tree_clear.specs.of_tree_down.Clear.{EndsClear}
use Rattle.fo_tree_clear.proofs.of_tree_down.Beside.{on_way_block}
use Rattle.fo_tree_lift.specs.of_tree_grow.Grow.{shaped, sized}
use Rattle.fo_tree_lift.proofs.of_tree_grow.Sizing.{room_for, sized_block, has_sized, has_back, over_sized, prepared_sized, clear_sized, address_sized, held_sized}
use Rattle.fo_tree_lift.proofs.of_tree_grow.Empty.{few_for, has_none, over_shaped, prepared_any, clear_none, address_none, held_none}
use Rattle.fo_tree_clear.specs.Put.{byte_here}

-- a way of the tree with another size
pub way_sized_back : (s : State) (t : Tree) (z n k b : ℕ) → OnWay s (sized t z) n k b → OnWay s t n k b
way_sized_back s t z zero k b on = on
way_sized_back s t z (suc n) k b on = ⊎_elim (λ above. inl (way_sized_back s t z n (k / 409) b above)) (λ e. inr (sym (sized_block s t z (suc n) k) ∙ e)) on

-- A source seen with the levels and the size that it gets: it has the leaves that it had, and nothing behind them.
pub record Reshaped (s : State) (t new : Tree) (kept : List Kept) (z : ℕ) : Type 0 where
  pub over : (limit : ℕ) → z ≤ limit → Over s t kept limit → Over s new kept limit
  pub still : (limit o n : ℕ) → Prepared s t kept limit o n → Prepared s new kept limit o n
  pub clear : EndsClear s new kept
  pub bytes : (k : ℕ) → byte_here s new kept k ≡ byte_here s t kept k
  pub back : (b : ℕ) → HasBlock s new b → HasBlock s t b
  pub stays : (b : ℕ) → HasBlock s t b → HasBlock s new b
  pub ways : (j b : ℕ) → j < 409 ^ new.depth → OnWay s new new.depth j b → (j < 409 ^ t.depth) × OnWay s t t.depth j b

module _ (s : State) (t : Tree) (kept : List Kept) (z : ℕ) (past : t.size < z) where
  bytes_of : (new : Tree) → ((j : ℕ) → address_here s new j ≡ address_here s t j) → ((j : ℕ) → held_here s new kept j ≡ held_here s t kept j) → (k : ℕ) → byte_here s new kept k ≡ byte_here s t kept k
  bytes_of new addresses holds k =
      ap (λ a. byte_at s.now a (held_here s new kept (k / 8192)) (k % 8192)) (addresses (k / 8192))
      ∙ ap (λ h. byte_at s.now (address_here s t (k / 8192)) h (k % 8192)) (holds (k / 8192))

  pub reshaped_within : z ≤ 2 ^ 47 → t.depth ≡ depth_for z → EndsClear s t kept → Reshaped s t (shaped t (depth_for z) z) kept z
  reshaped_within low levels clear =
      let room : z ≤ 8192 * 409 ^ t.depth = subst (λ d. z ≤ 8192 * 409 ^ d) (sym levels) (room_for z low) in
      let more : t.size ≤ z = omega (arith, past) in
      subst (λ d. Reshaped s t (shaped t d z) kept z) levels (record {
        over = λ limit within over. over_sized s t z kept limit (omega (arith, past)) within levels over;
        still = λ limit o n was. prepared_sized s t z kept clear more room limit o n was;
        clear = clear_sized s t z kept clear more room (omega (arith, past));
        bytes = bytes_of (sized t z) (address_sized s t z kept clear more room) (held_sized s t z kept clear more room);
        back = has_back s t z;
        stays = has_sized s t z;
        ways = λ j b few on. (few, way_sized_back s t z t.depth j b on);
      })

  pub reshaped_empty : t.top ≡ Nil → Reshaped s t (shaped t (depth_for z) z) kept z
  reshaped_empty empty = record {
    over = λ limit within over. over_shaped s t kept empty limit (depth_for z) z (omega (arith, past)) within refl (few_for z) over;
    still = λ limit o n was. prepared_any s t kept empty (depth_for z) z limit o n was.end;
    clear = clear_none s (shaped t (depth_for z) z) empty kept;
    bytes = bytes_of (shaped t (depth_for z) z)
        (λ j. address_none s (shaped t (depth_for z) z) empty j ∙ sym (address_none s t empty j))
        (λ j. held_none s (shaped t (depth_for z) z) kept empty j ∙ sym (held_none s t kept empty j));
    back = λ b has. absurd (has_none s (shaped t (depth_for z) z) empty b has);
    stays = λ b has. absurd (has_none s t empty b has);
    ways = λ j b few on. absurd (has_none s (shaped t (depth_for z) z) empty b (on_way_block s (shaped t (depth_for z) z) (depth_for z) j b (omega arith) on));
  }
