-- A piece was put, within the end or past it, or none was.
use Rattle.std.proofs.Common.{◌≡◌, ◌⊎◌, ◌+◌, ◌<◌, ◌≤◌, ℕ, zero, suc, List, [], ◌∷◌, length, inl, inr, ⊎_elim, refl, sym, ap, ◌∙◌, arith}
use Rattle.fo_image.specs.declared.types.Pointer.{Pointer}
use Rattle.fo_ports.specs.State.{State, KeepsAll}
use Rattle.fo_ports.specs.Sources.{depth_for}
use Rattle.fo_tree_read.specs.declared.tree.Tree.{Tree}
use Rattle.fo_tree_look.specs.declared.ways.Kept.{Kept}
use Rattle.fo_tree_look.specs.Source.{HasBlock}
use Rattle.fo_tree_clear.proofs.of_tree_down.Join.{local_cases}
use Rattle.fo_tree_clear.proofs.Stepping.{steps_none, steps_changes}
use Rattle.fo_tree_write.specs.Write.{at_top}
use Rattle.fo_tree_append.specs.Append.{ended, piece_end, with_piece, OnPiece, PutsPiece}

end_within : (size offset n : ℕ) → (n ≡ 0) ⊎ (offset + n ≤ size) → piece_end size offset n ≡ size
end_within size offset zero which = refl
end_within size offset (suc n) (inl none) = absurd (omega (arith, none))
end_within size offset (suc n) (inr le) = omega (arith, le)

end_past : (size offset n : ℕ) → 0 < n → size < offset + n → piece_end size offset n ≡ offset + n
end_past size offset zero some past = absurd (omega (arith, some))
end_past size offset (suc n) some past = omega (arith, past)

-- the tree of a source that doesn't grow
pub tree_within : (t : Tree) (offset n : ℕ) (top : Pointer) → t.depth ≡ depth_for t.size → (n ≡ 0) ⊎ (offset + n ≤ t.size) → at_top t top ≡ with_piece t offset n top
tree_within t offset n top least which = ap (λ d. record t { depth = d; top = top }) least ∙ ap (λ z. ended t z top) (sym (end_within t.size offset n which))

-- and of one that does
pub tree_past : (t : Tree) (offset n : ℕ) (top : Pointer) → 0 < n → t.size < offset + n → ended t (offset + n) top ≡ with_piece t offset n top
tree_past t offset n top some past = ap (λ z. ended t z top) (sym (end_past t.size offset n some past))

pub puts_none : (s : State) (t : Tree) (kept : List Kept) (offset : ℕ) (piece : List ℕ) → KeepsAll s s → length piece ≡ 0 → PutsPiece s s t (at_top t t.top) kept offset piece
puts_none s t kept offset (x ∷ rest) all none = absurd (omega (arith, none))
puts_none s t kept offset [] all none = record {
  over = λ limit within was. was;
  bytes = λ told limit. refl;
  grows = λ limit. record { owns = λ told b. (λ has. inl has, λ made. absurd (made.0 made.1)); still = λ o n was. was };
  comes = λ told from h. h;
  only = λ told y z h. ⊎_elim (λ e. inl e) (λ ne. inr (h, ne)) (local_cases t.top y);
  clear = λ which was. was;
  changes = steps_changes (steps_none t.tag (HasBlock s t) (HasBlock s t) s all);
  only_ways = steps_changes (steps_none t.tag (HasBlock s t) (λ b. OnPiece s t offset 0 b) s all);
  spent = omega arith;
  room = refl;
}
