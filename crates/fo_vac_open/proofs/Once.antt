-- What is held under a score and a kind is one block.
use Rattle.std.proofs.Common.{◌≡◌, ◌∙◌, inl, inr, ℕ, List, sym, ap}
use Rattle.std.specs.Prelude.{Some}
use Rattle.std.specs.BTreeMap.{get}
use Rattle.venti_store.specs.Held.{line_at, name_of, stored_at, HasName, IsHeld}
use Rattle.venti_store.specs.Names.{name_cmp}
use Rattle.venti_store.specs.Arena.{lines_of}
use Rattle.venti_store.specs.declared.shelf.Shelf.{Shelf}

same_place : (s : Shelf) (score : List ℕ) (kind one other : ℕ) → HasName (lines_of s) score kind one → HasName (lines_of s) score kind other → one ≡ other
same_place s score kind one other p q =
    let named : name_of (line_at (lines_of s) one) ≡ name_of (line_at (lines_of s) other) = λ i. ((p.score_is ∙ sym q.score_is) i, (p.kind_is ∙ sym q.kind_is) i) in
    let e : Some one ≡ Some other = sym (s.index.found one p.used) ∙ ap (get name_cmp s.index.places) named ∙ s.index.found other q.used in
    cc

pub held_once : (s : Shelf) (stored : List (List ℕ)) (score : List ℕ) (kind : ℕ) (one other : List ℕ) → IsHeld (lines_of s) stored score kind one → IsHeld (lines_of s) stored score kind other → one ≡ other
held_once s stored score kind one other (inl a) (inl b) = a.1 ∙ sym b.1
held_once s stored score kind one other (inl a) (inr b) = absurd (b.0 a.0)
held_once s stored score kind one other (inr a) (inl b) = absurd (a.0 b.0)
held_once s stored score kind one other (inr (_, p, at, is)) (inr (_, q, there, was)) = is ∙ ap (stored_at stored) (same_place s score kind p q at there) ∙ sym was
