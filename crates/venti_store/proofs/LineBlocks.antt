-- The lines in a block of the index.
use Rattle.std.proofs.Common.{◌≡◌, ◌≢◌, ⊎_elim, ℕ, ◌+◌, ◌-◌, ◌*◌, ◌/◌, ◌<◌, ◌≤◌, List, length, take, drop, sym, ◌∙◌, ap, subst, arith}
use Rattle.std.proofs.lemmas.Bool.{cases_lt, cases_eq}
use Rattle.std.proofs.lemmas.List.{drop-take}
use Rattle.std.proofs.lemmas.Slice.{between-put_mid, take-put_mid_below, drop-put_mid}
use borrow.Rule.Slice.PartMut.{put_mid}
use Rattle.fo_image.specs.declared.types.ArenaLine.{ArenaLine}
use Rattle.fo_image.specs.Format.{SpellsArenaLine}
use Rattle.fo_image.specs.Place.{line_byte}
use Rattle.venti_store.specs.Held.{line_at, line_bytes, HasLine}

-- a block into which the line of a place was written
pub record Written (place at k : ℕ) (old line block : List ℕ) : Type 0 where
  pub long : length old ≡ 8192
  pub at_is : at ≡ line_byte place
  pub count : k ≡ at + 24 - at
  pub line_len : length line ≡ 24
  pub is : block ≡ put_mid at k old line

module _ {place at k : ℕ} {old line block : List ℕ} (w : Written place at k old line block) where
  fits : at + 24 ≤ 8192
  fits = omega (arith, w.at_is)

  line_here : line_bytes place block ≡ line
  line_here =
      ap (λ (n : ℕ). take 24 (drop n block)) (sym w.at_is)
      ∙ ap (λ (b : List ℕ). take 24 (drop at b)) w.is
      ∙ ap (λ (n : ℕ). take n (drop at (put_mid at k old line))) (let n : 24 ≡ at + 24 - at = omega arith in n)
      ∙ between-put_mid at k old line (at + 24) (omega (arith, fits, w.long)) (omega (arith, w.line_len))

  line_there : (other : ℕ) → other / 341 ≡ place / 341 → other ≢ place → line_bytes other block ≡ line_bytes other old
  line_there other same ne = ⊎_elim
      (λ lt.
      ap (line_bytes other) w.is
      ∙ sym (drop-take (line_byte other) 24 (put_mid at k old line))
      ∙ ap (drop (line_byte other)) (take-put_mid_below at k old line (line_byte other + 24) (omega (arith, lt, same, w.at_is)) (omega (arith, fits, w.long)))
      ∙ drop-take (line_byte other) 24 old)
      (λ ge.
      ap (line_bytes other) w.is
      ∙ ap (take 24) (drop-put_mid at k old line (line_byte other) (omega (arith, ge, same, ne, w.count, w.at_is)) (omega (arith, fits, w.long)) (omega (arith, w.line_len, w.count))))
      (cases_lt other place)

  -- one line more of the group from this place on
  pub lines_more : (lines : List ArenaLine) (first group : ℕ) → first ≡ group * 341 → first ≤ place → place < first + 341 → SpellsArenaLine (line_at lines place) line
      → ((p : ℕ) → first ≤ p → p < place → HasLine lines p old) → (p : ℕ) → first ≤ p → p < place + 1 → HasLine lines p block
  lines_more lines first group first_is from to spelled each p above below = ⊎_elim
      (λ same. subst (λ (q : ℕ). HasLine lines q block) (sym same) (subst (SpellsArenaLine (line_at lines place)) (sym line_here) spelled))
      (λ other. subst (SpellsArenaLine (line_at lines p)) (sym (line_there p (omega (arith, first_is, from, to, above, below)) other)) (each p above (omega (arith, below, other))))
      (cases_eq p place)
