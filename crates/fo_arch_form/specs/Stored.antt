-- Under which scores blocks were stored.
use Rattle.std.specs.Prelude.{◌≡◌, ℕ, Option, Some}
use Rattle.std.specs.BTreeMap.{get, btree_map_len}
use Rattle.fo_image.specs.declared.types.Score.{Score}
use Rattle.fo_image.specs.declared.types.Pointer.{Pointer}
use Rattle.fo_image.specs.declared.types.Pointer.TheVariants.{Nil, Local, Score as Held}
use Rattle.fo_vacput.specs.declared.types.TheConstants.{EMPTY}
use Rattle.fo_arch_form.specs.declared.stored.Stored.{Stored}
use Rattle.fo_arch_form.specs.Keys.{key_cmp}

-- the score under which the block of this address and kind was stored
abbrev pub found : Stored → ℕ → ℕ → Option Score
found done at kind = get key_cmp done.scores (at, kind)

-- how many blocks were stored
abbrev pub count_of : Stored → ℕ
count_of done = btree_map_len done.scores

-- the score of what a pointer to a block of this kind names; that of the empty block where it names none
abbrev pub score_under : Stored → ℕ → Pointer → Option Score
score_under done kind Nil = Some EMPTY
score_under done kind (Local at) = found done at kind
score_under done kind (Held score) = Some score

-- One block more was stored.
pub record Adds (at kind : ℕ) (score : Score) (old new : Stored) : Type 0 where
  pub here : found new at kind ≡ Some score
  pub others : (a k : ℕ) → (a ≡ at → k ≡ kind → ⊥) → found new a k ≡ found old a k
