-- How many records there are, leaf by leaf, and which leaf has room.
use Rattle.std.proofs.Common.{◌≡◌, ◌⊎◌, ◌+◌, ◌<◌, ◌≤◌, ℕ, List, [], ◌++◌, length, refl, inl, inr, ⊎_elim, sym, ap, ◌∙◌, subst, arith}
use Rattle.std.proofs.lemmas.List.{length-append}
use Rattle.fo_image.specs.declared.record.Record.{Record}
use Rattle.fo_ports.specs.of_crash.Images.{Image, SameImage}
use Rattle.fo_ports.specs.Sources.{Leaves}
use Rattle.fo_dir_read.proofs.Looking.{records_back}
use Rattle.fo_dir_read.proofs.Rows.{rows_none, none_rows, rows_split, rows_more, rows_back, rows_on}
use Rattle.fo_dir_list.specs.Room.{Takes, Counts, IsTight, IsRoom}

pub none_counted : {now : Image} {x : Leaves} → Counts now x 0 0
none_counted = record { each = λ rs are. ap (λ (ys : List Record). length ys) (rows_none are); records = []; are = none_rows }

pub more_counted : {now next : Image} {x y : Leaves} {i names count used : ℕ} → SameImage next now → ((j : ℕ) → y.at j ≡ x.at j) → Counts now x i names → Takes next y i count used → Counts next y (i + 1) (names + count)
more_counted {i = i} {names = names} {count = count} same there before here = record {
  each = λ rs are.
      let s = rows_split are in
      let front : length s.front ≡ names = before.each s.front (rows_back same there s.are) in
      let last : length s.last ≡ count = (here.each s.last s.has).0 in
      ap (λ (ys : List Record). length ys) s.is ∙ length-append s.front s.last ∙ ap (λ n. n + length s.last) front ∙ ap (λ n. names + n) last;
  records = before.records ++ here.records;
  are = rows_more (rows_on same there before.are) here.has;
}

pub tight_on : {now next : Image} {x y : Leaves} {len i : ℕ} → SameImage next now → ((j : ℕ) → y.at j ≡ x.at j) → ((j : ℕ) → j < i → IsTight now x len j) → (j : ℕ) → j < i → IsTight next y len j
tight_on same there tight j lt = record { each = λ rs has. (tight j lt).each rs (records_back same (there j) has) }

pub tight_more : {now : Image} {x : Leaves} {len i count used : ℕ} → ((j : ℕ) → j < i → IsTight now x len j) → Takes now x i count used → 8188 < used + len → (j : ℕ) → j < i + 1 → IsTight now x len j
tight_more {now = now} {x = x} {len = len} {i = i} {used = used} tight takes full j lt = ⊎_elim (λ before. tight j before) (λ here. subst (λ k. IsTight now x len k) (sym here) this) (last lt)
  where
    last : j < i + 1 → (j < i) ⊎ (j ≡ i)
    last h = grind (arith, h)

    this : IsTight now x len i
    this = record { each = λ rs has. subst (λ n. 8188 < n + len) (sym (takes.each rs has).1) full }

pub room_here : {now : Image} {x : Leaves} {len i n count used : ℕ} → ((j : ℕ) → j < i → IsTight now x len j) → Takes now x i count used → used + len ≤ 8188 → i ≤ n → IsRoom now x n len i
room_here {len = len} tight takes fits within = record { tight = tight; within = within; room = inr (λ rs has. subst (λ n. n + len ≤ 8188) (sym (takes.each rs has).1) fits) }

pub room_behind : {now : Image} {x : Leaves} {len n : ℕ} → ((j : ℕ) → j < n → IsTight now x len j) → IsRoom now x n len n
room_behind {n = n} tight = record { tight = tight; within = omega arith; room = inl refl }
