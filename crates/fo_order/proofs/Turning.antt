-- What is to be done next.
use Rattle.std.proofs.Common.{◌≡◌, ◌≢◌, ◌<◌, ◌≤◌, ℕ, Bool, true, false, nat_eq, eqb-true, List, [], length, map, Contains, refl, sym, subst, ◌∙◌, arith}
use Rattle.std.proofs.lemmas.List.{length-map}
use Rattle.std.proofs.lemmas.Bool.{and_parts}
use Rattle.fo_order.specs.declared.marks.Flags.{Flags}
use Rattle.fo_order.specs.declared.marks.Mark.{Mark}
use Rattle.fo_order.specs.declared.marks.Tried.{Tried}
use Rattle.fo_order.specs.declared.marks.Tried.TheVariants.{Settled, Written, Failed}
use Rattle.fo_order.specs.Flags.{flag, is_current}
use Rattle.fo_order.specs.Keeps.{Turns}
use Rattle.fo_order.specs.Marks.{IsFalling, Marked, Known, IsTop, mark, mark_rank, mark_at}
use Rattle.fo_order.specs.Turns.{IsNext, IsDue, IsQuiet}
use Rattle.fo_order.proofs.Falling.{top_is_least}
use Rattle.fo_order.proofs.Keeping.{never}

abbrev pub turns : List Flags → List Mark → ℕ → Turns
turns flags written room = record { flags = flags; written = written; room = room }

none_among : (x : Mark) (marks : List Mark) → length marks ≡ 0 → Contains marks x → ⊥
none_among x marks e c = omega (arith, c.1)

clean : (b : Bool) → (b ≡ true → ⊥) → b ≡ false
clean true n = absurd (n refl)
clean false n = refl

quiet_tried : (t : Tried) → (t ≡ Written → ⊥) → (t ≡ Failed → ⊥) → t ≡ Settled
quiet_tried Settled n m = refl
quiet_tried Written n m = absurd (n refl)
quiet_tried Failed n m = absurd (m refl)

module _ (flags : List Flags) (marks written : List Mark) (room : ℕ) (falls : IsFalling marks) (marked : Marked flags marks) where
  pub due : (m : Mark) (least : ℕ) → IsTop marks m → least < m.rank → Contains (map mark_rank written) least → IsDue (turns flags written room)
  due m least top low has =
      record {
        some = let k = has.1 in let e = length-map written mark_rank in omega (arith, k, e);
        lower = λ q dirty. (least, has, (let le = top_is_least marks m (mark q (flag flags q).rank) falls top (marked.each q dirty) in omega (arith, le, low)));
      }

  pub due_last : length marks ≡ 0 → 0 < length written → IsDue (turns flags written room)
  due_last none some = record { some = some; lower = λ q dirty. absurd (none_among _ marks none (marked.each q dirty)) }

  pub all_quiet : length marks ≡ 0 → written ≡ [] → Known flags written → ((q : ℕ) → (flag flags q).tried ≡ Failed → (flag flags q).dirty ≡ true) → IsQuiet (turns flags written room)
  all_quiet none empty known failed =
      record {
        clean = λ q. clean (flag flags q).dirty (still q);
        settled = λ q. quiet_tried (flag flags q).tried (λ e. nothing (subst (λ (l : List Mark). Contains (map mark_at l) q) empty (known.each q e))) (λ e. still q (failed q e));
        none = empty;
      }
    where
      still : (q : ℕ) → (flag flags q).dirty ≡ true → ⊥
      still q dirty = none_among _ marks none (marked.each q dirty)

      nothing : {q : ℕ} → Contains [] q → ⊥
      nothing c = omega (arith, c.1)

  pub next : (m : Mark) (least : ℕ) → IsTop marks m → is_current flags m ≡ true → m.rank ≤ least → ((r : ℕ) → Contains (map mark_rank written) r → least ≤ r)
      → ((q : ℕ) → (flag flags q).tried ≡ Written → (flag flags q).dirty ≡ false → least ≤ (flag flags q).rank) → ((q : ℕ) → (flag flags q).tried ≡ Failed → (flag flags q).dirty ≡ true) → IsNext (turns flags written room) m.at
  next m least top current low below late failed =
      record {
        dirty = parts.0;
        least = among;
        settled = λ q unsettled. by q (flag flags q).dirty refl (flag flags q).tried refl unsettled;
        written = λ r c. let le = below r c in omega (arith, same, low, le);
      }
    where
      parts : ((flag flags m.at).dirty ≡ true) × (nat_eq (flag flags m.at).rank m.rank ≡ true)
      parts = and_parts (flag flags m.at).dirty (nat_eq (flag flags m.at).rank m.rank) current

      same : (flag flags m.at).rank ≡ m.rank
      same = eqb-true (flag flags m.at).rank m.rank parts.1

      among : (q : ℕ) → (flag flags q).dirty ≡ true → (flag flags m.at).rank ≤ (flag flags q).rank
      among q dirty = let le = top_is_least marks m (mark q (flag flags q).rank) falls top (marked.each q dirty) in omega (arith, same, le)

      by : (q : ℕ) (b : Bool) → (flag flags q).dirty ≡ b → (t : Tried) → (flag flags q).tried ≡ t → (flag flags q).tried ≢ Settled → (flag flags m.at).rank ≤ (flag flags q).rank
      by q true d t e un = among q d
      by q false d Settled e un = absurd (un e)
      by q false d Written e un = let le = late q e d in omega (arith, same, low, le)
      by q false d Failed e un = never (sym d ∙ failed q e)
