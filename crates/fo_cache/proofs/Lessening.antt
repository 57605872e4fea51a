-- Each turn leaves less to do.
use Rattle.std.proofs.Common.{◌≡◌, ◌≢◌, ⊎_elim, ℕ, zero, suc, ◌+◌, ◌-◌, ◌*◌, ◌<◌, ◌≤◌, Bool, true, false, cond, List, [], ◌∷◌, length, set, count_by, None, Result, Ok, Err, refl, ap, ◌∙◌, arith}
use Rattle.std.proofs.lemmas.List.Sums.{sum_by-cons}
use Rattle.std.specs.Result.{OnOk, OnErr}
use Rattle.fo_image.specs.declared.types.Pointer.{Pointer}
use Rattle.fo_image.specs.declared.types.Pointer.TheVariants.{Local}
use Rattle.fo_buffers.specs.Held.{Held}
use Rattle.fo_disk.specs.Disk.{DiskState}
use Rattle.fo_order.specs.declared.marks.Flags.{Flags}
use Rattle.fo_order.specs.Flags.{flag, flags_of, is_dirty}
use Rattle.fo_order.specs.Keeps.{Turns}
use Rattle.fo_order.specs.Turns.{IsDue, IsNext, IsQuiet, changed, flag_at, is_ranked, noted}
use Rattle.fo_order.proofs.Keeping.{counted_down}
use Rattle.fo_labels.specs.Region.{Region}
use Rattle.fo_crash.specs.Images.{target}
use Rattle.fo_crash.specs.Steps.{cleared}
use Rattle.fo_facts.specs.declared.fact.Fact.{Fact}
use Rattle.fo_facts.specs.Known.{fact_at}
use Rattle.fo_mind.specs.of_linking.Joined.{IsReached, JoinsBelow}
use Rattle.fo_mind.specs.of_linking.Joined.IsReached.{top, below}
use Rattle.fo_mind.specs.Changes.{takes_turn, turned}
use Rattle.fo_mind.specs.Due.{ClearedDue}
use Rattle.fo_mind.specs.Parts.{Parts, memory}
use Rattle.fo_mind.specs.Turning.{KeepsTurn, Landed, Synced}
use Rattle.fo_mind.proofs.Cleared.{cleared_nowhere}
use Rattle.fo_mind.proofs.Giving.{change_other}
use Rattle.fo_cache.specs.Numbering.{Renumbers}
use Rattle.fo_cache.specs.Settling.{Settles}
use Rattle.fo_cache.specs.Supers.{Overruled}
use Rattle.fo_cache.specs.Work.{AtMost, calls_left, in_doubt, work}
use Rattle.fo_cache.proofs.Clearing.{recalled_is}

-- a block that was written is dirty no more
pub written_less : (p m q : Parts) (at : ℕ) → KeepsTurn p m → IsNext p.turns at → Landed at m q → work q.turns < work p.turns
written_less p m q at k next l =
    let flags = ap (λ (x : Parts). x.turns.flags) k.rest in
    let dirty : (flag_at m.turns at).dirty ≡ true = ap (λ (x : Parts). (flag_at x.turns at).dirty) k.rest ∙ next.dirty in
    let down = counted_down m.turns.flags at (flag_at m.turns at).rank dirty in
    let now = ap (λ (t : Turns). count_by is_dirty t.flags) l.turns in
    let was = ap (count_by is_dirty) flags in
    omega (arith, down, now, was)

-- what was written is settled
pub synced_less : (p q : Parts) → IsDue p.turns → Synced p q → work q.turns < work p.turns
synced_less p q due c =
    let none = ap length c.turns.none in
    let same = c.turns.dirty in
    let some = due.some in
    omega (arith, none, same, some)

pub next_kept : (p m : Parts) (at : ℕ) → KeepsTurn p m → IsNext p.turns at → (flag_at m.turns at).dirty ≡ true
next_kept p m at k next = ap (λ (x : Parts). (flag_at x.turns at).dirty) k.rest ∙ next.dirty

-- ---- there is work, or none

pub next_work : (p : Parts) (at : ℕ) → IsNext p.turns at → 2 ≤ work p.turns
next_work p at next = let down = counted_down p.turns.flags at (flag_at p.turns at).rank next.dirty in omega (arith, down)

pub due_work : (p : Parts) → IsDue p.turns → 1 ≤ work p.turns
due_work p due = let some = due.some in omega (arith, some)

abbrev number : Bool → ℕ
number b = cond b 1 0

dirty_first : (x : Flags) (xs : List Flags) → count_by is_dirty (x ∷ xs) ≡ number x.dirty + count_by is_dirty xs
dirty_first = sum_by-cons (λ x. cond (is_dirty x) 1 0)

none_dirty : (flags : List Flags) → ((b : ℕ) → (flag flags b).dirty ≡ false) → count_by is_dirty flags ≡ 0
none_dirty [] calm = refl
none_dirty (f ∷ flags) calm =
    let here = ap number (calm 0) in
    let there = none_dirty flags (λ b. calm (suc b)) in
    let all = dirty_first f flags in
    omega (arith, here, there, all)

pub quiet_work : (t : Turns) → IsQuiet t → work t ≡ 0
quiet_work t quiet =
    let dirty = none_dirty t.flags quiet.clean in
    let written = ap length quiet.none in
    omega (arith, dirty, written)

-- a super block that was in doubt is overruled, or nothing changed
pub overruled_work : {T E : Type 0} (s t : DiskState) (p q : Parts) (r : Result T E) → OnOk r (Overruled s t p q) → OnErr r (q ≡ p) → work q.turns ≤ work p.turns
overruled_work s t p q (Ok x) o n =
    let none = ap length o.turns.none in
    let same = o.turns.dirty in
    omega (arith, none, same)
overruled_work s t p q (Err e) o n = let same = ap (λ (z : Parts). work z.turns) n in omega (arith, same)

-- ---- a slot is cleared

few : (b : Bool) → cond b 1 0 ≤ 1
few true = omega arith
few false = omega arith

-- an entry is put in front of a list, of which another entry stood in front of one
more_first : (a b m n new old : ℕ) → new ≡ a + m → old ≡ b + n → a + m ≤ b + n + 1 → new ≤ old + 1
more_first a b m n new old put was most = omega (arith, put, was, most)

count_changed : (flags : List Flags) (at : ℕ) (f : Flags) → count_by is_dirty (set flags at f) ≤ count_by is_dirty flags + 1
count_changed [] at f = omega arith
count_changed (x ∷ xs) zero f =
    let one = few f.dirty in
    more_first (number f.dirty) (number x.dirty) (count_by is_dirty xs) (count_by is_dirty xs) _ _ (dirty_first f xs) (dirty_first x xs) (omega (arith, one))
count_changed (x ∷ xs) (suc k) f =
    let more = count_changed xs k f in
    more_first (number x.dirty) (number x.dirty) (count_by is_dirty (set xs k f)) (count_by is_dirty xs) _ _ (dirty_first x (set xs k f)) (dirty_first x xs) (omega (arith, more))

-- of two orders, neither of which has more dirty blocks
either : (b : Bool) (t u : Turns) (n : ℕ) → count_by is_dirty t.flags ≤ n → count_by is_dirty u.flags ≤ n → count_by is_dirty (cond b t u).flags ≤ n
either true t u n first second = first
either false t u n first second = second

changed_count : (t : Turns) (at rank : ℕ) → count_by is_dirty (changed t at rank).flags ≤ count_by is_dirty t.flags + 1
changed_count t at rank = either (is_ranked rank (flag_at t at)) t (record (noted t at (flags_of true (flag_at t at).tried rank)) { room = t.room - 1 }) (count_by is_dirty t.flags + 1) (omega arith) (count_changed t.flags at (flags_of true (flag_at t at).tried rank))

turned_count : (facts : List Fact) (t : Turns) (at : ℕ) → count_by is_dirty (turned facts t at).flags ≤ count_by is_dirty t.flags + 1
turned_count facts t at = either (takes_turn facts t at) (changed t at (fact_at facts at).rank) t (count_by is_dirty t.flags + 1) (changed_count t at (fact_at facts at).rank) (omega arith)

same_count : (xs ys : List Flags) → length ys ≡ length xs → ((b : ℕ) → flag ys b ≡ flag xs b) → count_by is_dirty ys ≡ count_by is_dirty xs
same_count [] [] n e = refl
same_count [] (y ∷ ys) n e = absurd (omega (arith, n))
same_count (x ∷ xs) [] n e = absurd (omega (arith, n))
same_count (x ∷ xs) (y ∷ ys) n e =
    let here = ap (λ (f : Flags). number f.dirty) (e 0) in
    let there = same_count xs ys (omega (arith, n)) (λ b. e (suc b)) in
    let old = dirty_first x xs in
    let new = dirty_first y ys in
    omega (arith, here, there, old, new)

-- nothing is reached from a slot that leads nowhere
unreached : (held : Held) (region : Region) (facts : List Fact) (to : Pointer) → ((b : ℕ) → to ≡ Local b → ⊥) → (b : ℕ) → IsReached held region facts to b → ⊥
unreached held region facts to none _ (top b e) = none b e
unreached held region facts to none _ (below a x j b r l h e) = unreached held region facts to none a r

-- so nobody else takes a turn
same_joins : (held : Held) (region : Region) (facts facts' : List Fact) (to : Pointer) (t u : Turns) → ((b : ℕ) → to ≡ Local b → ⊥) → JoinsBelow held region to facts facts' t u → (b : ℕ) → flag_at u b ≡ flag_at t b
same_joins held region facts facts' to t u none j b = ⊎_elim (λ same. same) (λ l. absurd (unreached held region facts to none b (j.only b l.0))) (j.joins.flags b)

none_joins : (held : Held) (region : Region) (facts facts' : List Fact) (to : Pointer) (t u : Turns) → ((b : ℕ) → to ≡ Local b → ⊥) → JoinsBelow held region to facts facts' t u → count_by is_dirty u.flags ≡ count_by is_dirty t.flags
none_joins held region facts facts' to t u none j = same_count t.flags u.flags j.joins.flag_count (same_joins held region facts facts' to t u none j)

-- its block alone has a turn more
pub due_left : (p s : Parts) (at i : ℕ) → ClearedDue at i p s → s.doubt ≡ p.doubt → length s.clears < length p.clears → calls_left s ≤ calls_left p
due_left p s at i z doubt fewer =
    let now = after (fact_at z.slotted.hung.facts at).linked refl in
    let filled = turned_count z.recalled.facts z.recalled.turns at in
    let put = ap (λ (t : Turns). count_by is_dirty t.flags) (ap (λ (y : Parts). y.turns) z.slotted.hangs.rest ∙ z.slotted.refilled.turns) in
    let was = ap (λ (y : Parts). count_by is_dirty y.turns.flags) (recalled_is z) in
    let same = ap in_doubt doubt in
    omega (arith, now, filled, put, was, same, fewer)
  where
    after : (b : Bool) → (fact_at z.slotted.hung.facts at).linked ≡ b → count_by is_dirty s.turns.flags ≡ count_by is_dirty z.slotted.hung.turns.flags
    after true e = none_joins z.slotted.hung.held z.slotted.hung.region z.slotted.hung.facts s.facts (target (cleared ((memory p at).slot i))) z.slotted.hung.turns s.turns (cleared_nowhere ((memory p at).slot i)) (z.slotted.follows.linked e)
    after false e = ap (λ (t : Turns). count_by is_dirty t.flags) (z.slotted.follows.stays e).1

turned_other : (facts : List Fact) (t : Turns) (at b : ℕ) → b ≢ at → flag_at (turned facts t at) b ≡ flag_at t b
turned_other facts t at b ne = by (takes_turn facts t at)
  where
    by : (due : Bool) → flag_at (cond due (changed t at (fact_at facts at).rank) t) b ≡ flag_at t b
    by true = change_other t at (fact_at facts at).rank b ne
    by false = refl

pub due_others : (p s : Parts) (at i : ℕ) → ClearedDue at i p s → (b : ℕ) → b ≢ at → flag_at s.turns b ≡ flag_at p.turns b
due_others p s at i z b ne = after (fact_at z.slotted.hung.facts at).linked refl
    ∙ ap (λ (y : Parts). flag_at y.turns b) z.slotted.hangs.rest
    ∙ ap (λ (t : Turns). flag_at t b) z.slotted.refilled.turns
    ∙ turned_other z.recalled.facts z.recalled.turns at b ne
    ∙ ap (λ (y : Parts). flag_at y.turns b) (recalled_is z)
  where
    after : (l : Bool) → (fact_at z.slotted.hung.facts at).linked ≡ l → flag_at s.turns b ≡ flag_at z.slotted.hung.turns b
    after true e = same_joins z.slotted.hung.held z.slotted.hung.region z.slotted.hung.facts s.facts (target (cleared ((memory p at).slot i))) z.slotted.hung.turns s.turns (cleared_nowhere ((memory p at).slot i)) (z.slotted.follows.linked e) b
    after false e = ap (λ (t : Turns). flag_at t b) (z.slotted.follows.stays e).1

-- ---- what is called, and what is left then

-- nothing is in doubt any more
pub certain_left : (s t : DiskState) (p q : Parts) (before now : ℕ) → Renumbers s t p q → q.doubt ≡ None → work q.turns ≤ work p.turns → AtMost (2 * in_doubt p.doubt) before now → now + calls_left q ≤ before + calls_left p
certain_left s t p q before now r none less most =
    let doubt = ap in_doubt none in
    let clears = ap (λ (z : Parts). length z.clears) r.rest in
    omega (arith, doubt, clears, less, most)

-- all turns were taken
pub turned_left : (s t : DiskState) (p q : Parts) (before now : ℕ) → Settles s t p q → IsQuiet q.turns → AtMost (work p.turns) before now → now + calls_left q ≤ before + calls_left p
turned_left s t p q before now k quiet most =
    let none = quiet_work q.turns quiet in
    let doubt = ap (λ (z : Parts). in_doubt z.doubt) k.rest in
    let clears = ap (λ (z : Parts). length z.clears) k.rest in
    omega (arith, none, doubt, clears, most)
