-- The writes of blocks of the index.
use Rattle.std.specs.Prelude.{Ok}
use Rattle.std.proofs.Common.{◌≡◌, inr, ⊎_elim, ℕ, ◌+◌, ◌*◌, ◌/◌, ◌<◌, ◌≤◌, List, length, sym, ap, subst, arith}
use Rattle.std.proofs.lemmas.Bool.{cases_lt}
use Rattle.fo_disk.specs.Disk.{Block, DiskState, IsWrite}
use Rattle.fo_image.specs.Place.{line_block, stored_block}
use Rattle.venti_store.specs.Held.{HasLine, HasBytes}
use Rattle.fo_image.specs.declared.types.ArenaLine.{ArenaLine}
use Rattle.venti_store.specs.Kept.{IsDue}
use Rattle.venti_store.specs.Settling.{Run, IsRun, IsDone, WroteBytes, WroteLines}
use Rattle.venti_store.proofs.Settled.{Adding, line_within, done_here, done_other}

-- the block of the index of the next group
pub record NextLines (run : Run) (group at : ℕ) (block : Block) : Type 0 where
  pub some : run.settled < length run.lines
  pub from : run.settled / 341 ≤ group
  pub to : 341 * group < length run.lines
  pub at_is : at ≡ 1 + 342 * group
  pub has : (place : ℕ) → place / 341 ≡ group → place < length run.lines → HasLine run.lines place block

module _ {run : Run} {group at : ℕ} {block : Block} (n : NextLines run group at block) (r : IsRun run) where
  inside : at < run.size
  inside = let lt = line_within run.size (341 * group) (omega (arith, n.to, r.places)) in omega (arith, lt, n.at_is)

  due : IsDue run.settled (length run.lines) at
  due = ⊎_elim
      (λ lt. inr (run.settled, omega arith, n.some, inr (omega (arith, lt, n.from, n.at_is))))
      (λ ge. inr (341 * group, ge, n.to, inr (omega (arith, n.at_is))))
      (cases_lt (341 * group) run.settled)

  group_of : (place : ℕ) → line_block place ≡ at → place / 341 ≡ group
  group_of place is = omega (arith, is, n.at_is)

  not_stored : (place : ℕ) → stored_block place ≡ at → ⊥
  not_stored place is = omega (arith, is, n.at_is)

  pub adding_lines : Adding run at block
  adding_lines = record {
    within = inside;
    fits = record {
      head = λ zero. absurd (omega (arith, zero, n.at_is));
      line = λ place lt is. n.has place (group_of place is) (omega (arith, lt, r.within));
      bytes = λ place lt is. absurd (not_stored place is);
    };
    due = due;
  }

  pub lines_wrote : {E : Type 0} {u : Unit} {old new : DiskState} → length old.holds ≡ run.size → WroteLines run (341 * group) old → IsWrite {E = E} at block (Ok u) old new → WroteLines run (341 * (group + 1)) new
  lines_wrote {new = new} told wrote w = record {
    each = λ place from to used. ⊎_elim
        (λ lt. done_other (line_block place) (HasLine run.lines place) (λ is. let same = group_of place is in omega (arith, lt, same)) w (wrote.each place from lt used))
        (λ ge.
        let here : at ≡ line_block place = omega (arith, ge, to, n.at_is) in
        subst (λ (k : ℕ). IsDone new k (HasLine run.lines place)) here (done_here (HasLine run.lines place) (subst (λ (k : ℕ). at < k) (sym told) inside) w (n.has place (group_of place (sym here)) used)))
        (cases_lt place (341 * group));
  }

-- the bytes stay
pub bytes_stay : {E : Type 0} {u : Unit} {run : Run} {old new : DiskState} {at : ℕ} {block : Block} (group : ℕ) (upto : ℕ) → at ≡ 1 + 342 * group → WroteBytes run upto old → IsWrite {E = E} at block (Ok u) old new → WroteBytes run upto new
bytes_stay {run = run} group upto at_is wrote w = record {
  each = λ place from to. done_other (stored_block place) (HasBytes run.lines run.stored place) (λ is. omega (arith, is, at_is)) w (wrote.each place from to);
}

pub next_lines : {run : Run} {lines : List ArenaLine} {group at first : ℕ} {block : Block} → run.lines ≡ lines → run.settled ≡ first → first < length lines → first / 341 ≤ group → 341 * group < length lines → at ≡ 1 + 342 * group
    → ((place : ℕ) → place / 341 ≡ group → place < length lines → HasLine lines place block) → NextLines run group at block
next_lines {run} {lines} {group} {at} {first} {block} lines_is first_is some from to at_is has = record {
  some = omega (arith, some, first_is, ap length lines_is);
  from = subst (λ (n : ℕ). n / 341 ≤ group) (sym first_is) from;
  to = omega (arith, to, ap length lines_is);
  at_is = at_is;
  has = λ place same used. subst (λ (ls : List ArenaLine). HasLine ls place block) (sym lines_is) (has place same (omega (arith, used, ap length lines_is)));
}
