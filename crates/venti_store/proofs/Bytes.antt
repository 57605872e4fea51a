-- The writes of blocks that wait.
use Rattle.std.specs.Prelude.{Ok}
use Rattle.std.proofs.Common.{◌≡◌, inl, inr, ⊎_elim, ℕ, ◌+◌, ◌<◌, List, [], length, take, get_or, sym, ◌∙◌, ap, subst, arith}
use Rattle.std.proofs.lemmas.Bool.{cases_eq}
use Rattle.fo_disk.specs.Disk.{Block, DiskState, IsWrite}
use Rattle.fo_image.specs.Place.{line_block, stored_block}
use Rattle.venti_store.specs.Held.{HasBytes}
use Rattle.venti_store.specs.Settling.{Run, IsRun, IsDone, WroteBytes, Waits}
use Rattle.std.proofs.lemmas.List.{get_or-map, length-map}
use Rattle.venti_store.specs.Kept.{waits}
use Rattle.venti_store.specs.declared.waiting.Waiting.{Waiting}
use Rattle.venti_store.proofs.Settled.{Adding, stored_within, done_here, done_other}

pub no_line_block : (p q : ℕ) → line_block p ≡ stored_block q → ⊥
no_line_block p q is = omega (arith, is)

pub same_place : (p q : ℕ) → stored_block p ≡ stored_block q → p ≡ q
same_place p q is = omega (arith, is)

-- the block of the next place that waits
pub record Next (run : Run) (waiting : List (List ℕ)) (i at : ℕ) (block : Block) : Type 0 where
  pub waits : Waits run waiting
  pub within : i < length waiting
  pub at_is : at ≡ stored_block (run.settled + i)
  pub has : take (length (get_or waiting i [])) block ≡ get_or waiting i []

module _ {run : Run} {waiting : List (List ℕ)} {i at : ℕ} {block : Block} (n : Next run waiting i at block) (r : IsRun run) where
  used : run.settled + i < length run.lines
  used = omega (arith, n.within, n.waits.all)

  inside : at < run.size
  inside = subst (λ (k : ℕ). k < run.size) (sym n.at_is) (stored_within run.size (run.settled + i) (omega (arith, used, r.places)))

  has_bytes : HasBytes run.lines run.stored (run.settled + i) block
  has_bytes =
      n.waits.each i n.within
      ∙ sym n.has
      ∙ ap (λ (k : ℕ). take k block) (ap length (sym (n.waits.each i n.within)) ∙ r.lens (run.settled + i) used)

  pub adding_bytes : Adding run at block
  adding_bytes = record {
    within = inside;
    fits = record {
      head = λ zero. absurd (omega (arith, zero, n.at_is));
      line = λ place lt is. absurd (no_line_block place (run.settled + i) (is ∙ n.at_is));
      bytes = λ place lt is. let same = same_place place (run.settled + i) (is ∙ n.at_is) in absurd (omega (arith, lt, same));
    };
    due = inr (run.settled + i, omega arith, used, inl (sym n.at_is));
  }

  pub wrote_more : {E : Type 0} {u : Unit} {old new : DiskState} → length old.holds ≡ run.size → WroteBytes run (run.settled + i) old → IsWrite {E = E} at block (Ok u) old new → WroteBytes run (run.settled + (i + 1)) new
  wrote_more {new = new} told wrote w = record {
    each = λ place from to. ⊎_elim
        (λ same. subst (λ (p : ℕ). IsDone new (stored_block p) (HasBytes run.lines run.stored p)) (sym same) (subst (λ (k : ℕ). IsDone new k (HasBytes run.lines run.stored (run.settled + i))) n.at_is
        (done_here (HasBytes run.lines run.stored (run.settled + i)) (subst (λ (k : ℕ). at < k) (sym told) inside) w has_bytes)))
        (λ other. done_other (stored_block place) (HasBytes run.lines run.stored place) (λ is. other (same_place place (run.settled + i) (is ∙ n.at_is))) w (wrote.each place from (omega (arith, to, other))))
        (cases_eq place (run.settled + i));
  }

pub next_waiting : {run : Run} {i at first : ℕ} {block : Block} (pending : List Waiting) → Waits run (waits pending) → run.settled ≡ first → i < length pending → (w : Waiting)
    → at ≡ stored_block (first + i) → (bytes : List ℕ) → bytes ≡ (get_or pending i w).bytes.items → take (length bytes) block ≡ bytes → Next run (waits pending) i at block
next_waiting {run} {i} {at} {first} {block} pending ws first_is lt w at_is bytes bytes_is has =
    let here : get_or (waits pending) i [] ≡ (get_or pending i w).bytes.items = get_or-map (λ (w : Waiting). w.bytes.items) pending i w [] lt in
    record {
      waits = ws;
      within = omega (arith, lt, length-map pending (λ (w : Waiting). w.bytes.items));
      at_is = at_is ∙ ap (λ (n : ℕ). stored_block (n + i)) (sym first_is);
      has = subst (λ (bytes : List ℕ). take (length bytes) block ≡ bytes) (bytes_is ∙ sym here) has;
    }
