-- Calls that leave what is known of blocks, and moments that pass.
use Rattle.std.proofs.Common.{◌≡◌, ◌↔◌, ℕ, false, List, refl, sym, ◌∙◌, subst}
use Rattle.std.specs.List.{Contains}
use Rattle.fo_crash.specs.declared.place.Place.{Place}
use Rattle.fo_crash.specs.Images.{Content, Reaches, to_block}
use Rattle.fo_crash.specs.Steps.{AddsNothing, Passes}
use Rattle.fo_crash.proofs.Sure.{same_content}
use Rattle.fo_cells.specs.Known.{Known, Top, Remains, Stands}
use Rattle.fo_cells.specs.Laws.{Safe}
use Rattle.fo_cells.proofs.Standing.{stands_by, stands_top, stands_below}
use Rattle.fo_cells.proofs.Known.{placed, ranked}
use Rattle.fo_cells.proofs.Removing.{shown_from}
use Rattle.fo_cells.proofs.Super.{memory_remains}
use Rattle.fo_cells_calls.specs.State.{Rest, state_of}
use Rattle.fo_cells_calls.specs.Laws.{LeavesKnown, Turns, Passed}

abbrev with_tops : Known → List Top → Known
with_tops k ts = record k { tops = ts }

-- tops alone differ
tops_leave : (k : Known) (ts : List Top) (x y : Rest) → (y.tells ↔ x.tells) → LeavesKnown (state_of k x) (state_of (with_tops k ts) y)
tops_leave k ts x y tells = record {
  now = record { each = λ b. same_content (k.memory b) };
  images = record { each = λ image h. (tells.0 h.0, record { cells = h.1.cells; super = h.1.super }) };
  labels = λ b. refl;
  newborn = λ b. (λ n. n, λ n. n);
  no_wait = record { each = λ a on j but w. w };
  waits = λ a on j w. w;
  order = record { clearing = λ b j c. (λ never. never, c); goes_on = λ b j made c. c };
}

pub taken_leaves : (old new : Known) (x y : Rest) → (y.tells ↔ x.tells) → new ≡ old → LeavesKnown (state_of old x) (state_of new y) × ((b : ℕ) (p : Place) → (state_of old x).stands b p → (state_of new y).stands b p)
taken_leaves old new x y tells same = subst (λ k. LeavesKnown (state_of old x) (state_of k y) × ((b : ℕ) (p : Place) → (state_of old x).stands b p → (state_of k y).stands b p)) (sym same) (tops_leave old old.tops x y tells, λ b p st. (tells.1 st.0, st.1))

-- what hangs from a top that is left stands where it stood
hangs_still : (k : Known) (ts : List Top) (high : ℕ) (doubts : List Content) → ((t : Top) → Contains ts t → Contains k.tops t) → Safe k high doubts → (t b : ℕ) (p r : Place) → Stands (with_tops k ts) t r → Reaches k.memory (to_block t) b → Stands k b p → Stands (with_tops k ts) b p
hangs_still k ts high doubts fewer safe t b p r st reaches was =
    let seen = with_tops k ts in
    let back : (a : ℕ) (q : Place) → Stands seen a q → Stands k a q = stands_by (λ y is. stands_top y (fewer y is)) (λ a i s q z at m e. stands_below i s z at m e) in
    let found = Rattle.fo_crash.proofs.Places.stands_below r (placed seen k.memory (memory_remains seen).cells) (record { each = λ a i z q at e. (ranked safe.kept k.memory (memory_remains k).cells).each a i z q (back a q at) e }) st reaches in
    subst (λ q. Stands seen b q) (safe.kept.one b found.0 p (back b found.0 found.1) was) found.1

pub retire_leaves : (old new : Known) (x y : Rest) → (y.tells ↔ x.tells) → (high : ℕ) (doubts : List Content) → new ≡ record old { tops = new.tops } → ((t : Top) → Contains new.tops t → Contains old.tops t) → Safe old high doubts → LeavesKnown (state_of old x) (state_of new y) × ((t b : ℕ) (p : Place) → ((r : Place) × Stands new t r) → Reaches old.memory (to_block t) b → (state_of old x).stands b p → (state_of new y).stands b p)
retire_leaves old new x y tells high doubts same fewer safe = subst (λ k. LeavesKnown (state_of old x) (state_of k y) × ((t b : ℕ) (p : Place) → ((r : Place) × Stands k t r) → Reaches old.memory (to_block t) b → (state_of old x).stands b p → (state_of k y).stands b p)) (sym same) (
  tops_leave old new.tops x y tells,
  λ t b p top reaches st. (tells.1 st.0, hangs_still old new.tops high doubts fewer safe t b p top.0 top.1 reaches st.1),
)

-- ---- moments

-- after any number of turns: no image is added, the invariant holds, tops are tops, and what was settled whole is so
pub record After (first now : Known) (high : ℕ) (doubts : List Content) : Type 0 where
  pub images : AddsNothing (Remains first) (Remains now)
  pub safe : Safe now high doubts
  pub tops : now.tops ≡ first.tops
  pub newborn : (b : ℕ) → first.newborn b ≡ false → now.newborn b ≡ false

pub turned : (first now : Known) (high : ℕ) (doubts : List Content) → Safe first high doubts → Turns first now → After first now high doubts
turned first now high doubts safe (Turns.begun n same) = subst (λ k. After first k high doubts) (sym same) (record { images = record { each = λ image r. r }; safe = safe; tops = refl; newborn = λ b e. e })
turned first now high doubts safe (Turns.more k n row quiet tops newborn) =
    let was = turned first k high doubts safe row in record {
      images = record { each = λ image r. was.images.each image (quiet.0.each image r) };
      safe = quiet.1 high doubts was.safe;
      tops = tops ∙ was.tops;
      newborn = λ b e. newborn b (was.newborn b e);
    }

pub moments : (old new : Known) (x y : Rest) (high : ℕ) (doubts : List Content) → Safe old high doubts → Passed old new x y → Passes x.tops (state_of old x).may_leave x.moments y.moments x.left y.left × AddsNothing (state_of old x).may_leave (state_of new y).may_leave × Safe new high doubts
moments old new x y high doubts safe p =
    let all = turned old new high doubts safe p.all in (
      record {
        later = p.later;
        before = p.before;
        within = λ n image lt le h.
            let (told, (k, labels, row, left)) = p.within n image lt le h in
            let at = turned old k high doubts safe row in
            let o = shown_from x.tops at.safe left (λ t top. let z = p.tops t top in (z.0, stands_top (record { at = t; place = z.0 }) (subst (λ (ts : List Top). Contains ts (record { at = t; place = z.0 })) (sym at.tops) z.1), at.newborn t z.2)) in
            record { other = o.other; is = (told, at.images.each o.other o.is); same = o.same };
      },
      record { each = λ image h. (p.tells h.0, all.images.each image h.1) },
      all.safe,
    )
