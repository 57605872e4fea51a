-- Laws of the trait, read off what a cache knows.
use Rattle.std.proofs.Common.{◌≡◌, ◌≢◌, inl, inr, ⊎_elim, ℕ, true, List, [], refl, sym, subst}
use Rattle.std.specs.List.{Contains}
use Rattle.fo_image.specs.Usable.{is_usable}
use Rattle.fo_crash.specs.declared.place.Place.{Place}
use Rattle.fo_crash.specs.Images.{Content, Reaches, to_block}
use Rattle.fo_crash.specs.Steps.{IsSure}
use Rattle.fo_crash.proofs.Sure.{same_if}
use Rattle.fo_cells.specs.Known.{Known, Remains, Stands}
use Rattle.fo_cells.specs.Safe.{IsSafe, super_top}
use Rattle.fo_cells.proofs.Standing.{seen_born, among_cases, stands_top, not_both}
use Rattle.fo_cells.proofs.Known.{placed, ranked, sure}
use Rattle.fo_cells.proofs.Removing.{shown_from}
use Rattle.fo_cells.proofs.Safe.{set_sure, old_sure, safe_super, memory_falls}
use Rattle.fo_cells.proofs.Super.{memory_remains}
use Rattle.fo_cells_calls.specs.State.{Rest, Reads, IsFresh, state_of}
use Rattle.fo_cells_calls.specs.Laws.{TraitLaws}
use Rattle.fo_cells_calls.proofs.Images.{told_sure}

-- a block that is fresh is in every image what memory has
pub fresh_sure : {k : Known} {b : ℕ} → IsFresh k b → IsSure k.memory b (Remains k)
fresh_sure {k} {b} f =
    let all = sure k b (λ c h. ⊎_elim
    (λ first. same_if (sym first))
    (λ more. absurd (f.late c more))
    (among_cases (k.memory b) (k.late b) c (subst (λ (cs : List Content). Contains cs c) (seen_born k b f.newborn) h))) f.clears in
    record { each = λ image r. all.each image r.cells }

-- what memory reaches from a block that stands, stands
pub reached_stands : {k : Known} {high : ℕ} {doubt : Content → Type 0} {a b : ℕ} {p : Place} → IsSafe k high doubt → Stands k a p → Reaches k.memory (to_block a) b → (q : Place) × Stands k b q
reached_stands {k} {p = p} safe st r =
    let here = memory_remains k in
    let found = Rattle.fo_crash.proofs.Places.stands_below p (placed k k.memory here.cells) (ranked safe.kept k.memory here.cells) st r in
    (found.0, found.1)

pub laws_hold : (k : Known) (x : Rest) (doubts : List Content) → Reads k x doubts → TraitLaws (state_of k x)
laws_hold k x doubts h = record {
  present = λ told. (told, memory_remains k);
  shown = λ image left.
      let (told, (labels, is)) = h.left image left in
      let one = shown_from x.tops (h.safe told) is (λ t top. h.tops t top told) in
      record { other = one.other; is = (told, one.is); same = one.same };
  told = λ image m. m.0;
  one_place = record { each = λ b p q sp sq. (h.safe sp.0).kept.one b p q sp.1 sq.1 };
  super_stands = λ told. (told, stands_top super_top (h.safe told).top);
  placed = λ image m. record { each = λ a i b p st e. (st.0, (placed k image m.1.cells).each a i b p st.1 e) };
  ranked = λ image m. record { each = λ a i b p st e. (ranked (h.safe st.0).kept image m.1.cells).each a i b p st.1 e };
  labelled = λ at p told ne st. let l = (h.safe told).kept.labelled at p ne st.1 in (h.blocks at p ne told st.1, l.0, l.1);
  live = λ at told ne r. let l = (h.safe told).live at ne r in (l.0, l.1, λ covered. h.covered at told covered r);
  falls = λ t at i below told top ne r e.
      let safe = h.safe told in
      let s = reached_stands safe (h.tops t top told).1 r in
      memory_falls safe at i below s.0 ne s.1 e;
  old_is_sure = λ t at top ne r young. record {
    each = λ image m.
        let safe = h.safe m.0 in
        let s = reached_stands safe (h.tops t top m.0).1 r in
        (old_sure safe at s.0 ne s.1 young).each image m.1;
  };
  sure = λ at is. ⊎_elim (λ s. told_sure (set_sure (h.sure at s))) (λ f. told_sure (fresh_sure (h.fresh at f))) is;
  super_known = record { each = λ image m. ⊎_elim (λ memory. inl memory) (λ d. inr (d.0, h.doubt d.0 d.1, d.2)) ((safe_super (h.safe m.0)).each image m.1) };
  one_stays = λ told c. h.covered 1 told c (record { path = []; leads = refl });
  waits_in_use = λ a on j w. w.1;
  clears_entries = λ at j c. h.waits at j c.0 c.1;
}

-- what may be given out stands nowhere
pub usable_nowhere : {k : Known} {high b : ℕ} {p : Place} {doubt : Content → Type 0} → IsSafe k high doubt → b ≢ 1 → is_usable k.low (k.label b) ≡ true → Stands k b p → ⊥
usable_nowhere {b = b} {p = p} safe ne usable st = not_both usable (safe.kept.labelled b p ne st).2
