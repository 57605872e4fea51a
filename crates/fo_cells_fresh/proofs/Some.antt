-- The whole where a cache opens; and a device of four blocks, over which it holds.
use Rattle.std.proofs.Common.{◌≡◌, ⊎_elim, ℕ, zero, suc, ◌<◌, ◌-◌, Bool, true, false, cond, nat_eq, List, [], ◌∷◌, refl, sym, ◌∙◌, ap, subst, arith}
use Rattle.std.proofs.lemmas.Bool.{cases_eq}
use Rattle.std.specs.Prelude.{nat_lt, slice_index_or}
use Rattle.fo_disk.specs.Disk.{Block, settled}
use Rattle.fo_image.specs.declared.types.Kind.TheVariants.{Root}
use Rattle.fo_image.specs.declared.types.Pointer.TheVariants.{Nil, Local}
use Rattle.fo_image.specs.declared.types.State.TheVariants.{Closed}
use Rattle.fo_image.specs.Usable.{free_label, live_label}
use Rattle.fo_labels.specs.Region.{Region}
use Rattle.fo_crash.specs.declared.slot.Slot.TheVariants.{Pointer as To}
use Rattle.fo_crash.specs.Images.{Content, nothing, target, to_block}
use Rattle.fo_cells.proofs.Calls.{nat_eq_other}
use Rattle.fo_cells_whole.proofs.of_cells_shown.Opening.{hang_closed, hang_shared, fresh_closed, fresh_older}
use Rattle.fo_cells_turns.specs.Opening.{none_made, no_origins}
use Rattle.fo_cells_turns.proofs.Opening.{open_made}
use Rattle.fo_cells_whole.specs.Whole.{HoldsWhole}
use Rattle.fo_cells_whole.proofs.Certain.{none_awaited}
use Rattle.fo_cells_fresh.specs.Fresh.{Reading, HasRootAlone, SomeIsWhole, label_at, format_of, opened}
use Rattle.fo_cells_fresh.proofs.Opened.{alone_opens}

pub alone_whole : {r : Reading} {image : List Block} {labels : Region} {root epoch : ℕ} (unsure : List Bool) → HasRootAlone r image labels root epoch → HoldsWhole (opened r image labels epoch) (format_of r) none_made no_origins unsure (settled image)
alone_whole {r} {image} {labels} {root} {epoch} unsure h =
    let o = alone_opens unsure h in record {
      made = open_made o;
      closed = hang_closed o (fresh_closed (opened r image labels epoch) (λ b ne is. h.usable b is));
      shared = hang_shared o (fresh_older (opened r image labels epoch) (omega arith));
      certain = λ now. refl;
      awaited = none_awaited (opened r image labels epoch) refl;
    }

-- FOUR BLOCKS: of a header, a super block that leads to block 3, labels, and a root. Whatever their bytes are, this reading has it so.
abbrev super_content : Content
super_content = record { bytes = []; slot = λ i. cond (nat_eq i 0) (to_block 3) (To Nil) }

abbrev four : Reading
four = record {
  read = λ b bytes. cond (nat_eq b 1) super_content nothing;
  label_in = λ b bytes. cond (nat_eq b 3) (live_label Root 1 1) free_label;
  label_block = λ b. cond (nat_eq b 3) 2 4;
  high_of = λ c. 1;
  is_data = λ b. nat_eq b 3;
}

abbrev four_blocks : List Block
four_blocks = [] ∷ [] ∷ [] ∷ [] ∷ []

abbrev four_labels : Region
four_labels = record { first = 3; labels = live_label Root 1 1 ∷ [] }

-- no label is closed
never_closed : (inside : Bool) (n : ℕ) → (cond inside free_label (slice_index_or (live_label Root 1 1 ∷ []) n free_label)).state ≡ Closed → ⊥
never_closed true n e = absurd (cc)
never_closed false zero e = absurd (cc)
never_closed false (suc zero) e = absurd (cc)
never_closed false (suc (suc n)) e = absurd (cc)

one_slot : (i b : ℕ) → target (super_content.slot i) ≡ Local b → i ≡ 0
one_slot i b e = ⊎_elim
    (λ is. is)
    (λ ne. let none : Nil ≡ Local b = ap (λ k. target (cond k (to_block 3) (To Nil))) (sym (nat_eq_other i 0 ne)) ∙ e in absurd (cc))
    (cases_eq i 0)

spelled_four : (b : ℕ) → four.label_block b < 4 → four.label_in b [] ≡ label_at four_labels b
spelled_four b lt = ⊎_elim
    (λ is. subst (λ z. cond (nat_eq z 3) (live_label Root 1 1) free_label ≡ label_at four_labels z) (sym is) refl)
    (λ ne. let out : four.label_block b ≡ 4 = ap (λ k. cond k 2 4) (nat_eq_other b 3 ne) in absurd (omega (arith, out, lt)))
    (cases_eq b 3)

four_alone : HasRootAlone four four_blocks four_labels 3 1
four_alone = record {
  super_here = omega arith;
  root_here = omega arith;
  label_here = omega arith;
  other = λ e. omega (arith, e);
  leads = refl;
  only = λ i b e. one_slot i b e;
  empty = λ i b e. let none : Nil ≡ Local b = e in absurd (cc);
  high_is = refl;
  spelled = λ b lt. spelled_four b lt;
  root_label = refl;
  usable = λ b e. absurd (never_closed (nat_lt b 3) (b - 3) e);
}

pub some_whole : SomeIsWhole
some_whole = (opened four four_blocks four_labels 1, format_of four, [], settled four_blocks, omega arith, alone_whole [] four_alone)
