-- All that a cache keeps where it opens over a root alone.
use Rattle.std.proofs.Common.{◌≡◌, ℕ, ◌<◌, ◌≤◌, Bool, true, false, cond, List, refl, sym, ◌∙◌, ap, arith}
use Rattle.std.proofs.lemmas.Grind.{common_steps}
use Rattle.std.specs.Prelude.{nat_lt}
use Rattle.fo_disk.specs.Disk.{Block, settled}
use Rattle.fo_disk.specs.Disk.{Content as Holds}
use Rattle.fo_disk.proofs.Quiet.{settled-quiet}
use Rattle.fo_image.specs.declared.types.Label.{Label}
use Rattle.fo_image.specs.Usable.{free_label}
use Rattle.fo_labels.specs.Region.{Region, IsDataBlock, label_of}
use Rattle.fo_cells_out.proofs.Queue.{nothing_among}
use Rattle.fo_cells_all.specs.All.{Kept, HoldsBeside}
use Rattle.fo_cells_turns.specs.Opening.{Opens}
use Rattle.fo_cells_fresh.specs.Fresh.{Reading, HasRootAlone, label_at, format_of, opened}
use Rattle.fo_cells_fresh.proofs.Alone.{count, latest_is, some, may, led, reached, epochs}

module _ {r : Reading} {image : List Block} {labels : Region} {root epoch : ℕ} (unsure : List Bool) (h : HasRootAlone r image labels root epoch) where
  abbrev C : Kept
  C = opened r image labels epoch

  abbrev H : Holds
  H = settled image

  -- of a data block
  label_data : (b : ℕ) → IsDataBlock labels b → label_at labels b ≡ label_of labels b
  label_data b is = by b labels.first free_label (label_of labels b) is.from
    where
      by : (n m : ℕ) (x y : Label) → m ≤ n → cond (nat_lt n m) x y ≡ y
      by n m x y le = grind (arith, common_steps, le)

  beside : HoldsBeside C (format_of r) unsure H
  beside = record {
    flags = record {
      clean = λ b lt off. ap (λ v. r.read b v) (latest_is h b lt);
      settled = λ b lt w x. (settled-quiet image).each b lt;
      sure = λ b on. let e : false ≡ true = on in absurd (cc);
      some = some h;
    };
    label_flags = record {
      clean = λ t lt off. ap (λ v. r.label_in t v) (latest_is h (r.label_block t) lt) ∙ h.spelled t (let n = count h in omega (arith, lt, n));
    };
    fits = record {
      sure = λ b on. let e : false ≡ true = on in absurd (cc);
      within = λ b on. let e : false ≡ true = on in absurd (cc);
      some = some h;
      leaves = λ k is. absurd (nothing_among k is);
    };
    buffers = record {
      unheld = λ b off. (record { clean = refl; unwritten = refl; sound = refl }, refl);
      complete = λ b on. let e : false ≡ true = on in absurd (cc);
      waits = λ leaf on j is. absurd (nothing_among is.wait is.among);
      clears = λ k is. absurd (nothing_among k is);
      clean = λ b bytes is. absurd (nothing_among (b, bytes) is);
    };
    times = record {
      set = λ b lt l is. let none : 0 < 0 = lt in absurd (omega (arith, none));
      latest = λ b on lt. let e : false ≡ true = on in absurd (cc);
      past = λ at. (omega arith, omega arith);
    };
    dirty = record { dirty = λ b is on. let e : false ≡ true = on in absurd (cc) };
    labels = label_data;
    room = record { usable = omega arith; buffers = omega arith; queue = omega arith; waits = omega arith; clears = omega arith };
  }

  pub alone_opens : Opens C (format_of r) unsure H
  alone_opens = record {
    epochs = epochs h;
    beside = beside;
    settled = may h;
    active = refl;
    past = refl;
    queue = refl;
    one = λ a b i j z wa wb ea eb.
        let x = led h a i z (reached h a wa) ea in
        let y = led h b j z (reached h b wb) eb in
        (x.0 ∙ sym y.0, x.1 ∙ sym y.1);
  }
