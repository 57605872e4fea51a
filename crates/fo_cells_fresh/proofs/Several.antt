-- The whole where a cache opens over six blocks, with a kept root; and once a block was given out there.
use Rattle.std.proofs.Common.{◌≡◌, ◌≢◌, inl, inr, ⊎_elim, ℕ, zero, suc, ◌-◌, ◌<◌, ◌≤◌, ◌||◌, Bool, true, false, cond, nat_eq, [], ◌∷◌, length, refl, sym, ◌∙◌, ap, arith}
use Rattle.std.proofs.lemmas.Bool.{cases_eq}
use Rattle.std.proofs.lemmas.Grind.{common_steps}
use Rattle.std.specs.Prelude.{nat_lt, slice_index_or}
use Rattle.fo_disk.specs.Disk.{Block, settled}
use Rattle.fo_disk.proofs.Quiet.{settled-quiet}
use Rattle.fo_image.specs.declared.types.Kind.TheVariants.{Root, Data}
use Rattle.fo_image.specs.declared.types.Label.{Label}
use Rattle.fo_image.specs.declared.types.Pointer.TheVariants.{Nil, Local}
use Rattle.fo_image.specs.declared.types.State.TheVariants.{Closed}
use Rattle.fo_image.specs.Usable.{free_label, live_label}
use Rattle.fo_labels.specs.Region.{Region, label_of}
use Rattle.fo_crash.specs.declared.place.Place.{Place}
use Rattle.fo_crash.specs.Images.{nothing}
use Rattle.fo_crash.specs.Places.{place, super_place, root_place}
use Rattle.fo_crash.proofs.Sure.{same_content}
use Rattle.fo_cells.specs.Known.{Top}
use Rattle.fo_cells.specs.Safe.{super_top}
use Rattle.fo_cells.specs.Device.{Mind, known}
use Rattle.fo_cells.specs.Writes.{Gives}
use Rattle.fo_cells.proofs.Calls.{nat_eq_other}
use Rattle.fo_cells.proofs.Standing.{first_among, next_among}
use Rattle.fo_cells_out.specs.Origins.{given}
use Rattle.fo_cells_out.proofs.Queue.{nothing_among}
use Rattle.fo_cells_held.specs.Room.{Used}
use Rattle.fo_cells_epochs.specs.Epochs.{root_top}
use Rattle.fo_cells_all.specs.All.{Kept, Format, HoldsBeside}
use Rattle.fo_cells_steps.specs.Calls.{Beside}
use Rattle.fo_cells_turns.specs.Opening.{Opens, none_made, no_origins}
use Rattle.fo_cells_turns.proofs.Opening.{open_made}
use Rattle.fo_cells_whole.specs.of_cells_shown.Opening.{ClosedHang, OlderHang}
use Rattle.fo_cells_whole.proofs.of_cells_shown.Opening.{hang_closed, hang_shared}
use Rattle.fo_cells_whole.specs.of_cells_blocks.Giving.{GivesOne, made_with}
use Rattle.fo_cells_whole.proofs.of_cells_blocks.Giving.{empty_made}
use Rattle.fo_cells_whole.specs.Whole.{HoldsWhole}
use Rattle.fo_cells_whole.specs.Tops.{IsRooted}
use Rattle.fo_cells_whole.proofs.Certain.{none_awaited}
use Rattle.fo_cells_whole.proofs.Rest.{whole_by}
use Rattle.fo_cells_whole.proofs.Blocks.{given_rest, given_more}
use Rattle.fo_cells_fresh.specs.Fresh.{label_at, format_of}
use Rattle.fo_cells_fresh.specs.Several.{KeepsOne, KeptIsWhole, HasThree, MadeIsWhole, SomeIsRooted}
use Rattle.fo_cells_fresh.proofs.Six.{H, K, M, six, six_blocks, six_kept, six_labels, was_root, before_root, may, led, reached, stood, epochs}

abbrev F : Format
F = format_of six

-- a label of a list of labels from block 3 on
behind : (n m : ℕ) (x y : Label) → m ≤ n → cond (nat_lt n m) x y ≡ y
behind n m x y le = grind (arith, common_steps, le)

beside : HoldsBeside six_kept F [] H
beside = record {
  flags = record {
    clean = λ b lt off. refl;
    settled = λ b lt w x. (settled-quiet six_blocks).each b lt;
    sure = λ b on. let e : false ≡ true = on in absurd (cc);
    some = some;
  };
  label_flags = record { clean = λ t lt off. refl };
  fits = record {
    sure = λ b on. let e : false ≡ true = on in absurd (cc);
    within = λ b on. let e : false ≡ true = on in absurd (cc);
    some = some;
    leaves = λ k is. absurd (nothing_among k is);
  };
  buffers = record {
    unheld = λ b off. (record { clean = refl; unwritten = refl; sound = refl }, refl);
    complete = λ b on. let e : false ≡ true = on in absurd (cc);
    waits = λ leaf on j is. absurd (nothing_among is.wait is.among);
    clears = λ k is. absurd (nothing_among k is);
    clean = λ b bytes is. absurd (nothing_among (b, bytes) is);
  };
  times = record {
    set = λ b lt l is. let none : 0 < 0 = lt in absurd (omega (arith, none));
    latest = λ b on lt. let e : false ≡ true = on in absurd (cc);
    past = λ at. (omega arith, omega arith);
  };
  dirty = record { dirty = λ b is on. let e : false ≡ true = on in absurd (cc) };
  labels = λ b is. behind b 3 free_label (label_of six_labels b) is.from;
  room = record { usable = omega arith; buffers = omega arith; queue = omega arith; waits = omega arith; clears = omega arith };
}
  where
    some : (b : ℕ) → b < length H → 0 < length (Rattle.fo_disk.specs.Disk.versions_of H b)
    some b lt = let one : length (Rattle.fo_disk.specs.Disk.versions_of H b) ≡ 1 = (settled-quiet six_blocks).each b lt in omega (arith, one)

opens : Opens six_kept F [] H
opens = record {
  epochs = epochs;
  beside = beside;
  settled = may;
  active = refl;
  past = refl;
  queue = refl;
  one = λ a b i j z wa wb ea eb. let x = led a i z ea in let y = led b j z eb in (x.0 ∙ sym y.0, x.1 ∙ sym y.1);
}

-- the one label that is closed
closed_at : (inside : Bool) (n : ℕ) → (cond inside free_label (slice_index_or (live_label Root 1 2 ∷ was_root ∷ free_label ∷ []) n free_label)).state ≡ Closed → n ≡ 1
closed_at true n e = absurd (cc)
closed_at false zero e = absurd (cc)
closed_at false (suc zero) e = refl
closed_at false (suc (suc zero)) e = absurd (cc)
closed_at false (suc (suc (suc n))) e = absurd (cc)

closed_hang : ClosedHang six_kept
closed_hang = record {
  closed = λ b ne is taken.
      let n : b - 3 ≡ 1 = closed_at (nat_lt b 3) (b - 3) is in
      let four : b ≡ 4 = omega (arith, n) in record {
        root = before_root;
        among = first_among before_root [];
        before = ap (λ z. (label_at six_labels z).closing) (sym four);
        hangs = record { path = []; leads = ap Local (sym four) };
      };
}

older_hang : OlderHang six_kept
older_hang = record {
  older = λ b ne w older low. absurd (⊎_elim ne (λ three. let e : (label_at six_labels b).epoch ≡ 2 = ap (λ z. (label_at six_labels z).epoch) three in omega (arith, e, older)) (reached b w));
}

opened_whole : HoldsWhole six_kept F none_made no_origins [] H
opened_whole = record {
  made = open_made opens;
  closed = hang_closed opens closed_hang;
  shared = hang_shared opens older_hang;
  certain = λ now. refl;
  awaited = none_awaited six_kept refl;
}

keeps_one : KeepsOne six_kept
keeps_one = record {
  root = before_root;
  among = first_among before_root [];
  top = next_among super_top (root_top before_root) (root_top before_root ∷ []) (first_among (root_top before_root) []);
  other = λ e. omega (arith, e);
}

pub kept_whole : KeptIsWhole
kept_whole = (six_kept, F, [], H, omega arith, keeps_one, opens, opened_whole)

-- ---- BLOCK 5 IS GIVEN OUT, for a leaf of data

abbrev leaf_place : Place
leaf_place = place (Data 0) 9 0 5

abbrev leaf_top : Top
leaf_top = record { at = 5; place = leaf_place }

abbrev later_labels : Region
later_labels = record { first = 3; labels = live_label Root 1 2 ∷ was_root ∷ live_label (Data 0) 9 2 ∷ [] }

abbrev later_mind : Mind
later_mind = record {
  memory = M;
  newborn = λ b. nat_eq b 5;
  complete = λ b. false;
  tops = leaf_top ∷ super_top ∷ root_top before_root ∷ [];
  label = λ b. label_at later_labels b;
  low = 1;
  waits = [];
  clears = [];
  read = six.read;
  label_in = six.label_in;
  label_block = six.label_block;
}

abbrev later : Kept
later = record {
  mind = later_mind;
  flags = record { dirty = λ b. nat_eq b 2; wrote = λ b. false; failed = λ b. false };
  buffering = record { held = λ b. nat_eq b 2 || nat_eq b 5; clean = [] };
  times = record { now = 0; changed = λ b. 0; wrote = λ b. 0; settled = λ b. 0 };
  region = later_labels;
  promises = record { spare = 0; pins = 0; removals = 0; copies = 0; waiting = 0 };
  space = record { buffers = 0; queue = 1; waits = 0; clears = 0 };
  high = 2;
  doubts = [];
  active = leaf_top ∷ super_top ∷ [];
  roots = before_root ∷ [];
  past = [];
  queue = [];
}

abbrev used : Used
used = record { blocks = 1; pins = 0; removals = 0; copied = 0; linked = 0; began = 0; cleared = 0 }

-- the label of another block is as it was
same_at : (inside : Bool) (n : ℕ) → n ≢ 2 → cond inside free_label (slice_index_or (live_label Root 1 2 ∷ was_root ∷ live_label (Data 0) 9 2 ∷ []) n free_label) ≡ cond inside free_label (slice_index_or (live_label Root 1 2 ∷ was_root ∷ free_label ∷ []) n free_label)
same_at true n ne = refl
same_at false zero ne = refl
same_at false (suc zero) ne = refl
same_at false (suc (suc zero)) ne = absurd (ne refl)
same_at false (suc (suc (suc n))) ne = refl

same_label : (b : ℕ) → b ≢ 5 → label_at later_labels b ≡ label_at six_labels b
same_label b ne = same_at (nat_lt b 3) (b - 3) (λ e. ne (omega (arith, e)))

gives : Gives 5 nothing leaf_place K (known later_mind H)
gives = record {
  nowhere = λ q st. ⊎_elim
      (λ x. let no : 5 ≡ 1 = x.0 in omega (arith, no))
      (λ x. ⊎_elim (λ three. let no : 5 ≡ 3 = three in omega (arith, no)) (λ four. let no : 5 ≡ 4 = four in omega (arith, no)) x.0)
      (stood 5 q st);
  of_device = (omega arith, omega arith);
  memory = record { here = same_content nothing; others = λ b ne. same_content (M b) };
  versions = refl;
  labels = refl;
  low = refl;
  born = refl;
  unwritten = λ c is. nothing_among c is;
  newborn = λ b ne. nat_eq_other b 5 ne;
  late = λ b ne. refl;
  tops = λ t is. ⊎_elim
      (λ e. inr (ap (λ (y : Top). y.at) (sym e), ap (λ (y : Top). y.place) (sym e)))
      (λ more. inl more)
      (Rattle.fo_cells.proofs.Standing.among_cases leaf_top (super_top ∷ root_top before_root ∷ []) t is);
  label = same_label;
  label_here = (refl, refl, refl);
  waits = λ leaf on j is. absurd (nothing_among is.wait is.among);
  clears = λ b i leaf is. absurd (nothing_among is.clear is.among);
  since = λ b i leaf bytes is. absurd (nothing_among is.clear is.among);
  fits = λ i t e. let none : Nil ≡ Local t = e in absurd (cc);
  falls = λ i t e. let none : Nil ≡ Local t = e in absurd (cc);
}

gives_one : GivesOne 5 nothing leaf_place six_kept later H
gives_one = record {
  gives = gives;
  other = λ e. omega (arith, e);
  usable = refl;
  live = refl;
  begun = omega arith;
  waits = λ leaf on j is. is;
  epoch = record { high = refl; doubts = refl; roots = refl; past = refl };
  queue = refl;
  active = refl;
  tops = refl;
}

-- a block that isn't held is neither block 2 nor block 5
unheld : (x y : Bool) → (x || y) ≡ false → (x ≡ false) × (y ≡ false)
unheld true y e = absurd (cc)
unheld false y e = (refl, e)

not_data : (b : ℕ) → six.is_data b ≡ true → nat_eq b 2 ≡ true → ⊥
not_data b is on = ⊎_elim
    (λ two. let e : false ≡ true = ap (λ z. six.is_data z) (sym two) ∙ is in cc)
    (λ ne. let e : false ≡ true = sym (nat_eq_other b 2 ne) ∙ on in cc)
    (cases_eq b 2)

gives_beside : Beside six_kept later F used H
gives_beside = record {
  steps = record {
    changes = record {
      still = λ b off. (refl, refl);
      wrote = λ b. refl;
      failed = λ b. refl;
      read = refl;
      held = λ b off. let x = unheld (nat_eq b 2) (nat_eq b 5) off in (refl, x.0, x.1);
      complete = λ b on. on;
      waits = λ leaf on j is. absurd (nothing_among is.wait is.among);
      clears = λ k is. absurd (nothing_among k is);
      clean = λ b bytes is. absurd (nothing_among (b, bytes) is);
    };
    labels = record { label_in = refl; label_block = refl; now = refl; wrote = refl; settled = refl; each = λ b. inr refl };
    dirties = record { each = λ b is on. absurd (not_data b is on) };
    label_dirty = λ b off. let e : true ≡ false = off in absurd (cc);
    leaves = λ k is. absurd (nothing_among k is);
    region = λ b is. behind b 3 free_label (label_of later_labels b) is.from;
    spends = record {
      spare = refl;
      pins = refl;
      removals = refl;
      copies = refl;
      waiting = refl;
      few = (omega arith, omega arith);
      buffers = omega arith;
      queue = omega arith;
      waits = omega arith;
      clears = omega arith;
    };
    uses = omega arith;
    high = inl refl;
  };
  read = λ c d same. refl;
}

made_whole_here : HoldsWhole later F (made_with none_made 5) (given no_origins 5 (λ z. ⊥)) [] H
made_whole_here = whole_by (given_rest opened_whole.made gives_one) (given_more gives_beside gives_one) (empty_made opened_whole.made gives_beside gives_one (λ i t e. let none : Nil ≡ Local t = e in absurd (cc))).1 opened_whole

three : HasThree later 5
unfolding keeps_one
three = record {
  kept = record {
    root = before_root;
    among = first_among before_root [];
    top = next_among leaf_top (root_top before_root) (super_top ∷ root_top before_root ∷ []) keeps_one.top;
    other = λ e. omega (arith, e);
  };
  super = next_among leaf_top super_top (super_top ∷ root_top before_root ∷ []) (first_among super_top (root_top before_root ∷ []));
  place = leaf_place;
  made = first_among leaf_top (super_top ∷ root_top before_root ∷ []);
  apart = (λ e. omega (arith, e), λ e. omega (arith, e));
}

pub made_whole : MadeIsWhole
made_whole = (later, F, 5, [], H, omega arith, three, made_whole_here)

-- ---- A LIST OF THESE TOPS

abbrev stands_at : ℕ → Place
stands_at b = cond (nat_eq b 1) super_place (cond (nat_eq b 4) root_place leaf_place)

rooted : IsRooted later_mind stands_at 2 [] (5 ∷ 1 ∷ 4 ∷ []) [] H
rooted = record {
  safe = λ told. ∣ made_whole_here.made.all.epochs.safe ∣₁;
  fits = λ told. made_whole_here.made.all.fits;
}

pub some_rooted : SomeIsRooted
some_rooted = (later_mind, stands_at, 2, [], 5 ∷ 1 ∷ 4 ∷ [], [], H, omega arith, refl, rooted)
