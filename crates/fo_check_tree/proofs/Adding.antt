-- The steps by the slots of a block, by its kind, and what a step leaves.
use Rattle.std.proofs.Common.{◌≡◌, ℕ, zero, suc, ◌-◌, ◌*◌, ◌<◌, ◌≤◌, take, drop, ap, Bool, true, false, leb, List, ◌++◌, Option, Some, None, refl, sym, subst, ◌∙◌, Result, Ok, Err, arith}
use Rattle.std.specs.Prelude.{OnOk, is_err, if◌then◌else◌}
use Rattle.std.proofs.lemmas.Bool.{false≢true}
use Rattle.fo_check_tree.specs.declared.broken.Broken.{Broken}
use Rattle.fo_image.specs.declared.types.Entry.{Entry}
use Rattle.fo_image.specs.Format.{SpellsEntry}
use Rattle.fo_sound.specs.Image.{is_zero}
use Rattle.fo_good.specs.Means.{HasEntry}
use Rattle.fo_check_tree.specs.Lower.{lower, level}
use Rattle.fo_check_tree.proofs.Levels.{level-lower}
use Rattle.fo_check_tree.proofs.Noting.{keeps_zero, numbers_unless}
use Rattle.fo_check_tree.specs.Notes.{NotesAt, NotesFolders, KeepsFormats, KeepsNumbers}
use Rattle.fo_check_tree.specs.Notes.NotesAt.{same as note_same, format as note_format, deep as note_deep}
use Rattle.fo_disk.specs.Disk.{Block}
use Rattle.fo_image.specs.declared.types.Kind.{Kind}
use Rattle.fo_image.specs.declared.types.Kind.TheVariants.{Data, Dir, Root}
use Rattle.fo_crash.specs.Images.{Content}
use Rattle.fo_good.specs.Means.{HasPointer, ArePointers, IsRead}
use Rattle.fo_check_tree.specs.declared.walk.Folder.{Folder}
use Rattle.fo_check_tree.specs.declared.walk.Holder.{Holder}
use Rattle.fo_check_tree.specs.declared.walk.Step.{Step}
use Rattle.fo_check_tree.specs.declared.walk.Holds.TheVariants.{Bytes, Records}
use Rattle.fo_check_names.specs.declared.names.Named.{Named}
use Rattle.fo_check_tree.specs.Depths.{Deepens, HasFolder, NotesDepths}
use Rattle.fo_check_tree.specs.Follows.{Reads}
use Rattle.fo_check_tree.specs.Listing.{AddsNamed, Adds}
use Rattle.fo_check_tree.specs.Listing.AddsNamed.{none as none_added}
use Rattle.fo_check_tree.specs.Pairing.{Searches, Seeks, IsApart, Asks, AsksOf, Leads, LeadsOf}
use Rattle.fo_check_tree.specs.Slots.{unless, HasSlot, HasSlots, steps_below, steps_of}
use Rattle.fo_check_tree.specs.Slots.HasSlot.{entry, other}

module _ {A E : Type 0} (r : Result A E) (step : Step) (here : Holder) (c : Content) (bytes : Block) (old new : List Step) where
  pub data_adds : (level : ℕ) (kind : Kind) → kind ≡ Data level → 0 < level → (((i : ℕ) → i < 409 → HasPointer c bytes i) → OnOk r (new ≡ old ++ steps_below step (Data (level - 1)) here c 409))
      → HasSlots kind c bytes → OnOk r (new ≡ old ++ steps_of step here c kind)
  data_adds zero kind is some pushed = absurd (omega (arith, some))
  data_adds (suc level) kind is some pushed =
      let below : suc level - 1 ≡ level = omega arith in
      subst (λ (k : Kind). HasSlots k c bytes → OnOk r (new ≡ old ++ steps_of step here c k)) (sym is) (λ h. subst (λ (n : ℕ). OnOk r (new ≡ old ++ steps_below step (Data n) here c 409)) below (pushed h.0))

  pub dir_adds : (level : ℕ) (kind : Kind) → kind ≡ Dir level → 0 < level → (((i : ℕ) → i < 409 → HasPointer c bytes i) → OnOk r (new ≡ old ++ steps_below step (Dir (level - 1)) here c 409))
      → HasSlots kind c bytes → OnOk r (new ≡ old ++ steps_of step here c kind)
  dir_adds zero kind is some pushed = absurd (omega (arith, some))
  dir_adds (suc level) kind is some pushed =
      let below : suc level - 1 ≡ level = omega arith in
      subst (λ (k : Kind). HasSlots k c bytes → OnOk r (new ≡ old ++ steps_of step here c k)) (sym is) (λ h. subst (λ (n : ℕ). OnOk r (new ≡ old ++ steps_below step (Dir n) here c 409)) below (pushed h.0))

pub on_ok : {A E : Type 0} (r : Result A E) (P Q : Type 0) → (P → Q) → OnOk r P → OnOk r Q
on_ok (Ok x) P Q f h = f h
on_ok (Err e) P Q f h = h

-- ---- what is read

module _ {A E : Type 0} (r : Result A E) (c : Content) (bytes : Block) (block : ℕ) (old new : Option Broken) where
  rest_zero : (t : Bool) → new ≡ unless t 5 block old → 5 < level new → t ≡ true
  rest_zero true is quiet = refl
  rest_zero false is quiet = let low = (level-lower old 5 block (omega arith)).1 in absurd (omega (arith, quiet, low, ap level is))

  pub data_reads : (n : ℕ) (kind : Kind) → kind ≡ Data n → 0 < n → OnOk r (new ≡ unless (is_zero (drop 8180 bytes)) 5 block old) → OnOk r (Reads kind c bytes new)
  data_reads zero kind is some noted = absurd (omega (arith, some))
  data_reads (suc n) kind is some noted = subst (λ (k : Kind). OnOk r (Reads k c bytes new)) (sym is)
      (on_ok r (new ≡ unless (is_zero (drop 8180 bytes)) 5 block old) (Reads (Data (suc n)) c bytes new) (λ e not_root slots same quiet. record { each = slots.0; ends = slots.1; rest = rest_zero (is_zero (drop 8180 bytes)) e quiet }) noted)

  pub dir_reads : (n : ℕ) (kind : Kind) → kind ≡ Dir n → 0 < n → OnOk r (new ≡ unless (is_zero (drop 8180 bytes)) 5 block old) → OnOk r (Reads kind c bytes new)
  dir_reads zero kind is some noted = absurd (omega (arith, some))
  dir_reads (suc n) kind is some noted = subst (λ (k : Kind). OnOk r (Reads k c bytes new)) (sym is)
      (on_ok r (new ≡ unless (is_zero (drop 8180 bytes)) 5 block old) (Reads (Dir (suc n)) c bytes new) (λ e not_root slots same quiet. record { each = slots.0; ends = slots.1; rest = rest_zero (is_zero (drop 8180 bytes)) e quiet }) noted)

module _ {A E : Type 0} (r : Result A E) (c : Content) (bytes : Block) (block : ℕ) (old new : Option Broken) where
  pub data_clean : (n : ℕ) (kind : Kind) → kind ≡ Data n → 0 < n → OnOk r (new ≡ unless (is_zero (drop 8180 bytes)) 5 block old) → IsRead kind c bytes → OnOk r (KeepsFormats old new)
  data_clean zero kind is some noted read = absurd (omega (arith, some))
  data_clean (suc n) kind is some noted read =
      let p : ArePointers c bytes = subst (λ (k : Kind). IsRead k c bytes) is read in
      on_ok r (new ≡ unless (is_zero (drop 8180 bytes)) 5 block old) (KeepsFormats old new) (λ e. keeps_zero (is_zero (drop 8180 bytes)) p.rest block old new e) noted

  pub dir_clean : (n : ℕ) (kind : Kind) → kind ≡ Dir n → 0 < n → OnOk r (new ≡ unless (is_zero (drop 8180 bytes)) 5 block old) → IsRead kind c bytes → OnOk r (KeepsFormats old new)
  dir_clean zero kind is some noted read = absurd (omega (arith, some))
  dir_clean (suc n) kind is some noted read =
      let p : ArePointers c bytes = subst (λ (k : Kind). IsRead k c bytes) is read in
      on_ok r (new ≡ unless (is_zero (drop 8180 bytes)) 5 block old) (KeepsFormats old new) (λ e. keeps_zero (is_zero (drop 8180 bytes)) p.rest block old new e) noted

by_zero : (new : Option Broken) (t : Bool) → (t ≡ false → level new ≤ 5) → 5 < level new → t ≡ true
by_zero new true low quiet = refl
by_zero new false low quiet = absurd (omega (arith, quiet, low refl))

pub entries_read : {A E : Type 0} (r : Result A E) (c : Content) (bytes : Block) (new : Option Broken) → (((i : ℕ) → i < 204 → HasSlot c bytes i) → OnOk r (5 < level new → (i : ℕ) → i < 204 → HasEntry c bytes i)) → (is_zero (drop 8160 bytes) ≡ false → OnOk r (level new ≤ 5)) → OnOk r (Reads (Dir zero) c bytes new)
entries_read (Ok x) c bytes new whole rest = λ not_root slots same quiet. record { each = λ i lt. whole slots.0 quiet i lt; ends = slots.1; rest = by_zero new (is_zero (drop 8160 bytes)) rest quiet }
entries_read (Err e) c bytes new whole rest = tt

pub entry_read : (c : Content) (bytes : Block) (i : ℕ) (noted : Option Broken) → HasSlot c bytes i → (((e : Entry) → SpellsEntry e (take 40 (drop (40 * i) bytes)) → 4 < e.depth) → level noted ≤ 5) → 5 < level noted → HasEntry c bytes i
entry_read c bytes i noted (entry h) low quiet = h
entry_read c bytes i noted (other is deep) low quiet = absurd (omega (arith, quiet, low deep))

pub on_ok_is : {A E : Type 0} (r : Result A E) (P : Type 0) → is_err r ≡ false → OnOk r P → P
on_ok_is (Ok x) P ok h = h
on_ok_is (Err e) P ok h = absurd (false≢true (sym ok))

-- ---- what a block says by itself

by_choice : {X : Type 0} (P : X → Type 0) (t : Bool) (x y : X) → P x → P y → P (if t then x else y)
by_choice P true x y a b = a
by_choice P false x y a b = b

pub then_notes : {block : ℕ} {a b c : Option Broken} → NotesAt block a b → NotesAt block b c → NotesAt block a c
then_notes {block} {a} {b} {c} first (note_same is) = subst (λ (o : Option Broken). NotesAt block a o) (sym is) first
then_notes {block} {a} {b} {c} first (note_format is) = note_format is
then_notes {block} {a} {b} {c} first (note_deep is) = note_deep is

notes_format : (block : ℕ) (noted : Option Broken) → NotesAt block noted (lower noted 5 block)
notes_format block None = note_format refl
notes_format block (Some b) = by_choice (λ (o : Option Broken). NotesAt block (Some b) o) (leb b.rule 5) (Some b) (Some (record { rule = 5; block = block })) (note_same refl) (note_format refl)

pub notes_unless : (t : Bool) (block : ℕ) (noted new : Option Broken) → new ≡ unless t 5 block noted → NotesAt block noted new
notes_unless true block noted new is = note_same is
notes_unless false block noted new is = subst (λ (o : Option Broken). NotesAt block noted o) (sym is) (notes_format block noted)

-- ---- records that are named

module _ {A E : Type 0} (r : Result A E) (step : Step) (at : ℕ) (bytes : Block) (old new : List Named) where
  pub leaf_names : (kind : Kind) → kind ≡ Data zero → OnOk r (AddsNamed step at bytes old new) → OnOk r (Adds step at bytes kind old new)
  leaf_names kind is h = subst (λ (k : Kind). OnOk r (Adds step at bytes k old new)) (sym is) h

  pub inner_names : (level : ℕ) (kind : Kind) → kind ≡ Data level → 0 < level → OnOk r (new ≡ old) → OnOk r (Adds step at bytes kind old new)
  inner_names zero kind is some h = absurd (omega (arith, some))
  inner_names (suc level) kind is some h = subst (λ (k : Kind). OnOk r (Adds step at bytes k old new)) (sym is) h

pub dir_names : {A E : Type 0} (r : Result A E) (step : Step) (at : ℕ) (bytes : Block) (old new : List Named) (level : ℕ) (kind : Kind) → kind ≡ Dir level → OnOk r (Adds step at bytes kind old new)
dir_names (Ok x) step at bytes old new level kind is = subst (λ (k : Kind). Adds step at bytes k old new) (sym is) tt
dir_names (Err e) step at bytes old new level kind is = tt

pub root_names : (step : Step) (at : ℕ) (bytes : Block) (old new : List Named) (kind : Kind) → kind ≡ Root → Adds step at bytes kind old new
root_names step at bytes old new kind is = subst (λ (k : Kind). Adds step at bytes k old new) (sym is) tt

bytes_records : Bytes ≡ Records → ⊥
bytes_records e = cc

-- A leaf of a file's bytes has no records.
pub file_names : (step : Step) (at : ℕ) (bytes : Block) (old new : List Named) (kind : Kind) → kind ≡ Data zero → step.holds ≡ Bytes → new ≡ old → Adds step at bytes kind old new
file_names step at bytes old new kind is holds same = subst (λ (k : Kind). Adds step at bytes k old new) (sym is) (none_added same (λ records leaf. absurd (bytes_records (sym holds ∙ records))))

-- ---- what is found in it

module _ {A E : Type 0} (r : Result A E) (step : Step) (c : Content) (named : Bool) (old new : List Named) (folders : List Folder) where
  pub leaf_seeks : (kind : Kind) → kind ≡ Dir zero → OnOk r (Searches step.index c named 102 old new folders) → OnOk r (Seeks step c named kind old new folders)
  leaf_seeks kind is h = subst (λ (k : Kind). OnOk r (Seeks step c named k old new folders)) (sym is) h

  pub inner_seeks : (level : ℕ) (kind : Kind) → kind ≡ Dir level → 0 < level → OnOk r (new ≡ old) → OnOk r (Seeks step c named kind old new folders)
  inner_seeks zero kind is some h = absurd (omega (arith, some))
  inner_seeks (suc level) kind is some h = subst (λ (k : Kind). OnOk r (Seeks step c named k old new folders)) (sym is) h

pub data_seeks : {A E : Type 0} (r : Result A E) (step : Step) (c : Content) (named : Bool) (old new : List Named) (folders : List Folder) (level : ℕ) (kind : Kind) → kind ≡ Data level → OnOk r (Seeks step c named kind old new folders)
data_seeks (Ok x) step c named old new folders level kind is = subst (λ (k : Kind). Seeks step c named k old new folders) (sym is) tt
data_seeks (Err e) step c named old new folders level kind is = tt

pub root_seeks : (step : Step) (c : Content) (named : Bool) (old new : List Named) (folders : List Folder) (kind : Kind) → kind ≡ Root → Seeks step c named kind old new folders
root_seeks step c named old new folders kind is = subst (λ (k : Kind). Seeks step c named k old new folders) (sym is) tt

pub leaf_asks : {A E : Type 0} (r : Result A E) (step : Step) (c : Content) (old new : List Named) (kind : Kind) → kind ≡ Dir zero → (step.index < 27982932961 → IsApart old → OnOk r (Asks step.index c 102 old new)) → OnOk r (AsksOf step c kind old new)
leaf_asks (Ok x) step c old new kind is h = subst (λ (k : Kind). AsksOf step c k old new) (sym is) h
leaf_asks (Err e) step c old new kind is h = tt

pub nothing_asks : (step : Step) (c : Content) (old new : List Named) (kind : Kind) → (kind ≡ Dir zero → ⊥) → AsksOf step c kind old new
nothing_asks step c old new (Data level') isnt = tt
nothing_asks step c old new (Dir zero) isnt = absurd (isnt refl)
nothing_asks step c old new (Dir (suc level')) isnt = tt
nothing_asks step c old new Root isnt = tt

pub other_asks : {A E : Type 0} (r : Result A E) (step : Step) (c : Content) (old new : List Named) (kind : Kind) → (kind ≡ Dir zero → ⊥) → OnOk r (AsksOf step c kind old new)
other_asks (Ok x) step c old new kind isnt = nothing_asks step c old new kind isnt
other_asks (Err e) step c old new kind isnt = tt

-- ---- how deep they are

pub leaf_depths : {A E : Type 0} (r : Result A E) (c : Content) (deep block : ℕ) (old new : Option Broken) (kind : Kind) → kind ≡ Dir zero → OnOk r (NotesFolders (HasFolder c) deep block old new) → OnOk r (NotesDepths c deep block kind old new)
leaf_depths r c deep block old new kind is h = subst (λ (k : Kind). OnOk r (NotesDepths c deep block k old new)) (sym is) h

pub same_depths : (c : Content) (deep block : ℕ) (old new : Option Broken) (kind : Kind) → (kind ≡ Dir zero → ⊥) → KeepsNumbers old new → NotesDepths c deep block kind old new
same_depths c deep block old new (Data level') isnt h = h
same_depths c deep block old new (Dir zero) isnt h = absurd (isnt refl)
same_depths c deep block old new (Dir (suc level')) isnt h = h
same_depths c deep block old new Root isnt h = h

pub other_depths : {A E : Type 0} (r : Result A E) (c : Content) (deep block : ℕ) (old new : Option Broken) (kind : Kind) → (kind ≡ Dir zero → ⊥) → OnOk r (KeepsNumbers old new) → OnOk r (NotesDepths c deep block kind old new)
other_depths (Ok x) c deep block old new kind isnt h = same_depths c deep block old new kind isnt h
other_depths (Err e) c deep block old new kind isnt h = tt

pub rest_depths : {A E : Type 0} (r : Result A E) (c : Content) (deep block : ℕ) (old new : Option Broken) (kind : Kind) (t : Bool) → (kind ≡ Dir zero → ⊥) → OnOk r (new ≡ unless t 5 block old) → OnOk r (NotesDepths c deep block kind old new)
rest_depths (Ok x) c deep block old new kind t isnt h = same_depths c deep block old new kind isnt (numbers_unless t block old new h)
rest_depths (Err e) c deep block old new kind t isnt h = tt

-- ---- folders to which names lead

pub leaf_heads : {A E : Type 0} (r : Result A E) (step : Step) (c : Content) (names : List Named) (old new : List Folder) (kind : Kind) → kind ≡ Dir zero → OnOk r (Leads step.index c 102 names old new) → OnOk r (LeadsOf step c kind names old new)
leaf_heads r step c names old new kind is h = subst (λ (k : Kind). OnOk r (LeadsOf step c k names old new)) (sym is) h

pub nothing_heads : (step : Step) (c : Content) (names : List Named) (old new : List Folder) (kind : Kind) → (kind ≡ Dir zero → ⊥) → LeadsOf step c kind names old new
nothing_heads step c names old new (Data level') isnt = tt
nothing_heads step c names old new (Dir zero) isnt = absurd (isnt refl)
nothing_heads step c names old new (Dir (suc level')) isnt = tt
nothing_heads step c names old new Root isnt = tt

pub other_heads : {A E : Type 0} (r : Result A E) (step : Step) (c : Content) (names : List Named) (old new : List Folder) (kind : Kind) → (kind ≡ Dir zero → ⊥) → OnOk r (LeadsOf step c kind names old new)
other_heads (Ok x) step c names old new kind isnt = nothing_heads step c names old new kind isnt
other_heads (Err e) step c names old new kind isnt = tt

-- ---- how deep it leads

pub leaf_deepens : {A E : Type 0} (r : Result A E) (c : Content) (deep : ℕ) (noted : Option Broken) (kind : Kind) → kind ≡ Dir zero → OnOk r (Deepens c deep (Dir zero) noted) → OnOk r (Deepens c deep kind noted)
leaf_deepens r c deep noted kind is h = subst (λ (k : Kind). OnOk r (Deepens c deep k noted)) (sym is) h

pub nothing_deepens : (c : Content) (deep : ℕ) (noted : Option Broken) (kind : Kind) → (kind ≡ Dir zero → ⊥) → Deepens c deep kind noted
nothing_deepens c deep noted (Data level') isnt = tt
nothing_deepens c deep noted (Dir zero) isnt = absurd (isnt refl)
nothing_deepens c deep noted (Dir (suc level')) isnt = tt
nothing_deepens c deep noted Root isnt = tt

pub other_deepens : {A E : Type 0} (r : Result A E) (c : Content) (deep : ℕ) (noted : Option Broken) (kind : Kind) → (kind ≡ Dir zero → ⊥) → OnOk r (Deepens c deep kind noted)
other_deepens (Ok x) c deep noted kind isnt = nothing_deepens c deep noted kind isnt
other_deepens (Err e) c deep noted kind isnt = tt

dir_is : {a b : ℕ} → Dir a ≡ Dir b → a ≡ b
dir_is e = cc

pub not_entries_data : (level : ℕ) (kind : Kind) → kind ≡ Data level → kind ≡ Dir zero → ⊥
not_entries_data level kind is leaf = let e : Data level ≡ Dir zero = sym is ∙ leaf in cc

pub not_entries_dir : (level : ℕ) (kind : Kind) → kind ≡ Dir level → 0 < level → kind ≡ Dir zero → ⊥
not_entries_dir level kind is some leaf = omega (arith, some, dir_is (sym is ∙ leaf))

pub not_entries_root : (kind : Kind) → kind ≡ Root → kind ≡ Dir zero → ⊥
not_entries_root kind is leaf = let e : Root ≡ Dir zero = sym is ∙ leaf in cc

-- ---- which kind it is not

data_is : {a b : ℕ} → Data a ≡ Data b → a ≡ b
data_is e = cc

pub not_leaf_data : (level : ℕ) (kind : Kind) → kind ≡ Data level → 0 < level → kind ≡ Data 0 → ⊥
not_leaf_data level kind is some leaf = omega (arith, some, data_is (sym is ∙ leaf))

pub not_leaf_dir : (level : ℕ) (kind : Kind) → kind ≡ Dir level → kind ≡ Data 0 → ⊥
not_leaf_dir level kind is leaf = let e : Dir level ≡ Data 0 = sym is ∙ leaf in cc

pub not_leaf_root : (kind : Kind) → kind ≡ Root → kind ≡ Data 0 → ⊥
not_leaf_root kind is leaf = let e : Root ≡ Data 0 = sym is ∙ leaf in cc
