-- Rule 5 is broken where it is noted: the beginning of a directory's records, and their names.
use Rattle.std.proofs.Common.{◌≡◌, ◌⊎◌, ⊎_elim, inl, inr, ℕ, ◌+◌, ◌<◌, ◌≤◌, Bool, true, false, List, [], ◌∷◌, ◌++◌, Option, Some, None, refl, sym, ap, ◌∙◌, subst, arith}
use Rattle.std.specs.Prelude.{cond}
use Rattle.std.specs.List.{AllByRecursion}
use Rattle.std.proofs.lemmas.Bool.{false≢true, cases_lt}
use Rattle.fo_disk.specs.Disk.{Block}
use Rattle.fo_image.specs.declared.types.Super.{Super}
use Rattle.fo_image.specs.Format.{ActiveHolds}
use Rattle.fo_image.specs.declared.types.Kind.{Kind}
use Rattle.fo_image.specs.declared.types.Kind.TheVariants.{Data, Dir}
use Rattle.fo_image.specs.declared.types.Entry.{Entry}
use Rattle.fo_image.specs.declared.types.Score.{Score}
use Rattle.fo_image.specs.declared.types.Pointer.TheVariants.{Nil, Local}
use Rattle.fo_crash.specs.declared.slot.Slot.{Slot}
use Rattle.fo_crash.specs.declared.slot.Slot.TheVariants.{Pointer as To, Entry as Head}
use Rattle.fo_crash.specs.Images.{Image, Arena, Link, target, kind_of_top, leaf_path, nothing}
use Rattle.fo_good.specs.Trees.{IsRecords}
use Rattle.fo_good.specs.Sound.{Kept}
use Rattle.fo_check_tree.specs.declared.broken.Broken.{Broken}
use Rattle.fo_check_tree.specs.declared.walk.Folder.{Folder}
use Rattle.fo_check_tree.specs.declared.walk.Holder.{Holder}
use Rattle.fo_check_tree.specs.declared.walk.Holds.{Holds}
use Rattle.fo_check_tree.specs.declared.walk.Holds.TheVariants.{Bytes, Records, Entries}
use Rattle.fo_check_tree.specs.declared.walk.Step.{Step}
use Rattle.fo_check_tree.specs.Answer.{HoldsAny, AreRecordsOf, BreaksFormats, HasNameTwice, NamesFormats}
use Rattle.fo_check_tree.specs.Answer.BreaksFormats.{root, names}
use Rattle.fo_check_tree.specs.Grounds.{IsPlaced, IsRecordsOf, HasRecordsOf, HasGrounds}
use Rattle.fo_check_tree.specs.Listing.{JudgesNames, IsMetaOf}
use Rattle.fo_check_tree.specs.Notes.{NotesAt, NotesLeaf}
use Rattle.fo_check_tree.specs.Slots.{top_step}
use Rattle.fo_check_tree.proofs.Grounding.{formats_at, formats_lower, room_of}
use Rattle.fo_check_tree.proofs.Leaves.{lost, all_join, all_front, all_back}
use Rattle.fo_check_tree.proofs.Starting.{IsEntryOf}

records_entries : Records ≡ Entries → ⊥
records_entries e = cc

entries_records : Entries ≡ Records → ⊥
entries_records e = cc

bytes_records : Bytes ≡ Records → ⊥
bytes_records e = cc

bytes_entries : Bytes ≡ Entries → ⊥
bytes_entries e = cc

dir_data : (a b : ℕ) → Dir a ≡ Data b → ⊥
dir_data a b e = cc

data_flag : (dir : Bool) (depth level : ℕ) → cond dir (Dir depth) (Data depth) ≡ Data level → dir ≡ false
data_flag true depth level e = absurd (dir_data depth level e)
data_flag false depth level e = refl

module _ (arena : Arena) (image : Image) (k : Kept) where
  -- the same but for what was noted
  pub grounds_like : (noted noted' : Option Broken) (steps steps' : List Step) (folders folders' : List Folder) → (NamesFormats arena image k noted → NamesFormats arena image k noted') → steps' ≡ steps → folders' ≡ folders
      → HasGrounds arena image k noted steps folders → HasGrounds arena image k noted' steps' folders'
  grounds_like noted noted' steps steps' folders folders' formats is is' g = record {
    formats = formats g.formats;
    ways = subst (λ (xs : List Step). AllByRecursion (IsPlaced arena image k) xs) (sym is) g.ways;
    sources = subst (λ (fs : List Folder). AllByRecursion (HasRecordsOf arena image k) fs) (sym is') g.sources;
  }

  pub grounds_push : (noted : Option Broken) (steps steps' : List Step) (step : Step) (folders : List Folder) → steps' ≡ steps ++ step ∷ [] → IsPlaced arena image k step → HasGrounds arena image k noted steps folders → HasGrounds arena image k noted steps' folders
  grounds_push noted steps steps' step folders is w g = record {
    formats = g.formats;
    ways = subst (λ (xs : List Step). AllByRecursion (IsPlaced arena image k) xs) (sym is) (all_join (IsPlaced arena image k) steps (step ∷ []) g.ways (w, tt));
    sources = g.sources;
  }

  -- the step to the top of a source of entries, or of a file's bytes
  entries_by : (e : Entry) (here : Holder) (dir : Bool) → e.dir ≡ dir → IsPlaced arena image k (top_step e (cond dir Entries Bytes) here)
  entries_by e here true is = record {
    records = λ holds level kind some. absurd (entries_records holds);
    entries = λ holds level kind. dir_data e.depth level (sym (ap (λ (d : Bool). cond d (Dir e.depth) (Data e.depth)) is) ∙ kind);
  }
  entries_by e here false is = record { records = λ holds level kind some. absurd (bytes_records holds); entries = λ holds level kind. bytes_entries holds }

  pub entries_top : (e : Entry) (h : Holds) (here : Holder) → h ≡ cond e.dir Entries Bytes → IsPlaced arena image k (top_step e h here)
  entries_top e h here is = subst (λ (x : Holds). IsPlaced arena image k (top_step e x here)) (sym is) (entries_by e here e.dir refl)

  module _ (e : Entry) (h : IsRecordsOf arena image k e) where
    abbrev pub meta_of : Link
    meta_of = record { kind = Data e.depth; slot = Head e }

    pub records_top : (here : Holder) → IsPlaced arena image k (top_step e Records here)
    records_top here = record {
      records = λ holds level kind some.
          let file : e.dir ≡ false = data_flag e.dir e.depth level kind in
          ⊎_elim
          (λ (nil : e.top ≡ Nil). absurd (some nil))
          (λ (a : AreRecordsOf arena image k (record { kind = Data e.depth; slot = Head e })). record {
            path = a.path;
            slot = a.first + 1;
            more = [];
            names = a.names;
            pointer = ap (λ (v : Link). target v.slot) a.is;
            kind = sym (ap (λ (v : Link). v.kind) a.is) ∙ sym (ap (λ (d : Bool). cond d (Dir e.depth) (Data e.depth)) file);
          })
          (h.source file);
      entries = λ holds level kind. records_entries holds;
    }

    abbrev pub is_meta : (f : Folder) → f.records ≡ Some e → e.dir ≡ false → IsMetaOf f (record { kind = Data e.depth; slot = Head e })
    is_meta f is file = record { entry = e; is = is; slot = refl; file = file; kind = refl; room = h.room; shallow = h.shallow }

    nil_local : (a : ℕ) → Nil ≡ Local a → ⊥
    nil_local a x = cc

    module _ (empty : (kind : Kind) (score : Score) → arena kind score ≡ nothing) where
      breaks : (at : ℕ) → e.dir ≡ false → HasNameTwice arena image (record { kind = Data e.depth; slot = Head e }) at → BreaksFormats arena image k at
      breaks at file j = ⊎_elim
          (λ (nil : e.top ≡ Nil). absurd (lost arena image empty (leaf_path (Head e) j.leaf) (record { kind = Data e.depth; slot = Head e }) (λ a x. nil_local a (sym nil ∙ x)) at j.leads))
          (λ (a : AreRecordsOf arena image k (record { kind = Data e.depth; slot = Head e })). names (record { kind = Data e.depth; slot = Head e }) at a j)
          (h.source file)

      by_answer : (o : Option ℕ) (old new : Option Broken) → e.dir ≡ false → JudgesNames arena image k (record { kind = Data e.depth; slot = Head e }) o → NotesLeaf 5 o old new → NamesFormats arena image k old → NamesFormats arena image k new
      by_answer None old new file j is n = subst (λ (x : Option Broken). NamesFormats arena image k x) (sym is) n
      by_answer (Some at) old new file j is n = formats_lower arena image k old new at is (breaks at file j) n

      by_flag : (dir : Bool) (o : Option ℕ) (old new : Option Broken) → e.dir ≡ dir → (e.dir ≡ false → JudgesNames arena image k (record { kind = Data e.depth; slot = Head e }) o) → NotesLeaf 5 (cond dir None o) old new
          → NamesFormats arena image k old → NamesFormats arena image k new
      by_flag true o old new is j notes n = subst (λ (x : Option Broken). NamesFormats arena image k x) (sym notes) n
      by_flag false o old new is j notes n = by_answer o old new is (j is) notes n

      -- What is noted of names is so of the source.
      pub formats_named : (o r : Option ℕ) (old new : Option Broken) → r ≡ cond e.dir None o → (e.dir ≡ false → JudgesNames arena image k (record { kind = Data e.depth; slot = Head e }) o) → NotesLeaf 5 r old new
          → NamesFormats arena image k old → NamesFormats arena image k new
      formats_named o r old new is j notes n = by_flag e.dir o old new refl j (subst (λ (x : Option ℕ). NotesLeaf 5 x old new) is notes) n

pub of_file : (dir : Bool) → dir ≡ false → (o r : Option ℕ) → r ≡ cond dir None o → r ≡ o
of_file true is o r e = absurd (false≢true (sym is))
of_file false is o r e = e

-- ---- the root

none_some : (b : Broken) → None ≡ Some b → ⊥
none_some b e = cc

some_is : (x y : Entry) → Some x ≡ Some y → x ≡ y
some_is x y e = cc

no_head : (e : Entry) → To Nil ≡ Head e → ⊥
no_head e x = cc

nil_top : (e : Entry) (active : Bool) → active ≡ false → ActiveHolds active e → e.top ≡ Nil
nil_top e true isnt h = absurd (false≢true (sym isnt))
nil_top e false isnt h = h.4

head_link : (s : Slot) (e : Entry) → s ≡ Head e → e.dir ≡ false → ◌≡◌ {A = Link} (record { kind = Data e.depth; slot = Head e }) (record { kind = kind_of_top s; slot = s })
head_link s e is file = ap (λ (d : Bool). record { kind = cond d (Dir e.depth) (Data e.depth); slot = Head e }) (sym file) ∙ ap (λ (x : Slot). record { kind = kind_of_top x; slot = x }) (sym is)

module _ (arena : Arena) (device : List Block) (image : Image) (s : Super) (k : Kept) (holds : HoldsAny arena device image s k) where
  meta_records : (e : Entry) → (image k.at).slot 1 ≡ Head e → e.depth ≤ 4 → ActiveHolds e.active e → IsRecordsOf arena image k e
  meta_records e slot low h = record {
    shallow = low;
    room = room_of e e.active h;
    source = λ file. by_active e.active refl file;
  }
    where
      by_active : (a : Bool) → e.active ≡ a → e.dir ≡ false → (e.top ≡ Nil) ⊎ AreRecordsOf arena image k (record { kind = Data e.depth; slot = Head e })
      by_active false is file = inl (nil_top e e.active is h)
      by_active true is file = inr (record {
        path = [];
        first = 0;
        is = head_link ((image k.at).slot 1) e slot file;
        names = record { holder = tt; second = refl; records = subst (λ (x : Slot). IsRecords x) (sym slot) (is, file) };
        pair = inl refl;
      })

  root_records : (r : Entry) → IsEntryOf k.root.meta r → IsRecordsOf arena image k r
  root_records r w = ⊎_elim
      (λ low. subst (λ (e : Entry). IsRecordsOf arena image k e) (sym (w.shallow low.1)) (meta_records k.root.meta low.0 low.1 holds.active.block.holds.meta_holds.active_holds))
      (λ deep. subst (λ (e : Entry). IsRecordsOf arena image k e) (sym (w.deep deep.1)) (record { shallow = omega arith; room = omega arith; source = λ file. inl refl }))
      holds.meta

  -- an entry of the root that is too deep
  pub formats_root : (depth : ℕ) (old new : Option Broken) → (4 < depth → (4 < k.root.entries.depth) ⊎ (4 < k.root.meta.depth)) → NotesAt s.active old new → (depth ≤ 4 → new ≡ old) → NamesFormats arena image k old → NamesFormats arena image k new
  formats_root depth old new is notes quiet n = ⊎_elim
      (λ (deep : 4 < depth). formats_at arena image k s.active old new notes (λ isnt. root s.active (sym holds.at) (is deep)) n)
      (λ (low : depth ≤ 4). subst (λ (o : Option Broken). NamesFormats arena image k o) (sym (quiet low)) n)
      (cases_lt 4 depth)

  pub formats_none : (noted : Option Broken) → noted ≡ None → NamesFormats arena image k noted
  formats_none noted is = record { each = λ b e five. absurd (none_some b (sym is ∙ e)) }

  pub grounds_begin : (noted : Option Broken) (steps : List Step) (folders : List Folder) (f : Folder) (r : Entry) → NamesFormats arena image k noted → steps ≡ [] → folders ≡ f ∷ [] → f.records ≡ Some r → IsEntryOf k.root.meta r → HasGrounds arena image k noted steps folders
  grounds_begin noted steps folders f r formats no_steps is records w = record {
    formats = formats;
    ways = subst (λ (xs : List Step). AllByRecursion (IsPlaced arena image k) xs) (sym no_steps) tt;
    sources = subst (λ (fs : List Folder). AllByRecursion (HasRecordsOf arena image k) fs) (sym is) (record { each = λ e x. subst (λ (y : Entry). IsRecordsOf arena image k y) (some_is r e (sym records ∙ x)) (root_records r w) }, tt);
  }

-- a folder that is opened
module _ (arena : Arena) (image : Image) (k : Kept) where
  pub grounds_open : (noted : Option Broken) (steps : List Step) (folders left : List Folder) (f : Folder) → folders ≡ left ++ f ∷ [] → HasGrounds arena image k noted steps folders → HasGrounds arena image k noted steps left × HasRecordsOf arena image k f
  grounds_open noted steps folders left f is g =
      let all : AllByRecursion (HasRecordsOf arena image k) (left ++ f ∷ []) = subst (λ (fs : List Folder). AllByRecursion (HasRecordsOf arena image k) fs) is g.sources in
      (record { formats = g.formats; ways = g.ways; sources = all_front (HasRecordsOf arena image k) left (f ∷ []) all }, (all_back (HasRecordsOf arena image k) left (f ∷ []) all).0)
