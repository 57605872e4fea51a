-- Folders to which names lead: each is that of a record of the directory in course.
use Rattle.std.proofs.Common.{◌≡◌, ⊎_elim, ℕ, zero, suc, ◌+◌, ◌*◌, ◌-◌, ◌^◌, ◌<◌, ◌≤◌, Bool, true, false, not, List, [], ◌∷◌, ◌++◌, length, append-nil, append_assoc, get_or, Option, Some, None, refl, sym, ap, ◌∙◌, subst, arith}
use Rattle.std.specs.Prelude.{◌&&◌, cond, min}
use Rattle.std.specs.List.{AllByRecursion}
use Rattle.std.proofs.lemmas.Bool.{false≢true}
use Rattle.fo_disk.specs.Disk.{Block}
use Rattle.fo_image.specs.declared.types.Kind.{Kind}
use Rattle.fo_image.specs.declared.types.Kind.TheVariants.{Data, Dir, Root}
use Rattle.fo_image.specs.declared.types.Entry.{Entry}
use Rattle.fo_image.specs.declared.types.Super.{Super}
use Rattle.fo_image.specs.declared.types.Pointer.TheVariants.{Local}
use Rattle.fo_image.specs.declared.record.Record.{Record}
use Rattle.fo_crash.specs.declared.slot.Slot.TheVariants.{Entry as Head}
use Rattle.fo_crash.specs.Images.{Content, Image, Arena, Link}
use Rattle.fo_world.specs.Step.{is_dir_mode}
use Rattle.fo_sound.specs.Image.{block_of}
use Rattle.fo_good.specs.Means.{AreEntries}
use Rattle.fo_good.specs.Trees.{IsFirst, IsSecond}
use Rattle.fo_good.specs.Sound.{Kept}
use Rattle.fo_check_names.specs.Finds.{Finds}
use Rattle.fo_check_names.specs.Finds.Finds.{none as finds_none, some as finds_some}
use Rattle.fo_check_names.specs.Pairs.{is_folder, is_source, records_of}
use Rattle.fo_check_names.specs.declared.names.Named.{Named}
use Rattle.fo_check_tree.specs.declared.broken.Broken.{Broken}
use Rattle.fo_check_tree.specs.declared.walk.Folder.{Folder}
use Rattle.fo_check_tree.specs.declared.walk.Holder.{Holder}
use Rattle.fo_check_tree.specs.declared.walk.Step.{Step}
use Rattle.fo_check_tree.specs.declared.walk.Walk.{Walk}
use Rattle.fo_check_tree.specs.Follows.{Puts, Reads, Reaches, Follows}
use Rattle.fo_check_tree.specs.Follows.Reaches.{again, enters}
use Rattle.fo_check_tree.specs.Follows.Follows.{nowhere, held, local}
use Rattle.fo_check_tree.specs.Lower.{lower, level}
use Rattle.fo_check_tree.specs.Pairing.{SameRecords, IsNamedIn, pair_number, IsLedHere, Leads, LeadsOf, IsInEntries, IsQuiet, IsEntriesStep, AreSought, IsLedBy, AreLed, GrowsUnnamed}
use Rattle.fo_check_tree.specs.Slots.{HasSlots, entry_of, folders_by, pair_folders, AreFolders}
use Rattle.fo_check_tree.specs.Slots.AreFolders.{none, more}
use Rattle.fo_check_tree.specs.Walking.{Walking}
use Rattle.fo_check_tree.proofs.Leaves.{all_join, all_back, all_by}
use Rattle.fo_check_tree.proofs.Levels.{level-lower}
use Rattle.fo_check_tree.proofs.Seeking.{led_leaf}
use Rattle.fo_check_tree.proofs.Stepping.{taken_of, slots_on}

back_true : (a b : Bool) → (a && b) ≡ true → b ≡ true
back_true true b e = e
back_true false b e = absurd (false≢true e)

both_true : (a b : Bool) → a ≡ true → b ≡ true → (a && b) ≡ true
both_true a b p q = ap (λ (x : Bool). x && b) p ∙ q

all_cond : (Q : Folder → Type 0) (t : Bool) (f : Folder) → (t ≡ true → Q f) → AllByRecursion Q (cond t (f ∷ []) [])
all_cond Q true f h = (h refl, tt)
all_cond Q false f h = tt

-- Of the folders of a pair names may lead to the first alone.
module _ (here : Holder) (first second : Entry) (depth : ℕ) (leads : Bool) where
  abbrev head : Folder
  head = record { entries = first; records = records_of first second; holder = here; depth = depth; named = leads }

  pair_led : (P : Folder → Type 0) → (leads ≡ true → is_folder first ≡ true → P head) → AllByRecursion (λ (f : Folder). f.named ≡ true → P f) (pair_folders here first second depth leads)
  pair_led P h = all_join (λ (f : Folder). f.named ≡ true → P f) (folders_by here first (records_of first second) depth leads) (folders_by here second None depth false)
      (all_cond (λ (f : Folder). f.named ≡ true → P f) (is_folder first) head (λ folder lead. h lead folder))
      (all_cond (λ (f : Folder). f.named ≡ true → P f) (is_folder second) (record { entries = second; records = None; holder = here; depth = depth; named = false }) (λ folder lead. absurd (false≢true lead)))

  pair_unnamed : leads ≡ false → AllByRecursion (λ (f : Folder). f.named ≡ false) (pair_folders here first second depth leads)
  pair_unnamed isnt = all_join (λ (f : Folder). f.named ≡ false) (folders_by here first (records_of first second) depth leads) (folders_by here second None depth false)
      (all_cond (λ (f : Folder). f.named ≡ false) (is_folder first) head (λ folder. isnt))
      (all_cond (λ (f : Folder). f.named ≡ false) (is_folder second) (record { entries = second; records = None; holder = here; depth = depth; named = false }) (λ folder. refl))

-- ---- one leaf of entries

module _ (index : ℕ) (c : Content) where
  abbrev Led : ℕ → List Named → Folder → Type 0
  Led k names f = f.named ≡ true → IsLedHere index c k names f

  pub leads_first : (old : List Named) (folders : List Folder) → Leads index c 0 old folders folders
  leads_first old folders = record { added = []; is = sym (append-nil folders); each = tt }

  lift : (k : ℕ) (names : List Named) (f : Folder) → Led k names f → Led (k + 1) names f
  lift k names f h lead = let x = h lead in record {
    has = x.has;
    dir = x.dir;
    listed = x.listed;
    pair = x.pair;
    within = omega (arith, x.within);
    slot = x.slot;
    first = x.first;
    second = x.second;
    folder = x.folder;
  }

  module _ (here : Holder) (depth k : ℕ) (old now new : List Named) (found leads named : Bool) (both : leads ≡ named && found) (same : SameRecords old now) where
    abbrev first : Entry
    first = entry_of (c.slot (2 * k))

    abbrev second : Entry
    second = entry_of (c.slot (2 * k + 1))

    was_found : leads ≡ true → found ≡ true
    was_found lead = back_true named found (sym both ∙ lead)

    of_record : (at : ℕ) (n : Named) → at < length now → ((d : Named) → get_or now at d ≡ n) → n.listed.slot ≡ pair_number index k → IsFirst (Head first) n.listed → IsSecond (Head second) n.listed → leads ≡ true → is_folder first ≡ true
        → IsLedHere index c (k + 1) old (head here first second depth leads)
    of_record at n within read slot a b lead folder =
        let dir : is_dir_mode n.listed.mode ≡ true = sym a.2 ∙ back_true first.active first.dir folder in
        let source : is_source second ≡ true = both_true second.active (not second.dir) (b.0 ∙ dir) (ap not b.1) in
        let records : records_of first second ≡ Some second = ap (λ (x : Bool). cond (x && is_source second) (Some second) None) folder ∙ ap (λ (x : Bool). cond x (Some second) None) source in
        record {
          has = n.listed;
          dir = dir;
          listed = record { at = at; within = omega (arith, within, same.long); is = λ d. sym (same.each at d within) ∙ ap (λ (x : Named). x.listed) (read d) };
          pair = k;
          within = omega arith;
          slot = slot;
          first = a;
          second = b;
          folder = record { entries = refl; records = records; named = lead };
        }

    led_pair : Finds (pair_number index k) first second found now new → AllByRecursion (Led (k + 1) old) (pair_folders here first second depth leads)
    led_pair (finds_none unfound same' none') = pair_led here first second depth leads (IsLedHere index c (k + 1) old) (λ lead folder. absurd (false≢true (sym unfound ∙ was_found lead)))
    led_pair (finds_some at n within read slot fits is) = pair_led here first second depth leads (IsLedHere index c (k + 1) old) (λ lead folder. let f = fits.0 (was_found lead) in of_record at n within read slot f.0 f.1 lead folder)

    pub leads_more : (before folders : List Folder) → Leads index c k old before folders → Finds (pair_number index k) first second found now new → Leads index c (k + 1) old before (folders ++ pair_folders here first second depth leads)
    leads_more before folders l f = record {
      added = l.added ++ pair_folders here first second depth leads;
      is = ap (λ (fs : List Folder). fs ++ pair_folders here first second depth leads) l.is ∙ append_assoc before l.added (pair_folders here first second depth leads);
      each = all_join (Led (k + 1) old) l.added (pair_folders here first second depth leads) (all_by (Led k old) (Led (k + 1) old) (lift k old) l.added l.each) (led_pair f);
    }

-- The same with what was read and pushed.
pub leads_on : (index : ℕ) (c : Content) (named : Bool) (here : Holder) (depth k : ℕ) (old now new : List Named) (before folders folders' : List Folder) (found leads : Bool) (a b : Entry) (slot : ℕ) → slot ≡ pair_number index k → leads ≡ named && found → a ≡ entry_of (c.slot (2 * k)) → b ≡ entry_of (c.slot (2 * k + 1))
    → SameRecords old now → Leads index c k old before folders → Finds slot a b found now new → folders' ≡ folders ++ pair_folders here a b depth leads → Leads index c (k + 1) old before folders'
leads_on index c named here depth k old now new before folders folders' found leads a b slot number both is is' s l f grown =
    let f' : Finds (pair_number index k) (entry_of (c.slot (2 * k))) (entry_of (c.slot (2 * k + 1))) found now new =
    subst (λ (x : ℕ). Finds x (entry_of (c.slot (2 * k))) (entry_of (c.slot (2 * k + 1))) found now new) number
    (subst (λ (x : Entry). Finds slot x (entry_of (c.slot (2 * k + 1))) found now new) is (subst (λ (x : Entry). Finds slot a x found now new) is' f)) in
    let same : folders' ≡ folders ++ pair_folders here (entry_of (c.slot (2 * k))) (entry_of (c.slot (2 * k + 1))) depth leads =
    grown ∙ ap (λ (x : Entry). folders ++ pair_folders here x b depth leads) is ∙ ap (λ (x : Entry). folders ++ pair_folders here (entry_of (c.slot (2 * k))) x depth leads) is' in
    subst (λ (fs : List Folder). Leads index c (k + 1) old before fs) (sym same) (leads_more index c here depth k old now new found leads named both s before folders l f')

-- ---- folders to which no name leads

unnamed_all : (here : Holder) (c : Content) (depth n : ℕ) (folders : List Folder) → AreFolders here c depth false n folders → AllByRecursion (λ (f : Folder). f.named ≡ false) folders
unnamed_all here c depth n folders none = tt
unnamed_all here c depth n folders (more k found' old are) = all_join (λ (f : Folder). f.named ≡ false) old (pair_folders here (entry_of (c.slot (2 * k))) (entry_of (c.slot (2 * k + 1))) depth (false && found'))
    (unnamed_all here c depth k old are) (pair_unnamed here (entry_of (c.slot (2 * k))) (entry_of (c.slot (2 * k + 1))) depth (false && found') refl)

pub unnamed_none : (old new : List Folder) → new ≡ old → GrowsUnnamed old new
unnamed_none old new is = record { added = []; is = is ∙ sym (append-nil old); each = tt }

pub unnamed_then : (a b c : List Folder) → GrowsUnnamed a b → GrowsUnnamed b c → GrowsUnnamed a c
unnamed_then a b c v w = record {
  added = v.added ++ w.added;
  is = w.is ∙ ap (λ (fs : List Folder). fs ++ w.added) v.is ∙ append_assoc a v.added w.added;
  each = all_join (λ (f : Folder). f.named ≡ false) v.added w.added v.each w.each;
}

pub unnamed_like : (a b c : List Folder) → c ≡ b → GrowsUnnamed a b → GrowsUnnamed a c
unnamed_like a b c is w = record { added = w.added; is = is ∙ w.is; each = w.each }

puts_unnamed : (here : Holder) (c : Content) (depth : ℕ) (kind : Kind) (old new : List Folder) → Puts here c depth false kind old new → GrowsUnnamed old new
puts_unnamed here c depth (Data level) old new w = unnamed_none old new w
puts_unnamed here c depth (Dir zero) old new w = record { added = w.added; is = w.behind; each = unnamed_all here c (min (depth + 1) (2 ^ 32 - 1)) 102 w.added w.are }
puts_unnamed here c depth (Dir (suc level)) old new w = unnamed_none old new w
puts_unnamed here c depth Root old new w = unnamed_none old new w

-- ---- one step more

module _ (arena : Arena) (device : List Block) (image : Image) (s : Super) (k : Kept) (rest : List Step) (step : Step) (old new : Walk) (w : Walking arena device image s k (step ∷ rest) old) (low : level new.noted ≤ level old.noted) (depth : ℕ) where
  pub unnamed_on : Follows device image depth false step old new → GrowsUnnamed old.folders.items new.folders.items
  unnamed_on (nowhere nil same) = unnamed_none old.folders.items new.folders.items (ap (λ (x : Walk). x.folders.items) same)
  unnamed_on (held x is same) = unnamed_none old.folders.items new.folders.items (ap (λ (x : Walk). x.folders.items) same)
  unnamed_on (local at is r) = by r
    where
      by : Reaches device image depth false step at old new → GrowsUnnamed old.folders.items new.folders.items
      by (again m allowed marks same same' noted kept) = unnamed_none old.folders.items new.folders.items same'
      by (enters m allowed marks steps folders notes read adds leafs seeks bytes deeps clean asks eights heads) =
          let t = taken_of device old.labels.known.items at m w.goes.table allowed.known in
          puts_unnamed (record { block = at; label = m }) (image at) depth step.kind old.folders.items new.folders.items (folders (subst (λ (d : Kind). HasSlots d (image at) (block_of device at)) allowed.may.kind (slots_on arena device image s k rest step old new w at m is t)))

  module _ (entries : Link) (names : List Named) (a : AreSought arena image entries names old.noted (old.steps.items ++ step ∷ []) old.named.items old.folders.items) (before : List Folder) (l : AreLed arena image entries names old.noted before old.folders.items) where
    abbrev LedBy : Folder → Type 0
    LedBy f = f.named ≡ true → IsLedBy arena image entries names f

    this : IsEntriesStep arena image entries step
    this = (all_back (IsEntriesStep arena image entries) old.steps.items (step ∷ []) a.sources).0

    same_led : (noted : Option Broken) (folders : List Folder) → level noted ≤ level old.noted → folders ≡ old.folders.items → AreLed arena image entries names noted before folders
    same_led noted folders low' is = record { added = l.added; is = is ∙ l.is; each = λ quiet. l.each (omega (arith, quiet, low')) }

    named_back : (r : Record) → IsNamedIn old.named.items r → IsNamedIn names r
    named_back r p = record { at = p.at; within = omega (arith, p.within, a.same.long); is = λ d. sym (a.same.each p.at d p.within) ∙ p.is d }

    led_back : (f : Folder) → IsLedBy arena image entries old.named.items f → IsLedBy arena image entries names f
    led_back f x = record { has = x.has; dir = x.dir; listed = named_back x.has x.listed; head = x.head }

    after_block : (at : ℕ) → step.pointer ≡ Local at → Reaches device image depth true step at old new → AreLed arena image entries names new.noted before new.folders.items
    after_block at is (again m allowed marks same same' noted kept) = same_led new.noted new.folders.items low same'
    after_block at is (enters m allowed marks steps folders notes read adds leafs seeks bytes deeps clean asks eights heads) = ⊎_elim (λ (v : IsInEntries arena image entries step). inside v v.level v.kind) (λ (q : IsQuiet step). outside q q.level q.kind) this
      where
        here : Holder
        here = record { block = at; label = m }

        slots : HasSlots step.kind (image at) (block_of device at)
        slots = let t = taken_of device old.labels.known.items at m w.goes.table allowed.known in subst (λ (d : Kind). HasSlots d (image at) (block_of device at)) allowed.may.kind (slots_on arena device image s k rest step old new w at m is t)

        inside : (v : IsInEntries arena image entries step) (level' : ℕ) → step.kind ≡ Dir level' → AreLed arena image entries names new.noted before new.folders.items
        inside v zero kind =
            let h : Leads step.index (image at) 102 old.named.items old.folders.items new.folders.items = subst (λ (d : Kind). LeadsOf step (image at) d old.named.items old.folders.items new.folders.items) kind (heads slots) in
            record {
              added = l.added ++ h.added;
              is = h.is ∙ ap (λ (fs : List Folder). fs ++ h.added) l.is ∙ append_assoc before l.added h.added;
              each = λ quiet.
                  let read' : AreEntries (image at) (block_of device at) = subst (λ (x : Kind). Reads x (image at) (block_of device at) new.noted) kind read (λ e. let no' : Dir zero ≡ Root = e in cc) (subst (λ (x : Kind). HasSlots x (image at) (block_of device at)) kind slots) (w.holds.bytes at) quiet in
                  all_join LedBy l.added h.added (l.each (omega (arith, quiet, low)))
                  (all_by (λ (f : Folder). f.named ≡ true → IsLedHere step.index (image at) 102 old.named.items f) LedBy
                  (λ f x lead. led_back f (led_leaf arena image entries w.holds.empty step at v kind (sym v.pointer ∙ is) a.shallow a.kind (block_of device at) read' old.named.items f (x lead))) h.added h.each);
            }
        inside v (suc level') kind = same_led new.noted new.folders.items low (subst (λ (d : Kind). Puts here (image at) depth true d old.folders.items new.folders.items) kind (folders slots))

        outside : (q : IsQuiet step) (level' : ℕ) → step.kind ≡ Data level' → AreLed arena image entries names new.noted before new.folders.items
        outside q level' kind = same_led new.noted new.folders.items low (subst (λ (d : Kind). Puts here (image at) depth true d old.folders.items new.folders.items) kind (folders slots))

    pub led_on : Follows device image depth true step old new → AreLed arena image entries names new.noted before new.folders.items
    led_on (nowhere nil same) = subst (λ (v : Walk). AreLed arena image entries names v.noted before v.folders.items) (sym same) (same_led old.noted old.folders.items (omega arith) refl)
    led_on (held x is same) = subst (λ (v : Walk). AreLed arena image entries names v.noted before v.folders.items) (sym same) (same_led (lower old.noted 9 step.holder.block) old.folders.items (level-lower old.noted 9 step.holder.block (omega arith)).0 refl)
    led_on (local at is r) = after_block at is r
