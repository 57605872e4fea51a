-- The tree of an active root whose sources have no blocks, and the fresh image.
use Rattle.std.proofs.Common.{◌≡◌, ◌≢◌, inl, ⊎_elim, ℕ, zero, suc, ◌+◌, ◌-◌, ◌*◌, ◌/◌, ◌%◌, ◌^◌, ◌<◌, cond, Bool, true, false, List, [], ◌∷◌, ◌++◌, length, get_or, refl, sym, ◌∙◌, ap, subst, arith, add-zero}
use Rattle.std.specs.Prelude.{IfOk, Option, None, Some}
use Rattle.std.specs.List.{fold, Contains}
use Rattle.std.proofs.lemmas.Bool.{cases_eq, false_from_ne_true, false≢true}
use Rattle.fo_disk.specs.Disk.{Block}
use Rattle.fo_disk.proofs.Images.{contains-one}
use Rattle.fo_image.specs.declared.types.Kind.TheVariants.{Root}
use Rattle.fo_image.specs.declared.types.State.{State}
use Rattle.fo_image.specs.declared.types.State.TheVariants.{Free, Live, Closed}
use Rattle.fo_image.specs.Format.{state_code, SpellsLabel}
use Rattle.fo_image.specs.declared.types.Pointer.TheVariants.{Nil, Local, Score as Held}
use Rattle.fo_image.specs.declared.types.Score.{Score}
use Rattle.fo_image.specs.declared.types.Label.{Label}
use Rattle.fo_image.specs.declared.record.Record.{Record}
use Rattle.fo_image.specs.Place.{first_data}
use Rattle.fo_image.specs.Usable.{is_usable, free_label}
use Rattle.fo_meta.specs.Leaf.{SpellsLeaf}
use Rattle.fo_crash.specs.declared.slot.Slot.{Slot}
use Rattle.fo_crash.specs.declared.slot.Slot.TheVariants.{Pointer as To}
use Rattle.fo_crash.specs.Images.{Link, target, step, bytes_at, entry_of, leaf_path, from_block}
use Rattle.fo_sound.specs.Image.{block_of, HasLabel}
use Rattle.fo_sound.specs.Sizes.{HasSizes, IsArena}
use Rattle.fo_sound.specs.Sound.{root_label}
use Rattle.fo_sound.specs.Fresh.{IsFresh, fresh_super, fresh_root}
use Rattle.fo_good.specs.Means.{IsRead}
use Rattle.fo_good.specs.Trees.{IsEntries, InTree, HasRecords, Lists, IsDir, LeadsTo, at_path}
use Rattle.fo_good.specs.Trees.InTree.{top as source_top, below as source_below}
use Rattle.fo_good.specs.Trees.HasRecords.{top as records_top, pair as records_pair}
use Rattle.fo_good.specs.Trees.IsDir.{top as dir_top, below as dir_below}
use Rattle.fo_good.specs.Sound.{Kept, IsSoundTree}
use Rattle.fo_good.specs.Lost.{IsUsed, IsLeaked, AreSoMany}
use Rattle.fo_good.proofs.Fresh.{past_end, past_target, past_bytes}
use Rattle.fo_check.specs.declared.opening.Opening.{Opening}
use Rattle.fo_check.specs.Answer.{Opens}
use Rattle.fo_check_tree.specs.declared.broken.Broken.{Broken}
use Rattle.fo_check_tree.specs.declared.tree.Found.{Found}
use Rattle.fo_check_tree.specs.Answer.{HoldsAny, IsWalked}
use Rattle.fo_check_image.specs.Stage.{IsBare, HasSoundTree, report_of}
use Rattle.fo_check_image.proofs.Reading.{reading, empty, holds_by, bare_slots, root_read}

not_empty : (path more : List ℕ) (i : ℕ) → path ++ i ∷ more ≡ [] → ⊥
not_empty [] more i e = cc
not_empty (j ∷ path) more i e = cc

nil_local : {a : ℕ} → Nil ≡ Local a → ⊥
nil_local e = cc

nil_held : {s : Score} → Nil ≡ Held s → ⊥
nil_held e = cc

local_held : {a : ℕ} {s : Score} → Local a ≡ Held s → ⊥
local_held e = cc

local_is : {a b : ℕ} → Local a ≡ Local b → a ≡ b
local_is e = cc

no_leaf : (rs : List Record) (bytes : List ℕ) → bytes ≡ [] → SpellsLeaf rs bytes → ⊥
no_leaf rs bytes e s = let no = sym e ∙ s.bytes_are in cc

one-contains : (x : Kept) → Contains (x ∷ []) x
one-contains x = (0, omega arith, refl)

-- ---- a free block may be given out

small : (n : ℕ) → n < 2 ^ 8 → n % 256 ≡ n
small n lt = omega arith

state_at : (l : Label) (bytes : List ℕ) → SpellsLabel l bytes → get_or bytes 0 0 ≡ state_code l.state
state_at l bytes s = ap (λ (b : List ℕ). get_or b 0 0) s.bytes_are ∙ small (state_code l.state) s.fit.0

free_state : (s : State) → state_code s ≡ 0 → s ≡ Free
free_state Free e = refl
free_state Live e = absurd (omega (arith, e))
free_state Closed e = absurd (omega (arith, e))

usable_by : (low : ℕ) (l : Label) → l.state ≡ Free → is_usable low l ≡ true
usable_by low l e = ap (λ (s : State). is_usable low (record l { state = s })) e

may_give : (low : ℕ) (l : Label) (bytes : List ℕ) → SpellsLabel l bytes → SpellsLabel free_label bytes → is_usable low l ≡ true
may_give low l bytes s free = usable_by low l (free_state l.state (sym (state_at l bytes s) ∙ state_at free_label bytes free))

-- ---- how many blocks are marked

marked_none : (marks : List Bool) (sum : ℕ) → ((n : ℕ) → n < length marks → get_or marks n false ≡ true → ⊥) → fold (λ (a : ℕ) (m : Bool). a + cond m 1 0) sum marks ≡ sum
marked_none [] sum none = refl
marked_none (m ∷ marks) sum none =
    let first : m ≡ false = false_from_ne_true m (none 0 (omega arith)) in
    ap (λ (a : ℕ). fold (λ (a : ℕ) (m : Bool). a + cond m 1 0) a marks) (rw first (add-zero sum))
    ∙ marked_none marks sum (λ n lt. none (suc n) (omega (arith, lt)))

marked_one : (marks : List Bool) (sum j : ℕ) → j < length marks → get_or marks j false ≡ true → ((n : ℕ) → n < length marks → get_or marks n false ≡ true → n ≡ j) → fold (λ (a : ℕ) (m : Bool). a + cond m 1 0) sum marks ≡ sum + 1
marked_one [] sum j lt here only = absurd (omega (arith, lt))
marked_one (m ∷ marks) sum zero lt here only =
    ap (λ (a : ℕ). fold (λ (a : ℕ) (m : Bool). a + cond m 1 0) a marks) (rw here refl)
    ∙ marked_none marks (sum + 1) (λ n below is. let e = only (suc n) (omega (arith, below)) is in omega (arith, e))
marked_one (m ∷ marks) sum (suc j) lt here only =
    let first : m ≡ false = false_from_ne_true m (λ is. let e = only 0 (omega arith) is in omega (arith, e)) in
    ap (λ (a : ℕ). fold (λ (a : ℕ) (m : Bool). a + cond m 1 0) a marks) (rw first (add-zero sum))
    ∙ marked_one marks sum j (omega (arith, lt)) here (λ n below is. let e = only (suc n) (omega (arith, below)) is in omega (arith, e))

-- ---- a tree of one block

module _ (image vault : List Block) (o : Opening) (opens : Opens image vault o) (bare : IsBare image o) where
  abbrev k : Kept
  k = record { at = o.s.active; root = o.root }

  apart : o.s.active ≢ 1
  apart e = let from = opens.active.place.from in omega (arith, e, from)

  tops : (i : ℕ) → target ((reading image o.s o.root o.s.active).slot i) ≡ Nil
  tops = bare_slots image o.s o.root apart bare.entries bare.meta

  nowhere : (i : ℕ) (path : List ℕ) → target ((at_path empty (reading image o.s o.root) o.s.active (i ∷ path)).slot) ≡ Nil
  nowhere i path = past_target empty (reading image o.s o.root) (step empty (reading image o.s o.root) (from_block o.s.active) i) (tops i) path

  only : (path : List ℕ) (b : ℕ) → LeadsTo empty (reading image o.s o.root) o.s.active path b → (path ≡ []) × (o.s.active ≡ b)
  only [] b e = (refl, local_is e)
  only (i ∷ path) b e = absurd (nil_local (sym (nowhere i path) ∙ e))

  none_below : {X : Type 0} (path more : List ℕ) (i b : ℕ) → LeadsTo empty (reading image o.s o.root) o.s.active (path ++ i ∷ more) b → X
  none_below path more i b e = absurd (not_empty path more i (only (path ++ i ∷ more) b e).0)

  reads : (path : List ℕ) (b : ℕ) → LeadsTo empty (reading image o.s o.root) o.s.active path b → IsRead ((at_path empty (reading image o.s o.root) o.s.active path).kind) (reading image o.s o.root b) (block_of image b)
  reads [] b e = subst (λ (b : ℕ). IsRead Root (reading image o.s o.root b) (block_of image b)) (local_is e) (root_read image o.s o.root opens.active bare.entries_depth bare.meta_depth)
  reads (i ∷ path) b e = absurd (nil_local (sym (nowhere i path) ∙ e))

  no_scores : (path : List ℕ) (score : Score) → target ((at_path empty (reading image o.s o.root) o.s.active path).slot) ≡ Held score → ⊥
  no_scores [] score e = local_held e
  no_scores (i ∷ path) score e = nil_held (sym (nowhere i path) ∙ e)

  no_lists : (n j : ℕ) (q : Record) → Lists empty (reading image o.s o.root) (step empty (reading image o.s o.root) (from_block o.s.active) 1) n j q → ⊥
  no_lists n j q l =
      let meta = step empty (reading image o.s o.root) (from_block o.s.active) 1 in
      no_leaf (l.before ++ q ∷ l.after) (bytes_at empty (reading image o.s o.root) meta (leaf_path meta.slot n)) (past_bytes empty (reading image o.s o.root) meta (tops 1) (leaf_path meta.slot n)) l.spelled

  root_meta : (trail : List ℕ) (entries meta : Link) → IsDir empty (reading image o.s o.root) o.s.active trail entries meta → meta ≡ step empty (reading image o.s o.root) (from_block o.s.active) 1
  root_meta trail entries meta dir_top = refl
  root_meta trail entries meta (dir_below up e m n j q dir listed folder) = absurd (no_lists n j q (subst (λ (w : Link). Lists empty (reading image o.s o.root) w n j q) (root_meta up e m dir) listed))

  unnamed : {X : Type 0} (trail : List ℕ) (entries meta : Link) (n j : ℕ) (q : Record) → IsDir empty (reading image o.s o.root) o.s.active trail entries meta → Lists empty (reading image o.s o.root) meta n j q → X
  unnamed trail entries meta n j q dir listed = absurd (no_lists n j q (subst (λ (w : Link). Lists empty (reading image o.s o.root) w n j q) (root_meta trail entries meta dir) listed))

  not_entries : (s : Slot) → s ≡ To Nil → IsEntries s → ⊥
  not_entries s e is = subst IsEntries e is

  in_root : (depth : ℕ) (w : Link) → InTree empty (reading image o.s o.root) o.s.active depth w → (depth ≡ 0) × (target w.slot ≡ Nil)
  in_root depth w source_top = (refl, tops 0)
  in_root depth w (source_below d v j up is) = absurd (not_entries (entry_of empty (reading image o.s o.root) v j).slot (past_end empty (reading image o.s o.root) v (in_root d v up).1 (leaf_path v.slot (j / 204)) (j % 204)) is)

  root_records : (meta : Link) → HasRecords empty (reading image o.s o.root) o.s.active meta → meta ≡ step empty (reading image o.s o.root) (from_block o.s.active) 1
  root_records meta records_top = refl
  root_records meta (records_pair depth w n up first second) = absurd (not_entries (entry_of empty (reading image o.s o.root) w (2 * n)).slot (past_end empty (reading image o.s o.root) w (in_root depth w up).1 (leaf_path w.slot (2 * n / 204)) (2 * n % 204)) first)

  bare_tree : IsSoundTree empty image (reading image o.s o.root) o.s.numbers true (record { at = o.s.active; root = o.root })
  bare_tree = record {
    labels = record { each = λ path i a b above leads has below. none_below path [] i b below };
    read = record { each = reads };
    leaves = record {
      leaves = λ path more i b named kind leads. none_below path more i b leads;
      names = λ meta n j m i x y has a b e. absurd (no_lists n j x (subst (λ (w : Link). Lists empty (reading image o.s o.root) w n j x) (root_records meta has) a));
    };
    entries = bare.root;
    pairs = record {
      fit = λ trail e m n j x dir a. unnamed trail e m n j x dir a;
      differ = λ trail e m n j i l x y dir a b same. unnamed trail e m n j x dir a;
    };
    once = record { once = λ p q b x y. (only p b x).0 ∙ sym (only q b y).0 };
    named = record {
      differ = λ trail other e m e' m' n j i l x y dir dir' a b same. unnamed trail e m n j x dir a;
      below = λ trail e m n j x dir a. unnamed trail e m n j x dir a;
      depths = λ depth w up. let e = (in_root depth w up).0 in omega (arith, e);
    };
    scores = record { none = no_scores };
  }

  pub bare_sound : HasSoundTree image o
  bare_sound = record { arena = empty; reading = reading image o.s o.root; active = record { at = o.s.active; root = o.root }; at = refl; root = refl; table = bare.table; tree = bare_tree }

  pub bare_holds : HoldsAny empty image (reading image o.s o.root) o.s (record { at = o.s.active; root = o.root })
  bare_holds = holds_by image o.s o.root opens.active (λ path at label leads place has elsewhere. absurd (elsewhere (sym (only path at leads).1)))

  used_is : (at : ℕ) → IsUsed empty (reading image o.s o.root) (record { at = o.s.active; root = o.root }) [] at → at ≡ o.s.active
  used_is at u = let same = kept u.kept u.is_kept in sym (only u.path at (subst (λ (x : Kept). LeadsTo empty (reading image o.s o.root) x.at u.path at) same u.leads)).1
    where
      kept : (x : Kept) → Contains (record { at = o.s.active; root = o.root } ∷ []) x → x ≡ record { at = o.s.active; root = o.root }
      kept x h = contains-one (record { at = o.s.active; root = o.root }) x h

  pub one_used : (count : ℕ) → AreSoMany (length image) (IsUsed empty (reading image o.s o.root) (record { at = o.s.active; root = o.root }) []) count → count ≡ 1
  one_used count m =
      let j : ℕ = o.s.active - first_data (length image) in
      let back : first_data (length image) + j ≡ o.s.active = omega (arith, opens.active.place.from) in
      let lt : j < length m.marks = omega (arith, opens.active.place.from, opens.active.place.to, m.all) in
      let used : IsUsed empty (reading image o.s o.root) (record { at = o.s.active; root = o.root }) [] (first_data (length image) + j) = record { kept = record { at = o.s.active; root = o.root }; is_kept = one-contains (record { at = o.s.active; root = o.root }); path = []; leads = ap Local (sym back) } in
      m.count_is ∙ marked_one m.marks 0 j lt ((m.each j lt).1 used) (λ n below is. let e = used_is (first_data (length image) + n) ((m.each n below).0 is) in omega (arith, e, back))

  pub none_leaked : (count : ℕ) → AreSoMany (length image) (IsLeaked empty image (reading image o.s o.root) o.s (record { at = o.s.active; root = o.root }) []) count → count ≡ 0
  none_leaked count m = m.count_is ∙ marked_none m.marks 0 (λ n below is.
      let l = (m.each n below).0 is in
      ⊎_elim
      (λ here. l.unused (record { kept = record { at = o.s.active; root = o.root }; is_kept = one-contains (record { at = o.s.active; root = o.root }); path = []; leads = ap Local (sym here) }))
      (λ elsewhere. false≢true (sym l.taken ∙ may_give o.s.low l.label _ l.has.spelled (bare.free (first_data (length image) + n) l.place elsewhere).spelled))
      (cases_eq (first_data (length image) + n) o.s.active))

  pub bare_report : (found : Found) (b : Option Broken) → IsWalked empty image (reading image o.s o.root) o.s (record { at = o.s.active; root = o.root }) found
      → IfOk (report_of o.blocks found.used found.leaked b) (λ r. r ≡ record { blocks = o.blocks; used = 1; leaked = 0; snapshots = 0 })
  bare_report found None w =
      let used = one_used found.used w.used in
      let leaked = none_leaked found.leaked w.leaked in
      λ i. record { blocks = o.blocks; used = used i; leaked = leaked i; snapshots = 0 }
  bare_report found (Some b) w = tt

-- ---- devices that were just formatted

module _ (image vault : List Block) (time : ℕ) (sizes : HasSizes image vault) (fresh : IsFresh time image) (arena : IsArena vault 0) where
  abbrev pub opening : Opening
  opening = record { blocks = length image; s = fresh_super (length image); root = fresh_root time }

  pub fresh_opens : Opens image vault (record { blocks = length image; s = fresh_super (length image); root = fresh_root time })
  fresh_opens = record {
    blocks = refl;
    opened = record { sizes = sizes; formatted = fresh.formatted; arena = arena };
    active = record {
      epochs = record { order = omega arith; pending = inl refl };
      place = record { from = omega arith; to = omega (arith, sizes.main_least, sizes.main_most) };
      label = fresh.root_label;
      block = fresh.root;
      epoch = refl;
    };
    alone = record { before = omega arith; last = refl };
    chain = record { reached = refl };
  }

  pub fresh_bare : IsBare image (record { blocks = length image; s = fresh_super (length image); root = fresh_root time })
  fresh_bare = record {
    table = record {
      labels = λ address here. ⊎_elim
          (λ same. (root_label (fresh_super (length image)), subst (λ (n : ℕ). HasLabel image n (root_label (fresh_super (length image)))) (sym same) fresh.root_label))
          (λ apart. (free_label, fresh.free address here apart))
          (cases_eq address (first_data (length image)));
      others = fresh.others;
      rests = fresh.rests;
    };
    entries = refl;
    meta = refl;
    entries_depth = omega arith;
    meta_depth = omega arith;
    root = record { entries_active = refl; entries_dir = refl; entries_tag = refl; meta_active = refl; meta_dir = refl; meta_tag = refl };
    free = fresh.free;
  }
