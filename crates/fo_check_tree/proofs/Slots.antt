-- The steps by the slots of a block of pointers, one slot more.
use Rattle.std.proofs.Common.{◌≡◌, ℕ, zero, suc, ◌+◌, ◌-◌, ◌*◌, ◌<◌, ◌≤◌, Bool, true, false, List, [], ◌++◌, length, take, drop, take_all, length-drop, Option, refl, sym, ap, ◌∙◌, subst, add-one, append_assoc, append-nil, arith}
use Rattle.std.specs.Prelude.{◌&&◌}
use Rattle.std.proofs.lemmas.Bool.{false≢true}
use Rattle.fo_image.specs.declared.types.Entry.{Entry}
use Rattle.fo_image.specs.Format.{SpellsEntry}
use Rattle.fo_check_tree.specs.declared.broken.Broken.{Broken}
use Rattle.fo_check_tree.specs.declared.walk.Folder.{Folder}
use Rattle.fo_check_tree.specs.Lower.{level}
use Rattle.fo_check_tree.proofs.Levels.{level-lower}
use Rattle.fo_disk.specs.Disk.{Block}
use Rattle.fo_image.specs.declared.types.Kind.{Kind}
use Rattle.fo_image.specs.declared.types.Pointer.{Pointer}
use Rattle.fo_image.specs.Format.{SpellsPointer}
use Rattle.fo_crash.specs.Images.{Content, target}
use Rattle.fo_good.specs.Means.{HasPointer}
use Rattle.fo_check_tree.specs.declared.walk.Holder.{Holder}
use Rattle.fo_check_tree.specs.declared.walk.Step.{Step}
use Rattle.fo_check_tree.specs.Slots.{unless, steps_by, steps_below, HasSlot, entry_of, pair_steps, pair_folders, steps_by_pairs, AreFolders, AddsFolders}
use Rattle.fo_check_names.specs.Pairs.{no_entry}
use Rattle.fo_check_tree.specs.Slots.HasSlot.{entry, other}
use Rattle.fo_check_tree.specs.Slots.AreFolders.{none, more}

module _ (step : Step) (kind : Kind) (here : Holder) (c : Content) where
  pub none_below : steps_below step kind here c zero ≡ []
  unfolding steps_below
  none_below = refl

  pub one_below : (n : ℕ) → steps_below step kind here c (suc n) ≡ steps_below step kind here c n ++ steps_by step kind here n (target (c.slot n))
  unfolding steps_below
  one_below n = refl

  pub below_first : (steps : List Step) → steps ≡ steps ++ steps_below step kind here c 0
  below_first steps = sym (ap (λ (s : List Step). steps ++ s) none_below ∙ append-nil steps)

  pub below_more : (old now new : List Step) (n : ℕ) (p : Pointer) → target (c.slot n) ≡ p → now ≡ old ++ steps_below step kind here c n → new ≡ now ++ steps_by step kind here n p → new ≡ old ++ steps_below step kind here c (n + 1)
  below_more old now new n p leads front grown =
      grown
      ∙ ap (λ (s : List Step). s ++ steps_by step kind here n p) front
      ∙ append_assoc old (steps_below step kind here c n) (steps_by step kind here n p)
      ∙ ap (λ (q : Pointer). old ++ (steps_below step kind here c n ++ steps_by step kind here n q)) (sym leads)
      ∙ ap (λ (s : List Step). old ++ s) (sym (one_below n))
      ∙ ap (λ (k : ℕ). old ++ steps_below step kind here c k) (sym (add-one n))

-- The slot's pointer is the one that its bytes spell.
pub leads_as_spelled : (c : Content) (bytes : Block) (i : ℕ) (p : Pointer) → HasPointer c bytes i → ((q : Pointer) → SpellsPointer q (take 20 (drop (20 * i) bytes)) → q ≡ p) → target (c.slot i) ≡ p
leads_as_spelled c bytes i p h only = ap target h.is ∙ only h.pointer h.spelled

pub rest_is : (n : ℕ) (bytes : List ℕ) → take (length bytes - n) (drop n bytes) ≡ drop n bytes
rest_is n bytes = take_all (length bytes - n) (drop n bytes) (omega (arith, length-drop n bytes))

pub low_unless : (t : Bool) (block : ℕ) (noted : Option Broken) → t ≡ false → level (unless t 5 block noted) ≤ 5
low_unless true block noted isnt = absurd (false≢true (sym isnt))
low_unless false block noted isnt = (level-lower noted 5 block (omega arith)).1

-- What was read as slot i is the entry there.
pub as_slot : (c : Content) (bytes : Block) (i : ℕ) (e : Entry) → ((x : Entry) → SpellsEntry x (take 40 (drop (40 * i) bytes)) → x.depth ≤ 4 → e ≡ x) → (((x : Entry) → SpellsEntry x (take 40 (drop (40 * i) bytes)) → 4 < x.depth) → e ≡ no_entry) → HasSlot c bytes i → e ≡ entry_of (c.slot i)
as_slot c bytes i e found absent (entry h) = found h.entry h.spelled h.shallow ∙ sym (ap entry_of h.is)
as_slot c bytes i e found absent (other is deep) = absent deep ∙ sym (ap entry_of is)

-- ---- pairs of entries, one pair more

module _ (here : Holder) (c : Content) where
  pub no_pairs : steps_by_pairs here c zero ≡ []
  unfolding steps_by_pairs
  no_pairs = refl

  pub one_pair : (k : ℕ) → steps_by_pairs here c (suc k) ≡ steps_by_pairs here c k ++ pair_steps here (entry_of (c.slot (2 * k))) (entry_of (c.slot (2 * k + 1)))
  unfolding steps_by_pairs
  one_pair k = refl

  pub pairs_first : (steps : List Step) → steps ≡ steps ++ steps_by_pairs here c 0
  pairs_first steps = sym (ap (λ (s : List Step). steps ++ s) no_pairs ∙ append-nil steps)

  pub pairs_more : (old now new : List Step) (k : ℕ) (a b : Entry) → a ≡ entry_of (c.slot (2 * k)) → b ≡ entry_of (c.slot (2 * k + 1)) → now ≡ old ++ steps_by_pairs here c k → new ≡ now ++ pair_steps here a b → new ≡ old ++ steps_by_pairs here c (k + 1)
  pairs_more old now new k a b is is' front grown =
      grown
      ∙ ap (λ (s : List Step). s ++ pair_steps here a b) front
      ∙ append_assoc old (steps_by_pairs here c k) (pair_steps here a b)
      ∙ ap (λ (e : Entry). old ++ (steps_by_pairs here c k ++ pair_steps here e b)) is
      ∙ ap (λ (e : Entry). old ++ (steps_by_pairs here c k ++ pair_steps here (entry_of (c.slot (2 * k))) e)) is'
      ∙ ap (λ (s : List Step). old ++ s) (sym (one_pair k))
      ∙ ap (λ (n : ℕ). old ++ steps_by_pairs here c n) (sym (add-one k))

  pub folders_first : (depth : ℕ) (named : Bool) (folders : List Folder) → AddsFolders here c depth named 0 folders folders
  folders_first depth named folders = record { added = []; behind = sym (append-nil folders); are = none }

  pub folders_more : (depth d : ℕ) (named found leads : Bool) (old now new : List Folder) (k : ℕ) (a b : Entry) → d ≡ depth → leads ≡ named && found → a ≡ entry_of (c.slot (2 * k)) → b ≡ entry_of (c.slot (2 * k + 1))
      → AddsFolders here c depth named k old now → new ≡ now ++ pair_folders here a b d leads → AddsFolders here c depth named (k + 1) old new
  folders_more depth d named found leads old now new k a b deep both is is' w grown =
      let next : List Folder = pair_folders here (entry_of (c.slot (2 * k))) (entry_of (c.slot (2 * k + 1))) depth (named && found) in
      let same : pair_folders here a b d leads ≡ next =
      ap (λ (n : ℕ). pair_folders here a b n leads) deep
      ∙ ap (λ (t : Bool). pair_folders here a b depth t) both
      ∙ ap (λ (e : Entry). pair_folders here e b depth (named && found)) is
      ∙ ap (λ (e : Entry). pair_folders here (entry_of (c.slot (2 * k))) e depth (named && found)) is' in
      record {
        added = w.added ++ next;
        behind = grown ∙ ap (λ (s : List Folder). s ++ pair_folders here a b d leads) w.behind ∙ append_assoc old w.added (pair_folders here a b d leads) ∙ ap (λ (s : List Folder). old ++ (w.added ++ s)) same;
        are = subst (λ (n : ℕ). AreFolders here c depth named n (w.added ++ next)) (sym (add-one k)) (more k found w.added w.are);
      }
