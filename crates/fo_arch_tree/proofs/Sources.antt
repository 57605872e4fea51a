-- Sources of entries that are alike: their leaves, and the entries in them.
use Rattle.std.proofs.Common.{◌≡◌, ◌∙◌, ⊎_elim, ℕ, ◌+◌, ◌*◌, ◌/◌, ◌%◌, ◌<◌, ◌≤◌, Bool, true, false, cond, nat_eq, List, [], ◌∷◌, drop, slice_index_or, refl, sym, ap, subst, arith}
use Rattle.std.specs.Prelude.{Some}
use Rattle.std.proofs.lemmas.Bool.{lt-ltb}
use Rattle.std.proofs.lemmas.List.{get_or-take, get_or-drop}
use Rattle.fo_image.specs.declared.types.Score.{Score}
use Rattle.fo_image.specs.declared.types.Entry.{Entry}
use Rattle.fo_image.specs.declared.types.Kind.{Kind}
use Rattle.fo_image.specs.declared.types.Kind.TheVariants.{Dir}
use Rattle.fo_image.specs.declared.types.Pointer.{Pointer}
use Rattle.fo_image.specs.declared.types.Pointer.TheVariants.{Nil, Score as ToScore}
use Rattle.fo_image.specs.Field.{zeros}
use Rattle.fo_image.specs.Format.{kind_code, KindHolds}
use Rattle.fo_crash.specs.declared.slot.Slot.{Slot}
use Rattle.fo_crash.specs.declared.slot.Slot.TheVariants.{Pointer as To, Entry as Head}
use Rattle.fo_crash.specs.Images.{Arena, Image, Link, target, meant, step, goes, kind_of_top, kind_below, leaf_path, entry_of}
use Rattle.fo_sound.specs.Image.{block_of}
use Rattle.fo_good.specs.Means.{IsRead}
use Rattle.fo_vacput.specs.declared.types.Tail.TheVariants.{Zeros}
use Rattle.fo_vacput.specs.declared.types.VacEntry.{VacEntry}
use Rattle.fo_vacput.specs.Cut.{grown}
use Rattle.fo_vac_open.specs.Held.{held, block_held, pointer_to, entry_in, entry_for}
use Rattle.fo_vac_open.specs.Tree.{no_image, link_to}
use Rattle.fo_vac_open.proofs.Entries.{entry_is_read}
use Rattle.fo_arch_hash.specs.Form.{archived, no_score}
use Rattle.fo_arch_form.specs.Entries.{entry_at, code_of}
use Rattle.fo_arch_form.specs.Stored.{score_under}
use Rattle.fo_arch_walk.specs.Entries.{HasEntrySlot}
use Rattle.fo_arch_walk.specs.Spots.{arena_code}
use Rattle.fo_arch_tree.proofs.Alike.{finds}
use Rattle.fo_arch_tree.proofs.Sides.{Sides, Holds, archive, shown, read_back, down, down_back, along, along_back, link, kind_at, HeldAt, IsClean, AreBoth, source, AreEntries}
use Rattle.fo_arch_tree.proofs.Steps.{Comes, ways, goes_join, clean_below}
use Rattle.fo_arch_tree.proofs.Tails.{zero_at}

-- ---- the top of a source

holds_at : (dir : Bool) (level : ℕ) → level ≤ 4 → KindHolds (kind_at dir level)
holds_at true level le = le
holds_at false level le = le

code_at : (dir : Bool) (level : ℕ) → arena_code (kind_at dir level) ≡ kind_code (kind_at dir level)
code_at true level = refl
code_at false level = refl

code_top : (dir : Bool) (level : ℕ) → arena_code (kind_at dir level) ≡ cond dir (8 + level) level
code_top true level = refl
code_top false level = refl

top_is : (active : Bool) (score : Score) → active ≡ true → cond active (pointer_to ((cond active score no_score).0)) Nil ≡ pointer_to score.0
top_is true score e = refl
top_is false score e = cc

both_top : (s : Sides) (e : Entry) (score : Score) → e.active ≡ true → e.depth ≤ 4 → score_under s.done (code_of e) e.top ≡ Some score → AreBoth s e.dir e.depth (source e) (link_to (archived e score))
both_top s e score active le known = record {
  here = refl;
  there = refl;
  alike = record {
    holds = holds_at e.dir e.depth le;
    code_is = code_at e.dir e.depth;
    score = score;
    known = ap (λ n. score_under s.done n e.top) (code_top e.dir e.depth) ∙ known;
    leads = top_is e.active score active;
  };
}

-- ---- entries

pub same_head : (e f : Entry) → Head e ≡ Head f → e ≡ f
same_head e f is = cc

no_head : (e : Entry) → To Nil ≡ Head e → ⊥
no_head e is = cc

-- no entry in use is spelled by zeros
zeros_idle : (n i : ℕ) → (entry_in (entry_at (zeros n) i)).active ≡ false
zeros_idle n i =
    let zero : slice_index_or (entry_at (zeros n) i) 8 0 ≡ 0 = get_or-take 40 (drop (40 * i) (zeros n)) 8 0 (omega arith) ∙ get_or-drop (40 * i) (zeros n) 8 0 ∙ zero_at n (40 * i + 8) in
    ap (λ b. nat_eq (b % 2) 1) zero

-- what is read at a slot of a leaf of entries
record ReadsEntry (s : Sides) (e : Entry) (slot : Slot) : Type 0 where
  shallow : e.depth ≤ 4
  score : Score
  known : score_under s.done (code_of e) e.top ≡ Some score
  there : slot ≡ Head (entry_for (archived e score))

module _ (s : Sides) (h : Holds s) where
  module _ (here there : Slot) (i at : ℕ) (e : Entry) (f : HeldAt s (Dir 0) here there at) (lt : i < 204) (is : (s.image at).slot i ≡ Head e) (active : e.active ≡ true) where
    slot_is : HasEntrySlot s.done (s.image at) i f.form
    slot_is = f.is.each i lt

    e_is : slot_is.entry ≡ e
    e_is = same_head slot_is.entry e (sym slot_is.slot_is ∙ is)

    spelled : entry_in (entry_at f.form i) ≡ archived e slot_is.score
    spelled = entry_is_read (entry_at f.form i) (archived slot_is.entry slot_is.score) slot_is.here ∙ ap (λ (x : Entry). archived x slot_is.score) e_is

    again : (bytes : List ℕ) → bytes ≡ f.bytes → grown Zeros 8192 bytes ≡ f.form
    again bytes same = ap (grown Zeros 8192) same ∙ sym (ap (λ n. grown Zeros n f.bytes) f.is.length_is) ∙ f.again

    -- a leaf that is stored as the empty block has no entry in use
    empty : f.bytes ≡ [] → ⊥
    empty none =
        let zeros_are : zeros 8192 ≡ f.form = again [] (sym none) in
        let idle : e.active ≡ false = sym (ap (λ (x : VacEntry). x.active) spelled) ∙ ap (λ xs. (entry_in (entry_at xs i)).active) (sym zeros_are) ∙ zeros_idle 8192 i in
        absurd (apart (sym active ∙ idle))
      where
        apart : true ≡ false → ⊥
        apart no_way = cc

    full : (score : Score) → target there ≡ ToScore score → held s.lines s.stored score.0 8 ≡ f.bytes → (read_back s (Dir 0) there).slot i ≡ Head (entry_for (archived e slot_is.score))
    full score leads held_is =
        let block = block_held s.lines s.stored 8 score in
        let same : block ≡ f.form = again (held s.lines s.stored score.0 8) held_is in
        ap (λ (q : Pointer). (meant (archive s) no_image (Dir 0) q).slot i) leads
        ∙ ap (λ b. cond b (Head (entry_for (entry_in (entry_at block i)))) (To Nil)) (lt-ltb i 204 lt)
        ∙ ap (λ xs. Head (entry_for (entry_in (entry_at xs i)))) same
        ∙ ap (λ (x : VacEntry). Head (entry_for x)) spelled

    slot_there : (read_back s (Dir 0) there).slot i ≡ Head (entry_for (archived e slot_is.score))
    slot_there = ⊎_elim (λ none. absurd (empty none.1)) (λ some. full some.0 some.1 some.2) f.found

    reads_entry : e.depth ≤ 4 → ReadsEntry s e ((read_back s (Dir 0) there).slot i)
    reads_entry le = record {
      shallow = le;
      score = slot_is.score;
      known = subst (λ (x : Entry). score_under s.done (code_of x) x.top ≡ Some slot_is.score) e_is slot_is.stored;
      there = slot_there;
    }

  -- an entry in use is of at most four levels
  depth_is : (w : Link) (at i : ℕ) (e : Entry) → IsRead (Dir 0) (s.image at) (block_of s.device at) → i < 204 → (s.image at).slot i ≡ Head e → e.depth ≤ 4
  depth_is w at i e read lt is =
      let had = read.each i lt in
      subst (λ (x : Entry). x.depth ≤ 4) (same_head had.entry e (sym had.is ∙ is)) had.shallow

  entry_slot_both : (w v : Link) (i : ℕ) (e : Entry) → AreBoth s true 0 w v → IsClean s w → i < 204 → (shown s w.kind w.slot).slot i ≡ Head e → e.active ≡ true → ReadsEntry s e ((read_back s (Dir 0) v.slot).slot i)
  entry_slot_both w v i e b c lt is active = ⊎_elim
      (λ none. absurd (no_head e (sym (ap (λ (q : Pointer). (meant s.arena s.image w.kind q).slot i) none.0) ∙ is)))
      (λ (at, f).
      let there : (s.image at).slot i ≡ Head e = sym (ap (λ (q : Pointer). (meant s.arena s.image w.kind q).slot i) f.leads) ∙ is in
      let read : IsRead (Dir 0) (s.image at) (block_of s.device at) = subst (λ (k : Kind). IsRead k (s.image at) (block_of s.device at)) b.here (c.read [] at f.leads) in
      reads_entry w.slot v.slot i at e f lt there active (depth_is w at i e read lt there))
      (finds s h (Dir 0) w.slot v.slot b.alike (c.none []))

  pub entry_step : (w v : Link) (i : ℕ) (e : Entry) → AreBoth s true 0 w v → IsClean s w → i < 204 → (down s w i).slot ≡ Head e → e.active ≡ true → AreEntries s e (down s w i) (down_back s v i)
  entry_step w v i e b c lt is active =
      let r = entry_slot_both w v i e b c lt is active in record {
        here = ap (λ (k : Kind). link (kind_below k ((shown s w.kind w.slot).slot i)) ((shown s w.kind w.slot).slot i)) b.here ∙ ap (λ (x : Slot). link (kind_of_top x) x) is;
        active = active;
        shallow = r.shallow;
        score = r.score;
        known = r.known;
        there =
            subst (λ (k : Kind). link (kind_below k ((read_back s k v.slot).slot i)) ((read_back s k v.slot).slot i) ≡ link_to (archived e r.score)) (sym b.there)
            (ap (λ (x : Slot). link (kind_of_top x) x) r.there);
      }

  -- leaf k of both sources
  pub leaf_comes : (e : Entry) (w v : Link) (k : ℕ) → AreEntries s e w v → IsClean s w → Comes s h e.dir 0 (along s w (leaf_path w.slot k)) (along_back s v (leaf_path v.slot k))
  leaf_comes e w v k a c =
      let at_top = ways s h e.dir e.depth 0 k e.depth (source e) (link_to (archived e a.score)) (omega arith) (both_top s e a.score a.active a.shallow a.known) (subst (IsClean s) a.here c) in
      subst (λ (x : Link). Comes s h e.dir 0 (along s x (leaf_path x.slot k)) (along_back s v (leaf_path v.slot k))) (sym a.here)
      (subst (λ (y : Link). Comes s h e.dir 0 (along s (source e) (leaf_path (source e).slot k)) (along_back s y (leaf_path y.slot k))) (sym a.there) at_top)

  -- entry j of both sources of entries
  entry_is : (arena : Arena) (image : Image) (w : Link) (j : ℕ) → entry_of arena image w j ≡ step arena image (goes arena image w (leaf_path w.slot (j / 204))) (j % 204)
  entry_is arena image w j = goes_join arena image (leaf_path w.slot (j / 204)) ((j % 204) ∷ []) w

  pub entry_both : (e f : Entry) (w v : Link) (j : ℕ) → AreEntries s e w v → e.dir ≡ true → IsClean s w → (entry_of s.arena s.image w j).slot ≡ Head f → f.active ≡ true
      → AreEntries s f (entry_of s.arena s.image w j) (entry_of (archive s) no_image v j)
  entry_both e f w v j a dir c is active =
      let leaf = leaf_comes e w v (j / 204) a c in
      let both = subst (λ (d : Bool). AreBoth s d 0 (along s w (leaf_path w.slot (j / 204))) (along_back s v (leaf_path v.slot (j / 204)))) dir leaf.both in
      let here = entry_is s.arena s.image w j in
      let there = entry_is (archive s) no_image v j in
      let slot : (down s (along s w (leaf_path w.slot (j / 204))) (j % 204)).slot ≡ Head f = sym (ap (λ (x : Link). x.slot) here) ∙ is in
      subst (λ (x : Link). AreEntries s f x (entry_of (archive s) no_image v j)) (sym here)
      (subst (λ (y : Link). AreEntries s f (down s (along s w (leaf_path w.slot (j / 204))) (j % 204)) y) (sym there)
      (entry_step (along s w (leaf_path w.slot (j / 204))) (along_back s v (leaf_path v.slot (j / 204))) (j % 204) f both leaf.clean (omega arith) slot active))

-- below a path all is clean
pub clean_along : (s : Sides) (path : List ℕ) (w : Link) → IsClean s w → IsClean s (along s w path)
clean_along s [] w c = c
clean_along s (i ∷ path) w c = clean_along s path (down s w i) (clean_below s w i c)
