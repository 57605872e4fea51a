-- One slot down, and down a way through blocks of pointers: links that lead to the same block stay so.
use Rattle.std.proofs.Common.{◌≡◌, ◌∙◌, inl, inr, ⊎_elim, ℕ, zero, suc, ◌+◌, ◌-◌, ◌/◌, ◌%◌, ◌<◌, ◌≤◌, Bool, true, false, cond, List, [], ◌∷◌, ◌++◌, length, refl, sym, ap, subst, arith}
use Rattle.std.specs.Prelude.{Some}
use Rattle.std.proofs.lemmas.Bool.{lt-ltb}
use Rattle.fo_image.specs.declared.types.Score.{Score}
use Rattle.fo_image.specs.declared.types.Kind.{Kind}
use Rattle.fo_image.specs.declared.types.Kind.TheVariants.{Data, Dir}
use Rattle.fo_image.specs.declared.types.Pointer.{Pointer}
use Rattle.fo_image.specs.declared.types.Pointer.TheVariants.{Nil, Score as ToScore}
use Rattle.fo_image.specs.Format.{kind_code, KindHolds}
use Rattle.fo_crash.specs.declared.slot.Slot.{Slot}
use Rattle.fo_crash.specs.declared.slot.Slot.TheVariants.{Pointer as To}
use Rattle.fo_crash.specs.Images.{Arena, Image, Content, Link, target, meant, step, goes, way, kind_below}
use Rattle.fo_vacput.specs.declared.types.Tail.{Tail}
use Rattle.fo_vacput.specs.declared.types.Tail.TheVariants.{Scores}
use Rattle.fo_vacput.specs.declared.types.TheConstants.{EMPTY}
use Rattle.fo_vacput.specs.Cut.{tail_of, grown}
use Rattle.fo_vac_open.specs.Held.{held, block_held, pointer_to, pointer_slot, slot_in}
use Rattle.fo_vac_open.specs.Tree.{no_image}
use Rattle.fo_arch_form.specs.Pointers.{pointer_at}
use Rattle.fo_arch_form.specs.Stored.{score_under}
use Rattle.fo_arch_walk.specs.Forms.{IsForm}
use Rattle.fo_arch_walk.specs.Pointers.{IsPointersForm}
use Rattle.fo_arch_walk.specs.Spots.{arena_code}
use Rattle.fo_arch_tree.proofs.Alike.{finds}
use Rattle.fo_arch_tree.proofs.Sides.{Sides, Holds, archive, shown, read_back, down, down_back, along, along_back, kind_at, Alike, HeldAt, Finds, IsClean, AreBoth}
use Rattle.fo_arch_tree.proofs.Tails.{nil_at}

-- ---- paths

pub goes_join : (arena : Arena) (image : Image) (p q : List ℕ) (w : Link) → goes arena image w (p ++ q) ≡ goes arena image (goes arena image w p) q
goes_join arena image [] q w = refl
goes_join arena image (i ∷ p) q w = goes_join arena image p q (step arena image w i)

goes_way : (arena : Arena) (image : Image) (w : Link) (down k : ℕ) (path : List ℕ) → goes arena image w (way down k path) ≡ goes arena image (goes arena image w (way down k [])) path
goes_way arena image w zero k path = refl
goes_way arena image w (suc down) k path = goes_way arena image w down (k / 409) (k % 409 ∷ path) ∙ sym (ap (λ v. goes arena image v path) (goes_way arena image w down (k / 409) (k % 409 ∷ [])))

pub clean_below : (s : Sides) (w : Link) (i : ℕ) → IsClean s w → IsClean s (down s w i)
clean_below s w i c = record { none = λ path. c.none (i ∷ path); read = λ path. c.read (i ∷ path) }

-- ---- kinds

deep : (level : ℕ) → 4 < suc (suc (suc (suc (suc level))))
deep level = omega arith

scores_of_data : (level : ℕ) → suc level ≤ 4 → tail_of (kind_code (Data (suc level))) ≡ Scores
scores_of_data zero le = refl
scores_of_data (suc zero) le = refl
scores_of_data (suc (suc zero)) le = refl
scores_of_data (suc (suc (suc zero))) le = refl
scores_of_data (suc (suc (suc (suc level)))) le = absurd (omega (arith, le))

scores_of_dir : (level : ℕ) → suc level ≤ 4 → tail_of (kind_code (Dir (suc level))) ≡ Scores
scores_of_dir zero le = refl
scores_of_dir (suc zero) le = refl
scores_of_dir (suc (suc zero)) le = refl
scores_of_dir (suc (suc (suc zero))) le = refl
scores_of_dir (suc (suc (suc (suc level)))) le = absurd (omega (arith, le))

-- ---- a block of pointers

-- a block of this kind holds pointers to blocks of another
record HoldsPointers (s : Sides) (kind below : Kind) (i : ℕ) : Type 0 where
  formed : (c : Content) (form : List ℕ) → IsForm s.done kind c form → IsPointersForm s.done kind c form
  slots : (block : List ℕ) → slot_in kind block i ≡ pointer_slot block i
  holds : KindHolds below
  code_is : arena_code below ≡ kind_code below
  next : kind_code kind - 1 ≡ arena_code below
  tail : tail_of (kind_code kind) ≡ Scores

module _ (s : Sides) (kind below : Kind) (here there : Slot) (i : ℕ) (p : HoldsPointers s kind below i) (lt : i < 409) where
  slot_of : (block : List ℕ) → target (pointer_slot block i) ≡ pointer_to (pointer_at block i)
  slot_of block = ap (λ b. target (cond b (To (pointer_to (pointer_at block i))) (To Nil))) (lt-ltb i 409 lt)

  nowhere : target here ≡ Nil → target there ≡ Nil → Alike s below ((shown s kind here).slot i) ((read_back s kind there).slot i)
  nowhere e f = record {
    holds = p.holds;
    code_is = p.code_is;
    score = EMPTY;
    known = ap (λ (q : Pointer). score_under s.done (arena_code below) (target ((meant s.arena s.image kind q).slot i))) e;
    leads = ap (λ (q : Pointer). target ((meant (archive s) no_image kind q).slot i)) f;
  }

  module _ (at : ℕ) (f : HeldAt s kind here there at) (form : IsPointersForm s.done kind (s.image at) f.form) where
    abbrev score : Score
    score = (form.each i lt).score

    known : score_under s.done (arena_code below) (target ((shown s kind here).slot i)) ≡ Some score
    known =
        ap (λ (q : Pointer). score_under s.done (arena_code below) (target ((meant s.arena s.image kind q).slot i))) f.leads
        ∙ ap (λ n. score_under s.done n (target ((s.image at).slot i))) (sym p.next)
        ∙ (form.each i lt).stored

    -- the form is what is made again of the bytes
    again : (bytes : List ℕ) → bytes ≡ f.bytes → grown Scores 8192 bytes ≡ f.form
    again bytes is =
        ap (grown Scores 8192) is
        ∙ sym (ap (λ (t : Tail). grown t (length f.form) f.bytes) p.tail ∙ ap (λ n. grown Scores n f.bytes) form.length_is)
        ∙ f.again

    empty : target there ≡ Nil → f.bytes ≡ [] → target ((read_back s kind there).slot i) ≡ pointer_to score.0
    empty nil none =
        ap (λ (q : Pointer). target ((meant (archive s) no_image kind q).slot i)) nil
        ∙ sym (ap pointer_to (sym (form.each i lt).here ∙ ap (λ xs. pointer_at xs i) (sym (again [] (sym none))) ∙ nil_at 8192 i (omega (arith, lt))))

    full : (at_score : Score) → target there ≡ ToScore at_score → held s.lines s.stored at_score.0 (kind_code kind) ≡ f.bytes → target ((read_back s kind there).slot i) ≡ pointer_to score.0
    full at_score leads is =
        let block = block_held s.lines s.stored (kind_code kind) at_score in
        let same : block ≡ f.form = ap (λ (t : Tail). grown t 8192 (held s.lines s.stored at_score.0 (kind_code kind))) p.tail ∙ again (held s.lines s.stored at_score.0 (kind_code kind)) is in
        ap (λ (q : Pointer). target ((meant (archive s) no_image kind q).slot i)) leads
        ∙ ap target (p.slots block)
        ∙ slot_of block
        ∙ ap (λ xs. pointer_to (pointer_at xs i)) same
        ∙ ap pointer_to (form.each i lt).here

    somewhere : Alike s below ((shown s kind here).slot i) ((read_back s kind there).slot i)
    somewhere = record {
      holds = p.holds;
      code_is = p.code_is;
      score = score;
      known = known;
      leads = ⊎_elim (λ none. empty none.0 none.1) (λ some. full some.0 some.1 some.2) f.found;
    }

  pointer_step : Finds s kind here there → Alike s below ((shown s kind here).slot i) ((read_back s kind there).slot i)
  pointer_step (inl none) = nowhere none.0 none.1
  pointer_step (inr (at, f)) = somewhere at f (p.formed (s.image at) f.form f.is)

-- ---- one level down

module _ (s : Sides) (h : Holds s) where
  below_is : (dir : Bool) (level : ℕ) (slot : Slot) → kind_below (kind_at dir (suc level)) slot ≡ kind_at dir level
  below_is true level slot = refl
  below_is false level slot = refl

  pointers : (dir : Bool) (level i : ℕ) → KindHolds (kind_at dir (suc level)) → HoldsPointers s (kind_at dir (suc level)) (kind_at dir level) i
  pointers true level i holds = record {
    formed = λ c form is. is;
    slots = λ block. refl;
    holds = omega (arith, holds);
    code_is = refl;
    next = omega arith;
    tail = scores_of_dir level holds;
  }
  pointers false level i holds = record {
    formed = λ c form is. is;
    slots = λ block. refl;
    holds = omega (arith, holds);
    code_is = refl;
    next = omega arith;
    tail = scores_of_data level holds;
  }

  pub step_both : (dir : Bool) (level : ℕ) (w v : Link) (i : ℕ) → AreBoth s dir (suc level) w v → IsClean s w → i < 409 → AreBoth s dir level (down s w i) (down_back s v i)
  step_both dir level w v i b c lt =
      let kind = kind_at dir (suc level) in
      let found = finds s h kind w.slot v.slot b.alike (c.none []) in
      let core = pointer_step s kind (kind_at dir level) w.slot v.slot i (pointers dir level i b.alike.holds) lt found in record {
        here = ap (λ (k : Kind). kind_below k ((meant s.arena s.image w.kind (target w.slot)).slot i)) b.here ∙ below_is dir level _;
        there = ap (λ (k : Kind). kind_below k ((meant (archive s) no_image v.kind (target v.slot)).slot i)) b.there ∙ below_is dir level _;
        alike =
            subst (λ (k : Kind). Alike s (kind_at dir level) ((shown s k w.slot).slot i) ((read_back s v.kind v.slot).slot i)) (sym b.here)
            (subst (λ (k : Kind). Alike s (kind_at dir level) ((shown s kind w.slot).slot i) ((read_back s k v.slot).slot i)) (sym b.there) core);
      }

  -- both links lead to a block of this level, below which all is clean
  pub record Comes (dir : Bool) (level : ℕ) (w v : Link) : Type 0 where
    pub both : AreBoth s dir level w v
    pub clean : IsClean s w

  pub ways : (dir : Bool) (levels level k n : ℕ) (w v : Link) → n ≡ levels + level → AreBoth s dir n w v → IsClean s w → Comes dir level (along s w (way levels k [])) (along_back s v (way levels k []))
  ways dir zero level k n w v is b c =
      let same : n ≡ level = omega (arith, is) in
      record { both = subst (λ (m : ℕ). AreBoth s dir m w v) same b; clean = c }
  ways dir (suc levels) level k n w v is b c =
      let above = ways dir levels (suc level) (k / 409) n w v (omega (arith, is)) b c in
      let upper = along s w (way levels (k / 409) []) in
      let lower = along_back s v (way levels (k / 409) []) in
      let both = step_both dir level upper lower (k % 409) above.both above.clean (omega arith) in
      subst (λ (x : Link). Comes dir level x (along_back s v (way (suc levels) k []))) (sym (goes_way s.arena s.image w levels (k / 409) (k % 409 ∷ [])))
      (subst (λ (y : Link). Comes dir level (down s upper (k % 409)) y) (sym (goes_way (archive s) no_image v levels (k / 409) (k % 409 ∷ [])))
      (record { both = both; clean = clean_below s upper (k % 409) above.clean }))
