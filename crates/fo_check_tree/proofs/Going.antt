-- One step more of the walk.
use Rattle.std.proofs.Common.{◌≡◌, ◌≢◌, ◌⊎◌, ⊎_elim, inl, inr, ℕ, ◌+◌, ◌<◌, ◌≤◌, Bool, true, false, leb, List, [], ◌∷◌, ◌++◌, Option, Some, None, MatchOption, refl, sym, ap, ◌∙◌, subst, arith}
use Rattle.std.specs.Prelude.{if◌then◌else◌}
use Rattle.std.specs.List.{Any}
use Rattle.std.proofs.lemmas.Bool.{cases_eq, cases_lt}
use Rattle.fo_disk.specs.Disk.{Block}
use Rattle.fo_image.specs.declared.types.Label.{Label}
use Rattle.fo_image.specs.declared.types.Super.{Super}
use Rattle.fo_image.specs.declared.types.Score.{Score}
use Rattle.fo_image.specs.declared.types.Pointer.TheVariants.{Nil, Local, Score as Held}
use Rattle.fo_crash.specs.Images.{Image, Arena, target, from_block}
use Rattle.fo_good.specs.Means.{IsRead}
use Rattle.fo_sound.specs.Image.{block_of}
use Rattle.fo_good.specs.Trees.{MayHave, LeadsTo, at_path}
use Rattle.fo_good.specs.Sound.{Kept}
use Rattle.fo_sound.specs.Sound.{root_label}
use Rattle.fo_check_tree.specs.declared.broken.Broken.{Broken}
use Rattle.fo_check_labels.specs.declared.labels.Known.{Known}
use Rattle.fo_check_tree.specs.Answer.{BreaksOnce, BreaksScores, IsNamed}
use Rattle.fo_check_tree.specs.Answer.BreaksOnce.{twice}
use Rattle.fo_check_tree.specs.Answer.BreaksScores.{score}
use Rattle.fo_check_labels.specs.Known.{IsKnown, Marks}
use Rattle.fo_check_tree.specs.Lower.{IsRule, lower, level}
use Rattle.fo_check_tree.specs.Notes.{NotesAt, Lowers}
use Rattle.fo_check_tree.specs.Notes.NotesAt.{same as note_same, format as note_format, deep as note_deep}
use Rattle.fo_check_tree.specs.Walking.{Reached, HasPath, place_under, one, IsDone, HasParent, Goes}
use Rattle.fo_check_tree.specs.Walking.IsDone.{nowhere, left, held, local}
use Rattle.fo_check_tree.proofs.Levels.{level-lower}
use Rattle.fo_check_tree.proofs.Paths.{slot_end, child, same_ends, not_none}
use Rattle.fo_check_tree.proofs.Reaching.{same_label, reached_kept, reached_cases, not_before, reached_new, table_kept}
use Rattle.fo_check_tree.proofs.Waiting.{one_here, one_block, one_slot}

nil_local : {a : ℕ} → Nil ≡ Local a → ⊥
nil_local e = cc

held_local : {a : ℕ} {x : Score} → Held x ≡ Local a → ⊥
held_local e = cc

pub local_is : {a b : ℕ} → Local a ≡ Local b → a ≡ b
local_is e = cc

-- ---- what is noted

by_choice : {X : Type 0} (P : X → Type 0) (t : Bool) (x y : X) → P x → P y → P (if t then x else y)
by_choice P true x y a b = a
by_choice P false x y a b = b

module _ (arena : Arena) (image : Image) (k : Kept) where
  abbrev pub Named : Option Broken → Type 0
  Named noted = MatchOption noted (Unit {0}) (IsNamed arena image k)

  pub named_else : (rule block : ℕ) → IsRule rule → rule ≢ 7 → rule ≢ 9 → IsNamed arena image k (record { rule = rule; block = block })
  named_else rule block fits isnt isnt' = record { rule = fits; once = λ is. absurd (isnt is); scores = λ is. absurd (isnt' is) }

  pub named_lower : (noted : Option Broken) (rule block : ℕ) → Named noted → IsNamed arena image k (record { rule = rule; block = block }) → Named (lower noted rule block)
  named_lower None rule block old new = new
  named_lower (Some b) rule block old new = by_choice (λ (o : Option Broken). Named o) (leb b.rule rule) (Some b) (Some (record { rule = rule; block = block })) old new

  pub named_at : (block : ℕ) (old new : Option Broken) → NotesAt block old new → Named old → Named new
  named_at block old new (note_same is) w = subst (λ (o : Option Broken). Named o) (sym is) w
  named_at block old new (note_format is) w = subst (λ (o : Option Broken). Named o) (sym is) (named_else 5 block (omega arith, omega arith) (λ e. absurd (omega (arith, e))) (λ e. absurd (omega (arith, e))))
  named_at block old new (note_deep is) w = subst (λ (o : Option Broken). Named o) (sym is) (named_else 8 block (omega arith, omega arith) (λ e. absurd (omega (arith, e))) (λ e. absurd (omega (arith, e))))

  named_some : (old new : Option Broken) → ((b : Broken) → new ≡ Some b → (b.rule ≡ 7) ⊎ (b.rule ≡ 9) → old ≡ Some b) → ((b : Broken) → new ≡ Some b → (old ≡ Some b) ⊎ IsRule b.rule) → Named old → Named new
  named_some old None same rules w = tt
  named_some old (Some b) same rules w = record {
    rule = ⊎_elim (λ (before : old ≡ Some b). (subst (λ (o : Option Broken). Named o) before w).rule) (λ (now : IsRule b.rule). now) (rules b refl);
    once = λ is. (subst (λ (o : Option Broken). Named o) (same b refl (inl is)) w).once is;
    scores = λ is. (subst (λ (o : Option Broken). Named o) (same b refl (inr is)) w).scores is;
  }

  pub named_lowers : (old new : Option Broken) → Lowers old new → Named old → Named new
  named_lowers old new w h = named_some old new w.same w.rules h

-- ---- a step that was taken

-- a slot is the one that was taken, or was left as often as before
module _ (n n' : ℕ → ℕ → ℕ) (at i : ℕ) (sum : (b j : ℕ) → n b j ≡ one at i b j + n' b j) where
  pub which : (b j : ℕ) → ((b ≡ at) × (j ≡ i)) ⊎ (n b j ≡ n' b j)
  which b j = ⊎_elim
      (λ (same : b ≡ at). ⊎_elim (λ (here : j ≡ i). inl (same, here)) (λ (apart : j ≢ i). inr (omega (arith, sum b j, one_slot at i b j apart))) (cases_eq j i))
      (λ (apart : b ≢ at). inr (omega (arith, sum b j, one_block at i b j apart)))
      (cases_eq b at)

module _ (arena : Arena) (device : List Block) (image : Image) (s : Super) (k : Kept) (known : List Known) (noted : Option Broken) (n : ℕ → ℕ → ℕ) (g : Goes arena device image s k known noted n) where
  -- a slot that is left is that of a block that was reached
  pub not_left : (b j : ℕ) → ((l : Label) → Reached known b l → ⊥) → n b j ≡ 0
  not_left b j isnt = ⊎_elim (λ none. omega (arith, none)) (λ some. let h = g.holders b j (omega (arith, some)) in absurd (isnt h.0 h.1)) (cases_lt (n b j) 1)

  -- what was done before is done
  done_still : (noted' : Option Broken) → level noted' ≤ level noted → (n' : ℕ → ℕ → ℕ) (b : ℕ) (l : Label) (j : ℕ) → n b j ≡ n' b j → IsDone image k known noted n b l j → IsDone image k known noted' n' b l j
  done_still noted' low n' b l j same (nowhere is) = nowhere is
  done_still noted' low n' b l j same (left some) = left (omega (arith, some, same))
  done_still noted' low n' b l j same (held x is most) = held x is (omega (arith, most, low))
  done_still noted' low n' b l j same (local below m is reached may) = local below m is reached may

  module _ (noted' : Option Broken) (low : level noted' ≤ level noted) (notes : MatchOption noted' (Unit {0}) (IsNamed arena image k)) (n' : ℕ → ℕ → ℕ) (at i : ℕ) (sum : (b j : ℕ) → n b j ≡ one at i b j + n' b j) where
    pub taken : ((l : Label) → Reached known at l → IsDone image k known noted' n' at l i)
        → (7 < level noted' → (b j below : ℕ) (m : Label) → Reached known b m → n b j ≡ 0 → target ((image at).slot i) ≡ Local below → target ((image b).slot j) ≡ Local below → (b ≡ at) × (j ≡ i))
        → (7 < level noted' → ¬ (target ((image at).slot i) ≡ Local k.at))
        → Goes arena device image s k known noted' n'
    taken now alone not_top = record {
      table = g.table;
      root = g.root;
      holders = λ b j some. g.holders b j (omega (arith, some, sum b j));
      few = λ b j. omega (arith, sum b j, g.few b j);
      done = λ b l j reached. ⊎_elim
          (λ here. subst (λ (m : ℕ). IsDone image k known noted' n' b l m) (sym here.1) (subst (λ (c : ℕ). IsDone image k known noted' n' c l i) (sym here.0) (now l (subst (λ (c : ℕ). Reached known c l) here.0 reached))))
          (λ still. done_still noted' low n' b l j still (g.done b l j reached))
          (which n n' at i sum b j);
      paths = g.paths;
      read = λ quiet. g.read (omega (arith, quiet, low));
      parents = λ b l reached. ⊎_elim
          (λ top. inl top)
          (λ (w : HasParent image known n b). inr (record { at = w.at; slot = w.slot; label = w.label; reached = w.reached; leads = w.leads; taken = omega (arith, w.taken, sum w.at w.slot) }))
          (g.parents b l reached);
      once = λ quiet a x b y below l m ra rb za zb ta tb. ⊎_elim
          (λ ha. ⊎_elim
          (λ hb. (ha.0 ∙ sym hb.0, ha.1 ∙ sym hb.1))
          (λ sb.
          let e = alone quiet b y below m rb (sb ∙ zb) (ap (λ (z : ℕ). target ((image at).slot z)) (sym ha.1) ∙ ap (λ (c : ℕ). target ((image c).slot x)) (sym ha.0) ∙ ta) tb in
          (ha.0 ∙ sym e.0, ha.1 ∙ sym e.1))
          (which n n' at i sum b y))
          (λ sa. ⊎_elim
          (λ hb.
          let e = alone quiet a x below l ra (sa ∙ za) (ap (λ (z : ℕ). target ((image at).slot z)) (sym hb.1) ∙ ap (λ (c : ℕ). target ((image c).slot y)) (sym hb.0) ∙ tb) ta in
          (e.0 ∙ sym hb.0, e.1 ∙ sym hb.1))
          (λ sb. g.once (omega (arith, quiet, low)) a x b y below l m ra rb (sa ∙ za) (sb ∙ zb) ta tb)
          (which n n' at i sum b y))
          (which n n' at i sum a x);
      top = λ quiet a x l ra za ta. ⊎_elim
          (λ ha. not_top quiet (ap (λ (z : ℕ). target ((image at).slot z)) (sym ha.1) ∙ ap (λ (c : ℕ). target ((image c).slot x)) (sym ha.0) ∙ ta))
          (λ sa. g.top (omega (arith, quiet, low)) a x l ra (sa ∙ za) ta)
          (which n n' at i sum a x);
      notes = notes;
    }

  -- what is noted falls, and nothing is taken
  pub goes_lower : (noted' : Option Broken) → Lowers noted noted' → Goes arena device image s k known noted' n
  goes_lower noted' w = record {
    table = g.table;
    root = g.root;
    holders = g.holders;
    few = g.few;
    done = λ b l j reached. done_still noted' w.low n b l j refl (g.done b l j reached);
    paths = g.paths;
    parents = g.parents;
    read = λ quiet. g.read (omega (arith, quiet, w.low));
    once = λ quiet. g.once (omega (arith, quiet, w.low));
    top = λ quiet. g.top (omega (arith, quiet, w.low));
    notes = named_lowers arena image k noted noted' w g.notes;
  }

  -- ---- to no block

  pub goes_nowhere : (n' : ℕ → ℕ → ℕ) (at i : ℕ) → ((b j : ℕ) → n b j ≡ one at i b j + n' b j) → target ((image at).slot i) ≡ Nil → Goes arena device image s k known noted n'
  goes_nowhere n' at i sum is = taken noted (omega arith) g.notes n' at i sum (λ l reached. nowhere is) (λ quiet b j below m reached gone leads leads'. absurd (nil_local (sym is ∙ leads))) (λ quiet leads. nil_local (sym is ∙ leads))

  -- the path to a block, and one slot more
  holder_path : (at i : ℕ) → 1 ≤ n at i → (l : Label) × HasPath arena image k at l
  holder_path at i some = let h = g.holders at i some in (h.0, g.paths at h.0 h.1)

  pub goes_held : (n' : ℕ → ℕ → ℕ) (at i : ℕ) (x : Score) → ((b j : ℕ) → n b j ≡ one at i b j + n' b j) → target ((image at).slot i) ≡ Held x → Goes arena device image s k known (lower noted 9 at) n'
  goes_held n' at i x sum is =
      let p = holder_path at i (omega (arith, sum at i, one_here at i)) in
      let breaks : BreaksScores arena image k at = score p.1.path i at x p.1.leads (ap target (slot_end arena image p.1.path (from_block k.at) i at p.1.leads) ∙ is) in
      taken (lower noted 9 at) (level-lower noted 9 at (omega arith)).0
      (named_lower arena image k noted 9 at g.notes (record { rule = (omega arith, omega arith); once = λ e. absurd (omega (arith, e)); scores = λ e. breaks }))
      n' at i sum (λ l reached. held x is (level-lower noted 9 at (omega arith)).1)
      (λ quiet b j below m reached gone leads leads'. absurd (held_local (sym is ∙ leads))) (λ quiet leads. held_local (sym is ∙ leads))

  -- ---- to a block that was reached before

  pub breaks_once : (at i below : ℕ) (m : Label) → 1 ≤ n at i → target ((image at).slot i) ≡ Local below → Reached known below m → BreaksOnce arena image k below
  breaks_once at i below m some is reached =
      let p = holder_path at i some in
      let leads : LeadsTo arena image k.at (p.1.path ++ i ∷ []) below = ap target (slot_end arena image p.1.path (from_block k.at) i at p.1.leads) ∙ is in
      ⊎_elim
      (λ (top : below ≡ k.at). twice [] (p.1.path ++ i ∷ []) below (ap (λ (a : ℕ). Local a) (sym top)) leads (λ e. not_none p.1.path i e))
      (λ (w : HasParent image known n below).
      let q = g.paths w.at w.label w.reached in
      let leads' : LeadsTo arena image k.at (q.path ++ w.slot ∷ []) below = ap target (slot_end arena image q.path (from_block k.at) w.slot w.at q.leads) ∙ w.leads in
      twice (q.path ++ w.slot ∷ []) (p.1.path ++ i ∷ []) below leads' leads (λ e.
      let ends = same_ends q.path p.1.path w.slot i e in
      let here : w.at ≡ at = local_is (sym q.leads ∙ ap (λ (r : List ℕ). target ((at_path arena image k.at r).slot)) ends.0 ∙ p.1.leads) in
      let none : n at i ≡ 0 = ap (λ (a : ℕ). n a i) (sym here) ∙ ap (λ (j : ℕ). n w.at j) (sym ends.1) ∙ w.taken in
      omega (arith, none, some)))
      (g.parents below m reached)

  pub goes_again : (n' : ℕ → ℕ → ℕ) (at i below : ℕ) (m : Label) → ((b j : ℕ) → n b j ≡ one at i b j + n' b j) → target ((image at).slot i) ≡ Local below → Reached known below m
      → ((l : Label) → Reached known at l → MayHave k.root.epoch true (place_under l ((image at).slot i)) l m) → Goes arena device image s k known (lower noted 7 below) n'
  goes_again n' at i below m sum is reached may =
      let low = level-lower noted 7 below (omega arith) in
      let breaks = breaks_once at i below m (omega (arith, sum at i, one_here at i)) is reached in
      taken (lower noted 7 below) low.0
      (named_lower arena image k noted 7 below g.notes (record { rule = (omega arith, omega arith); once = λ e. breaks; scores = λ e. absurd (omega (arith, e)) }))
      n' at i sum (λ l r. local below m is reached (may l r))
      (λ quiet b j c q r gone leads leads'. absurd (omega (arith, quiet, low.1))) (λ quiet leads. absurd (omega (arith, quiet, low.1)))

  -- ---- to a block that is reached now

  module _ (known' : List Known) (noted' : Option Broken) (n' fresh : ℕ → ℕ → ℕ) (at i below : ℕ) (m : Label)
      (low : level noted' ≤ level noted) (notes : MatchOption noted' (Unit {0}) (IsNamed arena image k)) (sum : (b j : ℕ) → n b j ≡ one at i b j + n' b j)
      (is : target ((image at).slot i) ≡ Local below) (marks : Marks below known known') (has : Any (IsKnown below m) known)
      (may : (l : Label) → Reached known at l → MayHave k.root.epoch true (place_under l ((image at).slot i)) l m)
      (read : 5 < level noted' → IsRead m.kind (image below) (block_of device below))
      (apart : (b j : ℕ) → b ≢ below → fresh b j ≡ 0) (few : (j : ℕ) → fresh below j ≤ 1) (all : (j : ℕ) → (target ((image below).slot j) ≡ Nil) ⊎ (fresh below j ≡ 1)) where
    new : Reached known below m → ⊥
    new = not_before known known' below g.table.up marks m

    newer : (l : Label) → Reached known below l → ⊥
    newer l r = not_before known known' below g.table.up marks l r

    now : Reached known' below m
    now = reached_new known known' below g.table.up marks m has

    kept : (b : ℕ) (l : Label) → Reached known b l → Reached known' b l
    kept b l r = reached_kept known known' below g.table.up marks b l r

    not_below : (b : ℕ) (l : Label) → Reached known b l → b ≢ below
    not_below b l r same = newer l (subst (λ (c : ℕ). Reached known c l) same r)

    -- a block that was reached, before or now
    when : (b : ℕ) (l : Label) → Reached known' b l → (b ≡ below) ⊎ Reached known b l
    when b l r = reached_cases known known' below g.table.up marks b l r

    -- a slot of a new block that leads anywhere is left
    fresh_left : (b j c : ℕ) → b ≡ below → target ((image b).slot j) ≡ Local c → n' b j + fresh b j ≡ 0 → ⊥
    fresh_left b j c same leads gone = ⊎_elim
        (λ nil. nil_local (sym nil ∙ ap (λ (x : ℕ). target ((image x).slot j)) (sym same) ∙ leads))
        (λ one'. let here : fresh b j ≡ 1 = ap (λ (x : ℕ). fresh x j) same ∙ one' in omega (arith, here, gone))
        (all j)

    old_none : (j : ℕ) → n below j ≡ 0
    old_none j = not_left below j newer

    done_now : (b : ℕ) (l : Label) (j : ℕ) → n b j ≡ n' b j → IsDone image k known noted n b l j → IsDone image k known' noted' (λ c x. n' c x + fresh c x) b l j
    done_now b l j same (nowhere e) = nowhere e
    done_now b l j same (left some) = left (omega (arith, some, same))
    done_now b l j same (held x e most) = held x e (omega (arith, most, low))
    done_now b l j same (local c q e r h) = local c q e (kept c q r) h

    -- No other slot that was taken leads to it.
    no_other : (b j : ℕ) (l : Label) → n b j ≡ 0 → target ((image b).slot j) ≡ Local below → IsDone image k known noted n b l j → ⊥
    no_other b j l gone leads (nowhere e) = nil_local (sym e ∙ leads)
    no_other b j l gone leads (left some) = omega (arith, gone, some)
    no_other b j l gone leads (held x e most) = held_local (sym e ∙ leads)
    no_other b j l gone leads (local c q e r h) = newer q (subst (λ (x : ℕ). Reached known x q) (local_is (sym e ∙ leads)) r)

    at_is : (a x c : ℕ) → a ≡ at → x ≡ i → target ((image a).slot x) ≡ Local c → c ≡ below
    at_is a x c here there leads = local_is (sym leads ∙ ap (λ (z : ℕ). target ((image a).slot z)) there ∙ ap (λ (z : ℕ). target ((image z).slot i)) here ∙ is)

    pub goes_on : Goes arena device image s k known' noted' (λ b j. n' b j + fresh b j)
    goes_on = record {
      table = table_kept known known' below g.table.up marks device g.table;
      root = kept k.at _ g.root;
      holders = λ b j some. ⊎_elim
          (λ (same : b ≡ below). (m, subst (λ (c : ℕ). Reached known' c m) (sym same) now))
          (λ (other : b ≢ below). let h = g.holders b j (omega (arith, some, apart b j other, sum b j)) in (h.0, kept b h.0 h.1))
          (cases_eq b below);
      few = λ b j. ⊎_elim
          (λ (same : b ≡ below). subst (λ (c : ℕ). n' c j + fresh c j ≤ 1) (sym same) (omega (arith, few j, old_none j, sum below j)))
          (λ (other : b ≢ below). omega (arith, apart b j other, sum b j, g.few b j))
          (cases_eq b below);
      done = λ b l j r. ⊎_elim
          (λ (same : b ≡ below). subst (λ (c : ℕ). IsDone image k known' noted' (λ c x. n' c x + fresh c x) c l j) (sym same)
          (⊎_elim (λ nil. nowhere nil) (λ one'. left (omega (arith, one'))) (all j)))
          (λ old. ⊎_elim
          (λ here. subst (λ (x : ℕ). IsDone image k known' noted' (λ c x. n' c x + fresh c x) b l x) (sym here.1)
          (subst (λ (c : ℕ). IsDone image k known' noted' (λ c x. n' c x + fresh c x) c l i) (sym here.0) (local below m is now (may l (subst (λ (c : ℕ). Reached known c l) here.0 old)))))
          (λ still. done_now b l j still (g.done b l j old))
          (which n n' at i sum b j))
          (when b l r);
      paths = λ b l r. ⊎_elim
          (λ (same : b ≡ below).
          let r' : Reached known' below l = subst (λ (c : ℕ). Reached known' c l) same r in
          let mine : m ≡ l = same_label known' below m l (table_kept known known' below g.table.up marks device g.table).up now r' in
          let h = g.holders at i (omega (arith, sum at i, one_here at i)) in
          let can = may h.0 h.1 in
          subst (λ (c : ℕ). HasPath arena image k c l) (sym same) (subst (λ (q : Label). HasPath arena image k below q) mine (child arena image k at i h.0 (g.paths at h.0 h.1) below m is can.kind can.tag)))
          (λ old. g.paths b l old)
          (when b l r);
      read = λ quiet b l r. ⊎_elim
          (λ (same : b ≡ below).
          let r' : Reached known' below l = subst (λ (c : ℕ). Reached known' c l) same r in
          let mine : m ≡ l = same_label known' below m l (table_kept known known' below g.table.up marks device g.table).up now r' in
          subst (λ (c : ℕ). IsRead l.kind (image c) (block_of device c)) (sym same) (subst (λ (q : Label). IsRead q.kind (image below) (block_of device below)) mine (read quiet)))
          (λ old. g.read (omega (arith, quiet, low)) b l old)
          (when b l r);
      parents = λ b l r. ⊎_elim
          (λ (same : b ≡ below).
          let h = g.holders at i (omega (arith, sum at i, one_here at i)) in
          inr (record { at = at; slot = i; label = h.0; reached = kept at h.0 h.1; leads = is ∙ ap (λ (c : ℕ). Local c) (sym same); taken = omega (arith, sum at i, one_here at i, g.few at i, apart at i (not_below at h.0 h.1)) }))
          (λ old. ⊎_elim
          (λ top. inl top)
          (λ (w : HasParent image known n b). inr (record { at = w.at; slot = w.slot; label = w.label; reached = kept w.at w.label w.reached; leads = w.leads; taken = omega (arith, w.taken, sum w.at w.slot, apart w.at w.slot (not_below w.at w.label w.reached)) }))
          (g.parents b l old))
          (when b l r);
      once = λ quiet a x b y c l q ra rb za zb ta tb. ⊎_elim
          (λ same. absurd (fresh_left a x c same ta za))
          (λ oa. ⊎_elim
          (λ same. absurd (fresh_left b y c same tb zb))
          (λ ob. ⊎_elim
          (λ ha. ⊎_elim
          (λ hb. (ha.0 ∙ sym hb.0, ha.1 ∙ sym hb.1))
          (λ sb. absurd (no_other b y q (omega (arith, sb, zb)) (tb ∙ ap (λ (z : ℕ). Local z) (at_is a x c ha.0 ha.1 ta)) (g.done b q y ob)))
          (which n n' at i sum b y))
          (λ sa. ⊎_elim
          (λ hb. absurd (no_other a x l (omega (arith, sa, za)) (ta ∙ ap (λ (z : ℕ). Local z) (at_is b y c hb.0 hb.1 tb)) (g.done a l x oa)))
          (λ sb. g.once (omega (arith, quiet, low)) a x b y c l q oa ob (omega (arith, sa, za)) (omega (arith, sb, zb)) ta tb)
          (which n n' at i sum b y))
          (which n n' at i sum a x))
          (when b q rb))
          (when a l ra);
      top = λ quiet a x l ra za ta. ⊎_elim
          (λ same. fresh_left a x k.at same ta za)
          (λ oa. ⊎_elim
          (λ ha. newer (root_label s) (subst (λ (c : ℕ). Reached known c (root_label s)) (at_is a x k.at ha.0 ha.1 ta) g.root))
          (λ sa. g.top (omega (arith, quiet, low)) a x l oa (omega (arith, sa, za)) ta)
          (which n n' at i sum a x))
          (when a l ra);
      notes = notes;
    }
