-- What is kept of blocks is true of those of a new device.
use Rattle.std.proofs.Common.{◌≡◌, ◌≢◌, ⊎_elim, ℕ, zero, suc, ◌+◌, ◌-◌, ◌^◌, ◌<◌, ◌≤◌, true, false, List, length, get_or, set, length-set, get_or-set_same, get_or-set_other, refl, sym, ◌∙◌, ap, subst, arith}
use Rattle.std.proofs.lemmas.Bool.{cases_eq, cases_lt}
use Rattle.std.proofs.lemmas.List.{get_or_past}
use Rattle.fo_image.specs.declared.types.Kind.TheVariants.{Root}
use Rattle.fo_image.specs.declared.types.Pointer.TheVariants.{Nil, Local}
use Rattle.fo_image.specs.declared.types.State.TheVariants.{Live}
use Rattle.fo_image.specs.Format.{EntryHolds}
use Rattle.fo_crash.specs.declared.place.Place.{Place}
use Rattle.fo_crash.specs.declared.slot.Slot.TheVariants.{Pointer as To}
use Rattle.fo_crash.specs.Images.{target}
use Rattle.fo_crash.specs.Places.{super_place, root_place, place_below}
use Rattle.fo_ports.specs.Blocks.{IsInner, IsFormed, slot_count, SlotFits, blank_slot, no_entry}
use Rattle.fo_ports_plain.specs.declared.home.Home.{Home}
use Rattle.fo_ports_plain.specs.declared.block.PlainBlock.{PlainBlock}
use Rattle.fo_ports_plain.specs.Plain.{block_at, slot_of, no_block, is_active, index_in, nowhere, label_at, label_of}
use Rattle.fo_ports_plain.specs.Sound.{HangsAt, Linked, Links, IsSpelled, IsSuper, IsKept, Sound, Formed, home_of}
use Rattle.fo_ports_plain.proofs.Memory.{blank_nowhere}

-- What is said of the super block, the root block and a block that was not made.
pub record SuperOf (s : PlainBlock) : Type 0 where
  pub super_at : IsSuper 2 s
  pub epoch : s.epoch ≡ 1
  pub taken : s.taken ≡ false
  pub retired : s.retired ≡ false
  pub kept : s.kept ≡ false
  pub root : slot_of s 0 ≡ To (Local 2)
  pub others : (i : ℕ) → i ≢ 0 → slot_of s i ≡ To Nil

pub record RootOf (r : PlainBlock) : Type 0 where
  pub place : r.place ≡ root_place
  pub epoch : r.epoch ≡ 1
  pub source : r.source ≡ 2
  pub joined : r.apart ≡ false
  pub taken : r.taken ≡ false
  pub retired : r.retired ≡ false
  pub kept : r.kept ≡ true
  pub home : HangsAt r.home 1 0 0
  pub slots : (i : ℕ) → slot_of r i ≡ blank_slot Root i
  pub formed : IsFormed Root 2144 r.bytes

pub record EmptyOf (u : PlainBlock) : Type 0 where
  pub joined : u.apart ≡ false
  pub stays : u.taken ≡ false
  pub goes_on : u.retired ≡ false
  pub loses : u.kept ≡ false
  pub ends : u.home.hangs ≡ false
  pub epoch : u.epoch ≤ 1
  pub unused : (i : ℕ) → is_active (slot_of u i) ≡ false
  pub nowhere : (i b : ℕ) → target (slot_of u i) ≢ Local b
  pub spelled : IsSpelled u

none_holds : EntryHolds no_entry
none_holds = record { active_holds = (refl, refl, refl, refl, refl) }

root_fits : (i : ℕ) → i < 3 → SlotFits Root i (blank_slot Root i)
root_fits zero lt = (none_holds, omega arith)
root_fits (suc zero) lt = (none_holds, omega arith)
root_fits (suc (suc zero)) lt = tt
root_fits (suc (suc (suc i))) lt = absurd (omega (arith, lt))

root_unused : (i : ℕ) → is_active (blank_slot Root i) ≡ false
root_unused zero = refl
root_unused (suc zero) = refl
root_unused (suc (suc zero)) = refl
root_unused (suc (suc (suc i))) = refl

blank_spelled : (x : PlainBlock) → x.place ≡ root_place → ((i : ℕ) → slot_of x i ≡ blank_slot Root i) → IsSpelled x
blank_spelled x place slots i lt =
    let few : i < 3 = subst (λ (p : Place). i < slot_count p.kind) place lt in
    subst (λ (p : Place). SlotFits p.kind i (slot_of x i)) (sym place) (subst (λ s. SlotFits Root i s) (sym (slots i)) (root_fits i few))

pub none_empty : EmptyOf no_block
none_empty = record { joined = refl; stays = refl; goes_on = refl; loses = refl; ends = refl; epoch = omega arith; unused = λ i. refl; nowhere = λ i b e. cc; spelled = λ i lt. absurd (omega (arith, lt)) }

pub unmade_empty : (u : PlainBlock) → u.place ≡ root_place → u.epoch ≡ 0 → u.apart ≡ false → u.taken ≡ false → u.kept ≡ false → u.home ≡ nowhere → u.retired ≡ false → ((i : ℕ) → slot_of u i ≡ blank_slot Root i) → EmptyOf u
unmade_empty u place epoch joined stays loses home goes_on slots = record {
  joined = joined;
  stays = stays;
  goes_on = goes_on;
  loses = loses;
  ends = ap (λ (h : Home). h.hangs) home;
  epoch = omega (arith, epoch);
  unused = λ i. ap is_active (slots i) ∙ root_unused i;
  nowhere = λ i b e. blank_nowhere Root i b (ap target (sym (slots i)) ∙ e);
  spelled = blank_spelled u place slots;
}

-- the blocks of a new device
pub record NewBlocks (blocks : List PlainBlock) (s r : PlainBlock) : Type 0 where
  pub super_is : block_at blocks 1 ≡ s
  pub super_of : SuperOf s
  pub root_is : block_at blocks 2 ≡ r
  pub root_of : RootOf r
  pub empty : (b : ℕ) → b ≢ 1 → b ≢ 2 → EmptyOf (block_at blocks b)

-- one of the two blocks, or an empty one
three_cases : (P : ℕ → Type 0) → P 1 → P 2 → ((b : ℕ) → b ≢ 1 → b ≢ 2 → P b) → (b : ℕ) → P b
three_cases P one two more b = ⊎_elim
    (λ e. subst P (sym e) one)
    (λ n. ⊎_elim (λ e. subst P (sym e) two) (λ m. more b n m) (cases_eq b 2))
    (cases_eq b 1)

module _ {blocks : List PlainBlock} {s r : PlainBlock} (n : NewBlocks blocks s r) where
  apart : (b : ℕ) → (block_at blocks b).apart ≡ false
  apart = three_cases (λ b. (block_at blocks b).apart ≡ false) (ap (λ (x : PlainBlock). x.apart) n.super_is ∙ n.super_of.super_at.joined) (ap (λ (x : PlainBlock). x.apart) n.root_is ∙ n.root_of.joined) (λ b a c. (n.empty b a c).joined)

  pub taken : (b : ℕ) → (block_at blocks b).taken ≡ false
  taken = three_cases (λ b. (block_at blocks b).taken ≡ false) (ap (λ (x : PlainBlock). x.taken) n.super_is ∙ n.super_of.taken) (ap (λ (x : PlainBlock). x.taken) n.root_is ∙ n.root_of.taken) (λ b a c. (n.empty b a c).stays)

  pub retired : (b : ℕ) → (block_at blocks b).retired ≡ false
  retired = three_cases (λ b. (block_at blocks b).retired ≡ false) (ap (λ (x : PlainBlock). x.retired) n.super_is ∙ n.super_of.retired) (ap (λ (x : PlainBlock). x.retired) n.root_is ∙ n.root_of.retired) (λ b a c. (n.empty b a c).goes_on)

  pub new_none : (b : ℕ) → ((block_at blocks b).apart ≡ false) × ((block_at blocks b).taken ≡ false)
  new_none b = (apart b, taken b)

  never : (b : ℕ) → (block_at blocks b).apart ≡ true → ⊥
  never b e = let no : true ≡ false = sym e ∙ apart b in cc

  kept : (b : ℕ) → (block_at blocks b).kept ≡ true → IsKept 3 b (block_at blocks b)
  kept = three_cases (λ b. (block_at blocks b).kept ≡ true → IsKept 3 b (block_at blocks b))
      (λ e. let no : true ≡ false = sym e ∙ ap (λ (x : PlainBlock). x.kept) n.super_is ∙ n.super_of.kept in absurd cc)
      (λ e. subst (IsKept 3 2) (sym n.root_is) (record { past = omega arith; was_made = omega arith; place = n.root_of.place; joined = n.root_of.joined; source = n.root_of.source }))
      (λ b a c e. let no : true ≡ false = sym e ∙ (n.empty b a c).loses in absurd cc)

  linked : Linked 3 1 0 2 s r r.home
  linked =
      let place = n.super_of.super_at.place in
      let falls : r.place.rank < s.place.rank = subst (λ (p : Place). r.place.rank < p.rank) (sym place) (subst (λ (p : Place). p.rank < 2145) (sym n.root_of.place) (omega arith)) in
      record {
        past = omega arith;
        was_made = omega arith;
        few = subst (λ (p : Place). 0 < slot_count p.kind) (sym place) (omega arith);
        place = n.root_of.place ∙ ap (λ t. place_below super_place 0 t) (sym n.super_of.root) ∙ ap (λ p. place_below p 0 (slot_of s 0)) (sym place);
        falls = falls;
        joined = n.root_of.joined;
        source = record {
          inner = λ inner. absurd (subst (λ (p : Place). IsInner p.kind) place inner);
          outer = λ _. subst (λ z. HangsAt r.home z (index_in s.place) 0) (sym n.super_of.super_at.source) (subst (λ p. HangsAt r.home 1 (index_in p) 0) (sym place) n.root_of.home);
        };
        ages = λ ne. absurd (ne refl);
      }

  root_home : home_of blocks (block_at blocks 2).source ≡ r.home
  root_home = ap (home_of blocks) (ap (λ (x : PlainBlock). x.source) n.root_is ∙ n.root_of.source) ∙ ap (λ (x : PlainBlock). x.home) n.root_is

  links : Links blocks 3
  links = three_cases (λ a. (i b : ℕ) → target (slot_of (block_at blocks a) i) ≡ Local b → Linked 3 a i b (block_at blocks a) (block_at blocks b) (home_of blocks (block_at blocks b).source))
      (λ i b e. ⊎_elim
      (λ i_is.
      let leads : Local b ≡ Local 2 = sym e ∙ ap (λ x. target (slot_of x i)) n.super_is ∙ ap (λ k. target (slot_of s k)) i_is ∙ ap target n.super_of.root in
      let b_is : b ≡ 2 = cc in
      subst (λ k. Linked 3 1 k b (block_at blocks 1) (block_at blocks b) (home_of blocks (block_at blocks b).source)) (sym i_is)
      (subst (λ y. Linked 3 1 0 y (block_at blocks 1) (block_at blocks y) (home_of blocks (block_at blocks y).source)) (sym b_is)
      (subst (λ x. Linked 3 1 0 2 x (block_at blocks 2) (home_of blocks (block_at blocks 2).source)) (sym n.super_is)
      (subst (λ x. Linked 3 1 0 2 s x (home_of blocks (block_at blocks 2).source)) (sym n.root_is)
      (subst (λ h. Linked 3 1 0 2 s r h) (sym root_home) linked)))))
      (λ ne. let no : Nil ≡ Local b = sym (ap target (n.super_of.others i ne)) ∙ sym (ap (λ x. target (slot_of x i)) n.super_is) ∙ e in absurd cc)
      (cases_eq i 0))
      (λ i b e. absurd (blank_nowhere Root i b (sym (ap target (n.root_of.slots i)) ∙ sym (ap (λ x. target (slot_of x i)) n.root_is) ∙ e)))
      (λ a x y i b e. absurd ((n.empty a x y).nowhere i b e))

  pub new_sound : Sound blocks 3 1 2
  new_sound = record {
    super_at = subst (IsSuper 2) (sym n.super_is) n.super_of.super_at;
    root_kept = (ap (λ (x : PlainBlock). x.kept) n.root_is ∙ n.root_of.kept, ap (λ (x : PlainBlock). x.epoch) n.root_is ∙ n.root_of.epoch);
    links = links;
    spelled = three_cases (λ a. 1 < a → IsSpelled (block_at blocks a)) (λ lt. absurd (omega (arith, lt))) (λ _. subst IsSpelled (sym n.root_is) (blank_spelled r n.root_of.place n.root_of.slots)) (λ b a c _. (n.empty b a c).spelled);
    aged = three_cases (λ b. b < 3 → (block_at blocks b).epoch ≤ 1)
        (λ _. let e : (block_at blocks 1).epoch ≡ 1 = ap (λ (x : PlainBlock). x.epoch) n.super_is ∙ n.super_of.epoch in omega (arith, e))
        (λ _. let e : (block_at blocks 2).epoch ≡ 1 = ap (λ (x : PlainBlock). x.epoch) n.root_is ∙ n.root_of.epoch in omega (arith, e))
        (λ b a c _. (n.empty b a c).epoch);
    tops = kept;
    rest = λ b le. let e = n.empty b (λ is. omega (arith, le, is)) (λ is. omega (arith, le, is)) in record { joined = e.joined; stays = e.stays; goes_on = e.goes_on; loses = e.loses; ends = e.ends; unused = e.unused };
    sources = record {
      apart = λ b e. absurd (never b e);
      numbered = λ b past lt.
          let b_is : b ≡ 2 = omega (arith, past, lt) in
          let e : (block_at blocks b).source ≡ 2 = ap (λ y. (block_at blocks y).source) b_is ∙ ap (λ (x : PlainBlock). x.source) n.root_is ∙ n.root_of.source in
          (omega (arith, e), omega (arith, e));
      free = λ b f. absurd (never b f.0);
      one = λ b c f g e. absurd (never b f.0);
      steads = λ b e some. absurd (never b e);
    };
  }

  pub new_formed : Formed blocks 3
  new_formed b past lt =
      let b_is : b ≡ 2 = omega (arith, past, lt) in
      subst (λ y. ∥ IsFormed (block_at blocks y).place.kind (block_at blocks y).place.rank (block_at blocks y).bytes ∥₁) (sym b_is)
      (subst (λ (x : PlainBlock). ∥ IsFormed x.place.kind x.place.rank x.bytes ∥₁) (sym n.root_is)
      (subst (λ (p : Place). ∥ IsFormed p.kind p.rank r.bytes ∥₁) (sym n.root_of.place) ∣ n.root_of.formed ∣₁))

  pub new_label : label_at blocks 3 2 ≡ record { state = Live; kind = Root; tag = 1; epoch = 1; closing = 2 ^ 32 - 1 }
  new_label = ap (λ (x : PlainBlock). label_of Live x.epoch (2 ^ 32 - 1) x) n.root_is
      ∙ ap (λ (p : Place). record { state = Live; kind = p.kind; tag = p.tag; epoch = r.epoch; closing = 2 ^ 32 - 1 }) n.root_of.place
      ∙ ap (λ k. record { state = Live; kind = Root; tag = 1; epoch = k; closing = 2 ^ 32 - 1 }) n.root_of.epoch

-- the blocks as they are made
pub new_blocks : (blocks : List PlainBlock) (s r : PlainBlock) → 2 < length blocks → ((b : ℕ) → EmptyOf (block_at blocks b)) → SuperOf s → RootOf r → NewBlocks (set (set blocks 1 s) 2 r) s r
new_blocks blocks s r lt empty super_of root_of = record {
  super_is = get_or-set_other (set blocks 1 s) 2 1 r no_block (λ e. omega (arith, e)) ∙ get_or-set_same blocks 1 s no_block (omega (arith, lt));
  super_of = super_of;
  root_is = get_or-set_same (set blocks 1 s) 2 r no_block (let n = length-set blocks 1 s in omega (arith, lt, n));
  root_of = root_of;
  empty = λ b n m. subst EmptyOf (sym (get_or-set_other (set blocks 1 s) 2 b r no_block m ∙ get_or-set_other blocks 1 b s no_block n)) (empty b);
}

filled : (blocks : List PlainBlock) (u : PlainBlock) (n : ℕ) → length blocks ≡ n → ((k : ℕ) (d : PlainBlock) → k < n → get_or blocks k d ≡ u) → EmptyOf u → (b : ℕ) → EmptyOf (block_at blocks b)
filled blocks u n len all empty b = ⊎_elim
    (λ lt. subst EmptyOf (sym (all b no_block lt)) empty)
    (λ le. subst EmptyOf (sym (get_or_past blocks b no_block (omega (arith, le, len)))) none_empty)
    (cases_lt b n)

pub fresh_blocks : (blocks : List PlainBlock) (s r u : PlainBlock) (count : ℕ) → length blocks ≡ count + 3 → ((k : ℕ) (d : PlainBlock) → k < count + 3 → get_or blocks k d ≡ u) → EmptyOf u → SuperOf s → RootOf r → NewBlocks (set (set blocks 1 s) 2 r) s r
fresh_blocks blocks s r u count len all empty super_of root_of = new_blocks blocks s r (omega (arith, len)) (filled blocks u (count + 3) len all empty) super_of root_of

pub fresh_len : (blocks : List PlainBlock) (s r : PlainBlock) (count : ℕ) → length blocks ≡ count + 3 → length (set (set blocks 1 s) 2 r) ≡ count + 3
fresh_len blocks s r count len = length-set (set blocks 1 s) 2 r ∙ length-set blocks 1 s ∙ len
