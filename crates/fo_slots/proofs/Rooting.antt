-- A root block, but for its slots.
use Rattle.std.proofs.Common.{◌≡◌, ℕ, ◌+◌, ◌-◌, ◌<◌, ◌≤◌, ◌^◌, true, eqb, List, [], ◌++◌, length, take, drop, refl, sym, ap, subst, ◌∙◌, arith}
use Rattle.std.specs.Prelude.{codes}
use Rattle.std.specs.List.{AllByRecursion, list_all}
use Rattle.std.proofs.lemmas.List.{length-append, length-take, length-drop, drop-drop, take_at, drop_at, take-append-drop}
use Rattle.std.proofs.lemmas.Nat.{from_be_bytes-to_be_bytes_4}
use Rattle.fo_image.specs.declared.record.Record.{Record}
use Rattle.fo_image.specs.declared.record.RootBlock.{RootBlock}
use Rattle.fo_image.specs.Field.{Two, Four, FieldFits, number, number_at, spelling, padded, zeros}
use Rattle.fo_image.specs.Format.{pointer_bytes, entry_fields, EntryHolds}
use Rattle.fo_image.specs.Record.{RecordHolds, SpellsRecord, record_len, record_fields, root_head, root_fields, SpellsRoot}
use Rattle.fo_image.proofs.Padding.{zeros-from_all, all-zeros}
use Rattle.fo_image.proofs.PointerLemmas.{padded_whole}
use Rattle.fo_image.proofs.RecordLemmas.{length-record, length-entry, fit_both, root_parts, root_spelling, root_at, record_whole, spells_itself}
use Rattle.fo_ports.specs.of_meta.Leaf.{record_bytes}
use Rattle.fo_ports.proofs.of_meta.Leaves.{record_at_is}
use Rattle.fo_ports.specs.Blocks.{no_entry}
use Rattle.fo_slots.specs.Formed.{IsRootRecord, IsRootHead, IsRootTail, IsRootBeside}

-- a root block with no slots, and its bytes
abbrev bare : ℕ → ℕ → Record → RootBlock
bare epoch time own = record { epoch = epoch; time = time; prev_epoch = 0; prev = 0; entries = no_entry; meta = no_entry; own = own }

abbrev whole_of : RootBlock → List ℕ
whole_of r = padded 8192 (spelling (root_fields r))

head_is : (r : RootBlock) (whole : List ℕ) → SpellsRoot r whole → take 16 whole ≡ codes "FOSSILRT" ++ (number Four r.epoch ++ number Four r.time)
head_is r whole s = ap (take 16) s.bytes_are

behind_is : (r : RootBlock) (tail : List ℕ) → length (pointer_bytes r.entries.top) ≡ 20 → length (pointer_bytes r.meta.top) ≡ 20 → drop 104 (spelling (root_fields r) ++ tail) ≡ record_bytes r.own ++ tail
unfolding root_parts
behind_is r tail e m =
    let all = spelling (root_fields r) ++ tail in
    let E = spelling (entry_fields r.entries) in
    let M = spelling (entry_fields r.meta) in
    let O = record_bytes r.own ++ tail in
    let at_24 : drop 24 all ≡ E ++ (M ++ O) = ap (drop 24) (root_spelling r tail) in
    let at_64 : drop 64 all ≡ M ++ O = sym (drop-drop 40 24 all) ∙ ap (drop 40) at_24 ∙ drop_at E (M ++ O) 40 (length-entry r.entries e) in
    sym (drop-drop 40 64 all) ∙ ap (drop 40) at_64 ∙ drop_at M O 40 (length-entry r.meta m)

root_len : (r : RootBlock) → length (pointer_bytes r.entries.top) ≡ 20 → length (pointer_bytes r.meta.top) ≡ 20 → length (spelling (root_fields r)) ≡ 104 + record_len r.own
root_len r e m =
    let all = spelling (root_fields r) ++ [] in
    let is = ap length (behind_is r [] e m) in
    omega (arith, is, length-drop 104 all, length-append (record_bytes r.own) [], length-record r.own, length-append (spelling (root_fields r)) [])

whole_behind : (r : RootBlock) → length (pointer_bytes r.entries.top) ≡ 20 → length (pointer_bytes r.meta.top) ≡ 20 → drop 104 (whole_of r) ≡ record_bytes r.own ++ zeros (8192 - (104 + record_len r.own))
whole_behind r e m = behind_is r (zeros (8192 - length (spelling (root_fields r)))) e m ∙ ap (λ n. record_bytes r.own ++ zeros (8192 - n)) (root_len r e m)

none_fit : AllByRecursion FieldFits (entry_fields no_entry)
none_fit = (omega arith, (omega arith, (omega arith, (omega arith, (omega arith, (omega arith, (refl, tt)))))))

-- what stands beside the slots makes a root block of no slots
pub root_made : (bytes : List ℕ) → IsRootHead (take 16 bytes) → IsRootTail (drop 104 bytes) → IsRootBeside bytes
root_made bytes head tail =
    let b = bare head.epoch head.time tail.one in
    let epoch_fits : head.epoch < 2 ^ 32 = omega (arith, head.is_epoch.1) in
    let fit : AllByRecursion FieldFits (root_fields b) = fit_both (root_head head.epoch head.time 0 0) (entry_fields no_entry ++ (entry_fields no_entry ++ record_fields tail.one)) (refl, (epoch_fits, (head.time_fits, (omega arith, (omega arith, tt)))))
    (fit_both (entry_fields no_entry) (entry_fields no_entry ++ record_fields tail.one) none_fit (fit_both (entry_fields no_entry) (record_fields tail.one) none_fit tail.spelled.fit)) in
    let none : EntryHolds no_entry = record { active_holds = (refl, refl, refl, refl, refl) } in
    let spells : SpellsRoot b (whole_of b) = record {
      holds = record { epoch_is = head.is_epoch; prev_epoch_is = omega arith; prev_is = ((λ e. e), (λ e. e)); entries_hold = none; meta_holds = none; own_holds = tail.root };
      fit = fit;
      bytes_are = refl;
    } in
    record {
      block = b;
      whole = whole_of b;
      spells = spells;
      before = head_is b (whole_of b) spells ∙ sym head.here;
      behind = whole_behind b refl refl ∙ ap (λ n. record_bytes tail.one ++ zeros n) (omega arith) ∙ sym tail.here;
    }

pub head_told : (bytes : List ℕ) → IsRootBeside bytes → IsRootHead (take 16 bytes)
head_told bytes is =
    let s = is.spells in
    record { epoch = is.block.epoch; time = is.block.time; is_epoch = s.holds.epoch_is; time_fits = s.fit.1.1.0; here = sym is.before ∙ head_is is.block is.whole s }

pub tail_told : (bytes : List ℕ) → IsRootBeside bytes → IsRootTail (drop 104 bytes)
tail_told bytes is =
    let s = is.spells in
    let at = root_at is.whole is.block s in
    record {
      one = is.block.own;
      spelled = record { holds = s.holds.own_holds.holds; fit = at.own.fit };
      root = s.holds.own_holds;
      here = sym is.behind ∙ ap (drop 104) s.bytes_are ∙ whole_behind is.block at.entries.fit.1.1.1.1.1.1.0 at.meta.fit.1.1.1.1.1.1.0 ∙ ap (λ n. record_bytes is.block.own ++ zeros n) (omega arith);
    }

-- ---- the head

pub head_made : (head : List ℕ) (epoch time : ℕ) → epoch ≡ number_at Four 8 head → time ≡ number_at Four 12 head → 1 ≤ epoch → epoch < 2 ^ 31 → time < 2 ^ 32 → head ≡ padded (length head) (codes "FOSSILRT" ++ (number Four epoch ++ number Four time)) → length head ≡ 16 → IsRootHead head
head_made head epoch time e t some small fits is len = record { epoch = epoch; time = time; is_epoch = (some, small); time_fits = fits; here = is ∙ ap (λ n. padded n (codes "FOSSILRT" ++ (number Four epoch ++ number Four time))) len ∙ padded_whole (codes "FOSSILRT" ++ (number Four epoch ++ number Four time)) 16 refl }

pub epoch_told : (head : List ℕ) → (is : IsRootHead head) → number_at Four 8 head ≡ is.epoch
unfolding number_at
epoch_told head is = ap (number_at Four 8) is.here ∙ from_be_bytes-to_be_bytes_4 is.epoch (omega (arith, is.is_epoch.1))

pub time_told : (head : List ℕ) → (is : IsRootHead head) → number_at Four 12 head ≡ is.time
unfolding number_at
time_told head is = ap (number_at Four 12) is.here ∙ from_be_bytes-to_be_bytes_4 is.time is.time_fits

pub head_spelled : (head : List ℕ) (epoch time : ℕ) → (is : IsRootHead head) → epoch ≡ number_at Four 8 head → time ≡ number_at Four 12 head → length head ≡ 16 → head ≡ padded (length head) (codes "FOSSILRT" ++ (number Four epoch ++ number Four time))
head_spelled head epoch time is e t len =
    is.here ∙ ap (λ n. codes "FOSSILRT" ++ (number Four n ++ number Four is.time)) (sym (e ∙ epoch_told head is)) ∙ ap (λ n. codes "FOSSILRT" ++ (number Four epoch ++ number Four n)) (sym (t ∙ time_told head is))
    ∙ sym (padded_whole (codes "FOSSILRT" ++ (number Four epoch ++ number Four time)) 16 refl) ∙ ap (λ n. padded n (codes "FOSSILRT" ++ (number Four epoch ++ number Four time))) (sym len)

-- ---- the tail

pub tail_made : (tail own rest : List ℕ) (len : ℕ) → length tail ≡ 8088 → own ≡ take len tail → rest ≡ drop len tail → len ≤ length tail → IsRootRecord own → list_all (λ b. eqb b 0) rest ≡ true → IsRootTail tail
tail_made tail own rest len size first last le is none =
    let r = is.one in
    let bytes : own ≡ record_bytes r = is.spells.bytes_are ∙ padded_whole (record_bytes r) (record_len r) (length-record r) in
    let whole : length own ≡ record_len r = record_whole r own is.spells in
    let is_len : len ≡ record_len r = omega (arith, whole, ap length first, length-take len tail, le) in
    let zero : rest ≡ zeros (8088 - record_len r) = zeros-from_all rest none ∙ ap zeros (omega (arith, ap length last, length-drop len tail, size, is_len)) in
    record {
      one = r;
      spelled = record { holds = is.spells.holds; fit = is.spells.fit };
      root = is.root;
      here = sym (take-append-drop len tail) ∙ ap (λ xs. xs ++ drop len tail) (sym first ∙ bytes) ∙ ap (λ xs. record_bytes r ++ xs) (sym last ∙ zero);
    }

pub record TailAt (tail : List ℕ) (r : Record) : Type 0 where
  pub len : number_at Two 0 tail ≡ record_len r
  pub within : record_len r ≤ length tail
  pub own : take (record_len r) tail ≡ record_bytes r
  pub rest : drop (record_len r) tail ≡ zeros (8088 - record_len r)

pub tail_at : (tail : List ℕ) → (is : IsRootTail tail) → TailAt tail is.one
tail_at tail is =
    let r = is.one in
    let more = zeros (8088 - record_len r) in
    let at = record_at_is tail 0 r more is.spelled is.here in
    record {
      len = at.len;
      within = omega (arith, at.within);
      own = ap (take (record_len r)) is.here ∙ take_at (record_bytes r) more (record_len r) (length-record r);
      rest = ap (drop (record_len r)) is.here ∙ drop_at (record_bytes r) more (record_len r) (length-record r);
    }

pub own_told : (tail own : List ℕ) → (is : IsRootTail tail) → own ≡ take (record_len is.one) tail → IsRootRecord own
own_told tail own is first =
    let r = is.one in
    record { one = r; spells = subst (SpellsRecord r) (sym (first ∙ (tail_at tail is).own)) (spells_itself (record_len r) record_fields RecordHolds r is.spelled.holds is.spelled.fit (length-record r)); root = is.root }

pub rest_told : (tail rest : List ℕ) → (is : IsRootTail tail) → rest ≡ drop (record_len is.one) tail → list_all (λ b. eqb b 0) rest ≡ true
rest_told tail rest is last = ap (list_all (λ b. eqb b 0)) (last ∙ (tail_at tail is).rest) ∙ all-zeros (8088 - record_len is.one)
