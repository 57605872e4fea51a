-- The bytes of a root block with another record of its own.
use Rattle.std.proofs.Common.{◌≡◌, ◌+◌, ◌≤◌, ◌++◌, ℕ, List, length, take, drop, sym, ap, subst, ◌∙◌, append_assoc, arith}
use Rattle.std.proofs.lemmas.List.{length-take, length-drop, take-append-le, take-take, take_all, drop_at, drop_all, append-nil}
use Rattle.fo_image.specs.declared.record.Record.{Record}
use Rattle.fo_image.specs.declared.record.RootBlock.{RootBlock}
use Rattle.fo_image.specs.declared.types.Kind.TheVariants.{Root}
use Rattle.fo_image.specs.Record.{RootHolds, RootRecordHolds, SpellsRoot}
use Rattle.fo_image.specs.declared.types.Label.{Label}
use Rattle.fo_crash.specs.Steps.{PutsBytes}
use Rattle.fo_ports.specs.Blocks.{Reads, put_at}
use Rattle.fo_ports.specs.State.{State, KeepsAll, Looks, Calm}
use Rattle.fo_files_record.specs.Own.{HasOwn, IsRootAt, PutsOwn}

pub root_with : (root : RootBlock) (own : Record) → RootHolds root → RootRecordHolds own → RootHolds (record root { own = own })
root_with root own holds is = record {
  epoch_is = holds.epoch_is;
  prev_epoch_is = holds.prev_epoch_is;
  prev_is = holds.prev_is;
  entries_hold = holds.entries_hold;
  meta_holds = holds.meta_holds;
  own_holds = is;
}

-- the head of the block stays
pub same_head : (root : RootBlock) (own : Record) (a b : List ℕ) → SpellsRoot root a → SpellsRoot (record root { own = own }) b → take 16 a ≡ take 16 b
same_head root own a b was is = ap (take 16) was.bytes_are ∙ sym (ap (take 16) is.bytes_are)

-- a block of which the bytes from 104 on were read is a whole one
pub whole_root : (bytes old : List ℕ) → length bytes ≡ 8192 → drop 104 bytes ≡ drop 104 old → length old ≡ 8192
whole_root bytes old long same =
    let e = ap (λ (xs : List ℕ). length xs) same in
    let l = length-drop 104 bytes in
    let r = length-drop 104 old in
    omega (arith, e, l, r, long)

pub piece_within : (bytes old : List ℕ) → length old ≡ 8192 → 104 + length (take 8088 (drop 104 bytes)) ≤ length old
piece_within bytes old was = let l = length-take 8088 (drop 104 bytes) in omega (arith, l, was)

pub piece_is : (bytes : List ℕ) → length bytes ≡ 8192 → take 8088 (drop 104 bytes) ≡ drop 104 bytes
piece_is bytes long = let l = length-drop 104 bytes in take_all 8088 (drop 104 bytes) (omega (arith, l, long))

-- the bytes from 104 on are the new ones, and the head stays
pub own_put : (bytes old : List ℕ) → length bytes ≡ 8192 → length old ≡ 8192 → drop 104 (put_at 104 (drop 104 bytes) old) ≡ drop 104 bytes
own_put bytes old long was =
    let front : length (take 104 old) ≡ 104 = omega (arith, length-take 104 old, was) in
    let none = drop_all (104 + length (drop 104 bytes)) old (omega (arith, length-drop 104 bytes, long, was)) in
    ap (drop 104) (append_assoc (take 104 old) (drop 104 bytes) (drop (104 + length (drop 104 bytes)) old)) ∙ drop_at (take 104 old) (drop 104 bytes ++ drop (104 + length (drop 104 bytes)) old) 104 front ∙ ap (λ xs. drop 104 bytes ++ xs) none ∙ append-nil (drop 104 bytes)

pub head_put : (bytes old : List ℕ) → length old ≡ 8192 → take 16 (put_at 104 bytes old) ≡ take 16 old
head_put bytes old was = let few : 16 ≤ length (take 104 old) = omega (arith, length-take 104 old, was) in ap (take 16) (append_assoc (take 104 old) bytes (drop (104 + length bytes) old)) ∙ take-append-le 16 (take 104 old) (bytes ++ drop (104 + length bytes) old) few ∙ take-take 16 104 old (omega arith)

-- a root block stays over a look
pub root_looks : {s u : State} (root : ℕ) → KeepsAll s u → Looks s u → IsRootAt s root → IsRootAt u root
root_looks root all looks is =
    let same = looks.stays.labels root (λ n. n) in
    record {
      is_one = (all.same_blocks root).1 is.is_one;
      is_pinned = (looks.stays.marks root (λ n. n)).0 is.is_pinned;
      current = ap (λ (z : Label). z.epoch) same ∙ is.current ∙ sym all.same_high;
      root_kind = ap (λ (z : Label). z.kind) same ∙ is.root_kind;
    }

-- and where it gets other bytes
pub root_calm : {s u : State} (root : ℕ) → KeepsAll s u → Calm (λ b. b ≡ root) 0 s u → IsRootAt s root → IsRootAt u root
root_calm root all calm is =
    let same = calm.frame.stays.labels root (λ n. n) in
    record {
      is_one = (all.same_blocks root).1 is.is_one;
      is_pinned = (calm.frame.stays.marks root (λ n. n)).0 is.is_pinned;
      current = ap (λ (z : Label). z.epoch) same ∙ is.current ∙ sym all.same_high;
      root_kind = ap (λ (z : Label). z.kind) same ∙ is.root_kind;
    }

-- a root block was read, and the bytes from 104 on put
pub puts_own : {s m u : State} (root : ℕ) (named : Record) (old new piece : List ℕ) → Looks s m → Reads Root (m.now root) old → length old ≡ 8192 → length new ≡ 8192 → HasOwn named old new → piece ≡ drop 104 new
    → PutsBytes root (put_at 104 piece ((m.now root).bytes)) m.now u.now → Calm (λ b. b ≡ root) 0 m u → PutsOwn s m u root named
puts_own {m = m} {u = u} root named old new piece looks reads long whole own is puts calm =
    let was = whole_root old ((m.now root).bytes) long reads.behind in
    let put : PutsBytes root (put_at 104 (drop 104 new) ((m.now root).bytes)) m.now u.now = subst (λ xs. PutsBytes root (put_at 104 xs ((m.now root).bytes)) m.now u.now) is puts in
    record {
      looks = looks;
      old = old;
      had = record { head = reads.before; own = reads.behind };
      new = new;
      has = record {
        head = sym (same_head own.root named old new own.was own.is) ∙ reads.before ∙ sym (head_put (drop 104 new) ((m.now root).bytes) was) ∙ sym (ap (take 16) put.here);
        own = sym (own_put new ((m.now root).bytes) whole was) ∙ sym (ap (drop 104) put.here);
      };
      own = own;
      puts = put;
      calm = calm;
    }
