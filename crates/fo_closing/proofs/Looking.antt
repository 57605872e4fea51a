-- What is looked at.
use Rattle.std.proofs.Common.{◌≡◌, ◌<◌, ℕ, zero, suc, Bool, true, false, List, length, replicate, nat_eq, Option, Some, None, is_some, refl, sym, ap, ◌∙◌, subst}
use Rattle.std.specs.List.{Contains}
use Rattle.std.specs.Map.{lookup}
use Rattle.std.specs.Option.{MatchOption}
use Rattle.fo_disk.specs.Disk.{versions_of}
use Rattle.fo_disk.specs.Disk.{Content as Holds}
use Rattle.fo_image.specs.declared.types.Kind.{Kind}
use Rattle.fo_buffers.specs.declared.block.Buffer.{Buffer}
use Rattle.fo_buffers.specs.Held.{Held, held_at}
use Rattle.fo_ports.specs.Blocks.{AreZeros}
use Rattle.fo_bring.specs.Blocks.{Good}
use Rattle.fo_bring.specs.Holds.{IsFrom, IsFromIn, Seen}
use Rattle.fo_closing.specs.Known.{CopiesGood, IsBad, IsSeen, IsShown, IsUnseen, seen_in}

never : {A : Type 0} → false ≡ true → A
never e = cc

pub zeros : (n : ℕ) → AreZeros (replicate n 0)
zeros zero = refl
zeros (suc n) = zeros n

pub unseen : (o : Option Buffer) (c : Option (List ℕ)) → is_some (seen_in o c) ≡ false → (o ≡ None) × (is_some c ≡ false)
unseen (Some x) c e = never (sym e)
unseen None c e = (refl, e)

-- what is held or clean already
pub seen_at_once : (disk : Holds) (at : ℕ) (h : Held) → is_some (seen_in (held_at h at) (lookup (nat_eq at) h.clean)) ≡ true → IsSeen disk at h h
seen_at_once disk at h e = by (held_at h at) refl (lookup (nat_eq at) h.clean) refl
  where
    from_in : (o : Option Buffer) (c : Option (List ℕ)) → held_at h at ≡ o → lookup (nat_eq at) h.clean ≡ c → (bytes : List ℕ) → seen_in o c ≡ Some bytes → IsFromIn disk at o c bytes → IsSeen disk at h h
    from_in o c eo ec bytes is from = record {
      bytes = bytes;
      is = ap (λ (x : Option Buffer). seen_in x (lookup (nat_eq at) h.clean)) eo ∙ ap (seen_in o) ec ∙ is;
      from = subst (λ (x : Option Buffer). IsFromIn disk at x (lookup (nat_eq at) h.clean) bytes) (sym eo) (subst (λ (x : Option (List ℕ)). IsFromIn disk at o x bytes) (sym ec) from);
    }

    by : (o : Option Buffer) → held_at h at ≡ o → (c : Option (List ℕ)) → lookup (nat_eq at) h.clean ≡ c → IsSeen disk at h h
    by (Some x) eo c ec = from_in (Some x) c eo ec x.block refl refl
    by None eo (Some bytes) ec = from_in None (Some bytes) eo ec bytes refl refl
    by None eo None ec = never (sym (ap (λ (x : Option Buffer). is_some (seen_in x (lookup (nat_eq at) h.clean))) eo ∙ ap (λ (x : Option (List ℕ)). is_some (seen_in None x)) ec) ∙ e)

-- what is clean from now on
pub seen_then : {disk : Holds} {at : ℕ} {old new : Held} → held_at old at ≡ None → held_at new at ≡ held_at old at → Seen disk at old new → IsSeen disk at old new
seen_then {disk} {at} {old} {new} none same s = record {
  bytes = s.bytes;
  is = ap (λ (x : Option Buffer). seen_in x (lookup (nat_eq at) new.clean)) (same ∙ none) ∙ s.clean;
  from = subst (λ (x : Option Buffer). IsFromIn disk at x (lookup (nat_eq at) old.clean) s.bytes) (sym none) s.found;
}

-- what is shown of what is seen
module _ {disk : Holds} {at first count : ℕ} {kind : Kind} {old new : Held} (s : IsSeen disk at old new) (shown : Bool) (into : List ℕ) (seen : MatchOption (seen_in (held_at new at) (lookup (nat_eq at) new.clean)) (shown ≡ false) (λ bytes. CopiesGood first count kind bytes shown into)) where
  copies : CopiesGood first count kind s.bytes shown into
  copies = subst (λ (o : Option (List ℕ)). MatchOption o (shown ≡ false) (λ bytes. CopiesGood first count kind bytes shown into)) s.is seen

  pub good_shown : shown ≡ true → IsShown disk first count old kind at into
  good_shown e = let g = copies.0 e in record {
    from = subst (IsFrom disk at old) (sym g.1) s.from;
    good = subst (Good first count kind) (sym g.1) g.0;
  }

  pub bad_shown : shown ≡ false → IsBad disk first count old kind at
  bad_shown e = record { bytes = s.bytes; from = s.from; bad = copies.1 e }

-- what is read of what is neither held nor clean
pub from_read : (disk : Holds) {at : ℕ} {h : Held} {bytes : List ℕ} → IsUnseen h at → (at < length disk → Contains (versions_of disk at) bytes) → IsFrom disk at h bytes
from_read disk {at} {h} {bytes} u found = subst (λ (x : Option Buffer). IsFromIn disk at x (lookup (nat_eq at) h.clean) bytes) (sym u.unheld) (by (lookup (nat_eq at) h.clean) u.unclean)
  where
    by : (o : Option (List ℕ)) → is_some o ≡ false → IsFromIn disk at None o bytes
    by (Some x) e = never (sym e)
    by None e = found

pub good_read : {disk : Holds} {at first count : ℕ} {kind : Kind} {h : Held} {bytes into : List ℕ} {shown : Bool} → IsFrom disk at h bytes → CopiesGood first count kind bytes shown into → shown ≡ true → IsShown disk first count h kind at into
good_read {disk} {at} {first} {count} {kind} {h} from copies e = let g = copies.0 e in record {
  from = subst (IsFrom disk at h) (sym g.1) from;
  good = subst (Good first count kind) (sym g.1) g.0;
}

pub bad_read : {disk : Holds} {at first count : ℕ} {kind : Kind} {h : Held} {bytes into : List ℕ} {shown : Bool} → IsFrom disk at h bytes → CopiesGood first count kind bytes shown into → shown ≡ false → IsBad disk first count h kind at
bad_read {bytes = bytes} from copies e = record { bytes = bytes; from = from; bad = copies.1 e }
