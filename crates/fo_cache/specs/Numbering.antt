-- What a call for a file number leaves of memory and of the device.
use Rattle.std.specs.Prelude.{◌≡◌, ◌≢◌, ◌≤◌, ℕ, true, length}
use Rattle.fo_disk.specs.Disk.{DiskState, versions_of}
use Rattle.fo_order.specs.Turns.{flag_at}
use Rattle.fo_mind.specs.Due.{is_over}
use Rattle.fo_mind.specs.Parts.{Parts}
use Rattle.fo_cache.specs.Settling.{Rested}

-- Block 1 may be written, and what was written may be settled, and stays so; the super block of memory says at least as many file numbers,
-- and else what it said; a number may be granted, and a super block be in doubt. All else stays.
pub record Renumbers (s t : DiskState) (p q : Parts) : Type 0 where
  pub others : (k : ℕ) → k ≢ 1 → Rested (versions_of s.holds k) (versions_of t.holds k)
  pub count : length t.holds ≡ length s.holds
  pub turn : (b : ℕ) → (flag_at q.turns b).dirty ≡ (flag_at p.turns b).dirty
  pub over : (b : ℕ) → is_over p.turns b ≡ true → is_over q.turns b ≡ true
  pub rank : (b : ℕ) → (flag_at q.turns b).rank ≡ (flag_at p.turns b).rank
  pub turn_room : q.turns.room ≡ p.turns.room
  pub one : q.one ≡ record p.one { numbers = q.one.numbers }
  pub numbers : p.one.numbers ≤ q.one.numbers
  pub rest : q ≡ record p { one = q.one; one_bytes = q.one_bytes; doubt = q.doubt; granted = q.granted; turns = q.turns }
