-- Members and leaders of groups, and the rights to a file (users(6), stat(5) and intro(5) of the Plan 9 manual).
use Rattle.std.specs.Prelude.{ℕ, ◌*◌, List, Bool, ◌==◌, ◌&&◌, ◌||◌, not, bit_and}
use Rattle.std.specs.List.{list_any}
use Rattle.std.specs.Option.{option_map_or}
use Rattle.std.specs.Str.{bytes_eq}
use Rattle.fo_users.specs.declared.table.User.{User}
use Rattle.fo_users.specs.declared.right.Right.{Right}
use Rattle.fo_users.specs.declared.right.Right.TheVariants.{Read, Write, Execute}
use Rattle.fo_world.specs.declared.place.Info.{Info}

-- the line of the group lists the user
abbrev pub lists : User → List ℕ → List ℕ → Bool
lists line user group = bytes_eq line.name group && list_any (λ m. bytes_eq m user) line.members

-- of the group of his own name, or of one that lists him
abbrev pub is_member : List User → List ℕ → List ℕ → Bool
is_member table user group = bytes_eq user group || list_any (λ line. lists line user group) table

-- the line of the group has him as its leader, or has none where he is a member
abbrev pub leads : User → List ℕ → List ℕ → Bool → Bool
leads line user group member = bytes_eq line.name group && option_map_or (λ leader. bytes_eq leader user) line.leader member

abbrev pub is_leader : List User → List ℕ → List ℕ → Bool
is_leader table user group = list_any (λ line. leads line user group (is_member table user group)) table

-- where it stands for others; eight times that for the group, and sixty-four times for the owner
abbrev pub bit_of : Right → ℕ
bit_of Read = 4
bit_of Write = 2
bit_of Execute = 1

abbrev pub has_bit : ℕ → ℕ → Bool
has_bit mode bit = not (bit_and mode bit == 0)

-- by the bits of others, of the owner or of the group: any class that the user is of is enough
abbrev pub may : List User → List ℕ → Info → Right → Bool
may table user node right =
    has_bit node.mode (bit_of right) || (bytes_eq user node.uid && has_bit node.mode (bit_of right * 64)) || (has_bit node.mode (bit_of right * 8) && is_member table user node.gid)
