-- Tstat and Twstat (stat(5) of the Plan 9 manual).
use Rattle.std.specs.Prelude.{ℕ, List, Bool, not, ◌||◌, nat_lt, Result, Ok, if◌then◌else◌}
use Rattle.nine_wire.specs.declared.message.Reply.{Reply}
use Rattle.nine_wire.specs.declared.message.Reply.TheVariants as reply
use Rattle.nine_stat.specs.declared.stat.Stat.{Stat}
use Rattle.fo_world.specs.declared.place.Info.{Info}
use Rattle.fo_world.specs.declared.error.FileError.TheVariants as error
use Rattle.fo_world.specs.Step as step
use Rattle.nine_fids.specs.declared.fid.Fid.{Fid}
use Rattle.nine_fids.specs.declared.refusal.Refusal.{Refusal}
use Rattle.nine_fids.specs.declared.refusal.Refusal.TheVariants as refusal
use Rattle.fo_world.specs.Chain.{and_then, refuse_if}
use Rattle.nine_fids.specs.Refusing.{changed}
use Rattle.nine_fids.specs.Fids.{State, version_of, fid_at, in_world}
use Rattle.nine_fids.specs.Told.{Files, info_at, record_of, reply_len}
use Rattle.fo_users.specs.declared.table.User.{User}
use Rattle.nine_fids.specs.Rights.{table_of}
use Rattle.nine_files.specs.Stating.{allowed_name, change_of, changes_fixed, changes_kind, changing_rights, is_strange, lengthens, touches, touches_fixed}

-- Tstat
unfoldable pub stat : Files → State → ℕ → Result (Reply × State) Refusal
stat e z fid =
    and_then (version_of z) (λ msize.
    and_then (fid_at z fid) (λ f.
    and_then (info_at e z.world f.place) (λ i.
    refuse_if (nat_lt msize (reply_len (reply.Stat (record_of i)))) refusal.StatTooLong (
    Ok (reply.Stat (record_of i), z)))))

-- ---- Twstat

-- a change of what can't be changed, of a directory's length or kind, or to a group that there isn't
abbrev pub is_bad_stat : List User → Stat → Info → Bool
is_bad_stat table s i = changes_fixed s i || changes_kind (change_of s).mode i.mode || lengthens (change_of s).length i.mode || is_strange table (change_of s).gid

-- Twstat where something is given: the checks in their order, and then the change
unfoldable pub restated : Files → State → ℕ → Fid → Stat → Info → Result (Reply × State) Refusal
restated e z now f s i =
    refuse_if (not (step.is_active f.place.view)) (refusal.File error.ReadOnly) (
    refuse_if (is_bad_stat (table_of e z.world) s i) refusal.BadStat (
    and_then (allowed_name f (change_of s).name) (λ _.
    and_then (changing_rights e z.world f i (change_of s)) (λ _.
    and_then (changed (step.change e.whole e.largest z.world f.place (change_of s) f.user now)) (λ p.
    Ok (reply.Wstat, in_world z p.1))))))

-- all that was changed is settled
unfoldable pub settled : State → Result (Reply × State) Refusal
settled z = and_then (changed (step.sync z.world)) (λ p. Ok (reply.Wstat, in_world z p.1))

-- Twstat: all that is given is changed, or nothing; where nothing is given, all that was changed before is settled
unfoldable pub wstat : Files → State → ℕ → ℕ → Stat → Result (Reply × State) Refusal
wstat e z now fid s =
    and_then (version_of z) (λ _.
    and_then (fid_at z fid) (λ f.
    and_then (info_at e z.world f.place) (λ i.
    if not (touches_fixed s || touches (change_of s)) then settled z else restated e z now f s i)))
