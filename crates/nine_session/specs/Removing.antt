-- Tclunk and Tremove, and the end of a session (clunk(5), remove(5) of the Plan 9 manual).
use Rattle.std.specs.Prelude.{ℕ, Result, Ok}
use Rattle.nine_wire.specs.declared.message.Reply.{Reply}
use Rattle.nine_wire.specs.declared.message.Reply.TheVariants as reply
use Rattle.nine_fids.specs.declared.fid.Fid.{Fid}
use Rattle.nine_fids.specs.declared.refusal.Refusal.{Refusal}
use Rattle.fo_world.specs.Chain.{and_then}
use Rattle.nine_fids.specs.Fids.{State, version_of, fid_at, clunked, in_world}
use Rattle.nine_fids.specs.Told.{Files, info_at}
use Rattle.nine_files.specs.Removing.{closed, removed}

-- Tremove: the file is removed, and in each case the fid is gone
unfoldable pub remove : Files → State → ℕ → ℕ → Result (Reply × State) Refusal
remove e z now fid =
    and_then (version_of z) (λ _.
    and_then (fid_at z fid) (λ f.
    and_then (info_at e z.world f.place) (λ _.
    and_then (removed e z.world f now) (λ w. Ok (reply.Remove, clunked (in_world z w) f)))))

-- the fid is gone, and for ORCLOSE its file
unfoldable pub clunk_fid : Files → State → ℕ → Fid → Result (Reply × State) Refusal
clunk_fid e z now f = and_then (closed e z.world f now) (λ w. Ok (reply.Clunk, clunked (in_world z w) f))

-- Tclunk: in each case the fid is gone
unfoldable pub clunk : Files → State → ℕ → ℕ → Result (Reply × State) Refusal
clunk e z now fid = and_then (version_of z) (λ _. and_then (fid_at z fid) (clunk_fid e z now))
