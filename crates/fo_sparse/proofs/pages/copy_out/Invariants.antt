use Rattle.std.proofs.Common.{length, ◌-◌, ◌≡◌, ℕ, ◌+◌, ◌<◌, ◌≤◌, slice_index}
use Rattle.fo_sparse.specs.Pages.{byte_at}
use Rattle.fo_sparse.proofs.pages.copy_out.Given as goal

abbrev pub invariant-loop-done : goal.invariant-loop-done
invariant-loop-done l =
    (l.done ≤ length l.into) × ((i : ℕ) → i < l.done → slice_index l.into i ≡ byte_at l.pages (l.offset + i))

abbrev pub decreases-loop-done : goal.decreases-loop-done
decreases-loop-done l = length l.initial.into - l.done
