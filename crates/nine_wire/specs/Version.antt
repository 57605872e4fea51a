-- What every session and every stream of messages keeps to (version(5) of the Plan 9 manual).
use Rattle.std.specs.Prelude.{ℕ, List, codes}

-- the most bytes that a message may have: 64 KiB of data and 24 bytes before them
abbrev pub largest_message : ℕ
largest_message = 65560

-- the one version that is agreed to
abbrev pub version_text : List ℕ
version_text = codes "9P2000"
