-- Marks and what is told by them.
use Rattle.std.proofs.Common.{◌≡◌, refl, ap, ◌∙◌, List, ℕ, ◌+◌, ◌<◌, zero-add, arith, length, get_or}
use Rattle.numbers.proofs.Lists.{get_d_tabulate}
use Rattle.reference.specs.declared.Settings.{Settings}
use Rattle.tracks.specs.Tracks.{Head, tracks_channels, data_start}
use Rattle.tracks_to_files.specs.Marked.{marks_of, WritesTold}

mark : (hs : List Head) (s : Settings) (k : ℕ) → k < length hs + 1 → get_or (marks_of hs s) k 0 ≡ data_start s.rate (tracks_channels hs) hs k
mark hs s k h =
    let start = data_start s.rate (tracks_channels hs) hs in
    get_d_tabulate start 0 (length hs + 1) k 0 h ∙ ap start (zero-add k)

pub writes_told : WritesTold
writes_told hs s place bytes = record { track = λ k h. rw (mark hs s k (omega arith), mark hs s (k + 1) (omega arith)) refl; all = λ high. refl }
